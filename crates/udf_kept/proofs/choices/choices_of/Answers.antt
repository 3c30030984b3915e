use Rattle.std.proofs.Common.{ap, take}
use Rattle.std.specs.BTreeMap.{get, is_at}
use Rattle.std.specs.Map.{lookup}
use Rattle.udf_kept.specs.Offers.{offers_over}
use Rattle.udf_found.specs.Order.{addr_cmp}
use Rattle.udf_kept.proofs.Offering.{holders_begin, holders_more}
use Rattle.udf_kept.proofs.choices.choices_of.Goals as goal

pub loop-holder-init : goal.loop-holder-init
loop-holder-init c = holders_begin (get addr_cmp c.new-choices.result) (λ a. ap (lookup (is_at (addr_cmp a))) c.new-choices.ensures.empty)

pub loop-holder-preserved : goal.loop-holder-preserved
loop-holder-preserved c =
    holders_more (get addr_cmp c.add_links.new.choices) c.args.held.now c.loop-holder.holder-index c.holder-item.result c.loop-holder-test.true c.holder-item.is
    (c.in_ok-add_links.ensures (offers_over (take c.loop-holder.holder-index c.args.held.now)) c.loop-holder.invariant)
