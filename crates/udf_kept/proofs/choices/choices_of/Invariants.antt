use Rattle.std.proofs.Common.{take}
use Rattle.std.specs.BTreeMap.{get}
use Rattle.udf_kept.specs.Offers.{AreFirst, offers_over}
use Rattle.udf_found.specs.Order.{addr_cmp}
use Rattle.udf_kept.proofs.choices.choices_of.Given as goal

abbrev pub invariant-loop-holder : goal.invariant-loop-holder
invariant-loop-holder l = AreFirst (offers_over (take l.holder-index l.held)) (get addr_cmp l.choices)
