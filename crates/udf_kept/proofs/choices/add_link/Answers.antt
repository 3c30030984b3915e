use Rattle.std.proofs.Common.{sym, ◌∙◌, ap, refl}
use Rattle.std.specs.BTreeMap.{get}
use Rattle.udf_kept.specs.declared.choices.Rank.{Rank}
use Rattle.udf_kept.specs.Offers.{first_by}
use Rattle.udf_found.specs.Order.{addr_cmp}
use Rattle.udf_kept.proofs.Offering.{link_added, link_skipped, some_earlier, no_earlier}
use Rattle.udf_kept.proofs.choices.add_link.Goals as goal

pub returns-then-is_some : goal.returns-then-is_some
returns-then-is_some c = λ os was. link_skipped os (get addr_cmp c.args.choices.now) c.args.holder.now c.args.link.now (some_earlier c.args.link.now.earlier (sym c.is_some.ensures ∙ c.if-is_some.true)) was

pub returns : goal.returns
returns c = λ os was.
    let rank : Rank = record { level = c.args.holder.now.level; holder = c.args.holder.now.at; place = c.args.link.now.place } in
    link_added os (get addr_cmp c.args.choices.now) (get addr_cmp c.insert.new.self) c.args.holder.now c.args.link.now rank c.first_of-first.result
    (no_earlier c.args.link.now.earlier (sym c.is_some.ensures ∙ c.if-is_some.false)) was
    (c.first_of-first.ensures ∙ ap (λ b. first_by b rank) (c.copied.ensures ∙ c.get.ensures.value)) c.in_ok-insert.ensures.updates.0 refl
