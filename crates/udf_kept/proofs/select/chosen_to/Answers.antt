use Rattle.std.proofs.Common.{rules, ◌≡◌, None, Some, sym, ◌∙◌, subst, Option}
use Rattle.std.specs.BTreeMap.{get}
use Rattle.udf_found.specs.Order.{addr_cmp}
use Rattle.udf_kept.specs.Fitted.{IsChoice}
use Rattle.udf_held.specs.declared.held.Held.{Held}
use Rattle.udf_tree_model.specs.Chosen.{Rank, chosen_link}
use Rattle.udf_kept.proofs.Hanging.{link_is, start_unlinked}
use Rattle.udf_kept.proofs.Selecting.{choice_is, choice_there, no_choice}
use Rattle.udf_kept.proofs.select.chosen_to.Goals as goal

pub returns-then-target : goal.returns-then-target
returns-then-target c s t hs k i st d = start_unlinked s t c.args.target.now.at (sym st ∙ c.if-target.true)

pub returns-in_err-rank : goal.returns-in_err-rank
returns-in_err-rank c s t hs k i st d =
    let none : c.from_residual.result ≡ None = search rules in
    let unchosen = no_choice s t hs (get addr_cmp c.args.choices.now) k c.args.target.now.at (sym c.in_err-rank.ensures.value) in
    subst (IsChoice hs (λ (x : Held). x.level) (chosen_link s t c.args.target.now.at)) (sym none) (link_is s t c.args.target.now.at (sym st ∙ c.if-target.false) ∙ unchosen)

pub returns-in_err-holder : goal.returns-in_err-holder
returns-in_err-holder c = λ s t hs k i st d.
    absurd (choice_there s t hs (get addr_cmp c.args.choices.now) k c.args.target.now.at c.in_ok-rank.rank.now (get addr_cmp c.args.positions.now) i (sym c.in_ok-rank.ensures.value) (sym c.in_err-holder.ensures.value))

pub returns : goal.returns
returns c = λ s t hs k i st d.
    let P : Option Rank → Type 0 = λ r. IsChoice hs (λ (x : Held). x.level) r (Some (record { holder = c.in_ok-holder.field-0.now; place = c.in_ok-rank.rank.now.place })) in
    subst P (sym (link_is s t c.args.target.now.at (sym st ∙ c.if-target.false)))
    (choice_is s t hs (get addr_cmp c.args.choices.now) k c.args.target.now.at c.in_ok-rank.rank.now (get addr_cmp c.args.positions.now) c.in_ok-holder.field-0.now i (sym c.in_ok-rank.ensures.value) (sym c.in_ok-holder.ensures.value))
