use Rattle.std.proofs.Common.{◌≡◌, ℕ, ◌<◌, length, Option, Some, sym, ap, ◌∙◌, subst, rules}
use Rattle.std.specs.BTreeMap.{get}
use Rattle.std.specs.Prelude.{IfSome, is_some}
use Rattle.udf_kept.specs.Fitted.{at_of}
use Rattle.udf_found.specs.Order.{addr_cmp}
use Rattle.udf_kept.proofs.Indexing.{within}
use Rattle.udf_kept.proofs.Selecting.{earlier_not, kept_is, missing_not, some_at, some_by}
use Rattle.udf_kept.proofs.select.selected_target.Goals as goal

pub returns-then-is_some-clause-selects : goal.returns-then-is_some-clause-selects
returns-then-is_some-clause-selects c = λ s t k. earlier_not s t c.args.held.now (get addr_cmp c.args.choices.now) k c.args.holder c.args.link.now (sym c.is_some.ensures ∙ c.if-is_some.true)

pub returns-in_err-position-clause-selects : goal.returns-in_err-position-clause-selects
returns-in_err-position-clause-selects c = λ s t k.
    ap is_some c.from_residual.ensures
    ∙ missing_not s t c.args.held.now (get addr_cmp c.args.choices.now) k c.args.holder c.args.link.now (get addr_cmp c.args.positions.now) c.requires
    (sym c.is_some.ensures ∙ c.if-is_some.false) (sym c.in_err-position.ensures.value)

pub bounds-held-position : goal.bounds-held-position
bounds-held-position c = within c.args.held.now c.in_ok-position.field-0.now c.args.link.now.target (c.requires.there c.args.link.now.target c.in_ok-position.field-0.now (sym c.in_ok-position.ensures.value))

pub offset_bounds-held-position : goal.offset_bounds-held-position
offset_bounds-held-position c =
    let low : c.in_ok-position.field-0.now < length c.args.held.now = within c.args.held.now c.in_ok-position.field-0.now c.args.link.now.target (c.requires.there c.args.link.now.target c.in_ok-position.field-0.now (sym c.in_ok-position.ensures.value)) in
    search rules

pub returns-clause-selects : goal.returns-clause-selects
returns-clause-selects c = λ s t k.
    ap is_some c.then_some.ensures
    ∙ some_by c.keeps.result c.in_ok-position.field-0.now
    ∙ c.keeps.ensures
    ∙ kept_is s t c.args.held.now (get addr_cmp c.args.choices.now) k c.args.holder c.args.link.now (get addr_cmp c.args.positions.now) c.in_ok-position.field-0.now c.index-held-position.result c.requires
    (sym c.is_some.ensures ∙ c.if-is_some.false) (sym c.in_ok-position.ensures.value) c.index-held-position.is

pub returns-clause-position : goal.returns-clause-position
returns-clause-position c =
    let P : ℕ → Type 0 = λ i. at_of c.args.held.now i ≡ Some c.args.link.now.target in
    subst (λ (o : Option ℕ). IfSome o P) (sym c.then_some.ensures)
    (some_at c.keeps.result c.in_ok-position.field-0.now P (c.requires.there c.args.link.now.target c.in_ok-position.field-0.now (sym c.in_ok-position.ensures.value)))
