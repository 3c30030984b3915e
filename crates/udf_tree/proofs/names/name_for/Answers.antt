use Rattle.std.proofs.Common.{◌≡◌, ℕ, List, Option, Some, None, get_or, sym, ap, ◌∙◌, subst}
use Rattle.std.specs.Prelude.{slice_get}
use Rattle.udf_held.specs.declared.held.Held.{Held}
use Rattle.udf_kept.specs.declared.keeping.Keeping.{Keeping}
use Rattle.udf_tree.specs.Path.{HaveIndexes, IsNamed}
use Rattle.udf_tree.proofs.Stepping.{named_by_link, named_lost, named_start}
use Rattle.udf_tree.proofs.names.name_for.Goals as goal

pub returns-in_default : goal.returns-in_default
returns-in_default c f v root file_set links ids k have =
    let e = c.args.entries.now in
    let none : get_or e.kept.items c.args.i None ≡ None = ap (λ (ks : List (Option Keeping)). get_or ks c.args.i None) (sym c.deref.ensures.value) ∙ sym c.keeping_at.ensures ∙ c.in_default.is in
    subst (λ (name : List ℕ). IsNamed f v e.held.items c.args.i name) (sym c.new.ensures.items) (named_lost f v root file_set e links ids k c.args.i none)

pub returns-in_default-by : goal.returns-in_default-by
returns-in_default-by c f v root file_set links ids k have =
    let e = c.args.entries.now in
    let some : get_or e.kept.items c.args.i None ≡ Some c.in-Some.keeping = ap (λ (ks : List (Option Keeping)). get_or ks c.args.i None) (sym c.deref.ensures.value) ∙ sym c.keeping_at.ensures ∙ c.in-Some.is in
    subst (λ (name : List ℕ). IsNamed f v e.held.items c.args.i name) (sym c.new-in_default-by.ensures.items) (named_start f v root file_set e links ids k c.args.i c.in-Some.keeping some c.in_default-by.is)

pub returns : goal.returns
returns c f v root file_set links ids k have =
    let e = c.args.entries.now in
    let some : get_or e.kept.items c.args.i None ≡ Some c.in-Some.keeping = ap (λ (ks : List (Option Keeping)). get_or ks c.args.i None) (sym c.deref.ensures.value) ∙ sym c.keeping_at.ensures ∙ c.in-Some.is in
    named_by_link f v root file_set e links ids k c.args.i c.in-Some.keeping c.in-Some-by.link c.in_ok-name.name.items some c.in-Some-by.is
    (λ h there. c.in_ok-name.ensures (subst (λ (hs : List Held). HaveIndexes hs c.args.indexes.now) (sym c.deref-2.ensures.value) have) h (ap (λ (hs : List Held). slice_get hs c.in-Some-by.link.holder) c.deref-2.ensures.value ∙ there))
