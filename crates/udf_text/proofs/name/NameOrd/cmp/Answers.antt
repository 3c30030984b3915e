-- The characters are compared in order.
use Rattle.std.proofs.Common.{◌≡◌, ◌∙◌, refl, ap}
use Rattle.std.specs.Ordering.{nat_cmp}
use Rattle.std.specs.Str.{chars}
use Rattle.std.specs.Cmp.Lexicographic.{slice_cmp}
use Rattle.std.proofs.lemmas.Iterator.{YieldsList-from_chars}
use Rattle.std.proofs.lemmas.Iterator.Search.{cmp_from_yields_List}
use Rattle.udf_text.proofs.name.NameOrd.cmp.Goals as goal

pub returns : goal.returns
returns c =
    cmp_from_yields_List (λ x y. y ≡ x) _ nat_cmp _ c.cmp.ensures.ran
    (YieldsList-from_chars c.deref.result.now c.deref.utf8 cc)
    (λ it e. YieldsList-from_chars c.deref-2.result.now c.deref-2.utf8 cc) (λ x y. refl)
    ∙ ap (λ xs. slice_cmp nat_cmp xs (chars c.deref-2.result.now)) (ap chars c.deref.ensures ∙ c.self.view_is)
    ∙ ap (λ xs. slice_cmp nat_cmp c.args.self.now xs) (ap chars c.deref-2.ensures ∙ c.other.view_is)
