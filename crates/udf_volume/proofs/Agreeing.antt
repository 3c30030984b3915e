-- Whether two sequences agree.
use Rattle.std.proofs.Common.{◌≡◌, ℕ, refl, sym, ◌∙◌, ap, List, Bool, true, false, ◌&&◌, Some, None, cond}
use Rattle.std.specs.List.{list_all}
use Rattle.std.proofs.lemmas.List.Folds.{list_all-append}
use Rattle.udf_volume_model.specs.Sequence.{Descriptor}
use Rattle.udf_volume_model.specs.Kept.{is_complete, whole_by}
use Rattle.udf_volume_model.specs.Rules.{agrees, same_for, same_prevailing}

both : (list others : List Descriptor) (a b : Bool) → a ≡ list_all (same_for list others) list → b ≡ list_all (same_for list others) others
    → (a && b) ≡ same_prevailing list others
unfolding same_prevailing
both list others a b e f =
    ap (λ x. x && b) e ∙ ap (λ x. list_all (same_for list others) list && x) f ∙ sym (list_all-append (same_for list others) list others)

pub not_kept : (list others : List Descriptor) → false ≡ list_all (same_for list others) list → false ≡ same_prevailing list others
not_kept list others e = both list others false (list_all (same_for list others) others) e refl

pub kept_and : (list others : List Descriptor) (alike : Bool) → true ≡ list_all (same_for list others) list → alike ≡ list_all (same_for list others) others
    → alike ≡ same_prevailing list others
kept_and list others alike e f = both list others true alike e f

pub spoilt : (kept others : List Descriptor) (limit : ℕ) (b : Bool) → b ≡ true → false ≡ agrees kept (whole_by limit (cond b None (Some others)))
spoilt kept others limit b e = sym (ap (λ x. agrees kept (whole_by limit (cond x None (Some others)))) e)

pub incomplete : (kept others : List Descriptor) (limit : ℕ) (b : Bool) → b ≡ false → false ≡ is_complete limit others
    → false ≡ agrees kept (whole_by limit (cond b None (Some others)))
incomplete kept others limit b e f =
    sym (ap (λ x. agrees kept (whole_by limit (cond x None (Some others)))) e ∙ ap (λ x. agrees kept (cond x (Some others) None)) (sym f))

pub compared : (kept others : List Descriptor) (limit : ℕ) (b answer : Bool) → b ≡ false → true ≡ is_complete limit others
    → answer ≡ same_prevailing kept others → answer ≡ agrees kept (whole_by limit (cond b None (Some others)))
compared kept others limit b answer e f same =
    same ∙ sym (ap (λ x. agrees kept (whole_by limit (cond x None (Some others)))) e ∙ ap (λ x. agrees kept (cond x (Some others) None)) (sym f))
