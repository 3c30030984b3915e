-- The mended block of an allocation extent.
use Rattle.std.proofs.Common.{◌≡◌, ℕ, List, [], ◌∷◌, true, false, cond, Some, None, sym, ap, ◌∙◌}
use Rattle.std.specs.Str.{bytes_eq}
use Rattle.udf_field.specs.declared.address.Addr.{Addr}
use Rattle.udf_file_model.specs.CutBody.{cut_body, extent_with}
use Rattle.udf_file_model.specs.Entry.{extent_body}
use Rattle.udf_volume_laws.proofs.Same.{bytes_same}
use Rattle.udf_file_mends.specs.Mends.{extent_cut, mended_extent}
use Rattle.udf_wanted.specs.Wanted.{differing}
use Rattle.udf_file_plan.proofs.Differing.{none_differs}

-- of which the cut leaves all
pub extent_stays : (kind bytes sector : ℕ) (at : Addr) (block body left : List ℕ) → extent_body at.block block ≡ Some body → left ≡ cut_body kind at bytes body
    → bytes_eq left body ≡ true → [] ≡ differing (λ _. block) ((sector, mended_extent kind at block (Some bytes)) ∷ [])
extent_stays kind bytes sector at block body left found is same =
    let e : bytes_eq (cut_body kind at bytes body) body ≡ true = ap (λ b. bytes_eq b body) (sym is) ∙ same in
    none_differs sector block block (bytes_same block)
    ∙ sym (ap (λ o. differing (λ _. block) ((sector, extent_cut kind at bytes block o) ∷ [])) found
    ∙ ap (λ b. differing (λ _. block) ((sector, cond b block (extent_with at.block (cut_body kind at bytes body) block)) ∷ [])) e)

pub extent_changes : (kind bytes : ℕ) (at : Addr) (block body left after : List ℕ) → extent_body at.block block ≡ Some body → left ≡ cut_body kind at bytes body
    → bytes_eq left body ≡ false → after ≡ extent_with at.block left block → after ≡ mended_extent kind at block (Some bytes)
extent_changes kind bytes at block body left after found is other new =
    let e : bytes_eq (cut_body kind at bytes body) body ≡ false = ap (λ b. bytes_eq b body) (sym is) ∙ other in
    new ∙ ap (λ b. extent_with at.block b block) is
    ∙ sym (ap (extent_cut kind at bytes block) found ∙ ap (λ b. cond b block (extent_with at.block (cut_body kind at bytes body) block)) e)

-- a block that holds none
pub no_extent : (kind bytes sector : ℕ) (at : Addr) (block : List ℕ) → extent_body at.block block ≡ None
    → [] ≡ differing (λ _. block) ((sector, mended_extent kind at block (Some bytes)) ∷ [])
no_extent kind bytes sector at block found =
    none_differs sector block block (bytes_same block) ∙ sym (ap (λ o. differing (λ _. block) ((sector, extent_cut kind at bytes block o) ∷ [])) found)
