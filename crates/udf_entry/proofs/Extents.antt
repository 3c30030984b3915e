-- Reading an allocation extent.
use Rattle.std.proofs.Common.{◌≡◌, ℕ, Bool, true, false, not, ◌&&◌, List, ◌∷◌, Option, Some, None, arith, sym, ◌∙◌, ap, refl, ◌*◌, ◌/◌, ◌+◌, ◌<◌, ◌≤◌}
use Rattle.std.specs.Prelude.{is_some}
use Rattle.std.proofs.Math.Nat.{div-mul-le_self, mul-le-mul_right}
use Rattle.udf_field.specs.declared.address.Addr.{Addr}
use Rattle.udf_file_model.specs.Entry.{extent_body}
use Rattle.udf_file_model.specs.Descriptors.{descriptors}
use Rattle.udf_file_model.specs.Pieces.{Piece, Extent, pieces}
use Rattle.udf_file_model.specs.Front.{Rules, Past, stood, is_new, extent_passes, with_extent}
use Rattle.udf_entry.specs.Outcome.{outcome, ended}
use Rattle.udf_file_model.specs.Listing.{Volume, body_at, extent_at, descriptors_by, descriptors_in, is_extent}
use Rattle.udf_entry.proofs.Steps.{extent_goes_on, extent_fails}
use Rattle.udf_entry.specs.NextView.{outcome_next}
use Rattle.udf_entry.specs.declared.body.Next.{Next}

module _ (r : Rules) (v : Volume) (past : Past) (x : Addr) (rest : List Piece) where
  fails_by : (b c : Bool) → is_new r past x ≡ b → is_extent v x ≡ c → (b && c) ≡ false → ended past false ≡ outcome r (is_extent v) past (Extent x ∷ rest)
  fails_by b c e f h = sym (extent_fails r (is_extent v) past x rest (ap (λ t. t && is_extent v x) e ∙ ap (λ t. b && t) f ∙ h))

  pub not_new : is_new r past x ≡ false → ended past false ≡ outcome r (is_extent v) past (Extent x ∷ rest)
  not_new e = fails_by false (is_extent v x) e refl refl

  not_placed_new : r.placed x ≡ false → is_new r past x ≡ false
  unfolding is_new
  not_placed_new e = ap (λ b. b && not (stood r.size r.own past x)) e

  pub not_placed : r.placed x ≡ false → ended past false ≡ outcome r (is_extent v) past (Extent x ∷ rest)
  not_placed e = not_new (not_placed_new e)

  extent_is : (s : ℕ) (block : List ℕ) (o : Option (List ℕ)) → v.place x ≡ Some s → block ≡ v.disk s → o ≡ extent_body x.block block
      → extent_at v x ≡ o
  unfolding extent_at
  extent_is s block o e f g = ap (body_at v.disk x.block) e ∙ ap (extent_body x.block) (sym f) ∙ sym g

  pub not_whole : (s : ℕ) (block : List ℕ) → v.place x ≡ Some s → block ≡ v.disk s → None ≡ extent_body x.block block
      → ended past false ≡ outcome r (is_extent v) past (Extent x ∷ rest)
  not_whole s block e f g = fails_by (is_new r past x) false refl (ap is_some (extent_is s block None e f g)) (and_false (is_new r past x))
    where
      and_false : (b : Bool) → (b && false) ≡ false
      and_false true = refl
      and_false false = refl

  -- what the body of the extent gives
  pub whole_extent : (s : ℕ) (block body : List ℕ) (kind : ℕ) (q : Rules) (longer after : Past) (k : Addr → List Piece) (next : Next)
      → is_new r past x ≡ true → v.place x ≡ Some s → block ≡ v.disk s → Some body ≡ extent_body x.block block → q ≡ r → longer ≡ with_extent past x
      → rest ≡ pieces k (descriptors_in v kind x)
      → outcome_next q (is_extent v) after k next ≡ outcome q (is_extent v) longer (pieces k (descriptors kind x body))
      → outcome_next r (is_extent v) after k next ≡ outcome r (is_extent v) past (Extent x ∷ rest)
  unfolding descriptors_in
  whole_extent s block body kind q longer after k next new e f g same long left read =
      let at = extent_is s block (Some body) e f g in
      let listed = ap (descriptors_by kind x) at in
      let passes : extent_passes r (is_extent v) past x ≡ true = ap (λ t. t && is_extent v x) new ∙ ap is_some at in
      ap (λ z. outcome_next z (is_extent v) after k next) (sym same) ∙ read
      ∙ ap (λ z. outcome z (is_extent v) longer (pieces k (descriptors kind x body))) same
      ∙ ap (λ z. outcome r (is_extent v) z (pieces k (descriptors kind x body))) long
      ∙ ap (λ z. outcome r (is_extent v) (with_extent past x) (pieces k z)) (sym listed)
      ∙ ap (outcome r (is_extent v) (with_extent past x)) (sym left)
      ∙ sym (extent_goes_on r (is_extent v) past x rest passes)

-- a placed block lies in the image
pub in_image : (bytes size s : ℕ) → s < bytes / size → (s + 1) * size ≤ bytes
in_image bytes size s h = omega (arith, mul-le-mul_right size (more h), div-mul-le_self bytes size)
  where
    more : s < bytes / size → s + 1 ≤ bytes / size
    more h = omega arith
