-- Addresses of the volume that is planned over: where they stand, and the allocation extents there.
use Rattle.std.proofs.Common.{◌≡◌, ℕ, ◌+◌, ◌*◌, ◌/◌, ◌<◌, ◌≤◌, subst, List, [], true, Option, Some, None, arith, refl, sym, ap, ◌∙◌}
use Rattle.std.specs.Prelude.{nat_lt, not}
use Rattle.std.proofs.Math.Nat.{mul-le-mul_right, le-div_iff_mul-le}
use Rattle.std.proofs.lemmas.Bool.{and_parts, ltb-true}
use Rattle.udf_field.specs.declared.address.Addr.{Addr}
use Rattle.udf_outside.specs.Files.{Files}
use Rattle.udf_file_model.specs.Address.{Places}
use Rattle.udf_file_model.specs.Cut.{onward}
use Rattle.udf_file_model.specs.Entry.{extent_body}
use Rattle.udf_file_model.specs.Listing as listing
use Rattle.udf_file_model.specs.Listing.{body_at, descriptors_by, descriptors_in, extent_at}
use Rattle.udf_volume_model.specs.Areas.{covers}
use Rattle.udf_volume.specs.declared.volume.Volume.{Volume}
use Rattle.udf_blocks.specs.PlanFor.{sealed_stated}
use Rattle.udf_wanted.specs.Writable.{is_free}
use Rattle.udf_file_plan.specs.Base.{IsPlannedOver}

pub below : (volume : Volume) (n : ℕ) → is_free volume n ≡ true → n < volume.blocks
unfolding is_free
below volume n e = ltb-true _ _ (and_parts (nat_lt n volume.blocks) (not (covers (sealed_stated volume) n)) e).0

-- a placed block lies in the image
pub inside : (volume : Volume) (places : Places) (files : Files) → IsPlannedOver volume places files → (a : Addr) (s : ℕ) → places a ≡ Some s
    → (s + 1) * volume.size ≤ files.image.size
inside volume places files over a s place =
    let l : s + 1 ≤ volume.blocks = let b = below volume s (over.free a s place) in omega (arith, b) in
    omega (arith, mul-le-mul_right volume.size l, over.over.within)

pub inside_whole : (volume : Volume) (places : Places) (files : Files) (size : ℕ) → IsPlannedOver volume places files → size ≡ volume.size → (a : Addr) (s : ℕ) → places a ≡ Some s
    → s < files.image.size / size
inside_whole volume places files size over same a s place =
    let i = inside volume places files over a s place in
    let some : 0 < size = let l = over.over.large in omega (arith, l, same) in
    let h : (s + 1) * size ≤ files.image.size = subst (λ (k : ℕ). (s + 1) * k ≤ files.image.size) (sym same) i in
    let l : s + 1 ≤ files.image.size / size = (le-div_iff_mul-le {k = size} {x = s + 1} {y = files.image.size} some).1 h in
    omega (arith, l)

pub nothing_onward : (b : ℕ) → None ≡ onward b []
unfolding onward
nothing_onward b = refl

module _ (v : listing.Volume) (kind : ℕ) (x : Addr) where
  pub descriptors_nowhere : v.place x ≡ None → descriptors_in v kind x ≡ []
  unfolding descriptors_in extent_at
  descriptors_nowhere e = ap (λ o. descriptors_by kind x (body_at v.disk x.block o)) e

  pub descriptors_there : (s : ℕ) (now : List ℕ) (o : Option (List ℕ)) → v.place x ≡ Some s → now ≡ v.disk s → extent_body x.block now ≡ o
      → descriptors_in v kind x ≡ descriptors_by kind x o
  unfolding descriptors_in extent_at
  descriptors_there s now o place is found =
      ap (λ p. descriptors_by kind x (body_at v.disk x.block p)) place ∙ ap (λ b. descriptors_by kind x (extent_body x.block b)) (sym is) ∙ ap (descriptors_by kind x) found

  pub onward_nowhere : (b : ℕ) → v.place x ≡ None → None ≡ onward b (descriptors_in v kind x)
  onward_nowhere b e = nothing_onward b ∙ sym (ap (onward b) (descriptors_nowhere e))

  pub onward_none : (b s : ℕ) (now : List ℕ) → v.place x ≡ Some s → now ≡ v.disk s → extent_body x.block now ≡ None → None ≡ onward b (descriptors_in v kind x)
  onward_none b s now place is found = nothing_onward b ∙ sym (ap (onward b) (descriptors_there s now None place is found))
