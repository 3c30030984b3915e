-- What is put for the rule on the space bitmap is what its mend writes.
use Rattle.std.proofs.Common.{◌≡◌, ℕ, ◌+◌, ◌/◌, ◌<◌, ◌≤◌, ◌==◌, ◌&&◌, arith, refl, sym, ◌∙◌, ap, subst, List, [], ◌++◌, Bool, true, false, cond, Option, Some, None}
use Rattle.std.proofs.Math.Nat.{le-div_iff_mul-le}
use Rattle.udf_field.specs.declared.address.Short.{Short}
use Rattle.udf_file_mends.specs.Mends.{edits_of}
use Rattle.udf_file_mends.specs.Spread.{spread_from}
use Rattle.udf_file_model.specs.Front.{blocks_for}
use Rattle.udf_file_model.specs.Listing.{Volume}
use Rattle.udf_free.specs.Free as freed
use Rattle.udf_free.specs.Verdict.{verdict_in}
use Rattle.udf_free.specs.declared.verdict.BitmapVerdict.{BitmapVerdict}
use Rattle.udf_model.specs.Bytes.{number_at}
use Rattle.udf_outside.specs.Files.{Files}
use Rattle.udf_rules_model.specs.Bitmap.{area_of, bitmap_holds, is_headed, wrong_bits}
use Rattle.udf_space.specs.Area.{encoded}
use Rattle.udf_space_mends.specs.BitmapMend.{bitmap_edits, free_bits, mended_area}
use Rattle.udf_space_plan.specs.Extent.{PutsAll}
use Rattle.udf_space_plan.proofs.Spreading.{inside}
use Rattle.udf_tree_model.specs.Frame.{Frame}
use Rattle.udf_volume.specs.Over.{IsOver}
use Rattle.udf_volume.specs.declared.volume.Volume as code
use Rattle.udf_wanted.specs.Wanted.{LookAlike}
use Rattle.udf_wanted.specs.Writable.{is_free}
use Rattle.udf_wanted.proofs.Looking.{nothing}

-- a sector that may be written is one of the image's whole blocks
pub inside_whole : (volume : code.Volume) (files : Files) → IsOver volume files → (s : ℕ) → is_free volume s ≡ true → s < files.image.size / volume.size
inside_whole volume files over s free =
    let some : 0 < volume.size = omega (arith, over.large) in
    let l : s + 1 ≤ files.image.size / volume.size = (le-div_iff_mul-le {k = volume.size} {x = s + 1} {y = files.image.size} some).1 (inside volume files over s free) in
    omega (arith, l)

module _ (f : Frame) (v : Volume) (logical : List ℕ) (blocks : ℕ) where
  pub none_named : (wanted : List (ℕ × List ℕ)) → LookAlike wanted (wanted ++ bitmap_edits f v logical blocks None)
  unfolding bitmap_edits
  none_named wanted = nothing wanted

  module _ (extent : Short) where
    -- the verdict is that of the rule
    pub held_by : (verdict : BitmapVerdict) (b : Bool) → b ≡ (verdict.headed && (verdict.wrong == 0)) → verdict ≡ verdict_in f v blocks extent → bitmap_holds f v blocks extent ≡ b
    unfolding bitmap_holds
    held_by verdict b e is =
        sym (e ∙ ap (λ (x : BitmapVerdict). x.headed && (x.wrong == 0)) is ∙ by (is_headed blocks extent (area_of v extent)) (wrong_bits f v blocks (area_of v extent)))
      where
        by : (headed : Bool) (wrong : ℕ) → (headed && (cond headed wrong blocks == 0)) ≡ (headed && (wrong == 0))
        by true wrong = refl
        by false wrong = refl

    -- the bits are those of the mend
    pub area_is : (bits : List Bool) → bits ≡ freed.free_bits f v blocks
        → encoded (number_at 2 logical 2) (number_at 2 logical 6) extent.block bits (area_of v extent) ≡ mended_area f v logical blocks extent
    unfolding mended_area free_bits freed.free_bits
    area_is bits e = ap (λ (b : List Bool). encoded (number_at 2 logical 2) (number_at 2 logical 6) extent.block b (area_of v extent)) e

    edits_by : (b : Bool) → bitmap_holds f v blocks extent ≡ b
        → cond b [] (edits_of v (spread_from v 0 extent.block (blocks_for v.size extent.length) (mended_area f v logical blocks extent))) ≡ bitmap_edits f v logical blocks (Some extent)
    unfolding bitmap_edits
    edits_by b e =
        sym (ap (λ t. cond t [] (edits_of v (spread_from v 0 extent.block (blocks_for v.size extent.length) (mended_area f v logical blocks extent)))) e)

    pub none_broken : bitmap_holds f v blocks extent ≡ true → (wanted : List (ℕ × List ℕ)) → LookAlike wanted (wanted ++ bitmap_edits f v logical blocks (Some extent))
    none_broken e wanted =
        subst (λ (edits : List (ℕ × List ℕ)). LookAlike wanted (wanted ++ edits)) (edits_by true e) (nothing wanted)

    pub bitmap_put : (area : List ℕ) (wanted next : List (ℕ × List ℕ)) → bitmap_holds f v blocks extent ≡ false → area ≡ mended_area f v logical blocks extent
        → PutsAll v wanted next (spread_from v 0 extent.block (blocks_for v.size extent.length) area)
        → LookAlike next (wanted ++ bitmap_edits f v logical blocks (Some extent))
    bitmap_put area wanted next e is put =
        subst (λ (edits : List (ℕ × List ℕ)). LookAlike next (wanted ++ edits))
        (ap (λ (b : List ℕ). edits_of v (spread_from v 0 extent.block (blocks_for v.size extent.length) b)) is
        ∙ edits_by false e) put

    -- by the image's own places, and the bitmap that the volume names
    pub as_stated : (w : Volume) (named : Option Short) (wanted next : List (ℕ × List ℕ)) → v ≡ w → named ≡ Some extent
        → LookAlike next (wanted ++ bitmap_edits f v logical blocks (Some extent)) → LookAlike next (wanted ++ bitmap_edits f w logical blocks named)
    as_stated w named wanted next same is put =
        subst (λ (edits : List (ℕ × List ℕ)). LookAlike next (wanted ++ edits))
        (ap (λ (x : Volume). bitmap_edits f x logical blocks (Some extent)) same ∙ ap (bitmap_edits f w logical blocks) (sym is)) put
