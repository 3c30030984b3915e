-- A disk with all mends has a terminating descriptor behind the file set where one stood, and nowhere else, where the extent of the
-- bitmap does not have that address.
use Rattle.std.proofs.Common.{◌≡◌, ℕ, ◌+◌, ◌<◌, arith, refl, sym, ◌∙◌, ap, List, Bool, true, false, ◌||◌, Some}
use Rattle.std.proofs.lemmas.Bool.{and_from, false≢true, or_right}
use Rattle.udf_field.specs.declared.address.Addr.{Addr}
use Rattle.udf_field.specs.declared.address.Short.{Short}
use Rattle.udf_model.specs.Image.{block_of}
use Rattle.udf_model.specs.Tag.{is_id}
use Rattle.udf_file_model.specs.Address.{addr}
use Rattle.udf_file_model.specs.Front.{blocks_for}
use Rattle.udf_file_model.specs.Listing as listing
use Rattle.udf_volume_model.specs.Anchor as anchor
use Rattle.udf_volume_model.specs.Edits.{look}
use Rattle.udf_volume_model.specs.FileSet as set
use Rattle.udf_volume_model.specs.FileSet.{id_by, id_of, in_bitmap, in_extent, is_fixed, is_terminator, stretch_has}
use Rattle.udf_tree_model.specs.Frame.{Frame}
use Rattle.udf_volume.specs.declared.volume.Volume.{Volume}
use Rattle.udf_rules_model.specs.Files.{files_in, frame_in, places_of, site_in}
use Rattle.udf_file_mends.specs.Mends.{file_edits}
use Rattle.udf_space_mends.specs.BitmapMend.{bitmap_edits}
use Rattle.udf_mended_image.proofs.Behind.{ContentsKeep, files_keep, is_end}
use Rattle.udf_mended_image.proofs.Edited.{filed_quiet, held_made, made, one_place, place_held}
use Rattle.udf_mended_image.proofs.Given.{IsGiven, in_own_bitmap, in_stretch, large, ok, set_long}
use Rattle.udf_mended_image.proofs.Quiet.{bitmap_quiet, set_quiet}

module _ (image : List ℕ) (volume : Volume) (g : IsGiven image volume) (n : ℕ)
    (place : (files_in volume image).place (frame_in volume image).after ≡ Some n)
    (out : in_bitmap (site_in volume image) (frame_in volume image).after ≡ false) where
  abbrev f : Frame
  f = frame_in volume image

  abbrev v : listing.Volume
  v = files_in volume image

  abbrev disk : ℕ → List ℕ
  disk = block_of volume.size image

  unlike_set : f.file_set ≡ f.after → ⊥
  unfolding frame_in set.after site_in
  unlike_set e = let b = ap (λ (a : Addr). a.block) e in omega (arith, b, set_long image volume g)

  unlike_bitmap : (extent : Short) → volume.bitmap ≡ Some extent → (k : ℕ) → k < blocks_for volume.size extent.length → v.place (addr 0 (extent.block + k)) ≡ Some n → ⊥
  unfolding anchor.blocks_for
  unlike_bitmap extent e k l p =
      false≢true
      (sym out ∙ ap (in_bitmap (site_in volume image)) (one_place image volume g f.after (addr 0 (extent.block + k)) n place p)
      ∙ in_own_bitmap image volume g extent e k l)

  only_files : made image volume g n ≡ look n (file_edits f v) (disk n)
  only_files =
      held_made image volume g n (place_held image volume g f.after n place)
      ∙ ap (look n (file_edits f v))
      (set_quiet f v n (λ q. unlike_set (one_place image volume g f.file_set f.after n q place)) (look n (bitmap_edits f v (disk volume.lvd) volume.length volume.bitmap) (disk n))
      ∙ bitmap_quiet f v (disk volume.lvd) volume.length volume.bitmap n unlike_bitmap (disk n))

  -- a terminating descriptor that stands there is fixed
  end_fixed : is_end f.after.block (disk n) ≡ true → f.fixed f.after ≡ true
  unfolding frame_in is_fixed is_terminator id_of set.after site_in
  end_fixed t =
      or_right (in_bitmap (site_in volume image) f.after) (in_extent (site_in volume image) f.after || is_terminator (site_in volume image) f.after)
      (or_right (in_extent (site_in volume image) f.after) (is_terminator (site_in volume image) f.after)
      (and_from (stretch_has f.after 1 f.after) (is_id 8 (id_by disk f.after.block (places_of volume image f.after)))
      (in_stretch f.after 1 f.after refl (omega arith) (omega arith))
      (ap (λ o. is_id 8 (id_by disk f.after.block o)) place ∙ t)))

  pub behind_made : ((old : is_end f.after.block (disk n) ≡ false) → ContentsKeep f v (ok image volume g) (large image volume g) f.after n place old)
      → is_end f.after.block (made image volume g n) ≡ is_end f.after.block (disk n)
  behind_made contents = by (is_end f.after.block (disk n)) refl
    where
      by : (b : Bool) → is_end f.after.block (disk n) ≡ b → is_end f.after.block (made image volume g n) ≡ is_end f.after.block (disk n)
      by true t =
          ap (is_end f.after.block)
          (only_files ∙ filed_quiet image volume g n (λ x q. ap f.fixed (one_place image volume g x f.after n q place) ∙ end_fixed t) (disk n))
      by false t =
          ap (is_end f.after.block) only_files ∙ files_keep f v (ok image volume g) (large image volume g) f.after n place t (contents t) ∙ sym t
