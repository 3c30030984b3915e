-- Where the files of a mended image's volume stand, and with which frame they begin.
use Rattle.std.proofs.Common.{◌≡◌, ℕ, ◌≤◌, ◌/◌, ◌&&◌, ◌||◌, arith, refl, sym, ◌∙◌, ap, subst, List, length, Bool, true, false, cond, Option, Some, None}
use Rattle.std.proofs.Math.Path.{fun_ext}
use Rattle.std.specs.Prelude.{is_some}
use Rattle.std.proofs.lemmas.Bool.{and_parts, false≢true}
use Rattle.std.proofs.lemmas.Bool.Decides.{nat_tests}
use Rattle.udf_field.specs.declared.address.Addr.{Addr}
use Rattle.udf_model.specs.Image.{block_of}
use Rattle.udf_model.specs.Tag.{is_id}
use Rattle.udf_file_model.specs.Address.{lone_places, same_addr}
use Rattle.udf_file_model.specs.Content.{block_at, block_by}
use Rattle.udf_file_model.specs.Listing as listing
use Rattle.udf_file_model.specs.Listing.{volume_of, with_disk}
use Rattle.udf_volume_model.specs.Areas as model
use Rattle.udf_volume_model.specs.FileSet.{Site, after as after_of, bytes_by, first_block, id_by, id_of, is_fixed, is_terminator, in_bitmap, in_extent, root_in, stretch_has, system_in}
use Rattle.udf_tree_model.specs.Frame.{Frame, is_address, is_file_set, is_holder}
use Rattle.udf_layer.specs.Lone.{same_address}
use Rattle.udf_volume.specs.Areas.{partition_stated, table_used}
use Rattle.udf_volume.specs.FileSet.{site_of}
use Rattle.udf_volume.specs.declared.volume.Volume.{Volume}
use Rattle.udf_rules_model.specs.Files.{files_in, frame_in, places_of, site_in}
use Rattle.udf_rules_model.specs.Places.{place_by}
use Rattle.udf_file_mends.specs.FileSet.{cleared_set, frame_after, loses_system, mended_set}
use Rattle.udf_mended_image.proofs.Cleared.{no_system, root_same}
use Rattle.udf_mended_image.proofs.Stands.{Stands}
use Rattle.udf_mended_image.proofs.Volume.{Reopens}

bytes_are : (disk : ℕ → List ℕ) (o : Option ℕ) → bytes_by disk o ≡ block_by disk o
bytes_are disk None = refl
bytes_are disk (Some n) = refl

-- a stretch of one block has its address alone
one_stretch : (at a : Addr) → stretch_has at 1 a ≡ true → a ≡ at
unfolding stretch_has
one_stretch at a h = same_address a at (grind (arith, nat_tests)) (grind (arith, nat_tests))

module _ (image after : List ℕ) (volume : Volume) (large : 512 ≤ volume.size) (long : length after ≡ length image) (re : Reopens volume.size image after volume)
    (st : Stands volume.size image after volume) where
  abbrev there : ℕ → List ℕ
  there = block_of volume.size after

  abbrev f : Frame
  f = frame_in volume image

  abbrev v : listing.Volume
  v = files_in volume image

  partitions_same : partition_stated re.found ≡ partition_stated volume
  partitions_same =
      ap (λ n. record { start = n; count = re.found.length }) re.same.start
      ∙ ap (λ n. record { start = volume.start; count = n }) re.same.length

  pub places_same : places_of re.found after ≡ places_of volume image
  unfolding places_of
  places_same =
      ap (λ n. lone_places 0 (place_by (partition_stated re.found) (table_used re.found (block_of n after)))) re.same.size
      ∙ ap (λ (l : model.Layout). lone_places 0 (place_by (partition_stated re.found) l.table)) re.layout
      ∙ ap (λ p. lone_places 0 (place_by p (table_used volume (block_of volume.size image)))) partitions_same

  pub files_same : files_in re.found after ≡ with_disk (files_in volume image) (block_of volume.size after)
  files_same =
      ap (λ n. volume_of n after (places_of re.found after)) re.same.size
      ∙ ap (volume_of volume.size after) places_same
      ∙ ap (λ k. record { size = volume.size; blocks = k; disk = block_of volume.size after; place = places_of volume image }) (ap (λ n. n / volume.size) long)

  -- the file set lies where it lay, on the other disk
  abbrev pub site_there : Site
  site_there = record {
    size = volume.size;
    disk = block_of volume.size after;
    place = places_of volume image;
    inner = λ a. false;
    base = volume.shape.base;
    bitmap = volume.bitmap;
    extent = volume.file_set;
  }

  pub site_same : site_in re.found after ≡ site_there
  unfolding site_in
  site_same =
      ap (λ n. site_of (record re.found { size = n }) (block_of n after) (places_of re.found after) (λ a. false)) re.same.size
      ∙ ap (λ p. site_of (record re.found { size = volume.size }) (block_of volume.size after) p (λ a. false)) places_same
      ∙ ap (λ s. site_of (record re.found { size = volume.size; shape = s }) (block_of volume.size after) (places_of volume image) (λ a. false)) re.same.shape
      ∙ ap (λ b. site_of (record re.found { size = volume.size; shape = volume.shape; bitmap = b }) (block_of volume.size after) (places_of volume image) (λ a. false)) re.same.bitmap
      ∙ ap (λ l. site_of (record re.found { size = volume.size; shape = volume.shape; bitmap = volume.bitmap; file_set = l }) (block_of volume.size after) (places_of volume image) (λ a. false)) re.same.file_set

  -- the block of the file set
  pub set_is : first_block site_there ≡ mended_set f v
  unfolding first_block frame_in
  set_is = bytes_are (block_of volume.size after) (places_of volume image volume.file_set.at) ∙ st.set

  pub set_was : first_block (site_in volume image) ≡ block_at v f.file_set
  unfolding first_block frame_in site_in
  set_was = bytes_are (block_of volume.size image) (places_of volume image volume.file_set.at)

  -- where the pointer is lost the file set is a whole block
  pub set_long : loses_system f v ≡ true → 512 ≤ length (block_at v f.file_set)
  unfolding loses_system is_holder
  set_long e =
      let h = (and_parts (is_holder f v f.file_set) _ e).0 in
      let p = (and_parts (is_some f.system) (is_file_set f v f.file_set) h).1 in
      by (v.place f.file_set) refl (and_parts (is_address f.file_set) (is_some (v.place f.file_set)) (and_parts (same_addr f.file_set f.file_set) _ p).1).1
    where
      by : (o : Option ℕ) → v.place f.file_set ≡ o → is_some o ≡ true → 512 ≤ length (block_by v.disk (v.place f.file_set))
      by None e h = absurd (false≢true h)
      by (Some n) e h =
          let k : length (v.disk n) ≡ volume.size = st.files.repairable.whole f.file_set n e in
          subst (λ (o : Option ℕ). 512 ≤ length (block_by v.disk o)) (sym e) (omega (arith, k, large))

  roots_same : root_in (first_block site_there) ≡ root_in (first_block (site_in volume image))
  roots_same = ap root_in set_is ∙ by (loses_system f v) refl ∙ ap root_in (sym set_was)
    where
      by : (b : Bool) → loses_system f v ≡ b → root_in (cond b (cleared_set f.file_set.block (block_at v f.file_set)) (block_at v f.file_set)) ≡ root_in (block_at v f.file_set)
      by true e = root_same f.file_set.block (block_at v f.file_set) (set_long e)
      by false e = refl

  systems_same : system_in (first_block site_there) ≡ cond (loses_system f v) None (system_in (first_block (site_in volume image)))
  systems_same = ap system_in set_is ∙ by (loses_system f v) refl ∙ ap (λ b. cond (loses_system f v) None (system_in b)) (sym set_was)
    where
      by : (b : Bool) → loses_system f v ≡ b → system_in (cond b (cleared_set f.file_set.block (block_at v f.file_set)) (block_at v f.file_set))
          ≡ cond b None (system_in (block_at v f.file_set))
      by true e = no_system f.file_set.block (block_at v f.file_set) (set_long e)
      by false e = refl

  ends_same : in_bitmap (site_in volume image) (after_of (site_in volume image)) ≡ false
      → is_id 8 (id_of site_there (after_of site_there)) ≡ is_id 8 (id_of (site_in volume image) (after_of (site_in volume image)))
  unfolding id_of after_of site_in frame_in
  ends_same out = by (v.place f.after) refl
    where
      by : (o : Option ℕ) → v.place (frame_in volume image).after ≡ o
          → is_id 8 (id_by (block_of volume.size after) (frame_in volume image).after.block o) ≡ is_id 8 (id_by (block_of volume.size image) (frame_in volume image).after.block o)
      by None e = refl
      by (Some n) e = st.behind out n e

  -- an address of the bitmap is fixed, whatever stands there
  ends_elsewhere : (a : Addr) → in_bitmap (site_in volume image) a ≡ false
      → (stretch_has (after_of site_there) 1 a && is_id 8 (id_of site_there (after_of site_there)))
      ≡ (stretch_has (after_of site_there) 1 a && is_id 8 (id_of (site_in volume image) (after_of (site_in volume image))))
  ends_elsewhere a out = by (stretch_has (after_of site_there) 1 a) refl
    where
      here : stretch_has (after_of site_there) 1 a ≡ true → a ≡ after_of (site_in volume image)
      here e = one_stretch (after_of (site_in volume image)) a (unfold after_of site_in in e)

      by : (b : Bool) → stretch_has (after_of site_there) 1 a ≡ b
          → (b && is_id 8 (id_of site_there (after_of site_there))) ≡ (b && is_id 8 (id_of (site_in volume image) (after_of (site_in volume image))))
      by true e = ends_same (ap (in_bitmap (site_in volume image)) (sym (here e)) ∙ out)
      by false e = refl

  fixed_parts : (a : Addr) → (in_bitmap (site_in volume image) a || (in_extent site_there a || (stretch_has (after_of site_there) 1 a && is_id 8 (id_of site_there (after_of site_there)))))
      ≡ (in_bitmap (site_in volume image) a || (in_extent site_there a || (stretch_has (after_of site_there) 1 a && is_id 8 (id_of (site_in volume image) (after_of (site_in volume image))))))
      → is_fixed site_there a ≡ is_fixed (site_in volume image) a
  unfolding is_fixed is_terminator in_bitmap after_of site_in
  fixed_parts a e = e

  fixed_same : is_fixed site_there ≡ is_fixed (site_in volume image)
  fixed_same = fun_ext {f = is_fixed site_there} {g = is_fixed (site_in volume image)} each
    where
      rest : (a : Addr) → (b : Bool) → in_bitmap (site_in volume image) a ≡ b
          → (b || (in_extent site_there a || (stretch_has (after_of site_there) 1 a && is_id 8 (id_of site_there (after_of site_there)))))
          ≡ (b || (in_extent site_there a || (stretch_has (after_of site_there) 1 a && is_id 8 (id_of (site_in volume image) (after_of (site_in volume image))))))
      rest a true e = refl
      rest a false e = ap (λ t. in_extent site_there a || t) (ends_elsewhere a e)

      each : (a : Addr) → is_fixed site_there a ≡ is_fixed (site_in volume image) a
      each a = fixed_parts a (rest a (in_bitmap (site_in volume image) a) refl)

  pub frame_same : frame_in re.found after ≡ frame_after (frame_in volume image) (files_in volume image)
  unfolding frame_in frame_after
  frame_same = ap (λ s. record { fixed = is_fixed s; after = after_of s; file_set = re.found.file_set.at; root = root_in (first_block s); system = system_in (first_block s) }) site_same
      ∙ ap (λ x. record { fixed = x; after = after_of site_there; file_set = re.found.file_set.at; root = root_in (first_block site_there); system = system_in (first_block site_there) }) fixed_same
      ∙ ap (λ l. record { fixed = is_fixed (site_in volume image); after = after_of site_there; file_set = l.at; root = root_in (first_block site_there); system = system_in (first_block site_there) }) re.same.file_set
      ∙ ap (λ r. record { fixed = is_fixed (site_in volume image); after = after_of site_there; file_set = volume.file_set.at; root = r; system = system_in (first_block site_there) }) roots_same
      ∙ ap (λ r. record { fixed = is_fixed (site_in volume image); after = after_of site_there; file_set = volume.file_set.at; root = root_in (first_block (site_in volume image)); system = r }) systems_same
      ∙ ap (λ x. record { fixed = is_fixed (site_in volume image); after = x; file_set = volume.file_set.at; root = root_in (first_block (site_in volume image)); system = cond (loses_system f v) None (system_in (first_block (site_in volume image))) }) afters
    where
      afters : after_of site_there ≡ after_of (site_in volume image)
      afters = unfold after_of site_in in refl
