-- What is known of an image that a repair accepts: its file set stands, and is fixed with the extent of the bitmap.
use Rattle.std.proofs.Common.{◌≡◌, ◌⊎◌, inl, inr, ℕ, ◌+◌, ◌-◌, ◌<◌, ◌≤◌, arith, refl, sym, ◌∙◌, ap, List, [], ◌∷◌, Bool, true, false, cond, not, ◌&&◌, ◌||◌, Some, None, Ok, leb, ltb}
use Rattle.std.specs.Prelude.{◌==◌, is_some}
use Rattle.std.specs.List.{list_any, range_with_len}
use Rattle.std.proofs.lemmas.Bool.{and_from, and_parts, cases_eq, eq-eqb, false≢true, le-leb, lt-ltb, or_left, or_right}
use Rattle.std.proofs.lemmas.Bool.Decides.{nat_tests}
use Rattle.std.proofs.lemmas.Nat.{le-div}
use Rattle.udf_field.specs.declared.address.Addr.{Addr}
use Rattle.udf_field.specs.declared.address.Short.{Short}
use Rattle.udf_model.specs.Bytes.{IsBytes}
use Rattle.udf_model.specs.Image.{block_of}
use Rattle.udf_model.specs.Size.{is_size}
use Rattle.udf_model.specs.Tag.{is_id}
use Rattle.udf_file_model.specs.Address.{addr}
use Rattle.udf_file_model.specs.Listing as listing
use Rattle.udf_volume_model.specs.Anchor.{blocks_for}
use Rattle.udf_volume_model.specs.FileSet as set
use Rattle.udf_volume_model.specs.FileSet.{Site, address, extent_blocks, first_block, has_file_set, id_by, id_of, in_bitmap, in_bitmap_by, in_extent, is_clear, is_fixed, is_terminator, is_within, names_further, stretch_has, touches}
use Rattle.udf_volume_laws.proofs.Members.{IsIn, in_range}
use Rattle.udf_tree_model.specs.Frame.{Frame}
use Rattle.udf_tree_model.specs.Refused as tree
use Rattle.udf_tree_model.specs.Stated.{IsFileSetPlaced}
use Rattle.udf_volume.specs.Opened.{volume_by}
use Rattle.udf_volume.specs.Taken.{opening}
use Rattle.udf_volume.specs.declared.volume.Volume.{Volume}
use Rattle.udf_rules_model.specs.Files.{files_in, frame_in, places_of, site_in}
use Rattle.udf_file_mends.specs.Repairable.{IsRepairable}
use Rattle.udf_mended_image.proofs.Laid.{describes}
use Rattle.udf_mended_image.proofs.Sectors.{repairable}

pub record IsGiven (image : List ℕ) (volume : Volume) : Type 0 where
  pub sized : is_size volume.size ≡ true
  pub bytes : IsBytes image
  pub opened : opening volume.size image ≡ Ok volume
  pub set : set.refusal (site_in volume image) ≡ None
  pub files : tree.refusal (frame_in volume image) (files_in volume image) ≡ None
  pub placed : IsFileSetPlaced (frame_in volume image) (files_in volume image)

any_in : (test : ℕ → Bool) (xs : List ℕ) (n : ℕ) → IsIn n xs → test n ≡ true → list_any test xs ≡ true
any_in test (x ∷ xs) n (inl e) h = or_left (test x) (list_any test xs) (sym (ap test e) ∙ h)
any_in test (x ∷ xs) n (inr i) h = or_right (test x) (list_any test xs) (any_in test xs n i h)
any_in test [] n i h = absurd i

pub size_bounds : (size : ℕ) → is_size size ≡ true → (512 ≤ size) × (size ≤ 4096)
unfolding is_size
size_bounds size h = (grind (arith, nat_tests), grind (arith, nat_tests))

-- an address in a stretch
pub in_stretch : (at : Addr) (blocks : ℕ) (a : Addr) → at.part ≡ a.part → at.block ≤ a.block → a.block < at.block + blocks → stretch_has at blocks a ≡ true
unfolding stretch_has
in_stretch at blocks a p l h =
    and_from (at.part == a.part) (leb at.block a.block && ltb a.block (at.block + blocks)) (eq-eqb at.part a.part p)
    (and_from (leb at.block a.block) (ltb a.block (at.block + blocks)) (le-leb at.block a.block l) (lt-ltb a.block (at.block + blocks) h))

set_parts : (s : Site) → set.refusal s ≡ None → (is_clear s ≡ true) × (has_file_set s ≡ true)
unfolding set.refusal
set_parts s e = and_parts (is_clear s) (has_file_set s) (by (is_clear s && has_file_set s) (names_further (first_block s)) e)
  where
    by : (b c : Bool) → cond b (cond c (Some set.FileSets) None) (Some set.FileSet) ≡ None → b ≡ true
    by true c k = refl
    by false c k = cc

module _ (image : List ℕ) (volume : Volume) (g : IsGiven image volume) where
  abbrev pub f : Frame
  f = frame_in volume image

  abbrev pub v : listing.Volume
  v = files_in volume image

  abbrev pub site : Site
  site = site_in volume image

  pub large : 512 ≤ volume.size
  large = (size_bounds volume.size g.sized).0

  pub small : volume.size ≤ 4096
  small = (size_bounds volume.size g.sized).1

  pub ok : IsRepairable f v
  ok = repairable image volume large g.opened g.sized g.bytes g.files g.placed

  -- the base partition has the reference 0
  base_zero : volume.shape.base ≡ 0
  unfolding volume_by
  base_zero = ap (λ (x : Volume). x.shape.base) (describes image volume large g.opened).is

  set_has : (not (volume.file_set.length == 0) ≡ true) × (is_id 256 (id_of site volume.file_set.at) ≡ true)
  unfolding has_file_set site_in
  set_has = and_parts (not (volume.file_set.length == 0)) (is_id 256 (id_of site volume.file_set.at)) (set_parts site g.set).1

  pub set_long : 1 ≤ blocks_for volume.size volume.file_set.length
  unfolding blocks_for
  set_long = le-div 1 (volume.file_set.length + (volume.size - 1)) volume.size (omega (arith, large)) (omega (arith, positive))
    where
      by : (volume.file_set.length ≡ 0) ⊎ (volume.file_set.length ≡ 0 → ⊥) → 0 < volume.file_set.length
      by (inl h) = absurd (false≢true (sym (ap (λ b. not b) (eq-eqb volume.file_set.length 0 h)) ∙ set_has.0))
      by (inr h) = omega (arith, h)

      positive : 0 < volume.file_set.length
      positive = by (cases_eq volume.file_set.length 0)

  -- the file set's descriptor stands at the head of its extent
  pub set_stands : is_id 256 (id_by (block_of volume.size image) volume.file_set.at.block (places_of volume image volume.file_set.at)) ≡ true
  unfolding id_of site_in
  set_stands = set_has.1

  in_own_extent : in_extent site volume.file_set.at ≡ true
  unfolding site_in
  in_own_extent = in_stretch volume.file_set.at (blocks_for volume.size volume.file_set.length) volume.file_set.at refl (omega arith) (omega (arith, set_long))

  pub set_fixed : f.fixed f.file_set ≡ true
  unfolding frame_in is_fixed site_in
  set_fixed =
      or_right (in_bitmap site volume.file_set.at) (in_extent site volume.file_set.at || is_terminator site volume.file_set.at)
      (or_left (in_extent site volume.file_set.at) (is_terminator site volume.file_set.at) in_own_extent)

  module _ (extent : Short) (named : volume.bitmap ≡ Some extent) (k : ℕ) (low : k < blocks_for volume.size extent.length) where
    abbrev at : Addr
    at = addr 0 (extent.block + k)

    pub in_own_bitmap : in_bitmap site at ≡ true
    unfolding in_bitmap site_in
    in_own_bitmap =
        ap (λ o. in_bitmap_by volume.size volume.shape.base o at) named
        ∙ in_stretch (address volume.shape.base extent.block) (blocks_for volume.size extent.length) at base_zero (omega arith) (omega (arith, low))

    pub bitmap_fixed : f.fixed at ≡ true
    unfolding frame_in is_fixed
    bitmap_fixed = or_left (in_bitmap site at) (in_extent site at || is_terminator site at) in_own_bitmap

    pub set_unlike : f.file_set ≡ at → ⊥
    unfolding is_clear touches site_in frame_in
    set_unlike e =
        let c = (and_parts (is_within (λ a. is_some (site.place a)) site.extent.at (extent_blocks site)) _ (set_parts site g.set).0).1 in
        let b = (and_parts (not (touches (in_bitmap site) site.extent.at (extent_blocks site))) (not (touches site.inner site.extent.at (extent_blocks site))) c).0 in
        let t : list_any (λ block. in_bitmap site (address volume.file_set.at.part block)) (range_with_len volume.file_set.at.block (blocks_for volume.size volume.file_set.length)) ≡ true
        = any_in (λ block. in_bitmap site (address volume.file_set.at.part block)) (range_with_len volume.file_set.at.block (blocks_for volume.size volume.file_set.length)) volume.file_set.at.block
        (in_range (blocks_for volume.size volume.file_set.length) volume.file_set.at.block volume.file_set.at.block (omega arith) (omega (arith, set_long)))
        (ap (in_bitmap site) e ∙ in_own_bitmap) in
        false≢true (sym (ap (λ x. not x) t) ∙ b)
