-- What a mended image breaks of the rules on recognition, files and space, and what of its file set is refused: nothing.
use Rattle.std.proofs.Common.{◌≡◌, ℕ, ◌≤◌, ◌<◌, ◌^◌, ◌&&◌, ◌||◌, not, arith, refl, sym, ◌∙◌, ap, subst, List, length, Bool, true, false, cond, Option, Some, None}
use Rattle.std.specs.Prelude.{is_some, nat_lt, ◌==◌}
use Rattle.std.proofs.lemmas.Bool.{and_parts, and_from, false≢true, ltb-true}
use Rattle.udf_field.specs.declared.address.Addr.{Addr}
use Rattle.udf_field.specs.declared.address.Short.{Short}
use Rattle.udf_model.specs.Bytes.{IsBytes}
use Rattle.udf_model.specs.Image.{block_of}
use Rattle.udf_model.specs.Size.{is_size}
use Rattle.udf_model.specs.Tag.{id_at, is_id}
use Rattle.udf_file_model.specs.Address.{addr, same_addr}
use Rattle.udf_file_model.specs.Content.{block_at, block_by}
use Rattle.udf_file_model.specs.Listing as listing
use Rattle.udf_file_model.specs.Listing.{with_disk}
use Rattle.udf_tree_model.specs.Claimed.{is_free}
use Rattle.udf_tree_model.specs.Frame.{Frame, is_address, is_file_set, is_holder}
use Rattle.udf_tree_model.specs.Refused as tree
use Rattle.udf_volume_model.specs.Profile.{is_rewritable}
use Rattle.udf_volume_model.specs.FileSet as set
use Rattle.udf_volume_model.specs.FileSet.{Site, first_block, has_file_set, id_by, id_of, in_bitmap, is_clear, is_guarded_in, names_further}
use Rattle.udf_volume.specs.Areas.{layout_stated}
use Rattle.udf_volume.specs.Writable.{is_protected}
use Rattle.udf_volume.specs.declared.volume.Volume.{Volume}
use Rattle.udf_rules_model.specs.Bitmap.{bitmap_rule, bitmap_rule_by}
use Rattle.udf_rules_model.specs.Files.{files_in, frame_in, site_in}
use Rattle.udf_rules_model.specs.Findings.{files_hold_by, further_rules_hold, recognition_of, space_holds_by}
use Rattle.udf_rules_model.specs.Integrity.{integrity_holds, names_chain}
use Rattle.udf_rules_model.specs.Recognition.{recognition_holds}
use Rattle.udf_file_mends.specs.FileSet.{cleared_set, frame_after, loses_system, mended_set}
use Rattle.udf_space_mends.specs.IntegrityMend.{CountsFit, SameCounts, origin_of}
use Rattle.udf_space_mends.specs.SlotMend.{on_disk}
use Rattle.udf_space_mends.proofs.Freeing.{bitmap_mended}
use Rattle.udf_space_mends.proofs.Integral.{integrity_mended, unchained}
use Rattle.udf_space_mends.proofs.Slots.{recognition_mended}
use Rattle.udf_mended_image.proofs.Cleared.{further_same, guarded_same, still_set}
use Rattle.udf_mended_image.proofs.Framed.{files_same, frame_same, set_is, set_long, set_was, site_same, site_there}
use Rattle.udf_mended_image.proofs.Stands.{Stands}
use Rattle.udf_mended_image.proofs.Volume.{Reopens}

-- what is known of the files of a disk that has all their mends
pub record FileLaws (f : Frame) (v : listing.Volume) (disk : ℕ → List ℕ) : Type 0 where
  pub rules : files_hold_by (frame_after f v) (with_disk v disk) ≡ true
  pub accepted : tree.refusal (frame_after f v) (with_disk v disk) ≡ None
  pub free : (x : Addr) → is_free (frame_after f v) (with_disk v disk) x ≡ is_free f v x
  pub counted : (blocks : ℕ) → SameCounts f (frame_after f v) v (with_disk v disk) blocks

module _ (image after : List ℕ) (volume : Volume) (sized : is_size volume.size ≡ true) (large : 512 ≤ volume.size) (long : length after ≡ length image)
    (re : Reopens volume.size image after volume) (st : Stands volume.size image after volume)
    (laws : FileLaws (frame_in volume image) (files_in volume image) (block_of volume.size after)) where
  abbrev disk : ℕ → List ℕ
  disk = block_of volume.size image

  abbrev there : ℕ → List ℕ
  there = block_of volume.size after

  abbrev f : Frame
  f = frame_in volume image

  abbrev v : listing.Volume
  v = files_in volume image

  abbrev g : Frame
  g = frame_after (frame_in volume image) (files_in volume image)

  abbrev w : listing.Volume
  w = with_disk (files_in volume image) (block_of volume.size after)

  abbrev site : Site
  site = site_there image after volume large long re st

  -- ---- the file set
  set_by : (P : List ℕ → Type 0) → (loses_system f v ≡ true → P (cleared_set f.file_set.block (block_at v f.file_set))) → P (block_at v f.file_set) → P (mended_set f v)
  set_by P lost stays = by (loses_system f v) refl
    where
      by : (b : Bool) → loses_system f v ≡ b → P (cond b (cleared_set f.file_set.block (block_at v f.file_set)) (block_at v f.file_set))
      by true e = lost e
      by false e = stays

  pub guards_same : is_guarded_in (first_block (site_in re.found after)) ≡ is_guarded_in (first_block (site_in volume image))
  guards_same =
      ap (λ s. is_guarded_in (first_block s)) (site_same image after volume large long re st)
      ∙ ap is_guarded_in (set_is image after volume large long re st)
      ∙ set_by (λ b. is_guarded_in b ≡ is_guarded_in (block_at v f.file_set)) (λ e. guarded_same f.file_set.block (block_at v f.file_set) (set_long image after volume large long re st e)) refl
      ∙ ap is_guarded_in (sym (set_was image after volume large long re st))

  further_there : names_further (first_block site) ≡ names_further (first_block (site_in volume image))
  further_there =
      ap names_further (set_is image after volume large long re st)
      ∙ set_by (λ b. names_further b ≡ names_further (block_at v f.file_set)) (λ e. further_same f.file_set.block (block_at v f.file_set) (set_long image after volume large long re st e)) refl
      ∙ ap names_further (sym (set_was image after volume large long re st))

  -- ---- recognition
  recognition_is : recognition_of re.found after ≡ on_disk (recognition_of volume image) (block_of volume.size after)
  unfolding recognition_of
  recognition_is =
      ap (λ n. record { size = n; blocks = re.found.blocks; disk = block_of n after; layout = layout_stated re.found (block_of n after) }) re.same.size
      ∙ ap (λ n. record { size = volume.size; blocks = n; disk = block_of volume.size after; layout = layout_stated re.found (block_of volume.size after) }) re.same.blocks
      ∙ ap (λ l. record { size = volume.size; blocks = volume.blocks; disk = block_of volume.size after; layout = l }) re.layout

  recognised : recognition_holds (recognition_of re.found after) ≡ true
  unfolding recognition_of block_of
  recognised =
      ap recognition_holds recognition_is
      ∙ recognition_mended (recognition_of volume image) (disk volume.pd) (block_of volume.size after) sized st.recognition

  -- ---- the file set stands
  module _ (stood : set.refusal (site_in volume image) ≡ None) where
    parts : (is_clear (site_in volume image) ≡ true) × (has_file_set (site_in volume image) ≡ true) × (names_further (first_block (site_in volume image)) ≡ false)
    unfolding set.refusal
    parts = by (is_clear (site_in volume image)) (has_file_set (site_in volume image)) (names_further (first_block (site_in volume image))) stood
      where
        by : (a b c : Bool) → cond (a && b) (cond c (Some set.FileSets) None) (Some set.FileSet) ≡ None → (a ≡ true) × (b ≡ true) × (c ≡ false)
        by true true false e = (refl, refl, refl)
        by true true true e = absurd (cc)
        by true false c e = absurd (cc)
        by false b c e = absurd (cc)

    lost_low : loses_system f v ≡ true → f.file_set.block < 2 ^ 32
    unfolding loses_system is_holder
    lost_low e =
        let h = (and_parts (is_holder f v f.file_set) _ e).0 in
        let p = (and_parts (is_some f.system) (is_file_set f v f.file_set) h).1 in
        let q = (and_parts (is_address f.file_set) (is_some (v.place f.file_set)) (and_parts (same_addr f.file_set f.file_set) _ p).1).0 in
        let low : f.file_set.block < 4294967296 = ltb-true _ _ (and_parts (nat_lt f.file_set.part 65536) (nat_lt f.file_set.block 4294967296) q).1 in
        omega (arith, low)

    was_set : has_file_set (site_in volume image) ≡ true
        → (not (volume.file_set.length == 0) ≡ true) × (is_id 256 (id_by (block_of volume.size image) f.file_set.block (v.place f.file_set)) ≡ true)
    unfolding has_file_set id_of site_in frame_in
    was_set h = and_parts (not (volume.file_set.length == 0)) (is_id 256 (id_by (block_of volume.size image) f.file_set.block (v.place f.file_set))) h

    id_there : is_id 256 (id_of site site.extent.at) ≡ true
    unfolding id_of frame_in
    id_there = by (v.place f.file_set) refl st.set stood_there
      where
        stood_there : is_id 256 (id_by (block_of volume.size image) f.file_set.block (v.place f.file_set)) ≡ true
        stood_there = (was_set parts.1).1

        at : (n : ℕ) → v.place f.file_set ≡ Some n → block_of volume.size after n ≡ mended_set f v → is_id 256 (id_at f.file_set.block (block_of volume.size image n)) ≡ true
            → is_id 256 (id_at f.file_set.block (block_of volume.size after n)) ≡ true
        at n p s k =
            ap (λ b. is_id 256 (id_at f.file_set.block b)) s
            ∙ set_by (λ b. is_id 256 (id_at f.file_set.block b) ≡ true)
            (λ e. still_set f.file_set.block (block_at v f.file_set) (set_long image after volume large long re st e) (subst IsBytes (sym (ap (block_by v.disk) p)) (st.files.repairable.bytes n)) (lost_low e)
            (ap (λ o. is_id 256 (id_at f.file_set.block (block_by v.disk o))) p ∙ k))
            (ap (λ o. is_id 256 (id_at f.file_set.block (block_by v.disk o))) p ∙ k)

        by : (o : Option ℕ) → v.place f.file_set ≡ o → block_by (block_of volume.size after) o ≡ mended_set f v → is_id 256 (id_by (block_of volume.size image) f.file_set.block o) ≡ true
            → is_id 256 (id_by (block_of volume.size after) f.file_set.block o) ≡ true
        by None e s k = absurd (false≢true k)
        by (Some n) e s k = at n e s k

    clear_there : is_clear site ≡ true
    unfolding is_clear in_bitmap site_in
    clear_there = clear_as parts.0
      where
        clear_as : is_clear (site_in volume image) ≡ true → is_clear site ≡ true
        clear_as c = c

    has_there : has_file_set site ≡ true
    unfolding has_file_set
    has_there = and_from (not (volume.file_set.length == 0)) (is_id 256 (id_of site site.extent.at)) (was_set parts.1).0 id_there

    pub set_stands : set.refusal (site_in re.found after) ≡ None
    set_stands = ap set.refusal (site_same image after volume large long re st) ∙ here
      where
        here : set.refusal site ≡ None
        here =
            unfold set.refusal in
            ap (λ b. cond (b && has_file_set site) (cond (names_further (first_block site)) (Some set.FileSets) None) (Some set.FileSet)) clear_there
            ∙ ap (λ b. cond b (cond (names_further (first_block site)) (Some set.FileSets) None) (Some set.FileSet)) has_there
            ∙ ap (λ b. cond b (Some set.FileSets) None) (further_there ∙ parts.2)

  -- ---- space
  module _ (fit : CountsFit f v volume.length (origin_of (disk volume.pvd) (disk volume.lvd))) where
    bitmap_there : (o : Option Short) → volume.bitmap ≡ o → bitmap_rule_by g w volume.length o ≡ true
    bitmap_there None e = refl
    bitmap_there (Some extent) e =
        bitmap_mended f g v (disk volume.lvd) volume.length extent (block_of volume.size after) (st.bitmap_placed extent e) (λ n l. laws.free (addr 0 n)) (st.bitmap extent e)

    integrity_there : integrity_holds g w volume.length volume.bitmap volume.integrity ≡ true
    integrity_there =
        integrity_mended f g v (block_of volume.size after) volume.length volume.bitmap (origin_of (disk volume.pvd) (disk volume.lvd)) volume.integrity
        fit st.integrity_placed (laws.counted volume.length) st.integrity

    space_there : space_holds_by re.found g w ≡ true
    space_there =
        ap (λ n. bitmap_rule g w n re.found.bitmap && integrity_holds g w n re.found.bitmap re.found.integrity) re.same.length
        ∙ ap (λ o. bitmap_rule g w volume.length o && integrity_holds g w volume.length o re.found.integrity) re.same.bitmap
        ∙ ap (λ e. bitmap_rule g w volume.length volume.bitmap && integrity_holds g w volume.length volume.bitmap e) re.same.integrity
        ∙ and_from (bitmap_rule g w volume.length volume.bitmap) (integrity_holds g w volume.length volume.bitmap volume.integrity) bitmap_rules integrity_there
      where
        bitmap_rules : bitmap_rule g w volume.length volume.bitmap ≡ true
        bitmap_rules = unfold bitmap_rule in bitmap_there volume.bitmap refl

    pub chain_there : names_chain volume.size disk volume.integrity ≡ false → names_chain re.found.size (block_of re.found.size after) re.found.integrity ≡ false
    chain_there none =
        ap (λ n. names_chain n (block_of n after) re.found.integrity) re.same.size
        ∙ ap (names_chain volume.size (block_of volume.size after)) re.same.integrity
        ∙ unchained f g v (block_of volume.size after) volume.length volume.bitmap (origin_of (disk volume.pvd) (disk volume.lvd)) volume.integrity
        fit st.integrity_placed (laws.counted volume.length) st.integrity none

    pub rules_there : further_rules_hold re.found after ≡ true
    unfolding further_rules_hold
    rules_there =
        and_from _ _ recognised
        (ap (λ x. files_hold_by x (files_in re.found after) && space_holds_by re.found x (files_in re.found after)) (frame_same image after volume large long re st)
        ∙ ap (λ x. files_hold_by g x && space_holds_by re.found g x) (files_same image after volume large long re st)
        ∙ and_from _ _ laws.rules space_there)

  pub tree_there : tree.refusal (frame_in re.found after) (files_in re.found after) ≡ None
  tree_there =
      ap (λ x. tree.refusal x (files_in re.found after)) (frame_same image after volume large long re st)
      ∙ ap (λ x. tree.refusal g x) (files_same image after volume large long re st)
      ∙ laws.accepted

  pub writable_there : is_protected re.found ≡ is_protected volume
  unfolding is_protected
  writable_there = ap (λ b. b || not (is_rewritable re.found.access)) re.same.guarded ∙ ap (λ n. volume.guarded || not (is_rewritable n)) re.same.access
