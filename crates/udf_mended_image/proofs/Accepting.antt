-- What an image that a repair accepts is given, and what it has once it is mended.
use Rattle.std.proofs.Common.{◌≡◌, ℕ, arith, refl, sym, ◌∙◌, ap, subst, List, ◌++◌, Bool, true, false, cond, Option, Some, None, Result, Ok, Err}
use Rattle.udf_model.specs.Bytes.{IsBytes}
use Rattle.udf_model.specs.Image.{block_of, blocks_in}
use Rattle.udf_model.specs.Size.{is_size}
use Rattle.udf_model.specs.Tag.{id_at, is_id}
use Rattle.udf_volume_model.specs.Edits.{look, put_blocks}
use Rattle.udf_volume_model.specs.Kept.{KeptSequence, kept_sequence_of}
use Rattle.udf_volume_model.specs.Mended.{edits}
use Rattle.udf_volume_laws.proofs.Difference.{mended_block}
use Rattle.udf_volume_laws.proofs.Puts.{look_both}
use Rattle.udf_volume_model.specs.FileSet as set
use Rattle.udf_volume_model.specs.Opened.{volume_mended}
use Rattle.udf_tree_model.specs.Refused as tree
use Rattle.udf_layer.specs.declared.missing.Missing.{Missing}
use Rattle.udf_layer.specs.declared.missing.Missing.TheVariants as missing
use Rattle.udf_layer.specs.declared.missing.ProfileItem.TheVariants as item
use Rattle.udf_volume.specs.FileSet as volume_set
use Rattle.udf_volume.specs.Taken.{opening}
use Rattle.udf_volume.specs.declared.volume.Volume.{Volume}
use Rattle.udf_volume.proofs.Described.{opened_ok, size_is}
use Rattle.udf_partitions.proofs.Placing.{partition_inside}
use Rattle.udf_kept.specs.Entries as entries
use Rattle.udf_rules_model.specs.Files.{files_in, frame_in, site_in}
use Rattle.udf_rules_model.specs.Integrity.{names_chain}
use Rattle.udf_files.specs.Refusal.{files_refusal, or_else}
use Rattle.udf_files.proofs.Placed.{set_placed}
use Rattle.udf_mended_image.specs.Accepted.{by_opening, by_refusal, is_kept_from_writing, mended, mended_in, repairing}
use Rattle.udf_mended_image.specs.Further.{further_edits}
use Rattle.udf_mended_image.proofs.Contents.{contents_keep}
use Rattle.udf_mended_image.proofs.Given.{IsGiven, large, ok, size_bounds}
use Rattle.udf_mended_image.proofs.Laid.{few, laid, opened}
use Rattle.udf_mended_image.proofs.After.{behind_made}
use Rattle.udf_mended_image.proofs.Standing.{standing, there_is}
use Rattle.udf_mended_image.proofs.Stands.{Stands}

-- a volume that a repair accepts is opened, and nothing of its files is refused
record IsTaken (size : ℕ) (image : List ℕ) (volume : Volume) : Type 0 where
  opened : opening size image ≡ Ok volume
  unrefused : files_refusal volume image ≡ None

taken : (size : ℕ) (image : List ℕ) (volume : Volume) → repairing size image ≡ Ok volume → IsTaken size image volume
unfolding repairing
taken size image volume e = by (opening size image) refl e
  where
    guard : (one : Volume) (b : Bool) → cond b (Err missing.WriteProtected) (Ok one) ≡ Ok volume → one ≡ volume
    guard one true k = absurd (cc)
    guard one false k = cc

    refusal : (one : Volume) → opening size image ≡ Ok one → (o : Option Missing) → files_refusal one image ≡ o → by_refusal one image o ≡ Ok volume → IsTaken size image volume
    refusal one q (Some reason) r k = absurd (cc)
    refusal one q None r k =
        let same = guard one (is_kept_from_writing one image) k in
        record { opened = q ∙ ap (λ (x : Volume). Ok x) same; unrefused = sym (ap (λ (x : Volume). files_refusal x image) same) ∙ r }

    by : (o : Result Volume Missing) → opening size image ≡ o → by_opening image o ≡ Ok volume → IsTaken size image volume
    by (Err reason) q k = absurd (cc)
    by (Ok one) q k = refusal one q (files_refusal one image) refl k

-- the file set and the entries are not refused
record IsUnrefused (image : List ℕ) (volume : Volume) : Type 0 where
  head : set.refusal (site_in volume image) ≡ None
  tree_of : tree.refusal (frame_in volume image) (files_in volume image) ≡ None

unrefused : (image : List ℕ) (volume : Volume) → files_refusal volume image ≡ None → IsUnrefused image volume
unfolding files_refusal
unrefused image volume e = by (names_chain volume.size (block_of volume.size image) volume.integrity) (set.refusal (site_in volume image)) refl e
  where
    last : (o : Option tree.Refusal) → entries.missing_of o ≡ None → o ≡ None
    last None k = refl
    last (Some tree.Strategy) k = absurd (cc)
    last (Some tree.ExtendedDescriptors) k = absurd (cc)
    last (Some tree.AttributeFile) k = absurd (cc)
    last (Some tree.RootDirectory) k = absurd (cc)

    by : (b : Bool) (o : Option set.Refusal) → set.refusal (site_in volume image) ≡ o
        → cond b (Some (missing.Profile item.IntegrityChain)) (or_else (volume_set.missing_of o) (entries.missing_of (tree.refusal (frame_in volume image) (files_in volume image)))) ≡ None
        → IsUnrefused image volume
    by true o q k = absurd (cc)
    by false (Some set.FileSet) q k = absurd (cc)
    by false (Some set.FileSets) q k = absurd (cc)
    by false None q k = record { head = q; tree_of = last (tree.refusal (frame_in volume image) (files_in volume image)) k }

pub sized_by : (size : ℕ) (image : List ℕ) (volume : Volume) → opening size image ≡ Ok volume → volume.size ≡ size
sized_by size image volume e = let o = opened_ok size image volume e in size_is size image volume o.0 o.1

pub given : (size : ℕ) (image : List ℕ) (volume : Volume) → is_size size ≡ true → IsBytes image → repairing size image ≡ Ok volume → IsGiven image volume
given size image volume sized bytes e =
    let t = taken size image volume e in
    let same = sized_by size image volume t.opened in
    let here : opening volume.size image ≡ Ok volume = ap (λ n. opening n image) same ∙ t.opened in
    let is : is_size volume.size ≡ true = ap is_size same ∙ sized in
    let u = unrefused image volume t.unrefused in
    let large = (size_bounds volume.size is).0 in
    let i = partition_inside volume (laid image volume large here) in
    record {
      sized = is;
      bytes = bytes;
      opened = here;
      set = u.head;
      files = u.tree_of;
      placed = set_placed volume image (omega (arith, i, few image volume large here)) u.head;
    }

pub mended_as : (size : ℕ) (image : List ℕ) (volume : Volume) → repairing size image ≡ Ok volume → mended size image ≡ put_blocks size (further_edits volume image) (volume_mended size image)
unfolding mended
mended_as size image volume e = ap (mended_in size image) e

-- at the address after the file set's extent a list ends where one ended, and nowhere else
behind : (image : List ℕ) (volume : Volume) (g : IsGiven image volume) → set.in_bitmap (site_in volume image) (frame_in volume image).after ≡ false
    → (n : ℕ) → (files_in volume image).place (frame_in volume image).after ≡ Some n
    → is_id 8 (id_at (frame_in volume image).after.block (block_of volume.size (put_blocks volume.size (further_edits volume image) (volume_mended volume.size image)) n))
    ≡ is_id 8 (id_at (frame_in volume image).after.block (block_of volume.size image n))
behind image volume g out n place =
    ap (λ b. is_id 8 (id_at (frame_in volume image).after.block b)) (there_is image volume g n)
    ∙ behind_made image volume g n place out (λ old. contents_keep (frame_in volume image) (files_in volume image) (ok image volume g) (large image volume g) n place old)

-- what the mended image of an accepted one has at its sectors
pub stands : (size : ℕ) (image : List ℕ) (volume : Volume) → is_size size ≡ true → IsBytes image → repairing size image ≡ Ok volume
    → Stands size image (mended size image) volume
stands size image volume sized bytes e =
    let t = taken size image volume e in
    let same = sized_by size image volume t.opened in
    let g = given size image volume sized bytes e in
    let P : List ℕ → Type 0 = λ after. Stands size image after volume in
    let Q : ℕ → Type 0 = λ n. Stands n image (put_blocks n (further_edits volume image) (volume_mended n image)) volume in
    subst P (sym (mended_as size image volume e)) (subst Q same (standing image volume g (behind image volume g)))

-- each block of the mended image is that of the further edits, else that of the volume's own, else the one that was there
pub made_of : (size : ℕ) (image : List ℕ) (volume : Volume) (sequence : KeptSequence) (n : ℕ) → is_size size ≡ true → IsBytes image → repairing size image ≡ Ok volume
    → kept_sequence_of size image ≡ Some sequence
    → block_of size (mended size image) n ≡ look n (further_edits volume image ++ edits size (blocks_in size image) (block_of size image) sequence) (block_of size image n)
made_of size image volume sequence n sized bytes e found =
    let t = taken size image volume e in
    let same = sized_by size image volume t.opened in
    let g = given size image volume sized bytes e in
    let P : List ℕ → Type 0 = λ after. block_of size after n ≡ look n (further_edits volume image ++ edits size (blocks_in size image) (block_of size image) sequence) (block_of size image n) in
    let Q : ℕ → Type 0 = λ s. kept_sequence_of s image ≡ Some sequence
    → block_of s (put_blocks s (further_edits volume image) (volume_mended s image)) n
    ≡ look n (further_edits volume image ++ edits s (blocks_in s image) (block_of s image) sequence) (block_of s image n) in
    subst P (sym (mended_as size image volume e)) (subst Q same (own g) found)
  where
    own : (g : IsGiven image volume) → kept_sequence_of volume.size image ≡ Some sequence
        → block_of volume.size (put_blocks volume.size (further_edits volume image) (volume_mended volume.size image)) n
        ≡ look n (further_edits volume image ++ edits volume.size (blocks_in volume.size image) (block_of volume.size image) sequence) (block_of volume.size image n)
    own g there =
        there_is image volume g n
        ∙ ap (look n (further_edits volume image)) (mended_block volume.size image sequence n (large image volume g) (opened image volume (large image volume g) g.opened) there)
        ∙ sym (look_both n (further_edits volume image) (edits volume.size (blocks_in volume.size image) (block_of volume.size image) sequence) (block_of volume.size image n))
