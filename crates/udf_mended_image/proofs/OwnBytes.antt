-- The mended image of a volume has bytes alone.
use Rattle.std.proofs.Common.{◌≡◌, ℕ, zero, suc, ◌+◌, ◌-◌, ◌≤◌, refl, sym, ◌∙◌, ap, subst, List, [], ◌∷◌, ◌++◌, length, take, drop, Bool, true, false, cond, leb, Option, Some, None, Ok}
use Rattle.std.specs.Prelude.{◌==◌, option_map}
use Rattle.std.specs.List.{flat_map}
use Rattle.udf_model.specs.Bytes.{IsBytes}
use Rattle.udf_model.specs.Image.{block_of, blocks_in}
use Rattle.udf_model.specs.Tag.{crc_length, is_id, relocated, retagged, whole_id}
use Rattle.udf_model.proofs.Parts.{append_is_bytes, drop_is_bytes, take_is_bytes}
use Rattle.udf_model.proofs.Relocated.{relocated_is_bytes}
use Rattle.udf_model.proofs.Retagged.{retagged_is_bytes}
use Rattle.udf_file_model.specs.CutEntry.{AreBytes}
use Rattle.udf_volume_model.specs.Anchor.{blocks_for}
use Rattle.udf_volume_model.specs.AllRules.{layout_in}
use Rattle.udf_volume_model.specs.Edits.{look}
use Rattle.udf_volume_model.specs.Kept.{KeptSequence, kept, other}
use Rattle.udf_volume_model.specs.Maps.{SparingMap}
use Rattle.udf_volume_model.specs.Mended.{anchor_edits, block_by, copies, edits, end_block, logical_block, sequence_edits, terminator}
use Rattle.udf_volume_model.specs.Opened.{volume_mended}
use Rattle.udf_volume_model.specs.Prevailing.{prevailing_index}
use Rattle.udf_volume_model.specs.Rules.{anchors_hold, bad_of, eligible, sequences_hold}
use Rattle.udf_volume_model.specs.SparingRule.{blocks_cut, copies_by, copies_of, deviating, table_blocks, table_copy, table_edits}
use Rattle.udf_volume_model.specs.SparingTable.{bytes_from, listed_area, listed_number, prevailing_area, prevailing_table, table_area, table_end}
use Rattle.udf_volume_model.specs.Stated.{sparing}
use Rattle.udf_volume_laws.proofs.Final.{edits_within, mended_is}
use Rattle.udf_volume_laws.proofs.Puts.{block_after, chosen}
use Rattle.udf_volume.specs.Taken.{opening}
use Rattle.udf_volume.specs.declared.volume.Volume.{Volume}
use Rattle.udf_file_mends.proofs.Sited.{look_joined}
use Rattle.udf_mended_image.proofs.Bytes.{no_bytes, terminator_bytes}
use Rattle.udf_mended_image.proofs.Laid.{describes, held, opened, sequence}

-- what is looked up in these edits is of bytes
abbrev Keep : List (ℕ × List ℕ) → Type 0
Keep xs = (n : ℕ) (block : List ℕ) → IsBytes block → IsBytes (look n xs block)

keep_none : Keep []
unfolding look
keep_none n block h = h

keep_first : (m : ℕ) (put : List ℕ) (xs : List (ℕ × List ℕ)) → IsBytes put → Keep xs → Keep ((m, put) ∷ xs)
unfolding look
keep_first m put xs b h n block k = by (n == m)
  where
    by : (t : Bool) → IsBytes (cond t put (look n xs block))
    by true = b
    by false = h n block k

keep_both : (xs ys : List (ℕ × List ℕ)) → Keep xs → Keep ys → Keep (xs ++ ys)
keep_both xs ys h k n block b = subst IsBytes (sym (look_joined n xs ys block)) (h n (look n ys block) (k n block b))

module _ (size : ℕ) (disk : ℕ → List ℕ) (bytes : AreBytes disk) where
  end_bytes : (at : ℕ) (block like : List ℕ) → IsBytes block → IsBytes like → IsBytes (end_block size at block like)
  unfolding end_block
  end_bytes at block like h k = by (is_id 8 (whole_id block))
    where
      by : (b : Bool) → IsBytes (cond b (relocated at block) (terminator size at like))
      by true = relocated_is_bytes at block h
      by false = terminator_bytes size at like k

  keep_copies : (like : List ℕ) → IsBytes like → (from to count : ℕ) → Keep (copies size disk like from to count)
  unfolding copies
  keep_copies like h from to zero = keep_first to (end_block size to (disk from) like) [] (end_bytes to (disk from) like (bytes from) h) keep_none
  keep_copies like h from to (suc count) =
      keep_first to (relocated to (disk from)) (copies size disk like (from + 1) (to + 1) count) (relocated_is_bytes to (disk from) (bytes from)) (keep_copies like h (from + 1) (to + 1) count)

  logical_bytes : (v : KeptSequence) → IsBytes (logical_block disk v)
  unfolding logical_block
  logical_bytes v = by (prevailing_index 6 [] v.list)
    where
      by : (o : Option ℕ) → IsBytes (block_by disk (kept v).start o)
      by None = no_bytes
      by (Some index) = bytes ((kept v).start + index)

  keep_sequences : (v : KeptSequence) → Keep (sequence_edits size disk v)
  unfolding sequence_edits
  keep_sequences v = by (sequences_hold size disk v)
    where
      by : (b : Bool) → Keep (cond b [] (copies size disk (logical_block disk v) (kept v).start (other v).start (length v.list)))
      by true = keep_none
      by false = keep_copies (logical_block disk v) (logical_bytes v) (kept v).start (other v).start (length v.list)

  keep_chosen : (place : ℕ) (xs : List ℕ) → Keep (chosen (λ n. relocated n (disk place)) xs)
  keep_chosen place [] = keep_none
  keep_chosen place (x ∷ xs) = keep_first x (relocated x (disk place)) (chosen (λ n. relocated n (disk place)) xs) (relocated_is_bytes x (disk place) (bytes place)) (keep_chosen place xs)

  keep_anchors : (blocks : ℕ) (v : KeptSequence) → Keep (anchor_edits blocks (layout_in size disk v) disk v)
  unfolding anchor_edits
  keep_anchors blocks v = by (anchors_hold blocks (layout_in size disk v) disk v)
    where
      by : (b : Bool) → Keep (cond b [] (chosen (λ n. relocated n (disk v.place)) (bad_of disk v (eligible blocks (layout_in size disk v)))))
      by true = keep_none
      by false = keep_chosen v.place (bad_of disk v (eligible blocks (layout_in size disk v)))

  row_bytes : (at count : ℕ) → IsBytes (bytes_from disk at count)
  unfolding bytes_from
  row_bytes at zero = no_bytes
  row_bytes at (suc count) = append_is_bytes (disk at) (bytes_from disk (at + 1) count) (bytes at) (row_bytes (at + 1) count)

  copy_bytes : (at : ℕ) (table : List ℕ) → IsBytes table → IsBytes (table_copy at table)
  unfolding table_copy
  copy_bytes at table h = by (leb (16 + crc_length table) (table_end table))
    where
      by : (b : Bool) → IsBytes (cond b (relocated at (take (table_end table) table)) (retagged at (table_end table - 16) (take (table_end table) table)))
      by true = relocated_is_bytes at (take (table_end table) table) (take_is_bytes (table_end table) table h)
      by false = retagged_is_bytes at (table_end table - 16) (take (table_end table) table) (take_is_bytes (table_end table) table h)

  keep_cut : (at count : ℕ) (area : List ℕ) → IsBytes area → Keep (blocks_cut size at count area)
  unfolding blocks_cut
  keep_cut at zero area h = keep_none
  keep_cut at (suc count) area h =
      keep_first at (take size area) (blocks_cut size (at + 1) count (drop size area)) (take_is_bytes size area h) (keep_cut (at + 1) count (drop size area) (drop_is_bytes size area h))

  keep_tables : (table : List ℕ) → IsBytes table → (xs : List ℕ) → Keep (flat_map (table_blocks size disk table) xs)
  unfolding table_blocks
  keep_tables table h [] = keep_none
  keep_tables table h (at ∷ xs) =
      keep_both (table_blocks size disk table at) (flat_map (table_blocks size disk table) xs)
      (keep_cut at (blocks_for size (table_end table)) (table_copy at table ++ drop (table_end table) (bytes_from disk at (blocks_for size (table_end table))))
      (append_is_bytes (table_copy at table) (drop (table_end table) (bytes_from disk at (blocks_for size (table_end table)))) (copy_bytes at table h)
      (drop_is_bytes (table_end table) (bytes_from disk at (blocks_for size (table_end table))) (row_bytes at (blocks_for size (table_end table))))))
      (keep_tables table h xs)

  prevailing_bytes : (s : SparingMap) (table : List ℕ) → prevailing_area size disk s ≡ Some table → IsBytes table
  unfolding prevailing_area table_area
  prevailing_bytes s table e = by (prevailing_table (listed_number size disk s) (length s.tables)) e
    where
      some_is : (x y : List ℕ) → Some x ≡ Some y → x ≡ y
      some_is x y i = cc

      by : (o : Option ℕ) → option_map (listed_area size disk s) o ≡ Some table → IsBytes table
      by None k = absurd (cc)
      by (Some i) k = subst IsBytes (some_is (listed_area size disk s i) table k) (row_bytes _ (blocks_for size s.bytes))

  keep_listed : (o : Option SparingMap) → Keep (copies_of size disk o)
  keep_listed None = keep_none
  keep_listed (Some s) = by (prevailing_area size disk s) refl
    where
      by : (o : Option (List ℕ)) → prevailing_area size disk s ≡ o → Keep (copies_by size disk s o)
      by None e = keep_none
      by (Some table) e = keep_tables table (prevailing_bytes s table e) (deviating size disk s table)

  pub keep_edits : (blocks : ℕ) (v : KeptSequence) → Keep (edits size blocks disk v)
  unfolding edits table_edits
  keep_edits blocks v =
      keep_both (sequence_edits size disk v) (anchor_edits blocks (layout_in size disk v) disk v ++ table_edits size disk v.list) (keep_sequences v)
      (keep_both (anchor_edits blocks (layout_in size disk v) disk v) (table_edits size disk v.list) (keep_anchors blocks v) (keep_listed (sparing v.list)))

module _ (image : List ℕ) (volume : Volume) (large : 512 ≤ volume.size) (is : opening volume.size image ≡ Ok volume) (bytes : AreBytes (block_of volume.size image)) where
  pub own_bytes : AreBytes (block_of volume.size (volume_mended volume.size image))
  own_bytes n =
      subst IsBytes
      (sym (ap (λ (b : List ℕ). block_of volume.size b n) (mended_is volume.size image (sequence image volume large is) (opened image volume large is) (describes image volume large is).found)
      ∙ block_after volume.size (edits volume.size (blocks_in volume.size image) (block_of volume.size image) (sequence image volume large is)) image n
      (edits_within volume.size image (sequence image volume large is) (held image volume large is))))
      (keep_edits volume.size (block_of volume.size image) bytes (blocks_in volume.size image) (sequence image volume large is) n (block_of volume.size image n) (bytes n))
