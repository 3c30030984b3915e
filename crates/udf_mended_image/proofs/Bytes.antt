-- The blocks that the mends write are bytes, and of the size of a block.
use Rattle.std.proofs.Common.{◌≡◌, ℕ, zero, suc, ◌+◌, ◌-◌, ◌<◌, ◌≤◌, arith, refl, ◌∙◌, List, [], ◌∷◌, ◌++◌, length, take, drop, replicate, codes, true, ltb, Option, Some, None, length-take}
use Rattle.std.specs.Prelude.{slice_index}
use Rattle.std.specs.List.{list_all}
use Rattle.std.proofs.lemmas.Bool.{and_parts, ltb-true}
use Rattle.std.proofs.lemmas.List.{length-replicate}
use Rattle.udf_field.specs.declared.address.Short.{Short}
use Rattle.udf_model.specs.Bytes.{IsBytes, number_at, written_at}
use Rattle.udf_model.specs.Tag.{retagged}
use Rattle.udf_model.proofs.Parts.{append_is_bytes, drop_is_bytes, take_is_bytes}
use Rattle.udf_model.proofs.Retagged.{retagged_is_bytes, retagged_length}
use Rattle.udf_model.proofs.Written.{number_is_bytes, written_is_bytes, written_length}
use Rattle.udf_file_model.specs.Address.{addr}
use Rattle.udf_file_model.specs.Content.{block_at, blocks_from}
use Rattle.udf_file_model.specs.CutEntry.{AreBytes}
use Rattle.udf_file_model.specs.Listing.{Volume}
use Rattle.udf_file_model.specs.Wanted.{with_fields}
use Rattle.udf_file_model.proofs.Fields.{AllBefore, before_length, fields_are_bytes}
use Rattle.udf_volume_model.specs.Mended.{terminator}
use Rattle.udf_volume_laws.proofs.Copies.{terminator_length}
use Rattle.udf_space.specs.Area.{encoded, headed}
use Rattle.udf_space.specs.Bits.{packed}
use Rattle.udf_space.proofs.Packing.{packed_is_bytes}
use Rattle.udf_tree_model.specs.Frame.{Frame}
use Rattle.udf_tree_model.specs.Ordinary.{ordinary_directories, ordinary_files}
use Rattle.udf_rules_model.specs.Bitmap.{area_of, free_blocks}
use Rattle.udf_rules_model.specs.Integrity.{mended_id, use_length_in}
use Rattle.udf_file_mends.specs.FileSet.{cleared_set}
use Rattle.udf_file_mends.proofs.Blockwise.{IsWhole}
use Rattle.udf_file_mends.proofs.Wholeness.{block_is_bytes}
use Rattle.udf_space_mends.specs.BitmapMend.{free_bits, mended_area}
use Rattle.udf_space_mends.specs.IntegrityMend.{Origin, corrected, files_left, free_left, fresh, fresh_block, fresh_fields, origin_of, stated_fields}
use Rattle.udf_space_mends.specs.SlotMend.{slot_block}

pub cons_bytes : (b : ℕ) (xs : List ℕ) → b < 256 → IsBytes xs → IsBytes (b ∷ xs)
cons_bytes b xs l h zero = l
cons_bytes b xs l h (suc i) = h i

pub no_bytes : IsBytes []
no_bytes i = omega arith

pub zero_bytes : (n : ℕ) → IsBytes (replicate n 0)
zero_bytes zero = no_bytes
zero_bytes (suc n) = cons_bytes 0 (replicate n 0) (omega arith) (zero_bytes n)

-- bytes of a list that was looked through
pub small_bytes : (xs : List ℕ) → list_all (λ x. ltb x 256) xs ≡ true → IsBytes xs
small_bytes [] e = no_bytes
small_bytes (x ∷ xs) e =
    let p = and_parts (ltb x 256) (list_all (λ x. ltb x 256) xs) e in
    cons_bytes x xs (ltb-true x 256 p.0) (small_bytes xs p.1)

-- ---- the mends of space
abbrev AreSmall : List ℕ → Type 0
AreSmall [] = Unit {0}
AreSmall (x ∷ xs) = (x < 256) × AreSmall xs

small_then : (xs ys : List ℕ) → AreSmall xs → IsBytes ys → IsBytes (xs ++ ys)
small_then [] ys l h = h
small_then (x ∷ xs) ys l h = cons_bytes x (xs ++ ys) l.0 (small_then xs ys l.1 h)

pub terminator_bytes : (size at : ℕ) (like : List ℕ) → IsBytes like → IsBytes (terminator size at like)
unfolding terminator
terminator_bytes size at like h =
    let tag : List ℕ = 8 ∷ 0 ∷ slice_index like 2 ∷ slice_index like 3 ∷ 0 ∷ 0 ∷ slice_index like 6 ∷ slice_index like 7 ∷ [] in
    retagged_is_bytes at 496 (8 ∷ 0 ∷ slice_index like 2 ∷ slice_index like 3 ∷ 0 ∷ 0 ∷ slice_index like 6 ∷ slice_index like 7 ∷ replicate (size - 8) 0)
    (small_then tag (replicate (size - 8) 0) (omega arith, (omega arith, (h 2, (h 3, (omega arith, (omega arith, (h 6, (h 7, tt)))))))) (zero_bytes (size - 8)))

pub cleared_whole : (size location : ℕ) (block : List ℕ) → 512 ≤ size → IsBytes block → length block ≡ size → IsWhole size (cleared_set location block)
unfolding cleared_set
cleared_whole size location block large bytes long =
    let z : length (replicate {A = ℕ} 16 0) ≡ 16 = refl in
    let w : length (written_at 464 (replicate 16 0) block) ≡ length block = written_length 464 (replicate 16 0) block (omega (arith, z, long, large)) in
    record {
      bytes = retagged_is_bytes location (number_at 2 block 10) (written_at 464 (replicate 16 0) block) (written_is_bytes 464 (replicate 16 0) block (zero_bytes 16) bytes);
      long = retagged_length location (number_at 2 block 10) (written_at 464 (replicate 16 0) block) (omega (arith, w, long, large)) ∙ w ∙ long;
    }

pub over_whole : (size : ℕ) (bytes block : List ℕ) → IsBytes bytes → IsBytes block → length block ≡ size → IsWhole size (written_at 0 (take size bytes) block)
over_whole size bytes block b k l = record {
  bytes = written_is_bytes 0 (take size bytes) block (take_is_bytes size bytes b) k;
  long = written_length 0 (take size bytes) block (omega (arith, length-take size bytes, l)) ∙ l;
}

blocks_bytes : (v : Volume) → AreBytes v.disk → (part block n : ℕ) → IsBytes (blocks_from v part block n)
unfolding blocks_from
blocks_bytes v bytes part block zero = no_bytes
blocks_bytes v bytes part block (suc n) =
    append_is_bytes (block_at v (addr part block)) (blocks_from v part (block + 1) n) (block_is_bytes v bytes (addr part block)) (blocks_bytes v bytes part (block + 1) n)

pub area_bytes : (f : Frame) (v : Volume) (logical : List ℕ) (blocks : ℕ) (extent : Short) → AreBytes v.disk → IsBytes (mended_area f v logical blocks extent)
unfolding mended_area encoded headed area_of
area_bytes f v logical blocks extent bytes =
    retagged_is_bytes extent.block 0 _
    (number_is_bytes 4 20 _ _ (number_is_bytes 4 16 _ _ (number_is_bytes 2 6 _ _ (number_is_bytes 1 5 0 _ (number_is_bytes 2 2 _ _ (number_is_bytes 2 0 264 _
    (written_is_bytes 24 (packed (free_bits f v blocks)) _ (packed_is_bytes (free_bits f v blocks)) (take_is_bytes extent.length _ (blocks_bytes v bytes 0 extent.block _)))))))))

-- numbers that are set in a block of a descriptor
stated_before : (size id free blocks files directories : ℕ) → 512 ≤ size → AllBefore size (stated_fields id free blocks files directories)
stated_before size id free blocks files directories h =
    (omega (arith, h), (omega (arith, h), (omega (arith, h), (omega (arith, h), (omega (arith, h), (omega (arith, h), tt))))))

stated_whole : (size id free blocks files directories sector extra : ℕ) (block : List ℕ) → 512 ≤ size → IsBytes block → length block ≡ size
    → IsWhole size (retagged sector extra (with_fields (stated_fields id free blocks files directories) block))
stated_whole size id free blocks files directories sector extra block large bytes long =
    let l : length (with_fields (stated_fields id free blocks files directories) block) ≡ length block
    = before_length (stated_fields id free blocks files directories) block (stated_before (length block) id free blocks files directories (omega (arith, long, large))) in
    record {
      bytes = retagged_is_bytes sector extra (with_fields (stated_fields id free blocks files directories) block) (fields_are_bytes (stated_fields id free blocks files directories) block bytes);
      long = retagged_length sector extra (with_fields (stated_fields id free blocks files directories) block) (omega (arith, l, long, large)) ∙ l ∙ long;
    }

pub corrected_whole : (f : Frame) (v : Volume) (blocks : ℕ) (bitmap : Option Short) (sector : ℕ) (block : List ℕ) → 512 ≤ v.size → IsBytes block → length block ≡ v.size
    → IsWhole v.size (corrected f v blocks bitmap sector block)
unfolding corrected
corrected_whole f v blocks bitmap sector block large bytes long =
    stated_whole v.size (mended_id f v (Some sector)) (free_left f v blocks bitmap block) blocks (files_left f v block) (length (ordinary_directories f v)) sector (72 + use_length_in block) block
    large bytes long

fresh_before : (size revision : ℕ) → 512 ≤ size → AllBefore size (fresh_fields revision)
fresh_before size revision h =
    (omega (arith, h), (omega (arith, h), (omega (arith, h), (omega (arith, h), (omega (arith, h), (omega (arith, h), (omega (arith, h), (omega (arith, h), tt))))))))

abbrev name : List ℕ
name = codes "*UDFTOOLS-R"

stamped_whole : (size : ℕ) (stamp : List ℕ) → 512 ≤ size → IsBytes stamp → length stamp ≤ 12 → IsWhole size (fresh_block size stamp)
stamped_whole size stamp large bytes short =
    let z = length-replicate {A = ℕ} size 0 in
    let n : length name ≡ 11 = refl in
    let l : length (written_at 89 name (replicate size 0)) ≡ length (replicate {A = ℕ} size 0) = written_length 89 name (replicate size 0) (omega (arith, z, n, large)) in
    record {
      bytes = written_is_bytes 16 stamp (written_at 89 name (replicate size 0)) bytes (written_is_bytes 89 name (replicate size 0) (small_bytes name refl) (zero_bytes size));
      long = written_length 16 stamp (written_at 89 name (replicate size 0)) (omega (arith, l, z, short, large)) ∙ l ∙ z;
    }

pub fresh_whole : (f : Frame) (v : Volume) (blocks : ℕ) (origin : Origin) (sector : ℕ) → 512 ≤ v.size → IsBytes origin.stamp → length origin.stamp ≤ 12
    → IsWhole v.size (fresh f v blocks origin sector)
unfolding fresh
fresh_whole f v blocks origin sector large bytes short =
    let b = stamped_whole v.size origin.stamp large bytes short in
    let l : length (with_fields (fresh_fields origin.revision) (fresh_block v.size origin.stamp)) ≡ length (fresh_block v.size origin.stamp)
    = before_length (fresh_fields origin.revision) (fresh_block v.size origin.stamp) (fresh_before (length (fresh_block v.size origin.stamp)) origin.revision (omega (arith, b.long, large))) in
    stated_whole v.size (mended_id f v None) (free_blocks f v blocks) blocks (length (ordinary_files f v)) (length (ordinary_directories f v)) sector 118
    (with_fields (fresh_fields origin.revision) (fresh_block v.size origin.stamp)) large
    (fields_are_bytes (fresh_fields origin.revision) (fresh_block v.size origin.stamp) b.bytes) (l ∙ b.long)

pub end_whole : (size at : ℕ) (like : List ℕ) → 512 ≤ size → IsBytes like → IsWhole size (terminator size at like)
end_whole size at like large bytes = record { bytes = terminator_bytes size at like bytes; long = terminator_length size at like large }

pub origin_short : (primary logical : List ℕ) → length (origin_of primary logical).stamp ≤ 12
unfolding origin_of
origin_short primary logical = omega (arith, length-take 12 (drop 376 primary))

pub origin_bytes : (primary logical : List ℕ) → IsBytes primary → IsBytes (origin_of primary logical).stamp
unfolding origin_of
origin_bytes primary logical h = take_is_bytes 12 (drop 376 primary) (drop_is_bytes 376 primary h)

pub slot_bytes : (size : ℕ) (text : List ℕ) (j : ℕ) → IsBytes text → IsBytes (slot_block size text j)
slot_bytes size text zero h =
    cons_bytes 0 (text ++ (1 ∷ replicate (size - 7) 0)) (omega arith)
    (append_is_bytes text (1 ∷ replicate (size - 7) 0) h (cons_bytes 1 (replicate (size - 7) 0) (omega arith) (zero_bytes (size - 7))))
slot_bytes size text (suc j) h = zero_bytes size
