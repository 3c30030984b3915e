-- What the mend of the rule on integrity, number 13, writes: a logical volume integrity descriptor (ECMA-167 3/10.10, UDF 2.2.6).
use Rattle.std.specs.Prelude.{◌≡◌, ◌<◌, ◌≤◌, ◌^◌, ℕ, ◌+◌, ◌==◌, ◌||◌, nat_lt, if◌then◌else◌, Option, Some, None, List, [], ◌∷◌, length, take, drop, replicate, codes}
use Rattle.udf_field.specs.declared.address.Short.{Short}
use Rattle.udf_field.specs.declared.address.Span.{Span}
use Rattle.udf_model.specs.Bytes.{IsBytes, number_at, written_at}
use Rattle.udf_model.specs.Tag.{retagged}
use Rattle.udf_file_model.specs.Listing.{Volume}
use Rattle.udf_file_model.specs.Wanted.{Field, field, with_fields}
use Rattle.udf_volume_model.specs.Anchor.{blocks_for}
use Rattle.udf_volume_model.specs.Edits.{look}
use Rattle.udf_volume_model.specs.Mended.{terminator}
use Rattle.udf_tree_model.specs.Frame.{Frame}
use Rattle.udf_tree_model.specs.Ordinary.{files_named, ordinary_directories, ordinary_files}
use Rattle.udf_rules_model.specs.Bitmap.{free_blocks}
use Rattle.udf_rules_model.specs.Integrity.{files_in, greatest_id, integrity_holds, is_formed, mended_id, prevailing_integrity, use_length_in}

-- what a new descriptor takes from the volume: the recording time of the primary volume descriptor (3/10.1.16) and the revision in
-- the suffix of the logical volume descriptor's domain (UDF 2.1.5.3)
pub record Origin : Type 0 where
  pub stamp : List ℕ
  pub revision : ℕ

-- 3/10.1.16 at 376, 3/10.6.6 at 216
unfoldable pub origin_of : List ℕ → List ℕ → Origin
origin_of primary logical = record { stamp = take 12 (drop 376 primary); revision = number_at 2 logical 240 }

-- the free space is set where the partition has a bitmap
abbrev pub free_left : Frame → Volume → ℕ → Option Short → List ℕ → ℕ
free_left f v blocks None block = number_at 4 block 80
free_left f v blocks (Some bitmap) block = free_blocks f v blocks

-- both ways of counting files stand; else it is the number of ordinary entries that are no directories
abbrev pub files_left : Frame → Volume → List ℕ → ℕ
files_left f v block =
    if (files_in block == length (ordinary_files f v)) || (files_in block == files_named f v) then files_in block
    else length (ordinary_files f v)

-- 3/10.10.3 to 7, UDF 2.2.6.4: type (closed), next unique identifier, free space and size of the one partition, files, directories
abbrev pub stated_fields : ℕ → ℕ → ℕ → ℕ → ℕ → List Field
stated_fields id free blocks files directories =
    field 4 28 1 ∷ field 8 40 id ∷ field 4 80 free ∷ field 4 84 blocks ∷ field 4 120 files ∷ field 4 124 directories ∷ []

-- a descriptor of one partition that has room for the counts, with each of them right
unfoldable pub corrected : Frame → Volume → ℕ → Option Short → ℕ → List ℕ → List ℕ
corrected f v blocks bitmap sector block =
    retagged sector (72 + use_length_in block) (with_fields
    (stated_fields (mended_id f v (Some sector)) (free_left f v blocks bitmap block) blocks (files_left f v block) (length (ordinary_directories f v)))
    block)

-- UDF 2.2.6.4: beside the counts the least revisions to read and to write, and the greatest written
abbrev pub fresh_fields : ℕ → List Field
fresh_fields revision =
    field 2 0 9 ∷ field 2 2 (if nat_lt revision 512 then 2 else 3) ∷ field 2 6 1 ∷ field 4 72 1 ∷ field 4 76 46
    ∷ field 2 128 revision ∷ field 2 130 revision ∷ field 2 132 revision ∷ []

-- a block with the recording time, and the identifier of the implementation (UDF 2.1.5)
abbrev pub fresh_block : ℕ → List ℕ → List ℕ
fresh_block size stamp = written_at 16 stamp (written_at 89 (codes "*UDFTOOLS-R") (replicate size 0))

-- a new descriptor of the one partition: tag version 2 below revision 2.00, else 3, and serial number 1
unfoldable pub fresh : Frame → Volume → ℕ → Origin → ℕ → List ℕ
fresh f v blocks origin sector =
    retagged sector 118 (with_fields
    (stated_fields (mended_id f v None) (free_blocks f v blocks) blocks (length (ordinary_files f v)) (length (ordinary_directories f v)))
    (with_fields (fresh_fields origin.revision) (fresh_block v.size origin.stamp)))

-- a terminating descriptor behind it, where the extent has a second block
abbrev pub fresh_end : Volume → ℕ → List ℕ → ℕ → List (ℕ × List ℕ)
fresh_end v start like blocks = if nat_lt 1 blocks then (start + 1, terminator v.size (start + 1) like) ∷ [] else []

abbrev pub integrity_edits_by : Frame → Volume → ℕ → Option Short → Origin → Span → Option ℕ → List (ℕ × List ℕ)
integrity_edits_by f v blocks bitmap origin extent None =
    (extent.start, fresh f v blocks origin extent.start)
    ∷ fresh_end v extent.start (fresh f v blocks origin extent.start) (blocks_for v.size extent.length)
integrity_edits_by f v blocks bitmap origin extent (Some sector) =
    (sector, if is_formed (v.disk sector) then corrected f v blocks bitmap sector (v.disk sector) else fresh f v blocks origin sector) ∷ []

-- where the rule is broken: of the prevailing descriptor the fields that are wrong, where it has one partition and room for the
-- counts; else a new one in its place, or in the first block of the extent where none prevails
unfoldable pub integrity_edits : Frame → Volume → ℕ → Option Short → Origin → Span → List (ℕ × List ℕ)
integrity_edits f v blocks bitmap origin extent =
    if integrity_holds f v blocks bitmap extent then []
    else integrity_edits_by f v blocks bitmap origin extent (prevailing_integrity v.size v.disk extent)

-- what is counted for the descriptor is the same of both
pub record SameCounts (f g : Frame) (v w : Volume) (blocks : ℕ) : Type 0 where
  pub free : free_blocks g w blocks ≡ free_blocks f v blocks
  pub id : greatest_id g w ≡ greatest_id f v
  pub files : length (ordinary_files g w) ≡ length (ordinary_files f v)
  pub named : files_named g w ≡ files_named f v
  pub directories : length (ordinary_directories g w) ≡ length (ordinary_directories f v)

-- what is counted fits the fields of a descriptor, and so do the recording time and the revision
pub record CountsFit (f : Frame) (v : Volume) (blocks : ℕ) (origin : Origin) : Type 0 where
  pub few : blocks < 2 ^ 32
  pub id : greatest_id f v < 2 ^ 63
  pub files : length (ordinary_files f v) < 2 ^ 32
  pub directories : length (ordinary_directories f v) < 2 ^ 32
  pub stamp : length origin.stamp ≡ 12
  pub bytes : IsBytes origin.stamp
  pub revision : origin.revision < 2 ^ 16

-- the sectors of an extent of integrity descriptors hold whole blocks
pub record IsExtentPlaced (v : Volume) (extent : Span) : Type 0 where
  pub least : 512 ≤ v.size
  pub most : v.size ≤ 4096
  pub low : extent.start + blocks_for v.size extent.length ≤ 2 ^ 32
  pub whole : (n : ℕ) → extent.start ≤ n → n < extent.start + blocks_for v.size extent.length → length (v.disk n) ≡ v.size
  pub bytes : (n : ℕ) → IsBytes (v.disk n)

-- each sector of the extent has on another disk what these edits make of it
pub record HasExtentEdits (v : Volume) (extent : Span) (edits : List (ℕ × List ℕ)) (disk : ℕ → List ℕ) : Type 0 where
  pub each : (n : ℕ) → extent.start ≤ n → n < extent.start + blocks_for v.size extent.length → disk n ≡ look n edits (v.disk n)
