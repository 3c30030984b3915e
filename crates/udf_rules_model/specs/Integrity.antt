-- The logical volume integrity sequence (ECMA-167 3/8.8.2, 3/10.10; UDF 2.2.6), and the rule on its prevailing descriptor,
-- number 13. The profile has one partition map, that of the base partition.
use Rattle.std.specs.Prelude.{ℕ, Bool, true, false, not, ◌+◌, ◌*◌, ◌&&◌, ◌||◌, ◌==◌, nat_le, nat_lt, max, count_by, filter, length, if◌then◌else◌, is_none, List, [], ◌∷◌, map, Option, Some, None, sum_by}
use Rattle.std.specs.List.{list_all, range_with_len, take_while}
use Rattle.udf_field.specs.declared.address.Addr.{Addr}
use Rattle.udf_field.specs.declared.address.Short.{Short}
use Rattle.udf_field.specs.declared.address.Span.{Span}
use Rattle.udf_model.specs.Bytes.{number_at}
use Rattle.udf_model.specs.Tag.{id_at, is_id}
use Rattle.udf_file_model.specs.Listing.{Volume}
use Rattle.udf_volume_model.specs.Anchor.{blocks_for}
use Rattle.udf_volume_model.specs.Rules.{Finding, Sector}
use Rattle.udf_tree_model.specs.Counts.{ordinary_entries, wanted_id}
use Rattle.udf_tree_model.specs.Frame.{Frame}
use Rattle.udf_tree_model.specs.Ordinary.{files_named, ordinary_directories, ordinary_files}
use Rattle.udf_rules_model.specs.Bitmap.{free_blocks}
use Rattle.udf_rules_model.specs.Found.{unless}

-- what a descriptor states: its type, the next unique identifier, the number of partitions, and the length of its implementation
-- use; free and size table come first, one field a partition
abbrev pub type_in : List ℕ → ℕ
type_in block = number_at 4 block 28

abbrev pub next_extent_in : List ℕ → ℕ
next_extent_in block = number_at 4 block 32

abbrev pub next_id_in : List ℕ → ℕ
next_id_in block = number_at 8 block 40

abbrev pub partitions_in : List ℕ → ℕ
partitions_in block = number_at 4 block 72

abbrev pub use_length_in : List ℕ → ℕ
use_length_in block = number_at 4 block 76

-- the descriptor stands whole at its sector, and its tables and implementation use end in the block
unfoldable pub is_integrity : ℕ → ℕ → List ℕ → Bool
is_integrity size sector block =
    is_id 9 (id_at sector block) && nat_le (80 + 8 * partitions_in block + use_length_in block) size

-- the sectors of the extent before the first that holds none
unfoldable pub integrity_front : ℕ → (ℕ → List ℕ) → Span → List ℕ
integrity_front size disk extent =
    take_while (λ sector. is_integrity size sector (disk sector)) (range_with_len extent.start (blocks_for size extent.length))

abbrev pub last_of : List ℕ → Option ℕ
last_of [] = None
last_of (x ∷ []) = Some x
last_of (x ∷ (y ∷ ys)) = last_of (y ∷ ys)

-- the sector of the descriptor that prevails: the last of them
unfoldable pub prevailing_integrity : ℕ → (ℕ → List ℕ) → Span → Option ℕ
prevailing_integrity size disk extent = last_of (integrity_front size disk extent)

abbrev pub chains_by : (ℕ → List ℕ) → Option ℕ → Bool
chains_by disk None = false
chains_by disk (Some sector) = not (next_extent_in (disk sector) == 0)

-- the prevailing descriptor names a further extent of integrity descriptors (3/10.10.4)
unfoldable pub names_chain : ℕ → (ℕ → List ℕ) → Span → Bool
names_chain size disk extent = chains_by disk (prevailing_integrity size disk extent)

-- UDF 2.2.6.4: the numbers of files and of directories, after the entity of the implementation use
abbrev pub files_in : List ℕ → ℕ
files_in block = number_at 4 block (80 + 8 * partitions_in block + 32)

abbrev pub directories_in : List ℕ → ℕ
directories_in block = number_at 4 block (80 + 8 * partitions_in block + 36)

-- the greatest wanted identifier of an ordinary entry
abbrev pub greatest : List ℕ → ℕ
greatest [] = 0
greatest (x ∷ xs) = max x (greatest xs)

unfoldable pub greatest_id : Frame → Volume → ℕ
greatest_id f v = greatest (map (wanted_id f v) (ordinary_entries f v))

-- UDF 2.2.6.1 and 3.2.1.1: at least 16, and above each identifier
unfoldable pub is_next_id : Frame → Volume → ℕ → Bool
is_next_id f v id = nat_le 16 id && nat_lt (greatest_id f v) id

-- the free space is stated where the partition has a bitmap
abbrev pub free_is_stated : Frame → Volume → ℕ → Option Short → List ℕ → Bool
free_is_stated f v blocks None block = true
free_is_stated f v blocks (Some bitmap) block = number_at 4 block 80 == free_blocks f v blocks

-- one partition, and an implementation use with the counts of files (UDF 2.2.6.4)
unfoldable pub is_formed : List ℕ → Bool
is_formed block = (partitions_in block == 1) && nat_le 46 (use_length_in block)

-- the descriptor is closed, and all that it counts is right
unfoldable pub is_stated : Frame → Volume → ℕ → Option Short → List ℕ → Bool
is_stated f v blocks bitmap block =
    (type_in block == 1)
    && (is_formed block
    && (free_is_stated f v blocks bitmap block
    && ((number_at 4 block 84 == blocks)
    && (is_next_id f v (next_id_in block)
    && (((files_in block == length (ordinary_files f v)) || (files_in block == files_named f v))
    && (directories_in block == length (ordinary_directories f v)))))))

abbrev pub is_stated_by : Frame → Volume → ℕ → Option Short → Option ℕ → Bool
is_stated_by f v blocks bitmap None = false
is_stated_by f v blocks bitmap (Some sector) = is_stated f v blocks bitmap (v.disk sector)

-- The rule on integrity, of a volume with a partition of so many blocks and an extent of integrity descriptors; it binds where that
-- extent has a length.
unfoldable pub integrity_holds : Frame → Volume → ℕ → Option Short → Span → Bool
integrity_holds f v blocks bitmap extent =
    (extent.length == 0) || is_stated_by f v blocks bitmap (prevailing_integrity v.size v.disk extent)

-- the next identifier after the mend: the one that is stated where that is right, else the least that is
abbrev pub mended_id : Frame → Volume → Option ℕ → ℕ
mended_id f v None = max 16 (greatest_id f v + 1)
mended_id f v (Some sector) =
    if is_formed (v.disk sector) && is_next_id f v (next_id_in (v.disk sector)) then next_id_in (v.disk sector)
    else max 16 (greatest_id f v + 1)

abbrev pub sector_or : ℕ → Option ℕ → ℕ
sector_or first None = first
sector_or first (Some sector) = sector

-- without a descriptor 2, which is no type
abbrev pub type_or_none : (ℕ → List ℕ) → Option ℕ → ℕ
type_or_none disk None = 2
type_or_none disk (Some sector) = type_in (disk sector)

-- the sector of the prevailing descriptor or the first one of the extent, with its type and the next identifier after the mend
unfoldable pub integrity_findings : Frame → Volume → ℕ → Option Short → Span → List Finding
integrity_findings f v blocks bitmap extent =
    unless (integrity_holds f v blocks bitmap extent) (record {
      rule = 13;
      place = Sector (sector_or extent.start (prevailing_integrity v.size v.disk extent));
      first = type_or_none v.disk (prevailing_integrity v.size v.disk extent);
      second = mended_id f v (prevailing_integrity v.size v.disk extent);
    })
