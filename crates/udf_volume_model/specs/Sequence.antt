-- Volume descriptor sequences (ECMA-167 3/8.4.2): what a block says in one, and the list of an extent. The location in a
-- block's tag is not looked at.
use Rattle.std.specs.Prelude.{ℕ, Bool, true, false, Option, Some, None, ◌==◌, ◌||◌, if◌then◌else◌, List, [], ◌∷◌, drop, map, option_map}
use Rattle.std.specs.List.{range_with_len}
use Rattle.udf_model.specs.Tag.{whole_id}
use Rattle.udf_model.specs.Image.{is_zeros}

-- a descriptor: the identifier of its tag, and its bytes from 16 on
pub record Descriptor : Type 0 where
  pub id : ℕ
  pub body : List ℕ

pub data View : Type 0 where
  End : View
  Spoiled : View
  Listed : Descriptor → View

-- the identifiers of volume descriptors (3/7.2.1): primary 1, volume descriptor pointer 3, implementation use 4,
-- partition 5, logical volume 6, unallocated space 7
unfoldable pub is_listed : ℕ → Bool
is_listed id = (id == 1) || ((id == 3) || ((id == 4) || ((id == 5) || ((id == 6) || (id == 7)))))

-- a block of zeros ends a list, and any other block that no descriptor is spoils it
unfoldable pub other_view : List ℕ → View
other_view block = if is_zeros block then End else Spoiled

-- a terminating descriptor (identifier 8) ends a list
abbrev pub view_by : List ℕ → Option ℕ → View
view_by block None = other_view block
view_by block (Some id) =
    if id == 8 then End
    else if is_listed id then Listed (record { id = id; body = drop 16 block })
    else other_view block

unfoldable pub view_of : List ℕ → View
view_of block = view_by block (whole_id block)

-- the descriptors of the list that begins these blocks, where no block spoils it
unfoldable pub listed : List View → Option (List Descriptor)
listed [] = Some []
listed (End ∷ rest) = Some []
listed (Spoiled ∷ rest) = None
listed (Listed descriptor ∷ rest) = option_map (λ others. descriptor ∷ others) (listed rest)

-- the descriptors before the list ends or is spoilt
unfoldable pub front_of : List View → List Descriptor
front_of [] = []
front_of (End ∷ rest) = []
front_of (Spoiled ∷ rest) = []
front_of (Listed descriptor ∷ rest) = descriptor ∷ front_of rest

-- whether a block spoils the list
unfoldable pub is_spoilt : List View → Bool
is_spoilt [] = false
is_spoilt (End ∷ rest) = false
is_spoilt (Spoiled ∷ rest) = true
is_spoilt (Listed descriptor ∷ rest) = is_spoilt rest

-- what the blocks of an extent say; a disk gives the block of each sector
unfoldable pub views : (ℕ → List ℕ) → ℕ → ℕ → List View
views disk start count = map (λ n. view_of (disk n)) (range_with_len start count)
