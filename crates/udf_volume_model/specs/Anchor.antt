-- The places of anchors, and the extents that they name (ECMA-167 3/8.4.2.1, 3/10.2).
use Rattle.std.specs.Prelude.{ℕ, Bool, Option, Some, None, ◌+◌, ◌-◌, ◌/◌, ◌==◌, ◌&&◌, nat_lt, nat_le, if◌then◌else◌, List, [], ◌∷◌}
use Rattle.udf_model.specs.Bytes.{number_at}
use Rattle.udf_model.specs.Tag.{id_at, is_id}

-- an extent of bytes, by its first sector (3/7.1)
pub record Extent : Type 0 where
  pub bytes : ℕ
  pub start : ℕ

-- the extents of the main and of the reserve sequence
pub record Anchor : Type 0 where
  pub main : Extent
  pub reserve : Extent

-- the blocks that so many bytes take
unfoldable pub blocks_for : ℕ → ℕ → ℕ
blocks_for size bytes = (bytes + (size - 1)) / size

abbrev pub blocks_of : ℕ → Extent → ℕ
blocks_of size extent = blocks_for size extent.bytes

-- The places of an anchor in an image whose last block is N: 256, N and N - 256 in this order, as far as they are in the
-- image, each once.
unfoldable pub places_by : ℕ → List ℕ
places_by last =
    if nat_lt last 256 then last ∷ []
    else if last == 256 then 256 ∷ 0 ∷ []
    else if last == 512 then 256 ∷ 512 ∷ []
    else 256 ∷ last ∷ (last - 256) ∷ []

-- the same in an image of so many blocks
unfoldable pub places : ℕ → List ℕ
places blocks = if blocks == 0 then [] else places_by (blocks - 1)

-- at least 16 blocks, all of them in an image of so many blocks
unfoldable pub is_extent : ℕ → ℕ → Extent → Bool
is_extent size blocks extent = nat_le 16 (blocks_of size extent) && nat_le (extent.start + blocks_of size extent) blocks

unfoldable pub extent_at : List ℕ → ℕ → Extent
extent_at block at = record { bytes = number_at 4 block at; start = number_at 4 block (at + 4) }

-- the extents that an anchor's block names
unfoldable pub named_by : List ℕ → Anchor
named_by block = record { main = extent_at block 16; reserve = extent_at block 24 }

unfoldable pub names_extents : ℕ → ℕ → Anchor → Bool
names_extents size blocks anchor = is_extent size blocks anchor.main && is_extent size blocks anchor.reserve

-- the anchor at a place, where its block is whole there with identifier 2 and names two extents
unfoldable pub anchor_in : ℕ → ℕ → ℕ → List ℕ → Option Anchor
anchor_in size blocks at block =
    if is_id 2 (id_at at block) && names_extents size blocks (named_by block) then Some (named_by block) else None
