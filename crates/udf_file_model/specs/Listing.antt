-- The list of an entry of a volume. A disk gives the block of each sector; `place` says at which sector an address stands.
use Rattle.std.specs.Prelude.{ℕ, Bool, true, ◌*◌, ◌==◌, if◌then◌else◌, Option, Some, None, is_some, List, [], ◌∷◌, ◌++◌, map, length}
use Rattle.std.specs.List.{range_with_len}
use Rattle.udf_field.specs.declared.address.Addr.{Addr}
use Rattle.udf_model.specs.Image.{block_of, blocks_in}
use Rattle.udf_file_model.specs.Address.{Places, addr}
use Rattle.udf_file_model.specs.Entry.{Entry, entry_of, extent_body, is_directory}
use Rattle.udf_file_model.specs.Descriptors.{Descriptor, descriptors}
use Rattle.udf_file_model.specs.Pieces.{Piece, Extent, Blocks, flat, runs_of, extents_of, size_of}
use Rattle.udf_file_model.specs.Front.{Rules, nothing_yet, good_front, is_good, blocks_for, is_hole}

pub record Volume : Type 0 where
  -- the bytes of a block
  pub size : ℕ
  -- the number of blocks of the image
  pub blocks : ℕ
  pub disk : ℕ → List ℕ
  pub place : Places

-- an image cut into blocks, with the places of addresses
abbrev pub volume_of : ℕ → List ℕ → Places → Volume
volume_of size image place = record { size = size; blocks = blocks_in size image; disk = block_of size image; place = place }

-- another disk, with the same places
abbrev pub with_disk : Volume → (ℕ → List ℕ) → Volume
with_disk v disk = record { size = v.size; blocks = v.blocks; disk = disk; place = v.place }

abbrev pub is_placed : Volume → Addr → Bool
is_placed v a = is_some (v.place a)

abbrev pub body_at : (ℕ → List ℕ) → ℕ → Option ℕ → Option (List ℕ)
body_at disk location None = None
body_at disk location (Some sector) = extent_body location (disk sector)

-- the bytes of the descriptors of the whole allocation extent at an address
unfoldable pub extent_at : Volume → Addr → Option (List ℕ)
extent_at v x = body_at v.disk x.block (v.place x)

abbrev pub is_extent : Volume → Addr → Bool
is_extent v x = is_some (extent_at v x)

abbrev pub descriptors_by : ℕ → Addr → Option (List ℕ) → List Descriptor
descriptors_by kind x None = []
descriptors_by kind x (Some body) = descriptors kind x body

-- the descriptors of the allocation extent at an address, for an entry of a kind
unfoldable pub descriptors_in : Volume → ℕ → Addr → List Descriptor
descriptors_in v kind x = descriptors_by kind x (extent_at v x)

abbrev pub descriptors_of : Addr → Entry → List Descriptor
descriptors_of a e = descriptors e.kind a e.body

unfoldable pub rules_for : Volume → Addr → Entry → Rules
rules_for v a e = record { size = v.size; own = a; directory = is_directory e; information = e.information; placed = is_placed v }

-- the flat list of the entry at an address, unfolded at most twice for each block of the image
unfoldable pub flat_for : Volume → Addr → Entry → List Piece
flat_for v a e = flat (descriptors_in v e.kind) (2 * v.blocks) (descriptors_of a e)

-- its list
unfoldable pub list_for : Volume → Addr → Entry → List Piece
list_for v a e = good_front (rules_for v a e) (is_extent v) nothing_yet (flat_for v a e)

unfoldable pub is_good_for : Volume → Addr → Entry → Bool
is_good_for v a e = is_good (rules_for v a e) (is_extent v) nothing_yet (flat_for v a e)

-- the bytes of the list; an embedded entry has its body
unfoldable pub good_length : Volume → Addr → Entry → ℕ
good_length v a e = if e.kind == 3 then length e.body else size_of (list_for v a e)

-- a list, as it is told: its runs, its allocation extents in order, its bytes, and whether nothing of it fails
pub record Listing : Type 0 where
  pub runs : List Descriptor
  pub extents : List Addr
  pub good_length : ℕ
  pub good : Bool

unfoldable pub listing : Volume → Addr → Entry → Listing
listing v a e = record {
  runs = runs_of (list_for v a e);
  extents = extents_of (list_for v a e);
  good_length = good_length v a e;
  good = is_good_for v a e;
}

abbrev pub listing_by : Volume → Addr → Option Entry → Listing
listing_by v a None = record { runs = []; extents = []; good_length = 0; good = true }
listing_by v a (Some e) = listing v a e

-- the list of the readable entry in a block that stands at an address
unfoldable pub listing_at : Volume → Addr → List ℕ → Listing
listing_at v a block = listing_by v a (entry_of a.block block)

-- the addresses of so many blocks from one on
abbrev pub addresses_from : Addr → ℕ → List Addr
addresses_from at n = map (λ block. addr at.part block) (range_with_len at.block n)

-- the addresses of a list: of its allocation extents and of its blocks
abbrev pub addresses : ℕ → List Piece → List Addr
addresses size [] = []
addresses size (Extent x ∷ rest) = x ∷ addresses size rest
addresses size (Blocks d ∷ rest) = (if is_hole d then [] else addresses_from d.at (blocks_for size d.length)) ++ addresses size rest
