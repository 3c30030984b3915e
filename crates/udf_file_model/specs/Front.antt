-- How far the list of an entry can be read: its longest front, cut at a block, in which nothing fails.
use Rattle.std.specs.Prelude.{ℕ, zero, suc, Bool, true, not, ◌+◌, ◌-◌, ◌*◌, ◌/◌, ◌%◌, ◌^◌, ◌==◌, ◌&&◌, ◌||◌, nat_lt, nat_le, if◌then◌else◌, List, [], ◌∷◌, ◌++◌}
use Rattle.std.specs.List.{list_any}
use Rattle.udf_field.specs.declared.address.Addr.{Addr}
use Rattle.udf_file_model.specs.Address.{addr, same_addr}
use Rattle.udf_file_model.specs.Descriptors.{Descriptor}
use Rattle.udf_file_model.specs.Pieces.{Piece, Extent, Blocks, bytes_in, blocks_each}

-- what a list is read by
pub record Rules : Type 0 where
  -- the bytes of a block
  pub size : ℕ
  -- the entry's own block
  pub own : Addr
  pub directory : Bool
  -- the information length of the entry
  pub information : ℕ
  -- the block stands in the volume
  pub placed : Addr → Bool

-- the descriptors and allocation extents that came before
pub record Past : Type 0 where
  pub runs : List Descriptor
  pub extents : List Addr

abbrev pub nothing_yet : Past
nothing_yet = record { runs = []; extents = [] }

abbrev pub with_run : Past → Descriptor → Past
with_run past d = record { runs = past.runs ++ (d ∷ []); extents = past.extents }

abbrev pub with_extent : Past → Addr → Past
with_extent past x = record { runs = past.runs; extents = past.extents ++ (x ∷ []) }

-- 4/14.14.1.1: a descriptor of kind 2 has no blocks
abbrev pub is_hole : Descriptor → Bool
is_hole d = d.kind == 2

-- the blocks that so many bytes take
abbrev pub blocks_for : ℕ → ℕ → ℕ
blocks_for size bytes = (bytes + (size - 1)) / size

-- one of the descriptor's blocks has the address
unfoldable pub covers : ℕ → Addr → Descriptor → Bool
covers size a d =
    not (is_hole d)
    && ((d.at.part == a.part) && (nat_le d.at.block a.block && nat_lt a.block (d.at.block + blocks_for size d.length)))

-- a block that stood earlier; the entry's own block and its allocation extents count
unfoldable pub stood : ℕ → Addr → Past → Addr → Bool
stood size own past a = same_addr own a || (list_any (same_addr a) past.extents || list_any (covers size a) past.runs)

-- the block is placed, and stands for the first time
unfoldable pub is_new : Rules → Past → Addr → Bool
is_new r past a = r.placed a && not (stood r.size r.own past a)

-- how many of n blocks from an address on are new, up to the first that is not
unfoldable pub new_blocks : Rules → Past → ℕ → ℕ → ℕ → ℕ
new_blocks r past part block zero = 0
new_blocks r past part block (suc n) =
    if is_new r past (addr part block) then suc (new_blocks r past part (block + 1) n) else 0

-- how many of its blocks can be read
abbrev pub new_in : Rules → Past → Descriptor → ℕ
new_in r past d = new_blocks r past d.at.part d.at.block (blocks_for r.size d.length)

-- a descriptor of part blocks
abbrev pub is_part : ℕ → Descriptor → Bool
is_part size d = not (d.length % size == 0)

-- the descriptor itself does not fail: none of part blocks came while the bytes are below the information length, the sum
-- stays below 2^63, and a directory has recorded blocks alone
unfoldable pub may_come : Rules → Past → Descriptor → Bool
may_come r past d =
    not (list_any (is_part r.size) past.runs && nat_lt (bytes_in past.runs) r.information)
    && (nat_lt (bytes_in past.runs + d.length) (2 ^ 63) && not (r.directory && not (d.kind == 0)))

-- nothing of a descriptor fails
unfoldable pub run_passes : Rules → Past → Descriptor → Bool
run_passes r past d = may_come r past d && (is_hole d || (new_in r past d == blocks_for r.size d.length))

-- the first n blocks of a descriptor, if any
abbrev pub front_of : ℕ → Descriptor → ℕ → List Descriptor
front_of size d n = if n == 0 then [] else record d { length = n * size } ∷ []

-- what is read of a descriptor of which something fails
unfoldable pub run_front : Rules → Past → Descriptor → List Descriptor
run_front r past d = if may_come r past d then front_of r.size d (new_in r past d) else []

-- an allocation extent is new and whole; `whole` tells it of an address
abbrev pub extent_passes : Rules → (Addr → Bool) → Past → Addr → Bool
extent_passes r whole past x = is_new r past x && whole x

-- the longest front, cut at a block, in which nothing fails
unfoldable pub good_front : Rules → (Addr → Bool) → Past → List Piece → List Piece
good_front r whole past [] = []
good_front r whole past (Extent x ∷ rest) =
    if extent_passes r whole past x then Extent x ∷ good_front r whole (with_extent past x) rest else []
good_front r whole past (Blocks d ∷ rest) =
    if run_passes r past d then Blocks d ∷ good_front r whole (with_run past d) rest else blocks_each (run_front r past d)

-- nothing fails
unfoldable pub is_good : Rules → (Addr → Bool) → Past → List Piece → Bool
is_good r whole past [] = true
is_good r whole past (Extent x ∷ rest) = extent_passes r whole past x && is_good r whole (with_extent past x) rest
is_good r whole past (Blocks d ∷ rest) = run_passes r past d && is_good r whole (with_run past d) rest
