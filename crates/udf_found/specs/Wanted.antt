-- What entries want of a volume's blocks, as runs (ECMA-167 4/14.14: an allocation descriptor speaks of a run of blocks).
use Rattle.std.specs.Prelude.{ℕ, ◌-◌, min, if◌then◌else◌, Option, Some, None, List, [], ◌∷◌, ◌++◌, map}
use Rattle.udf_field.specs.declared.address.Addr.{Addr}
use Rattle.udf_file_model.specs.Descriptors.{Descriptor}
use Rattle.udf_file_model.specs.Entry.{Entry}
use Rattle.udf_file_model.specs.Front.{blocks_for, is_hole}
use Rattle.udf_file_model.specs.Listing.{Listing, Volume, listing}
use Rattle.udf_claims.specs.Winner.{number}
use Rattle.udf_claims.specs.declared.run.Run.{Run}
use Rattle.udf_tree_model.specs.Frame.{Frame, block_class, entry_at, extent_class, is_holder, own_class}
use Rattle.udf_found.specs.declared.arena.Found.{Found}
use Rattle.udf_volume.specs.declared.stretch.Stretch.{Stretch}

-- so many blocks from an address on, where each part has this many
abbrev pub want : (ℕ → ℕ) → ℕ → ℕ → Addr → ℕ → Run
want blocks owner class at many = record { owner = owner; at = at; blocks = min many (blocks at.part - at.block); class = class }

-- the wants of allocation extents, a block each
abbrev pub extent_wants : (ℕ → ℕ) → ℕ → ℕ → List Addr → List Run
extent_wants blocks owner class xs = map (λ x. want blocks owner class x 1) xs

-- the want of a descriptor; a hole has none
unfoldable pub run_want : (ℕ → ℕ) → ℕ → ℕ → ℕ → Descriptor → List Run
run_want blocks size owner class d = if is_hole d then [] else want blocks owner class d.at (blocks_for size d.length) ∷ []

unfoldable pub run_wants : (ℕ → ℕ) → ℕ → ℕ → ℕ → List Descriptor → List Run
run_wants blocks size owner class [] = []
run_wants blocks size owner class (d ∷ ds) = run_want blocks size owner class d ++ run_wants blocks size owner class ds

-- the wants of an entry with a list: its own block, its allocation extents and its blocks
unfoldable pub entry_wants : (ℕ → ℕ) → Frame → Volume → Addr → Entry → Listing → List Run
entry_wants blocks f v a e list =
    want blocks (number a) own_class a 1
    ∷ (extent_wants blocks (number a) (extent_class f a) list.extents ++ run_wants blocks v.size (number a) (block_class f a e) list.runs)

abbrev pub wants_by : (ℕ → ℕ) → Frame → Volume → Addr → Option Entry → List Run
wants_by blocks f v a None = []
wants_by blocks f v a (Some e) = entry_wants blocks f v a e (listing v a e)

-- the wants of the readable entry at an address
unfoldable pub wants_at : (ℕ → ℕ) → Frame → Volume → Addr → List Run
wants_at blocks f v a = wants_by blocks f v a (entry_at v a)

-- the holder of the pointer to the system stream directory has none
abbrev pub found_wants : (ℕ → ℕ) → Frame → Volume → Addr → List Run
found_wants blocks f v a = if is_holder f v a then [] else wants_at blocks f v a

-- the wants of found entries
unfoldable pub wants_over : (ℕ → ℕ) → Frame → Volume → List Found → List Run
wants_over blocks f v [] = []
wants_over blocks f v (n ∷ ns) = found_wants blocks f v n.at ++ wants_over blocks f v ns

-- fixed addresses are wanted by an owner whose number no address has, in a class of its own
abbrev pub fixed_owner : ℕ
fixed_owner = 281474976710656

abbrev pub fixed_class : ℕ
fixed_class = 0

abbrev pub fixed_wants : (ℕ → ℕ) → List Stretch → List Run
fixed_wants blocks fixed = map (λ x. want blocks fixed_owner fixed_class x.at x.blocks) fixed
