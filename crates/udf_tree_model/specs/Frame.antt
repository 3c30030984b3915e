-- The node of each address of a volume, as its blocks state it.
use Rattle.std.specs.Prelude.{ℕ, Bool, true, false, not, ◌-◌, ◌*◌, ◌==◌, ◌&&◌, ◌||◌, min, nat_le, nat_lt, if◌then◌else◌, Option, Some, None, is_some, List, [], ◌∷◌, ◌++◌, length, map}
use Rattle.std.specs.List.{filter, flat_map, range_with_len}
use Rattle.udf_field.specs.declared.address.Addr.{Addr}
use Rattle.udf_field.specs.declared.address.Long.{Long}
use Rattle.udf_file_model.specs.Address.{addr, same_addr}
use Rattle.udf_file_model.specs.Entry.{Entry, entry_of, is_directory}
use Rattle.udf_file_model.specs.Descriptors.{Descriptor}
use Rattle.udf_file_model.specs.Pieces.{Piece, Extent, Blocks, runs_of}
use Rattle.udf_file_model.specs.Front.{is_hole, blocks_for}
use Rattle.udf_file_model.specs.Listing.{Volume, is_placed, list_for, addresses_from}
use Rattle.udf_file_model.specs.Content.{content}
use Rattle.udf_file_model.specs.Cut.{to_part}
use Rattle.udf_file_model.specs.Fid.{is_parent}
use Rattle.udf_file_model.specs.Scan.{fids, fids_of}
use Rattle.udf_tree_model.specs.Link.{Link, fid_links, pointed, pointer_link, pointer_links}
use Rattle.udf_tree_model.specs.Node.{Item, Node, Tree, Setting}

-- what is known of a volume before its entries are read
pub record Frame : Type 0 where
  -- the addresses that no entry may take
  pub fixed : Addr → Bool
  -- the address after the file set's extent
  pub after : Addr
  -- the file set, which holds the pointer to the system stream directory (ECMA-167 4/14.1.18)
  pub file_set : Addr
  -- the root directory (4/14.1.15)
  pub root : Addr
  -- the address that the pointer to the system stream directory names, where its length is not 0
  pub system : Option Addr

-- 4/7.1: a partition reference has 16 bits, a block number 32
abbrev pub is_address : Addr → Bool
is_address a = nat_lt a.part 65536 && nat_lt a.block 4294967296

-- the addresses with a reference and a block number below these
unfoldable pub addresses_below : ℕ → ℕ → List Addr
addresses_below parts blocks = flat_map (λ part. addresses_from (addr part 0) blocks) (range_with_len 0 parts)

-- the placed addresses of a volume
unfoldable pub places : Volume → List Addr
places v = filter (is_placed v) (addresses_below 65536 4294967296)

abbrev pub entry_by : Volume → Addr → Option ℕ → Option Entry
entry_by v a None = None
entry_by v a (Some sector) = entry_of a.block (v.disk sector)

-- the readable entry at an address
unfoldable pub entry_at : Volume → Addr → Option Entry
entry_at v a = if is_address a then entry_by v a (v.place a) else None

-- the classes of wants: own block 1; of the root its list 2; else allocation extents 3, contents of directories 4, data 5
abbrev pub own_class : ℕ
own_class = 1

unfoldable pub extent_class : Frame → Addr → ℕ
extent_class f a = if same_addr a f.root then 2 else 3

unfoldable pub block_class : Frame → Addr → Entry → ℕ
block_class f a e = if same_addr a f.root then 2 else (if is_directory e then 4 else 5)

abbrev pub is_first : List Descriptor → Addr → Bool
is_first [] x = false
is_first (d ∷ ds) x = same_addr d.at x

-- a directory does not win the address after the file set's extent, unless the first block of its list stands there
unfoldable pub is_barred : Frame → Entry → List Descriptor → Addr → Bool
is_barred f e runs x = is_directory e && (same_addr x f.after && not (is_first runs x))

abbrev pub own_item : Addr → Item
own_item a = record { at = a; takes = true; class = own_class; barred = false; bytes = 0 }

abbrev pub extent_item : ℕ → Addr → Item
extent_item class x = record { at = x; takes = true; class = class; barred = false; bytes = 0 }

-- bytes that take no block
abbrev pub empty_item : ℕ → Item
empty_item bytes = record { at = addr 0 0; takes = false; class = 0; barred = false; bytes = bytes }

-- a block of a descriptor: its last one may be part
abbrev pub block_item : ℕ → ℕ → (Addr → Bool) → Descriptor → ℕ → Item
block_item size class barred d block = record {
  at = addr d.at.part block;
  takes = true;
  class = class;
  barred = barred (addr d.at.part block);
  bytes = min size (d.length - (block - d.at.block) * size);
}

unfoldable pub run_items : ℕ → ℕ → (Addr → Bool) → Descriptor → List Item
run_items size class barred d =
    if is_hole d then empty_item d.length ∷ []
    else map (block_item size class barred d) (range_with_len d.at.block (blocks_for size d.length))

-- a list block by block, with the classes of its allocation extents and of its blocks
unfoldable pub items : ℕ → ℕ → ℕ → (Addr → Bool) → List Piece → List Item
items size extents blocks barred [] = []
items size extents blocks barred (Extent x ∷ rest) = extent_item extents x ∷ items size extents blocks barred rest
items size extents blocks barred (Blocks d ∷ rest) = run_items size blocks barred d ++ items size extents blocks barred rest

-- what an entry with a list takes; an embedded content takes no block
unfoldable pub items_of : Frame → ℕ → Addr → Entry → List Piece → List Item
items_of f size a e pieces =
    if e.kind == 3 then empty_item (length e.body) ∷ []
    else items size (extent_class f a) (block_class f a e) (is_barred f e (runs_of pieces)) pieces

-- what is read of the content of an entry with a list, up to so many bytes: of a file nothing
unfoldable pub content_to : Volume → Entry → List Piece → ℕ → List ℕ
content_to v e pieces limit = if is_directory e then content v e (runs_of pieces) limit else []

abbrev pub stream_of : Option Long → Option Addr
stream_of None = None
stream_of (Some long) = pointed long

-- the links of an entry with a content: its pointer, and the live FIDs
unfoldable pub links_of : ℕ → Entry → List ℕ → List Link
links_of size e content = pointer_links (stream_of e.stream) ++ fid_links size content

-- the bytes that a content may have: an embedded one as many as stand there, else those up to the end of the first descriptor
-- of part blocks
unfoldable pub capacity : ℕ → Entry → List Piece → ℕ
capacity size e pieces = if e.kind == 3 then length e.body else to_part size pieces

-- a fresh parent FID has no name and 40 bytes (4/14.4)
abbrev pub fresh_parent_length : ℕ
fresh_parent_length = 40

-- the length of the first parent FID, or of a fresh one
unfoldable pub parent_length : List (List ℕ) → ℕ
parent_length [] = fresh_parent_length
parent_length (fid ∷ rest) = if is_parent fid then length fid else parent_length rest

unfoldable pub node_with : Frame → Volume → Addr → Entry → List Piece → Node
node_with f v a e pieces = record {
  directory = is_directory e;
  own = own_item a ∷ [];
  list = items_of f v.size a e pieces;
  links = λ l. links_of v.size e (content_to v e pieces l);
  space = λ l. min l (capacity v.size e pieces) - parent_length (fids_of (fids v.size (content_to v e pieces l)));
  -- a parent FID has at least 40 bytes
  enough = λ l. nat_le fresh_parent_length (length (content_to v e pieces l));
}

abbrev pub node_by : Frame → Volume → Addr → Option Entry → Option Node
node_by f v a None = None
node_by f v a (Some e) = Some (node_with f v a e (list_for v a e))

-- the file set as the holder of the pointer to the system stream directory: it takes nothing, and has no content
abbrev pub holder_node : Addr → Node
holder_node system = record {
  directory = true;
  own = [];
  list = [];
  links = λ l. pointer_link system ∷ [];
  space = λ l. 0;
  enough = λ l. true;
}

abbrev pub holder_by : Option Addr → Bool → Option Node → Option Node
holder_by None here other = other
holder_by (Some system) here other = if here then Some (holder_node system) else other

-- the file set stands at the address
abbrev pub is_file_set : Frame → Volume → Addr → Bool
is_file_set f v a = same_addr a f.file_set && (is_address a && is_placed v a)

-- the file set stands at the address, and holds a pointer to the system stream directory
unfoldable pub is_holder : Frame → Volume → Addr → Bool
is_holder f v a = is_some f.system && is_file_set f v a

-- the tree of a volume
unfoldable pub tree_of : Frame → Volume → Tree
tree_of f v a = holder_by f.system (is_file_set f v a) (node_by f v a (entry_at v a))

-- the root, and the holder of the pointer to the system stream directory
unfoldable pub is_start : Frame → Addr → Bool
is_start f a = same_addr a f.root || (is_some f.system && same_addr a f.file_set)

unfoldable pub setting_of : Frame → Volume → Setting
setting_of f v = record { start = is_start f; fixed = f.fixed; places = places v }
