-- What is read of a volume before files are told apart: a node for each address at which a readable entry stands.
use Rattle.std.specs.Prelude.{ℕ, ◌+◌, Bool, true, false, not, ◌&&◌, List, [], ◌∷◌, ◌++◌, Option, Some, None, is_some}
use Rattle.udf_field.specs.declared.address.Addr.{Addr}
use Rattle.udf_tree_model.specs.Link.{Link}

-- one block of an entry's list, one of its allocation extents, a hole, or an embedded content
pub record Item : Type 0 where
  pub at : Addr
  -- it takes that block; a hole and an embedded content take none
  pub takes : Bool
  -- how strong the want is; a lower class is stronger
  pub class : ℕ
  -- it may not be won by this entry, whoever else wants it
  pub barred : Bool
  -- how many bytes of the entry stand there
  pub bytes : ℕ

pub record Node : Type 0 where
  pub directory : Bool
  -- what it takes beside its list: its own block
  pub own : List Item
  pub list : List Item
  -- the links of its content up to so many bytes
  pub links : ℕ → List Link
  -- how many bytes of FIDs may stand beside the parent FID in a content of at most so many bytes
  pub space : ℕ → ℕ
  -- a content of so many bytes is long enough for a directory
  pub enough : ℕ → Bool

abbrev pub Tree : Type 0
Tree = Addr → Option Node

-- what is known before: where the tree starts, what no entry may take, and the addresses that a volume has
pub record Setting : Type 0 where
  pub start : Addr → Bool
  pub fixed : Addr → Bool
  pub places : List Addr

-- what an address without an entry stands for
abbrev pub no_node : Node
no_node = record { directory = false; own = []; list = []; links = λ l. []; space = λ l. 0; enough = λ l. false }

abbrev pub node_or : Option Node → Node
node_or None = no_node
node_or (Some n) = n

unfoldable pub readable : Tree → Addr → Bool
readable t a = is_some (t a)

unfoldable pub node_at : Tree → Addr → Node
node_at t a = node_or (t a)

abbrev pub bytes_of : List Item → ℕ
bytes_of [] = 0
bytes_of (i ∷ is) = i.bytes + bytes_of is

-- the good length: the bytes of the whole list
unfoldable pub good_length : Tree → Addr → ℕ
good_length t a = bytes_of (node_at t a).list

-- all that an entry wants
unfoldable pub wants : Tree → Addr → List Item
wants t a = (node_at t a).own ++ (node_at t a).list

abbrev pub is_none_of : List Item → Bool
is_none_of [] = true
is_none_of (i ∷ is) = false

-- an entry has a block of its own; the holder of the pointer to the system stream directory is a start without one
unfoldable pub is_entry : Setting → Tree → Addr → Bool
is_entry s t a = not (s.start a && is_none_of (node_at t a).own)
