-- What the code keeps of a found entry.
use Rattle.std.specs.Prelude.{◌≡◌, true, false, ◌==◌, if◌then◌else◌, List, length, map, Option, Some, None}
use Rattle.udf_field.specs.declared.address.Addr.{Addr}
use Rattle.udf_model.specs.Bytes.{IsBytes}
use Rattle.udf_file_model.specs.Content.{block_at}
use Rattle.udf_file_model.specs.Entry.{Entry, is_directory}
use Rattle.udf_file_model.specs.Listing.{Volume, good_length, is_good_for, list_for}
use Rattle.udf_file_model.specs.Pieces as model
use Rattle.udf_file_model.specs.Scan.{fids, fids_of}
use Rattle.udf_entry.specs.RunView.{run_seen}
use Rattle.udf_tree_model.specs.Frame.{Frame, entry_at, is_holder, parent_length}
use Rattle.udf_found.specs.declared.pieces.Piece.{Piece}
use Rattle.udf_found.specs.declared.pieces.Piece.TheVariants as piece
use Rattle.udf_found.specs.declared.shape.Shape.{Shape}
use Rattle.udf_found.specs.Parents.{only_parent}
use Rattle.udf_found.specs.Target.{linking}

abbrev pub piece_seen : Piece → model.Piece
piece_seen (piece.Extent at) = model.Extent at
piece_seen (piece.Blocks run) = model.Blocks (run_seen run)

abbrev pub pieces_seen : List Piece → List model.Piece
pieces_seen pieces = map piece_seen pieces

-- the shape of a readable entry at an address
pub record IsShape (v : Volume) (a : Addr) (e : Entry) (s : Shape) : Type 0 where
  pub directory : s.directory ≡ is_directory e
  pub links : s.links ≡ e.links
  pub information : s.information ≡ e.information
  pub id : s.id ≡ e.id
  pub stream : s.stream ≡ e.stream
  pub embedded : s.embedded ≡ (if e.kind == 3 then Some (length e.body) else None)
  pub pieces : pieces_seen s.pieces.items ≡ list_for v a e
  pub good : s.good ≡ is_good_for v a e
  pub bytes : s.bytes ≡ good_length v a e
  pub content : s.content ≡ length (linking v a e)
  pub parent_bytes : s.parents.bytes ≡ parent_length (fids_of (fids v.size (linking v a e)))
  pub parent : s.parents.only ≡ only_parent v.size (linking v a e)
  -- what was read is bytes
  pub block_bytes : IsBytes (block_at v a)
  pub content_bytes : IsBytes (linking v a e)

-- a found entry has the shape of the readable entry there; the holder of the pointer to the system stream directory has none
abbrev pub IsShaped : Frame → Volume → Addr → Option Shape → Type 0
IsShaped f v a None = is_holder f v a ≡ true
IsShaped f v a (Some s) = (is_holder f v a ≡ false) × (e : Entry) × (entry_at v a ≡ Some e) × IsShape v a e s
