-- The node of an entry whose list reaches the information length has room for its links, and is long enough, if it is a directory with
-- a parent FID.
use Rattle.std.proofs.Common.{◌≡◌, ℕ, ◌-◌, ◌<◌, ◌≤◌, nat_le, Bool, true, false, Some, List, length, refl, sym, ap, ◌∙◌, arith, le-leb}
use Rattle.std.specs.Prelude.{min}
use Rattle.std.specs.List.{list_any}
use Rattle.udf_field.specs.declared.address.Addr.{Addr}
use Rattle.udf_file_model.specs.Entry.{Entry, is_directory}
use Rattle.udf_file_model.specs.Fid.{is_parent}
use Rattle.udf_file_model.specs.Listing.{Volume, good_length, list_for}
use Rattle.udf_file_model.specs.Pieces.{Piece}
use Rattle.udf_file_model.specs.Scan.{fids, fids_of}
use Rattle.udf_tree_model.specs.Found.{whole_links}
use Rattle.udf_tree_model.specs.Frame.{Frame, capacity, content_to, entry_at, is_holder, links_of, node_with, parent_length, tree_of}
use Rattle.udf_tree_model.specs.Mended.{rooms}
use Rattle.udf_tree_model.specs.Node.{Node, Tree, good_length as tree_length, node_at}
use Rattle.udf_tree_model.proofs.Stating.{length_is, node_is}
use Rattle.udf_intact.specs.Entries.{bytes_at}
use Rattle.udf_intact.proofs.Contents as contents

module _ (f : Frame) (v : Volume) (a : Addr) (e : Entry) (there : entry_at v a ≡ Some e) (other : is_holder f v a ≡ false) (some : 0 < v.size)
    (reaches : e.information ≤ good_length v a e) (parent : is_directory e ≡ true → list_any is_parent (fids_of (fids v.size (bytes_at v a e))) ≡ true) where
  abbrev t : Tree
  t = tree_of f v

  abbrev gl : ℕ
  gl = good_length v a e

  abbrev xs : List Piece
  xs = list_for v a e

  node : node_at t a ≡ node_with f v a e xs
  node = node_is f v a e there other

  length_same : tree_length t a ≡ gl
  length_same = length_is f v a e there other some

  links_are : whole_links t a ≡ links_of v.size e (content_to v e xs gl)
  unfolding whole_links node_with
  links_are = ap (λ (n : Node). n.links (tree_length t a)) node ∙ ap (λ n. links_of v.size e (content_to v e xs n)) length_same

  space_is : (node_at t a).space (tree_length t a) ≡ min gl (capacity v.size e xs) - parent_length (fids_of (fids v.size (content_to v e xs gl)))
  unfolding node_with
  space_is =
      ap (λ (n : Node). n.space (tree_length t a)) node
      ∙ ap (λ n. min n (capacity v.size e xs) - parent_length (fids_of (fids v.size (content_to v e xs n)))) length_same

  pub has_space : rooms (whole_links (tree_of f v) a) ≤ (node_at (tree_of f v) a).space (tree_length (tree_of f v) a)
  has_space = by (is_directory e) refl
    where
      by : (b : Bool) → is_directory e ≡ b → rooms (whole_links t a) ≤ (node_at t a).space (tree_length t a)
      by true q = omega (arith, ap rooms links_are, space_is, contents.links_fit v a e some reaches q (parent q))
      by false q = omega (arith, ap rooms links_are, contents.file_rooms v a e some reaches q)

  pub long_enough : (node_at (tree_of f v) a).directory ≡ true → (node_at (tree_of f v) a).enough (tree_length (tree_of f v) a) ≡ true
  unfolding node_with
  long_enough q =
      let d : is_directory e ≡ true = sym (ap (λ (n : Node). n.directory) node) ∙ q in
      ap (λ (n : Node). n.enough (tree_length t a)) node
      ∙ ap (λ n. nat_le 40 (length (content_to v e xs n))) length_same
      ∙ le-leb 40 (length (content_to v e xs gl)) (contents.long v a e some reaches d (parent d))
