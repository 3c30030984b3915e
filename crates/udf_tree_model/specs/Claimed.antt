-- What kept entries claim after their mends, and which blocks are free.
use Rattle.std.specs.Prelude.{ℕ, Bool, false, not, ◌&&◌, ◌||◌, nat_le, min, length, List, Option, Some, None, if◌then◌else◌}
use Rattle.std.specs.List.{list_any, list_all}
use Rattle.udf_field.specs.declared.address.Addr.{Addr}
use Rattle.udf_file_model.specs.Address.{same_addr}
use Rattle.udf_file_model.specs.Entry.{Entry, is_directory}
use Rattle.udf_file_model.specs.Pieces.{Piece}
use Rattle.udf_file_model.specs.Listing.{Volume, addresses, good_length, is_good_for, list_for}
use Rattle.udf_file_model.specs.Cut.{cut_pieces}
use Rattle.udf_tree_model.specs.Node.{node_at}
use Rattle.udf_tree_model.specs.Won.{holds, kept_length}
use Rattle.udf_tree_model.specs.Kept.{kept}
use Rattle.udf_tree_model.specs.Frame.{Frame, entry_at, places, setting_of, tree_of}
use Rattle.udf_tree_model.specs.Content.{content_stays, mended_content}

-- the rule on allocation: nothing of the list fails, the entry wins all of it, and it has the bytes of the information length
unfoldable pub allocation_holds : Frame → Volume → Addr → Entry → Bool
allocation_holds f v a e =
    is_good_for v a e
    && (list_all (holds (setting_of f v) (tree_of f v) a) (node_at (tree_of f v) a).list && nat_le e.information (good_length v a e))

-- the mend leaves its list as it is
unfoldable pub list_stays : Frame → Volume → Addr → Entry → Bool
list_stays f v a e = allocation_holds f v a e && (not (is_directory e) || content_stays f v a)

-- how many bytes of content the mend leaves
unfoldable pub mended_length : Frame → Volume → Addr → Entry → ℕ
mended_length f v a e =
    if is_directory e then length (mended_content f v a) else min e.information (kept_length (setting_of f v) (tree_of f v) a)

-- the list that the mend leaves
unfoldable pub mended_list : Frame → Volume → Addr → Entry → List Piece
mended_list f v a e = if list_stays f v a e then list_for v a e else cut_pieces (mended_length f v a e) (list_for v a e)

abbrev pub claims_by : Frame → Volume → Addr → Option Entry → Addr → Bool
claims_by f v a None x = false
claims_by f v a (Some e) x = same_addr a x || list_any (same_addr x) (addresses v.size (mended_list f v a e))

-- the entry claims the address after its mend
unfoldable pub claims : Frame → Volume → Addr → Addr → Bool
claims f v a x = claims_by f v a (entry_at v a) x

unfoldable pub is_claimed : Frame → Volume → Addr → Bool
is_claimed f v x = list_any (λ a. kept (setting_of f v) (tree_of f v) a && claims f v a x) (places v)

-- a block is free where it is not fixed and no kept entry claims it after the mend
unfoldable pub is_free : Frame → Volume → Addr → Bool
is_free f v x = not (f.fixed x) && not (is_claimed f v x)
