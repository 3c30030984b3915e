-- The targets of links.
use Rattle.std.specs.Prelude.{ℕ, List, map, cond, [], ◌∷◌}
use Rattle.udf_field.specs.declared.address.Addr.{Addr}
use Rattle.udf_file_model.specs.Entry.{Entry}
use Rattle.udf_file_model.specs.Fid.{is_live, target}
use Rattle.udf_file_model.specs.Scan.{Placed}
use Rattle.udf_file_model.specs.Listing.{Volume, good_length, list_for}
use Rattle.udf_tree_model.specs.Link.{Link, target_of}
use Rattle.udf_tree_model.specs.Frame.{content_to, links_of}

abbrev pub targets_of : List Link → List Addr
targets_of links = map (λ link. target_of link.says) links

-- the targets of the live ones of some FIDs
abbrev pub live_targets : List Placed → List Addr
live_targets [] = []
live_targets (p ∷ ps) = cond (is_live p.1) ((target p.1).at ∷ live_targets ps) (live_targets ps)

-- what is read of the content of the readable entry at an address for its links: that up to the good length
abbrev pub linking : Volume → Addr → Entry → List ℕ
linking v a e = content_to v e (list_for v a e) (good_length v a e)

-- its links up to there
unfoldable pub entry_links : Volume → Addr → Entry → List Link
entry_links v a e = links_of v.size e (linking v a e)
