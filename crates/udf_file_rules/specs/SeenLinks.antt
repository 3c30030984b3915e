-- What the code finds of the links of kept entries, by what a survey tells of them.
use Rattle.std.specs.Prelude.{ℕ, Bool, false, ◌&&◌, ◌||◌, ◌==◌, ◌-◌, nat_lt, is_none, unwrap_or, get_or, slice_get, take, drop, if◌then◌else◌, List, [], ◌∷◌, ◌++◌, Option, Some, None}
use Rattle.std.specs.List.{flat_map}
use Rattle.udf_field.specs.declared.address.Addr.{Addr}
use Rattle.udf_rules.specs.declared.finding.Finding.{Finding}
use Rattle.udf_tree.specs.declared.judge.Verdict.{Verdict}
use Rattle.udf_tree.specs.declared.node.Node.{Node}
use Rattle.udf_tree.specs.declared.node.NodeId.{NodeId}
use Rattle.udf_tree.specs.declared.stated.Stated.{Stated}
use Rattle.udf_tree.specs.Survey.{View}
use Rattle.udf_tree_model.specs.Chosen.{is_lower}
use Rattle.udf_file_rules.specs.Seen.{seen_at}

-- names, by the place of a link and what is judged of it; a pointer has the place 0, a FID one more than its offset
unfoldable pub name_of : Addr → ℕ × Verdict → List Finding
name_of at (place, verdict) =
    if (place == 0) || (is_none verdict.earlier && verdict.chosen) then [] else seen_at 9 at (place - 1) (unwrap_or verdict.earlier 0) ∷ []

-- of all links of an entry
abbrev pub names_of : Addr → List (ℕ × Verdict) → List Finding
names_of at links = flat_map (name_of at) links

abbrev pub names_by : Option Node → Option (List (ℕ × Verdict)) → List Finding
names_by None o = []
names_by (Some n) None = []
names_by (Some n) (Some links) = if n.directory then names_of n.at links else []

abbrev pub names_at : View → NodeId → List Finding
names_at x id = names_by (slice_get x.nodes id.0) (slice_get x.verdicts id.0)

unfoldable pub names_along : View → List Finding
names_along x = flat_map (names_at x) x.order

-- targets, of a FID by its place and what is judged of it
unfoldable pub target_of : Addr → ℕ × Verdict → List Finding
target_of at (place, verdict) = if (place == 0) || verdict.sound then [] else seen_at 6 at (place - 1) verdict.target.block ∷ []

-- of all FIDs of an entry
abbrev pub targets_of : Addr → List (ℕ × Verdict) → List Finding
targets_of at links = flat_map (target_of at) links

-- of the pointer that an entry states, by the directory to which it is selected
abbrev pub pointer_of : Addr → Option Addr → Option NodeId → List Finding
pointer_of at None o = []
pointer_of at (Some target) None = seen_at 6 at 0 target.block ∷ []
pointer_of at (Some target) (Some id) = []

-- how many findings of FIDs stand before that of a pointer: the values of a pointer are 0 and its target
abbrev pub before_pointer : Finding → List Finding → ℕ
before_pointer pointer [] = 0
before_pointer pointer (fid ∷ rest) = if (fid.first == 0) && nat_lt fid.second pointer.second then 1 else 0

-- findings of pointers among those of FIDs
abbrev pub with_pointers : List Finding → List Finding → List Finding
with_pointers [] fids = fids
with_pointers (pointer ∷ rest) fids = take (before_pointer pointer fids) fids ++ pointer ∷ drop (before_pointer pointer fids) fids

abbrev pub targets_by : Option Node → Option Stated → Option NodeId → Option (List (ℕ × Verdict)) → List Finding
targets_by None s p o = []
targets_by (Some n) None p o = []
targets_by (Some n) (Some s) p None = []
targets_by (Some n) (Some s) p (Some links) = with_pointers (pointer_of n.at s.pointer p) (targets_of n.at links)

abbrev pub targets_at : View → NodeId → List Finding
targets_at x id = targets_by (slice_get x.nodes id.0) (slice_get x.stated id.0) (get_or x.pointers id.0 None) (slice_get x.verdicts id.0)

abbrev pub is_below_by : Addr → Option Node → Bool
is_below_by at None = false
is_below_by at (Some n) = is_lower n.at at

-- a kept entry stands below an address
abbrev pub is_below : View → Addr → NodeId → Bool
is_below x at id = is_below_by at (slice_get x.nodes id.0)

abbrev pub targets_below : View → Addr → NodeId → List Finding
targets_below x at id = if is_below x at id then targets_at x id else []

abbrev pub targets_above : View → Addr → NodeId → List Finding
targets_above x at id = if is_below x at id then [] else targets_at x id

-- of the entries below the file set, of its pointer, and of the others
unfoldable pub targets_along : View → Addr → Option Addr → List Finding
targets_along x at system = flat_map (targets_below x at) x.order ++ (pointer_of at system x.system ++ flat_map (targets_above x at) x.order)
