-- What a survey tells of the mend of a kept entry.
use Rattle.std.specs.Prelude.{◌&&◌, ◌==◌, ℕ, Bool, not, is_some, nat_le, if◌then◌else◌, Option, Some, None, List, length, ◌++◌}
use Rattle.udf_field.specs.declared.address.Addr.{Addr}
use Rattle.udf_file_model.specs.Content.{content}
use Rattle.udf_file_model.specs.Entry.{Entry}
use Rattle.udf_file_model.specs.Listing.{Volume, list_for}
use Rattle.udf_file_model.specs.Pieces.{extents_of, runs_of}
use Rattle.udf_file_mends.specs.Spread.{Sited}
use Rattle.udf_file_plan.specs.Parts.{bytes_or, content_left, listed_left}
use Rattle.udf_tree.specs.declared.node.Node.{Node}
use Rattle.udf_tree.specs.declared.node.NodeId.{NodeId}
use Rattle.udf_tree.specs.declared.stated.Stated.{Stated}
use Rattle.udf_file_model.specs.Wanted.{Wanted}

-- its list stays, where this is the mended content
abbrev pub stays_by : Node → Stated → Option (List ℕ) → Bool
stays_by node stated mended = node.whole && (nat_le stated.information node.kept_length && not (is_some mended))

-- the values with the link count and the identifier that it is to state, and without a pointer that is not selected
abbrev pub values_by : Node → Stated → Option NodeId → Wanted → Wanted
values_by node stated pointer w = record w { links = node.links; id = node.id; clear = is_some stated.pointer && not (is_some pointer) }

-- what it states of itself is what it is to state, and it loses no pointer
abbrev pub own_by : Node → Stated → Option NodeId → Bool
own_by node stated pointer = stated.links == node.links && (stated.id == node.id && not (is_some stated.pointer && not (is_some pointer)))

abbrev pub mended_or : List ℕ → Option (List ℕ) → List ℕ
mended_or content None = content
mended_or content (Some mended) = mended

-- of a directory the mended content, or the one that it has
abbrev pub content_by : Node → Option (List ℕ) → List ℕ → Option (List ℕ)
content_by node mended content = if node.directory then Some (mended_or content mended) else None

-- the content that its mend leaves, where it is a directory
abbrev pub given_by : Volume → Addr → Entry → Node → Option (List ℕ) → Option (List ℕ)
given_by v a e node mended = content_by node mended (content v e (runs_of (list_for v a e)) node.kept_length)

-- its blocks and those of its list that the mend makes, where that is cut
abbrev pub cut_left : Volume → Addr → Entry → Wanted → ℕ → Option (List ℕ) → List Sited
cut_left v a e w bytes given =
    listed_left v a e w (length (extents_of (list_for v a e))) (bytes_or bytes given) given ++ content_left v (runs_of (list_for v a e)) given
