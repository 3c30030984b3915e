-- The contents of kept directories.
use Rattle.std.specs.Prelude.{◌≡◌, ◌&&◌, ℕ, cond, if◌then◌else◌, is_some, length, List, Option, Some, None}
use Rattle.std.specs.List.{AllZip}
use Rattle.udf_field.specs.declared.address.Addr.{Addr}
use Rattle.udf_file_model.specs.Listing.{Volume}
use Rattle.udf_tree_model.specs.Content.{content_holds, kept_content}
use Rattle.udf_tree_model.specs.Frame.{Frame, setting_of, tree_of}
use Rattle.udf_tree_model.specs.Parent.{is_stream_directory, parent}
use Rattle.udf_held.specs.declared.held.Held.{Held}
use Rattle.udf_tree.specs.declared.kept_contents.KeptContent.{KeptContent}
use Rattle.udf_tree.specs.declared.node.Node.{Node}
use Rattle.udf_kept.specs.Fitted.{at_of}
use Rattle.udf_tree.specs.Nodes.{IsNode}

-- how long the content of a directory up to the kept length is, and whether the rule on contents holds for it
abbrev pub content_to_keep : Frame → Volume → Addr → KeptContent
content_to_keep f v a = record {
  bytes = length (kept_content f v a);
  whole = content_holds v.size (is_stream_directory (setting_of f v) (tree_of f v) a) (parent f v a) (kept_content f v a);
}

-- of a kept entry, where it is a directory
unfoldable pub kept_content_of : Frame → Volume → Node → Option KeptContent
kept_content_of f v n = if n.directory then Some (content_to_keep f v n.at) else None

-- of a found entry
abbrev pub content_held : Frame → Volume → Held → Option KeptContent
content_held f v h = cond (h.directory && is_some h.shape) (Some (content_to_keep f v h.at)) None

-- of the kept entry that stands at an index among the found ones
pub record IsKeptContent (f : Frame) (v : Volume) (hs : List Held) (i : ℕ) (o : Option KeptContent) : Type 0 where
  pub each : (numbers : List Addr) (n : Node) → IsNode f v numbers n → at_of hs i ≡ Some n.at → o ≡ kept_content_of f v n

-- of each of some indexes, in order
abbrev pub AreKeptContents : Frame → Volume → List Held → List ℕ → List (Option KeptContent) → Type 0
AreKeptContents f v hs is os = AllZip (IsKeptContent f v hs) is os
