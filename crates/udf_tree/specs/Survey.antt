-- What a survey tells of the files of a volume.
use Rattle.std.specs.Prelude.{◌≡◌, ℕ, not, ◌&&◌, find, nat_eq, option_map, slice_get, List, map, Option, Some, None, if◌then◌else◌, get_or, []}
use Rattle.udf_field.specs.declared.address.Addr.{Addr}
use Rattle.udf_file_model.specs.Listing.{Volume}
use Rattle.udf_claims.specs.declared.run.Run.{Run}
use Rattle.udf_tree_model.specs.Children.{first_child, next_sibling}
use Rattle.udf_tree_model.specs.Content.{content_stays, mended_content}
use Rattle.udf_tree_model.specs.Chosen.{fitted}
use Rattle.udf_tree_model.specs.Frame.{Frame, is_holder, setting_of, tree_of}
use Rattle.udf_tree_model.specs.Link.{target_of}
use Rattle.udf_tree_model.specs.Ordinary.{files_named, kept_entries}
use Rattle.udf_contents.specs.declared.contents.MendedContent.{MendedContent}
use Rattle.udf_dues.specs.declared.counts.Count.{Count}
use Rattle.udf_tree.specs.declared.children.Kin.{Kin}
use Rattle.udf_tree.specs.declared.judge.Verdict.{Verdict}
use Rattle.udf_tree.specs.declared.kept_contents.KeptContent.{KeptContent}
use Rattle.udf_tree.specs.declared.node.Node.{Node}
use Rattle.udf_tree.specs.declared.node.NodeId.{NodeId}
use Rattle.udf_tree.specs.declared.stated.Stated.{Stated}
use Rattle.udf_contents.specs.After.{TellsTaken}
use Rattle.udf_dues.specs.Counts.{count_of}
use Rattle.udf_tree.specs.Judged.{judged, judged_links, verdict_in}
use Rattle.udf_tree.specs.KeptContents.{kept_content_of}
use Rattle.udf_tree.specs.Path.{step_name}
use Rattle.udf_tree.specs.Nodes.{AreNodes, node_addresses}
use Rattle.udf_tree.specs.Stated.{stated_at}

-- the kept entries by their numbers, and the numbers in the order of addresses; the number of the root; of each what is written
-- in place of its content; what is taken; of each the number of its stream directory; that of the system stream directory; how
-- many FIDs name files; of each what is judged of its links, by their places, the name of the link that keeps it, what it states,
-- the least and the greatest link count that it may state, its content, where it is a directory, and its first child and its next
-- sibling by their numbers
pub record View : Type 0 where
  pub nodes : List Node
  pub order : List NodeId
  pub root : NodeId
  pub contents : List (Option (List ℕ))
  pub runs : List Run
  pub pointers : List (Option NodeId)
  pub system : Option NodeId
  pub files_named : ℕ
  pub verdicts : List (List (ℕ × Verdict))
  pub names : List (List ℕ)
  pub stated : List Stated
  pub counts : List Count
  pub kept_contents : List (Option KeptContent)
  pub kin : List Kin

-- the content that the mend makes of a kept directory's, where that does not stay
unfoldable pub wanted_content : Frame → Volume → Node → Option (List ℕ)
wanted_content f v n = if n.directory && not (content_stays f v n.at) then Some (mended_content f v n.at) else None

-- the address to which the fitted pointer of an entry leads, where it has one
unfoldable pub pointed_from : Frame → Volume → Addr → Option Addr
pointed_from f v a = option_map (λ l. target_of l.says) (find (λ l. nat_eq l.place 0) (fitted (setting_of f v) (tree_of f v) a))

-- the same of the file set, where that holds a pointer to the system stream directory
unfoldable pub system_from : Frame → Volume → Option Addr
system_from f v = if is_holder f v f.file_set then pointed_from f v f.file_set else None

-- what the number of an entry names, where there is a number
abbrev pub named_by : List Addr → Option NodeId → Option (Option Addr)
named_by numbers o = option_map (λ id. slice_get numbers id.0) o

abbrev pub pointed_by : Frame → Volume → Option Addr → Option (Option Addr)
pointed_by f v None = None
pointed_by f v (Some a) = option_map Some (pointed_from f v a)

-- what is told of a volume's files
pub record IsSurvey (f : Frame) (v : Volume) (x : View) : Type 0 where
  pub nodes_are : AreNodes f v x.nodes
  pub order_is : map (λ id. slice_get (node_addresses x.nodes) id.0) x.order ≡ map Some (kept_entries f v)
  pub root_is : slice_get (node_addresses x.nodes) x.root.0 ≡ Some f.root
  pub contents_are : x.contents ≡ map (wanted_content f v) x.nodes
  pub taken : TellsTaken f v x.runs
  pub pointers_are : map (named_by (node_addresses x.nodes)) x.pointers ≡ map (λ n. option_map Some (pointed_from f v n.at)) x.nodes
  pub verdicts_are : (i : ℕ) (n : Node) → slice_get x.nodes i ≡ Some n → (place : ℕ) → verdict_in (get_or x.verdicts i []) place ≡ judged f v n.at place
  pub links_are : x.verdicts ≡ map (λ n. judged_links f v n.at) x.nodes
  pub names_are : x.names ≡ map (λ n. step_name f v n.at) x.nodes
  pub stated_are : x.stated ≡ map (λ n. stated_at v n.at) x.nodes
  pub counts_are : x.counts ≡ map (λ n. count_of f v n.at) x.nodes
  pub kept_contents_are : x.kept_contents ≡ map (kept_content_of f v) x.nodes
  pub children_are : map (λ k. named_by (node_addresses x.nodes) k.first_child) x.kin ≡ map (λ n. option_map Some (first_child f v n.at)) x.nodes
  pub siblings_are : map (λ k. named_by (node_addresses x.nodes) k.next_sibling) x.kin ≡ map (λ n. option_map Some (next_sibling f v n.at)) x.nodes
  pub system_is : named_by (node_addresses x.nodes) x.system ≡ option_map Some (system_from f v)
  pub files_are : x.files_named ≡ files_named f v

abbrev pub bytes_by : Option (Option MendedContent) → Option (List ℕ)
bytes_by None = None
bytes_by (Some None) = None
bytes_by (Some (Some c)) = Some c.bytes.items

-- what is written in place of the content of the found entry at an index
abbrev pub bytes_at : List (Option MendedContent) → ℕ → Option (List ℕ)
bytes_at cs i = bytes_by (slice_get cs i)
