-- What is found.
use Rattle.std.proofs.Common.{◌≡◌, ℕ, true}
use Rattle.std.proofs.lemmas.Bool.{and_parts}
use Rattle.udf_field.specs.declared.address.Addr.{Addr}
use Rattle.udf_file_model.specs.Listing.{Volume}
use Rattle.udf_tree_model.specs.Node.{Tree, Setting, readable}
use Rattle.udf_tree_model.specs.Rounds.{in_round, IsLeastClosed, IsShortest}
use Rattle.udf_tree_model.specs.Found.{found_graph, found, level}
use Rattle.udf_tree_model.specs.Laws.{IsWithin}
use Rattle.udf_tree_model.specs.Frame.{Frame, tree_of, setting_of}
use Rattle.udf_tree_model.proofs.Members.{member_of, contains_of}
use Rattle.udf_tree_model.proofs.Reached.{IsWithin as HasPlaces, reached_least, round_reached, round_shortest}
use Rattle.udf_tree_model.proofs.Places.{readable_placed, placed_among}

pub found_places : (s : Setting) (t : Tree) → IsWithin s t → HasPlaces (found_graph s t)
unfolding found_graph
found_places s t w = record {
  starts = λ a h. member_of s.places a (w.among a (and_parts (s.start a) (readable t a) h).1);
  ends = λ d a h. member_of s.places a (w.among a (and_parts (readable t a) _ h).0);
}

pub found_least : (s : Setting) (t : Tree) → IsWithin s t → IsLeastClosed (found_graph s t) (found s t)
unfolding found
found_least s t w = reached_least (found_graph s t) (found_places s t w)

pub found_full : (s : Setting) (t : Tree) → IsWithin s t → (k : ℕ) (a : Addr) → in_round (found_graph s t) k a ≡ true → found s t a ≡ true
unfolding found
found_full s t w k a h = round_reached (found_graph s t) (found_places s t w) k a h

pub found_readable : (s : Setting) (t : Tree) → IsWithin s t → (a : Addr) → found s t a ≡ true → readable t a ≡ true
unfolding found_graph
found_readable s t w a h = (found_least s t w).least (readable t) (record { starts = λ x k. (and_parts (s.start x) (readable t x) k).1; edges = λ d x k e. (and_parts (readable t x) _ e).0 }) a h

pub found_shortest : (s : Setting) (t : Tree) → IsWithin s t → (a : Addr) → found s t a ≡ true → IsShortest (found_graph s t) a (level s t a)
unfolding found level
found_shortest s t w a h = round_shortest (found_graph s t) (found_places s t w) a h

pub volume_within : (f : Frame) (v : Volume) → IsWithin (setting_of f v) (tree_of f v)
unfolding setting_of
volume_within f v = record {
  among = λ a h. let r = readable_placed f v a h in contains_of (setting_of f v).places a (placed_among v a r.0 r.1);
}
