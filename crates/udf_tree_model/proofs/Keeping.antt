-- What is kept.
use Rattle.std.proofs.Common.{◌≡◌, ◌⊎◌, ℕ, zero, suc, [], length, true, subst, inl, inr}
use Rattle.std.specs.List.{filter}
use Rattle.std.proofs.lemmas.Bool.{and_parts}
use Rattle.udf_field.specs.declared.address.Addr.{Addr}
use Rattle.udf_tree_model.specs.Link.{Link, target_of}
use Rattle.udf_tree_model.specs.Node.{Tree, Setting}
use Rattle.udf_tree_model.specs.Rounds.{in_round, reached, IsLeastClosed, IsShortest}
use Rattle.udf_tree_model.specs.Found.{leads_to, found}
use Rattle.udf_tree_model.specs.Won.{sound, kept_links}
use Rattle.udf_tree_model.specs.Chosen.{first_of_names, named, selects, selected, fitted}
use Rattle.udf_tree_model.specs.Kept.{kept_graph, kept, depth}
use Rattle.udf_tree_model.specs.Laws.{IsWithin, HasSoundStarts, KeepsBy}
use Rattle.udf_tree_model.proofs.Members.{Member, member_of, contains_of, any_gives, any_from, member_filter}
use Rattle.udf_tree_model.proofs.Reached.{IsWithin as HasPlaces, reached_least, round_gives, zero_round, round_reached, round_shortest}
use Rattle.udf_tree_model.proofs.Places.{same_address, address_same}
use Rattle.udf_tree_model.proofs.Finding.{found_readable}
use Rattle.udf_tree_model.proofs.Linking.{first_of_names_member, fit_member}

pub edge_gives : (s : Setting) (t : Tree) (d a : Addr) → (kept_graph s t).edge d a ≡ true → (f : Link) × Member f (fitted s t d) × (target_of f.says ≡ a)
unfolding kept_graph
edge_gives s t d a h = let r = any_gives (leads_to a) (fitted s t d) h in (r.0, r.1, same_address (target_of r.0.says) a r.2)

pub edge_from : (s : Setting) (t : Tree) (d a : Addr) (f : Link) → Member f (fitted s t d) → target_of f.says ≡ a → (kept_graph s t).edge d a ≡ true
unfolding kept_graph
edge_from s t d a f m e = any_from (leads_to a) (fitted s t d) f m (address_same (target_of f.says) a e)

pub fitted_gives : (s : Setting) (t : Tree) (d : Addr) (f : Link) → Member f (fitted s t d)
    → Member f (kept_links s t d) × Member f (named s t d) × (selects s t d f ≡ true)
unfolding fitted selected named
fitted_gives s t d f m =
    let r = member_filter (selects s t d) (first_of_names [] (kept_links s t d)) f (fit_member _ (filter (selects s t d) (first_of_names [] (kept_links s t d))) f m) in
    (first_of_names_member [] (kept_links s t d) f r.0, r.0, r.1)

pub selects_sound : (s : Setting) (t : Tree) (d : Addr) (f : Link) → selects s t d f ≡ true → sound s t (target_of f.says) ≡ true
unfolding selects
selects_sound s t d f h = (and_parts (sound s t (target_of f.says)) _ h).0

pub sound_found : (s : Setting) (t : Tree) (a : Addr) → sound s t a ≡ true → found s t a ≡ true
unfolding sound
sound_found s t a h = (and_parts (found s t a) _ h).0

pub edge_sound : (s : Setting) (t : Tree) (d a : Addr) → (kept_graph s t).edge d a ≡ true → sound s t a ≡ true
edge_sound s t d a h =
    let r = edge_gives s t d a h in
    let k = selects_sound s t d r.0 (fitted_gives s t d r.0 r.1).2 in
    subst (λ (x : Addr). sound s t x ≡ true) r.2 k

pub kept_places : (s : Setting) (t : Tree) → IsWithin s t → HasSoundStarts s t → HasPlaces (kept_graph s t)
unfolding kept_graph
kept_places s t w c = record {
  starts = λ a h. member_of s.places a (w.among a (found_readable s t w a (sound_found s t a (c.starts a h))));
  ends = λ d a h. member_of s.places a (w.among a (found_readable s t w a (sound_found s t a (edge_sound s t d a h))));
}

pub kept_least : (s : Setting) (t : Tree) → IsWithin s t → HasSoundStarts s t → IsLeastClosed (kept_graph s t) (kept s t)
unfolding kept
kept_least s t w c = reached_least (kept_graph s t) (kept_places s t w c)

pub kept_shortest : (s : Setting) (t : Tree) → IsWithin s t → HasSoundStarts s t → (a : Addr) → kept s t a ≡ true → IsShortest (kept_graph s t) a (depth s t a)
unfolding kept depth
kept_shortest s t w c a h = round_shortest (kept_graph s t) (kept_places s t w c) a h

pub kept_rounds : (s : Setting) (t : Tree) → IsWithin s t → HasSoundStarts s t → (k : ℕ) (a : Addr) → in_round (kept_graph s t) k a ≡ true → kept s t a ≡ true
unfolding kept
kept_rounds s t w c k a h = round_reached (kept_graph s t) (kept_places s t w c) k a h

pub kept_start : (s : Setting) (t : Tree) → IsWithin s t → HasSoundStarts s t → (a : Addr) → s.start a ≡ true → kept s t a ≡ true
unfolding kept_graph
kept_start s t w c a h = (kept_least s t w c).closed.starts a h

-- a fitted link of a kept entry keeps its target
pub kept_target : (s : Setting) (t : Tree) → IsWithin s t → HasSoundStarts s t → (d a : Addr) → kept s t d ≡ true → (kept_graph s t).edge d a ≡ true → kept s t a ≡ true
kept_target s t w c d a h e = (kept_least s t w c).closed.edges d a h e

pub kept_sound : (s : Setting) (t : Tree) → IsWithin s t → HasSoundStarts s t → (a : Addr) → kept s t a ≡ true → sound s t a ≡ true
unfolding kept_graph
kept_sound s t w c a h = (kept_least s t w c).least (sound s t) (record { starts = c.starts; edges = λ d x k e. edge_sound s t d x e }) a h

pub kept_found : (s : Setting) (t : Tree) → IsWithin s t → HasSoundStarts s t → (a : Addr) → kept s t a ≡ true → found s t a ≡ true
kept_found s t w c a h = sound_found s t a (kept_sound s t w c a h)

-- what is kept is a start, or a kept entry leads to it
pub kept_by : (s : Setting) (t : Tree) → IsWithin s t → HasSoundStarts s t → (a : Addr) → kept s t a ≡ true
    → (s.start a ≡ true) ⊎ ((d : Addr) × (f : Link) × KeepsBy s t a d f)
unfolding kept reached kept_graph
kept_by s t w c a h = over (length (kept_graph s t).places) h
  where
    over : (k : ℕ) → in_round (kept_graph s t) k a ≡ true → (s.start a ≡ true) ⊎ ((d : Addr) × (f : Link) × KeepsBy s t a d f)
    over zero i = inl (zero_round (kept_graph s t) a i)
    over (suc k) i = go (over k) (round_gives (kept_graph s t) k a i)
      where
        go : (in_round (kept_graph s t) k a ≡ true → (s.start a ≡ true) ⊎ ((d : Addr) × (f : Link) × KeepsBy s t a d f))
            → (in_round (kept_graph s t) k a ≡ true) ⊎ ((d : Addr) × Member d (kept_graph s t).places × (in_round (kept_graph s t) k d ≡ true) × ((kept_graph s t).edge d a ≡ true))
            → (s.start a ≡ true) ⊎ ((d : Addr) × (f : Link) × KeepsBy s t a d f)
        go rest (inl e) = rest e
        go rest (inr r) =
            let g = edge_gives s t r.0 a r.3 in
            inr (r.0, g.0, record { holder = kept_rounds s t w c k r.0 r.2; among = contains_of (fitted s t r.0) g.0 g.1; leads = g.2 })
