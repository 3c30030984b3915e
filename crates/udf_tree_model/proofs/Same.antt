-- Trees that have the same entries where those of the one are sought tell the same of what is found and kept.
use Rattle.std.proofs.Common.{◌≡◌, ◌⊎◌, ℕ, zero, suc, List, [], ◌∷◌, ◌++◌, map, length, Bool, true, false, not, ◌&&◌, ◌||◌, cond, refl, sym, ap, ◌∙◌, inl, inr}
use Rattle.std.specs.Prelude.{Option, is_some}
use Rattle.std.specs.List.{list_any, list_all, filter}
use Rattle.std.proofs.Math.Path.{fun_ext}
use Rattle.std.proofs.lemmas.Bool.{and_parts, and_from}
use Rattle.udf_field.specs.declared.address.Addr.{Addr}
use Rattle.udf_tree_model.specs.Link.{Link, target_of, is_pointer}
use Rattle.udf_tree_model.specs.Node.{Item, Tree, Setting, Node, node_or, readable, node_at, good_length, wants, bytes_of}
use Rattle.udf_tree_model.specs.Rounds.{Graph, in_round, reached, round_from, round_of}
use Rattle.udf_tree_model.specs.Found.{leads_to, whole_links, found_graph, found, level}
use Rattle.udf_tree_model.specs.Won.{stands_against, beaten_by_none, wins, holds, bytes_before, kept_length, sound, kept_links}
use Rattle.udf_tree_model.specs.Chosen.{first_of_names, named, Rank, first_rank, rank_of, ranks_in, ranks_over, chosen, is_rank, selects, selected, fit, fitted}
use Rattle.udf_tree_model.specs.Kept.{kept_graph, kept, depth}
use Rattle.udf_tree_model.specs.Laws.{IsWithin, IsSought, SameSought, SameSurvey}
use Rattle.udf_tree_model.proofs.Members.{Member, member_of, contains_of, any_gives, any_from}
use Rattle.udf_tree_model.proofs.Reached.{round_gives, zero_round, same_rounds}
use Rattle.udf_tree_model.proofs.Places.{same_address, address_same}
use Rattle.udf_tree_model.proofs.Finding.{found_least, found_full}
use Rattle.udf_tree_model.proofs.Keeping.{sound_found, edge_sound}

-- where a test agrees, so do the bytes before its first failure
before_same : (p q : Item → Bool) (is : List Item) → ((i : Item) → p i ≡ q i) → bytes_before p is ≡ bytes_before q is
before_same p q is h = ap (λ (r : Item → Bool). bytes_before r is) (fun_ext h)

all_same : {X : Type 0} (p q : X → Bool) (xs : List X) → ((x : X) → p x ≡ q x) → list_all p xs ≡ list_all q xs
all_same {X} p q xs h = ap (λ (r : X → Bool). list_all r xs) (fun_ext h)

rounds_same : (g h : Graph) → ((k : ℕ) (a : Addr) → in_round g k a ≡ in_round h k a) → (n k : ℕ) (a : Addr) → round_from g n k a ≡ round_from h n k a
unfolding round_from
rounds_same g h e zero k a = refl
rounds_same g h e (suc n) k a =
    ap (λ (b : Bool). cond b k (round_from g n (suc k) a)) (e k a) ∙ ap (λ (m : ℕ). cond (in_round h k a) k m) (rounds_same g h e n (suc k) a)

-- an entry that is sought and there is found
pub sought_found : (s : Setting) (t : Tree) → IsWithin s t → (a : Addr) → IsSought s t a → readable t a ≡ true → found s t a ≡ true
unfolding found_graph
sought_found s t w a (inl h) r = (found_least s t w).closed.starts a (and_from (s.start a) (readable t a) h r)
sought_found s t w a (inr (d, f, h, m, e)) r =
    (found_least s t w).closed.edges d a h (and_from (readable t a) _ r (any_from (leads_to a) (whole_links t d) f (member_of (whole_links t d) f m) (address_same (target_of f.says) a e)))

module _ (s : Setting) (t u : Tree) (w : IsWithin s t) (c : SameSought s t u) where
  -- what is found was sought
  found_sought : (a : Addr) → found s t a ≡ true → IsSought s t a
  unfolding found reached found_graph
  found_sought a h = over (length (found_graph s t).places) h
    where
      over : (k : ℕ) → in_round (found_graph s t) k a ≡ true → IsSought s t a
      over zero i = inl (and_parts (s.start a) (readable t a) (zero_round (found_graph s t) a i)).0
      over (suc k) i = go (over k) (round_gives (found_graph s t) k a i)
        where
          go : (in_round (found_graph s t) k a ≡ true → IsSought s t a)
              → (in_round (found_graph s t) k a ≡ true) ⊎ ((d : Addr) × Member d (found_graph s t).places × (in_round (found_graph s t) k d ≡ true) × ((found_graph s t).edge d a ≡ true))
              → IsSought s t a
          go rest (inl e) = rest e
          go rest (inr r) =
              let x = any_gives (leads_to a) (whole_links t r.0) (and_parts (readable t a) _ r.3).1 in
              inr (r.0, x.0, found_full s t w k r.0 r.2, contains_of (whole_links t r.0) x.0 x.1, same_address (target_of x.0.says) a x.2)

  there : (a : Addr) → found s t a ≡ true → u a ≡ t a
  there a h = c.same a (found_sought a h)

  node_there : (a : Addr) → found s t a ≡ true → node_at u a ≡ node_at t a
  unfolding node_at
  node_there a h = ap node_or (there a h)

  node_sought : (a : Addr) → IsSought s t a → node_at u a ≡ node_at t a
  unfolding node_at
  node_sought a h = ap node_or (c.same a h)

  readable_sought : (a : Addr) → IsSought s t a → readable u a ≡ readable t a
  unfolding readable
  readable_sought a h = ap (λ (o : Option Node). is_some o) (c.same a h)

  links_there : (a : Addr) → found s t a ≡ true → whole_links u a ≡ whole_links t a
  unfolding whole_links good_length
  links_there a h = ap (λ (n : Node). n.links (bytes_of n.list)) (node_there a h)

  found_rounds : (k : ℕ) (a : Addr) → in_round (found_graph s t) k a ≡ in_round (found_graph s u) k a
  unfolding found_graph
  found_rounds = same_rounds (found_graph s t) (found_graph s u) refl starts edges
    where
      starts : (a : Addr) → (s.start a && readable t a) ≡ (s.start a && readable u a)
      starts a = by_start (s.start a) refl
        where
          by_start : (b : Bool) → s.start a ≡ b → (b && readable t a) ≡ (b && readable u a)
          by_start true e = sym (readable_sought a (inl e))
          by_start false e = refl

      edges : (k : ℕ) (d a : Addr) → in_round (found_graph s t) k d ≡ true → (readable t a && list_any (leads_to a) (whole_links t d)) ≡ (readable u a && list_any (leads_to a) (whole_links u d))
      edges k d a h =
          ap (λ (l : List Link). readable t a && list_any (leads_to a) l) (sym (links_there d (found_full s t w k d h)))
          ∙ by_link (list_any (leads_to a) (whole_links u d)) refl
        where
          by_link : (b : Bool) → list_any (leads_to a) (whole_links u d) ≡ b → (readable t a && b) ≡ (readable u a && b)
          by_link true e =
              let x = any_gives (leads_to a) (whole_links t d) (ap (λ (l : List Link). list_any (leads_to a) l) (sym (links_there d (found_full s t w k d h))) ∙ e) in
              let i : IsSought s t a = inr (d, x.0, found_full s t w k d h, contains_of (whole_links t d) x.0 x.1, same_address (target_of x.0.says) a x.2) in
              ap (λ (b : Bool). b && true) (sym (readable_sought a i))
          by_link false e = none (readable t a) ∙ sym (none (readable u a))
            where
              none : (b : Bool) → (b && false) ≡ false
              none true = refl
              none false = refl

  found_is : (a : Addr) → found s u a ≡ found s t a
  unfolding found reached found_graph
  found_is a = sym (found_rounds (length s.places) a)

  level_is : (a : Addr) → level s u a ≡ level s t a
  unfolding level round_of found_graph
  level_is a = sym (rounds_same (found_graph s t) (found_graph s u) found_rounds (length s.places) 0 a)

  wants_there : (a : Addr) → found s t a ≡ true → wants u a ≡ wants t a
  unfolding wants
  wants_there a h = ap (λ (n : Node). n.own ++ n.list) (node_there a h)

  wins_is : (a : Addr) (i : Item) → wins s u a i ≡ wins s t a i
  unfolding wins
  wins_is a i = ap (λ (b : Bool). not (s.fixed i.at) && (not i.barred && b)) (all_same (beaten_by_none s u a i) (beaten_by_none s t a i) s.places each)
    where
      each : (o : Addr) → beaten_by_none s u a i o ≡ beaten_by_none s t a i o
      each o = ap (λ (b : Bool). not b || list_all (stands_against a i o) (wants u o)) (found_is o) ∙ by_found (found s t o) refl
        where
          by_found : (b : Bool) → found s t o ≡ b → (not b || list_all (stands_against a i o) (wants u o)) ≡ (not b || list_all (stands_against a i o) (wants t o))
          by_found true e = ap (λ (n : List Item). list_all (stands_against a i o) n) (wants_there o e)
          by_found false e = refl

  holds_is : (a : Addr) (i : Item) → holds s u a i ≡ holds s t a i
  unfolding holds
  holds_is a i = ap (λ (b : Bool). not i.takes || b) (wins_is a i)

  length_node : (a : Addr) → node_at u a ≡ node_at t a → kept_length s u a ≡ kept_length s t a
  unfolding kept_length
  length_node a e =
      before_same (holds s u a) (holds s t a) (node_at u a).list (holds_is a)
      ∙ ap (λ (n : Node). bytes_before (holds s t a) n.list) e

  links_node : (a : Addr) → node_at u a ≡ node_at t a → kept_links s u a ≡ kept_links s t a
  unfolding kept_links
  links_node a e = ap (λ (l : ℕ). (node_at u a).links l) (length_node a e) ∙ ap (λ (n : Node). n.links (kept_length s t a)) e

  sound_is : (a : Addr) → sound s u a ≡ sound s t a
  unfolding sound
  sound_is a = ap (λ (b : Bool). b && rest u a) (found_is a) ∙ by_found (found s t a) refl
    where
      rest : Tree → Addr → Bool
      rest z x = list_all (wins s z x) (node_at z x).own && (not (node_at z x).directory || (node_at z x).enough (kept_length s z x))

      by_found : (b : Bool) → found s t a ≡ b → (b && rest u a) ≡ (b && rest t a)
      by_found true e =
          same (node_there a e)
        where
          same : node_at u a ≡ node_at t a → rest u a ≡ rest t a
          same n =
              ap (λ (b : Bool). b && (not (node_at u a).directory || (node_at u a).enough (kept_length s u a))) (all_same (wins s u a) (wins s t a) (node_at u a).own (wins_is a))
              ∙ ap (λ (l : ℕ). list_all (wins s t a) (node_at u a).own && (not (node_at u a).directory || (node_at u a).enough l)) (length_node a n)
              ∙ ap (λ (m : Node). list_all (wins s t a) m.own && (not m.directory || m.enough (kept_length s t a))) n
      by_found false e = refl

  named_node : (a : Addr) → node_at u a ≡ node_at t a → named s u a ≡ named s t a
  unfolding named
  named_node a e = ap (λ (l : List Link). first_of_names [] l) (links_node a e)

  ranks_is : (a d : Addr) → ranks_in s u a d ≡ ranks_in s t a d
  unfolding ranks_in rank_of
  ranks_is a d = ap (λ (b : Bool). cond b (map (rank_of s u d) (filter (leads_to a) (named s u d))) []) (sound_is d) ∙ by_sound (sound s t d) refl
    where
      by_sound : (b : Bool) → sound s t d ≡ b → cond b (map (rank_of s u d) (filter (leads_to a) (named s u d))) [] ≡ cond b (map (rank_of s t d) (filter (leads_to a) (named s t d))) []
      by_sound true e =
          ap (λ (l : List Link). map (rank_of s u d) (filter (leads_to a) l)) (named_node d (node_there d (sound_found s t d e)))
          ∙ ap (λ (n : ℕ). map (λ (f : Link). let x : Rank = record { level = n; holder = d; place = f.place } in x) (filter (leads_to a) (named s t d))) (level_is d)
      by_sound false e = refl

  ranks_over_is : (a : Addr) (ds : List Addr) → ranks_over s u a ds ≡ ranks_over s t a ds
  unfolding ranks_over
  ranks_over_is a [] = refl
  ranks_over_is a (d ∷ ds) = ap (λ (l : List Rank). l ++ ranks_over s u a ds) (ranks_is a d) ∙ ap (λ (l : List Rank). ranks_in s t a d ++ l) (ranks_over_is a ds)

  chosen_is : (a : Addr) → chosen s u a ≡ chosen s t a
  unfolding chosen
  chosen_is a = ap first_rank (ranks_over_is a s.places)

  selects_is : (d : Addr) (f : Link) → selects s u d f ≡ selects s t d f
  unfolding selects
  selects_is d f = ap (λ (b : Bool). b && kind u) (sound_is (target_of f.says)) ∙ by_sound (sound s t (target_of f.says)) refl
    where
      kind : Tree → Bool
      kind z = cond (node_at z (target_of f.says)).directory (not (s.start (target_of f.says)) && is_rank d f (chosen s z (target_of f.says))) (not (is_pointer f.says))

      by_sound : (b : Bool) → sound s t (target_of f.says) ≡ b → (b && kind u) ≡ (b && kind t)
      by_sound true e =
          ap (λ (n : Node). cond n.directory (not (s.start (target_of f.says)) && is_rank d f (chosen s u (target_of f.says))) (not (is_pointer f.says))) (node_there (target_of f.says) (sound_found s t (target_of f.says) e))
          ∙ ap (λ (o : Option Rank). cond (node_at t (target_of f.says)).directory (not (s.start (target_of f.says)) && is_rank d f o) (not (is_pointer f.says))) (chosen_is (target_of f.says))
      by_sound false e = refl

  fitted_node : (a : Addr) → node_at u a ≡ node_at t a → fitted s u a ≡ fitted s t a
  unfolding fitted selected
  fitted_node a e =
      ap (λ (n : ℕ). fit n (filter (selects s u a) (named s u a))) (ap (λ (l : ℕ). (node_at u a).space l) (length_node a e) ∙ ap (λ (n : Node). n.space (kept_length s t a)) e)
      ∙ ap (λ (l : List Link). fit ((node_at t a).space (kept_length s t a)) (filter (selects s u a) l)) (named_node a e)
      ∙ ap (λ (p : Link → Bool). fit ((node_at t a).space (kept_length s t a)) (filter p (named s t a))) (fun_ext (selects_is a))

  -- what a round of the kept ones has was sought
  kept_sought : (k : ℕ) (a : Addr) → in_round (kept_graph s t) k a ≡ true → IsSought s t a
  unfolding kept_graph
  kept_sought zero a h = inl (zero_round (kept_graph s t) a h)
  kept_sought (suc k) a h = go (λ e. kept_sought k a e) (round_gives (kept_graph s t) k a h)
    where
      go : (in_round (kept_graph s t) k a ≡ true → IsSought s t a)
          → (in_round (kept_graph s t) k a ≡ true) ⊎ ((d : Addr) × Member d (kept_graph s t).places × (in_round (kept_graph s t) k d ≡ true) × ((kept_graph s t).edge d a ≡ true))
          → IsSought s t a
      go rest (inl e) = rest e
      go rest (inr r) = found_sought a (sound_found s t a (edge_sound s t r.0 a r.3))

  kept_rounds : (k : ℕ) (a : Addr) → in_round (kept_graph s t) k a ≡ in_round (kept_graph s u) k a
  unfolding kept_graph
  kept_rounds = same_rounds (kept_graph s t) (kept_graph s u) refl (λ a. refl) (λ k d a h. ap (λ (l : List Link). list_any (leads_to a) l) (sym (fitted_node d (node_sought d (kept_sought k d h)))))

  kept_is : (a : Addr) → kept s u a ≡ kept s t a
  unfolding kept reached kept_graph
  kept_is a = sym (kept_rounds (length s.places) a)

  depth_is : (a : Addr) → depth s u a ≡ depth s t a
  unfolding depth round_of kept_graph
  depth_is a = sym (rounds_same (kept_graph s t) (kept_graph s u) kept_rounds (length s.places) 0 a)

  pub same_survey : SameSurvey s t u
  same_survey = record {
    found_same = found_is;
    levels = level_is;
    nodes = there;
    winners = wins_is;
    lengths = λ a h. length_node a (node_there a h);
    sound_same = sound_is;
    choices = chosen_is;
    fitted_same = λ a h. fitted_node a (node_there a h);
    kept_same = kept_is;
    depths = depth_is;
  }
