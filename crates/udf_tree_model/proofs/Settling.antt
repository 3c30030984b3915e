-- In a tree that has each kept entry mended what is found is what was kept, and it stands as it is.
use Rattle.std.proofs.Common.{◌≡◌, ◌⊎◌, ℕ, List, [], map, length, Bool, true, false, cond, not, ◌&&◌, ◌||◌, Option, Some, refl, sym, ap, ◌∙◌, subst, inl, inr, eq-eqb}
use Rattle.std.specs.Prelude.{Contains, ◌==◌}
use Rattle.std.specs.List.{list_any, list_all, filter}
use Rattle.std.proofs.lemmas.Bool.{and_parts, and_from, or_right}
use Rattle.udf_field.specs.declared.address.Addr.{Addr}
use Rattle.udf_tree_model.specs.Link.{Link, Says, target_of, name_of, is_pointer}
use Rattle.udf_tree_model.specs.Node.{Item, Tree, Setting, readable, node_at, good_length, wants, is_entry, is_none_of}
use Rattle.udf_tree_model.specs.Rounds.{in_round, reached}
use Rattle.udf_tree_model.specs.Found.{leads_to, whole_links, found_graph, found}
use Rattle.udf_tree_model.specs.Won.{wins, kept_length, sound, kept_links, IsWant}
use Rattle.udf_tree_model.specs.Chosen.{Rank, first_of_names, named, rank_of, ranks_over, chosen, is_rank, selects, selected, fit, fitted}
use Rattle.udf_tree_model.specs.Kept.{kept_graph, kept}
use Rattle.udf_tree_model.specs.Rules.{targets_hold, names_hold, is_named, is_chosen, is_directory_entry}
use Rattle.udf_tree_model.specs.Laws.{PlacesDiffer, SameWant, FallAway}
use Rattle.udf_tree_model.specs.Mended.{said, IsMendedAt, IsMended, IsSettled}
use Rattle.udf_tree_model.proofs.Members.{Member, member_of, contains_of, any_gives, any_from, all_at, all_from, member_append, member_left, member_right, filter_all, same_bools}
use Rattle.udf_tree_model.proofs.Reached.{same_rounds}
use Rattle.udf_tree_model.proofs.Places.{same_address, address_same}
use Rattle.udf_tree_model.proofs.Winning.{same_want, stays_won, kept_whole}
use Rattle.udf_tree_model.proofs.Linking.{names, Distinct, distinct_fitted, first_of_names_whole, fit_whole, names_of_said, name_tells, said_there, first_one}
use Rattle.udf_tree_model.proofs.Keeping.{edge_from, fitted_gives, selects_sound, sound_found, kept_start, kept_target, kept_sound, kept_found, kept_rounds}
use Rattle.udf_tree_model.proofs.Choosing.{ranks_give, ranks_have, selects_chosen, selects_file, own_rank, one_fitted}

any_said : (a : Addr) (fs gs : List Link) → said fs ≡ said gs → list_any (leads_to a) fs ≡ true → list_any (leads_to a) gs ≡ true
any_said a fs gs e h =
    let r = any_gives (leads_to a) fs h in
    let k = said_there fs gs e r.0 r.1 in
    any_from (leads_to a) gs k.0 k.1 (address_same (target_of k.0.says) a (ap target_of (sym k.2) ∙ same_address (target_of r.0.says) a r.2))

module _ (s : Setting) (t u : Tree) (m : IsMended s t u) where
  was_kept : (k : ℕ) (a : Addr) → in_round (kept_graph s t) k a ≡ true → kept s t a ≡ true
  was_kept k a h = kept_rounds s t m.old_within m.old_starts k a h

  keeps : (d : Addr) (f : Link) → kept s t d ≡ true → Member f (fitted s t d) → kept s t (target_of f.says) ≡ true
  keeps d f h k = kept_target s t m.old_within m.old_starts d (target_of f.says) h (edge_from s t d (target_of f.says) f k refl)

  old_link : (d : Addr) (h : kept s t d ≡ true) (f : Link) → Member f (whole_links u d) → (g : Link) × Member g (fitted s t d) × (f.says ≡ g.says)
  old_link d h f p = said_there (whole_links u d) (fitted s t d) (m.each d h).same_links f p

  -- round by round, what is found in the mended tree is what was kept
  found_rounds : (k : ℕ) (a : Addr) → in_round (kept_graph s t) k a ≡ in_round (found_graph s u) k a
  unfolding kept_graph found_graph
  found_rounds = same_rounds (kept_graph s t) (found_graph s u) refl starts edges
    where
      starts : (a : Addr) → s.start a ≡ (s.start a && readable u a)
      starts a = same_bools _ _ (λ h. and_from (s.start a) (readable u a) h (m.each a (kept_start s t m.old_within m.old_starts a h)).stays) (λ h. (and_parts (s.start a) (readable u a) h).0)

      edges : (k : ℕ) (d a : Addr) → in_round (kept_graph s t) k d ≡ true → (kept_graph s t).edge d a ≡ (found_graph s u).edge d a
      edges k d a h =
          let i = was_kept k d h in
          let l = (m.each d i).same_links in
          same_bools _ _
          (λ e. and_from (readable u a) _ (m.each a (kept_target s t m.old_within m.old_starts d a i e)).stays (any_said a (fitted s t d) (whole_links u d) (sym l) e))
          (λ e. any_said a (whole_links u d) (fitted s t d) l (and_parts (readable u a) _ e).1)

  found_is_kept : (a : Addr) → found s u a ≡ kept s t a
  unfolding found kept reached kept_graph found_graph
  found_is_kept a = sym (found_rounds (length s.places) a)

  fall_away : FallAway s t u
  unfolding wants
  fall_away = record { each = λ o j x. go o j x (sym (found_is_kept o) ∙ x.found_owner) (member_append (node_at u o).own (node_at u o).list j (member_of (wants u o) j x.among)) }
    where
      go : (o : Addr) (j : Item) → IsWant s u o j → kept s t o ≡ true → Member j (node_at u o).own ⊎ Member j (node_at u o).list → (i : Item) × SameWant j i × IsWant s t o i
      go o j x h (inl p) =
          let q : Member j (node_at t o).own = subst (λ (l : List Item). Member j l) (m.each o h).same_own p in (
            j,
            same_want j,
            record {
              found_owner = kept_found s t m.old_within m.old_starts o h;
              among = contains_of (wants t o) j (member_left (node_at t o).own (node_at t o).list j q);
              takes = x.takes;
            },
          )
      go o j x h (inr p) =
          let r = (m.each o h).won j (contains_of (node_at u o).list j p) x.takes in (
            r.0,
            r.2,
            record {
              found_owner = kept_found s t m.old_within m.old_starts o h;
              among = contains_of (wants t o) r.0 (member_right (node_at t o).own (node_at t o).list r.0 (member_of (node_at t o).list r.0 r.1));
              takes = sym r.2.takes ∙ x.takes;
            },
          )

  item_won : (a : Addr) → kept s t a ≡ true → (i : Item) → Contains (node_at u a).list i → i.takes ≡ true → wins s u a i ≡ true
  item_won a h i k c = let r = (m.each a h).won i k c in stays_won s t u m.old_within fall_away a i r.0 r.2 r.3

  own_won : (a : Addr) → kept s t a ≡ true → (i : Item) → Member i (node_at u a).own → wins s u a i ≡ true
  unfolding sound
  own_won a h i k =
      let x = and_parts (found s t a) _ (kept_sound s t m.old_within m.old_starts a h) in
      let y = and_parts (list_all (wins s t a) (node_at t a).own) _ x.1 in
      stays_won s t u m.old_within fall_away a i i (same_want i) (all_at (wins s t a) (node_at t a).own i y.0 (subst (λ (l : List Item). Member i l) (m.each a h).same_own k))

  length_whole : (a : Addr) → kept s t a ≡ true → kept_length s u a ≡ good_length u a
  length_whole a h = kept_whole s u a (item_won a h)

  stays_sound : (a : Addr) → kept s t a ≡ true → sound s u a ≡ true
  unfolding sound
  stays_sound a h = and_from _ _ (found_is_kept a ∙ h) (and_from _ _ (all_from (wins s u a) (node_at u a).own (λ i k. own_won a h i k)) (go (node_at u a).directory refl))
    where
      go : (b : Bool) → (node_at u a).directory ≡ b → (not b || (node_at u a).enough (kept_length s u a)) ≡ true
      go true e = rw (length_whole a h) ((m.each a h).long_enough e)
      go false e = refl

  sound_kept : (d : Addr) → sound s u d ≡ true → kept s t d ≡ true
  sound_kept d h = sym (found_is_kept d) ∙ sound_found s u d h

  links_whole : (d : Addr) → kept s t d ≡ true → kept_links s u d ≡ whole_links u d
  unfolding kept_links whole_links
  links_whole d h = ap (λ (l : ℕ). (node_at u d).links l) (length_whole d h)

  pub names_differ : (d : Addr) → kept s t d ≡ true → Distinct (names (whole_links u d))
  unfolding fitted selected named
  names_differ d h =
      let l = (m.each d h).same_links in
      let e : names (whole_links u d) ≡ names (fitted s t d) = names_of_said (whole_links u d) ∙ ap (λ (ps : List Says). map name_of ps) l ∙ sym (names_of_said (fitted s t d)) in
      subst (λ (ns : List (List ℕ)). Distinct ns) (sym e) (distinct_fitted _ (selects s t d) (kept_links s t d))

  named_whole : (d : Addr) → kept s t d ≡ true → named s u d ≡ whole_links u d
  unfolding named
  named_whole d h = ap (λ (l : List Link). first_of_names [] l) (links_whole d h) ∙ first_of_names_whole [] (whole_links u d) (names_differ d h) (λ f k. refl)

  -- two links of kept holders to one directory are one link of one holder
  one_link : (a : Addr) → (node_at t a).directory ≡ true → (d e : Addr) → kept s t d ≡ true → kept s t e ≡ true → (f g : Link) → Member f (whole_links u d) → Member g (whole_links u e)
      → target_of f.says ≡ a → target_of g.says ≡ a → (d ≡ e) × (name_of f.says ≡ name_of g.says)
  one_link a k d e h i f g p q x y =
      let b = old_link d h f p in
      let c = old_link e i g q in
      let b_leads : target_of b.0.says ≡ a = ap target_of (sym b.2) ∙ x in
      let c_leads : target_of c.0.says ≡ a = ap target_of (sym c.2) ∙ y in
      let r = one_fitted s t m.old_places d e b.0 c.0 b.1 c.1 (b_leads ∙ sym c_leads) (subst (λ (z : Addr). (node_at t z).directory ≡ true) (sym b_leads) k) in
      (r.0, ap name_of b.2 ∙ ap (λ (z : Link). name_of z.says) r.1 ∙ sym (ap name_of c.2))

  -- a link to a directory that a kept holder has is the chosen one there
  stays_chosen : (d : Addr) → kept s t d ≡ true → (f : Link) → Member f (whole_links u d) → (node_at t (target_of f.says)).directory ≡ true → chosen s u (target_of f.says) ≡ Some (rank_of s u d f)
  unfolding chosen
  stays_chosen d h f p k =
      first_one (ranks_over s u (target_of f.says) s.places) (rank_of s u d f)
      (ranks_have s u (target_of f.says) s.places d f (member_of s.places d (m.new_within.among d (m.each d h).stays)) (stays_sound d h) (subst (λ (l : List Link). Member f l) (sym (named_whole d h)) p) refl)
      (λ x q. go x (ranks_give s u (target_of f.says) s.places x q))
    where
      go : (x : Rank) → (e : Addr) × (g : Link) × (sound s u e ≡ true) × Member g (named s u e) × (target_of g.says ≡ target_of f.says) × (x ≡ rank_of s u e g) → x ≡ rank_of s u d f
      go x r =
          let i = sound_kept r.0 r.2 in
          let q : Member r.1 (whole_links u r.0) = subst (λ (l : List Link). Member r.1 l) (named_whole r.0 i) r.3 in
          let o = one_link (target_of f.says) k r.0 d i h r.1 f q p r.4 refl in
          let same : r.1 ≡ f = name_tells (whole_links u d) (names_differ d h) r.1 f (subst (λ (z : Addr). Member r.1 (whole_links u z)) o.0 q) p o.1 in
          r.5 ∙ ap (λ (z : Addr). rank_of s u z r.1) o.0 ∙ ap (rank_of s u d) same

  -- each link that a kept holder has in the mended tree is selected there
  stays_selected : (d : Addr) → kept s t d ≡ true → (f : Link) → Member f (whole_links u d) → selects s u d f ≡ true
  unfolding selects
  stays_selected d h f p = and_from _ _ (stays_sound (target_of f.says) there) (go (node_at u (target_of f.says)).directory refl)
    where
      there : kept s t (target_of f.says) ≡ true
      there = let a = old_link d h f p in subst (λ (z : Says). kept s t (target_of z) ≡ true) (sym a.2) (keeps d a.0 h a.1)

      go : (b : Bool) → (node_at u (target_of f.says)).directory ≡ b → cond b (not (s.start (target_of f.says)) && is_rank d f (chosen s u (target_of f.says))) (not (is_pointer f.says)) ≡ true
      go false e =
          let a = old_link d h f p in
          let k : (node_at t (target_of f.says)).directory ≡ false = sym (m.each (target_of f.says) there).same_kind ∙ e in
          ap (λ (z : Says). not (is_pointer z)) a.2 ∙ selects_file s t d a.0 (target_of f.says) (ap target_of (sym a.2)) k (fitted_gives s t d a.0 a.1).2
      go true e =
          let a = old_link d h f p in
          let k : (node_at t (target_of f.says)).directory ≡ true = sym (m.each (target_of f.says) there).same_kind ∙ e in
          let c = selects_chosen s t d a.0 (target_of f.says) (ap target_of (sym a.2)) k (fitted_gives s t d a.0 a.1).2 in
          and_from _ _ c.0 (subst (λ (o : Option Rank). is_rank d f o ≡ true) (sym (stays_chosen d h f p k)) (own_rank s u d f))

  selected_whole : (d : Addr) → kept s t d ≡ true → selected s u d ≡ whole_links u d
  unfolding selected
  selected_whole d h = ap (λ (l : List Link). filter (selects s u d) l) (named_whole d h) ∙ filter_all (selects s u d) (whole_links u d) (stays_selected d h)

  fitted_whole : (d : Addr) → kept s t d ≡ true → fitted s u d ≡ whole_links u d
  unfolding fitted
  fitted_whole d h =
      ap (λ (n : ℕ). fit ((node_at u d).space n) (selected s u d)) (length_whole d h)
      ∙ ap (λ (l : List Link). fit ((node_at u d).space (good_length u d)) l) (selected_whole d h)
      ∙ fit_whole _ (whole_links u d) (m.each d h).has_space

  links_said : (d : Addr) → kept s t d ≡ true → said (fitted s u d) ≡ said (fitted s t d)
  links_said d h = ap said (fitted_whole d h) ∙ (m.each d h).same_links

  kept_again : (k : ℕ) (a : Addr) → in_round (kept_graph s t) k a ≡ in_round (kept_graph s u) k a
  unfolding kept_graph
  kept_again = same_rounds (kept_graph s t) (kept_graph s u) refl (λ a. refl) edges
    where
      edges : (k : ℕ) (d a : Addr) → in_round (kept_graph s t) k d ≡ true → (kept_graph s t).edge d a ≡ (kept_graph s u).edge d a
      edges k d a h =
          let i = was_kept k d h in
          let l = links_said d i in
          same_bools _ _ (λ e. any_said a (fitted s t d) (fitted s u d) (sym l) e) (λ e. any_said a (fitted s u d) (fitted s t d) l e)

  kept_is_kept : (a : Addr) → kept s u a ≡ kept s t a
  unfolding kept reached kept_graph
  kept_is_kept a = sym (kept_again (length s.places) a)

  -- the rules on the links of the mended tree
  -- the target of a link in the mended tree is an entry
  target_entry : (d : Addr) → kept s t d ≡ true → (f : Link) → Member f (whole_links u d) → is_entry s u (target_of f.says) ≡ true
  unfolding is_entry
  target_entry d h f p = go (node_at u (target_of f.says)).directory refl
    where
      there : kept s t (target_of f.says) ≡ true
      there = let a = old_link d h f p in subst (λ (z : Says). kept s t (target_of z) ≡ true) (sym a.2) (keeps d a.0 h a.1)

      no_start : (b c : Bool) → b ≡ false → not (b && c) ≡ true
      no_start false c e = refl
      no_start true c e = absurd (cc)

      not_true : (b : Bool) → not b ≡ true → b ≡ false
      not_true false e = refl
      not_true true e = absurd (cc)

      file : (node_at u (target_of f.says)).directory ≡ false → (b : Bool) → s.start (target_of f.says) ≡ b → s.start (target_of f.says) ≡ false
      file e false h = h
      file e true h = absurd (let k : false ≡ true = sym e ∙ (m.each (target_of f.says) there).same_kind ∙ m.old_starts.directories (target_of f.says) h in cc)

      go : (b : Bool) → (node_at u (target_of f.says)).directory ≡ b → not (s.start (target_of f.says) && is_none_of (node_at u (target_of f.says)).own) ≡ true
      go true e =
          let r = selects_chosen s u d f (target_of f.says) refl e (stays_selected d h f p) in
          no_start (s.start (target_of f.says)) _ (not_true (s.start (target_of f.says)) r.0)
      go false e = no_start (s.start (target_of f.says)) _ (file e (s.start (target_of f.says)) refl)

  stays_targets : (d : Addr) → kept s t d ≡ true → targets_hold s u d ≡ true
  unfolding targets_hold
  stays_targets d h =
      all_from (λ f. is_pointer f.says || (sound s u (target_of f.says) && is_entry s u (target_of f.says))) (kept_links s u d) (λ f p.
      let q : Member f (whole_links u d) = subst (λ (l : List Link). Member f l) (links_whole d h) p in
      or_right (is_pointer f.says) (sound s u (target_of f.says) && is_entry s u (target_of f.says))
      (and_from _ _ (selects_sound s u d f (stays_selected d h f q)) (target_entry d h f q)))

  stays_names : (d : Addr) → kept s t d ≡ true → names_hold s u d ≡ true
  unfolding names_hold
  stays_names d h = all_from (λ f. is_pointer f.says || (is_named s u d f && (not (is_directory_entry s u (target_of f.says)) || is_chosen s u d f))) (kept_links s u d) each
    where
      each : (f : Link) → Member f (kept_links s u d) → (is_pointer f.says || (is_named s u d f && (not (is_directory_entry s u (target_of f.says)) || is_chosen s u d f))) ≡ true
      each f p = or_right (is_pointer f.says) _ (and_from (is_named s u d f) _ first (go (node_at u (target_of f.says)).directory refl))
        where
          q : Member f (whole_links u d)
          q = subst (λ (l : List Link). Member f l) (links_whole d h) p

          first : is_named s u d f ≡ true
          first = any_from (λ g. g.place == f.place) (named s u d) f (subst (λ (l : List Link). Member f l) (sym (named_whole d h)) q) (eq-eqb f.place f.place refl)

          -- where the target is a directory the link is its chosen one
          either : (b e c : Bool) → b ≡ false → (not (b && e) || c) ≡ true
          either false e c h = refl
          either true e c h = absurd (cc)

          go : (b : Bool) → (node_at u (target_of f.says)).directory ≡ b → (not (is_directory_entry s u (target_of f.says)) || is_chosen s u d f) ≡ true
          go false e = either (node_at u (target_of f.says)).directory (is_entry s u (target_of f.says)) (is_chosen s u d f) e
          go true e =
              let r = selects_chosen s u d f (target_of f.says) refl e (stays_selected d h f q) in
              or_right (not (is_directory_entry s u (target_of f.says))) (is_chosen s u d f) (and_from _ _ r.0 r.1)

  pub settled : IsSettled s t u
  settled = record {
    found_is_kept = found_is_kept;
    kept_is_kept = kept_is_kept;
    at_each = λ a h. record {
      is_sound = stays_sound a h;
      own_won = λ i k. own_won a h i (member_of (node_at u a).own i k);
      all_won = item_won a h;
      whole = length_whole a h;
      all_selected = selected_whole a h ∙ sym (links_whole a h);
      all_fitted = fitted_whole a h ∙ sym (links_whole a h);
      links_same = links_said a h;
      targets = stays_targets a h;
      names = stays_names a h;
    };
  }

  -- the mended tree is its own mend
  pub mended_again : PlacesDiffer u → IsMended s u u
  mended_again c = record {
    old_within = m.new_within;
    old_places = c;
    old_starts = record {
      starts = λ a h. stays_sound a (kept_start s t m.old_within m.old_starts a h);
      directories = λ a h. (m.each a (kept_start s t m.old_within m.old_starts a h)).same_kind ∙ m.old_starts.directories a h;
    };
    new_within = m.new_within;
    each = λ a h. again a (sym (kept_is_kept a) ∙ h);
  }
    where
      again : (a : Addr) → kept s t a ≡ true → IsMendedAt s u u a
      again a h = record {
        stays = (m.each a h).stays;
        same_kind = refl;
        same_own = refl;
        won = λ i k c. (i, k, same_want i, item_won a h i k c);
        same_links = ap said (sym (fitted_whole a h));
        has_space = (m.each a h).has_space;
        long_enough = (m.each a h).long_enough;
      }
