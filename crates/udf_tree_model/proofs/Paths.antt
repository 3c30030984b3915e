-- A path that no damage touches leads to the same entry after the mend.
use Rattle.std.proofs.Common.{◌≡◌, ℕ, ◌+◌, ◌≤◌, List, [], ◌∷◌, Bool, true, false, cond, not, ◌&&◌, ◌||◌, Option, Some, refl, sym, ap, ◌∙◌, subst, inl, inr, arith}
use Rattle.std.specs.List.{list_any, filter}
use Rattle.std.specs.Str.{bytes_eq}
use Rattle.std.proofs.lemmas.Bool.{and_from, false≢true, or_from}
use Rattle.udf_field.specs.declared.address.Addr.{Addr}
use Rattle.udf_tree_model.specs.Link.{Link, target_of, name_of, room_of, is_pointer}
use Rattle.udf_tree_model.specs.Node.{Item, Tree, Setting, node_at, good_length, wants}
use Rattle.udf_tree_model.specs.Found.{whole_links}
use Rattle.udf_tree_model.specs.Won.{wins, kept_length, sound, kept_links, IsWant}
use Rattle.udf_tree_model.specs.Chosen.{Rank, first_of_names, named, rank_of, ranks_over, chosen, is_rank, selects, selected, fit, fitted}
use Rattle.udf_tree_model.specs.Kept.{kept}
use Rattle.udf_tree_model.specs.Laws.{IsWithin}
use Rattle.udf_tree_model.specs.Mended.{rooms, IsMended}
use Rattle.udf_tree_model.specs.Intact.{look_up, then_at, follow, IsIntact, IsIntactPath, LeadsAlike}
use Rattle.udf_tree_model.proofs.Members.{Member, member_of, contains_of, all_from, member_left, member_right, member_along, member_map, member_filtered}
use Rattle.udf_tree_model.proofs.Winning.{means_wins, kept_whole}
use Rattle.udf_tree_model.proofs.Finding.{found_readable}
use Rattle.udf_tree_model.proofs.Linking.{names, Distinct, name_same, same_name, first_of_names_member, fit_whole, said_there, first_one}
use Rattle.udf_tree_model.proofs.Keeping.{edge_from, kept_target, sound_found}
use Rattle.udf_tree_model.proofs.Choosing.{ranks_give, ranks_have, own_rank}
use Rattle.udf_tree_model.proofs.Settling.{names_differ}

look_up_gives : (n : List ℕ) (seen : List (List ℕ)) (fs : List Link) (f : Link) → list_any (bytes_eq n) seen ≡ false → look_up n fs ≡ Some f → Member f (first_of_names seen fs) × (name_of f.says ≡ n)
unfolding look_up first_of_names
look_up_gives n seen [] f h e = cc
look_up_gives n seen (g ∷ gs) f h e = go (λ k z. look_up_gives n seen gs f h z) (λ k z. look_up_gives n ((name_of g.says) ∷ seen) gs f k z) (bytes_eq (name_of g.says) n) refl e (list_any (bytes_eq (name_of g.says)) seen) refl
  where
    go : (list_any (bytes_eq n) seen ≡ false → look_up n gs ≡ Some f → Member f (first_of_names seen gs) × (name_of f.says ≡ n)) → (list_any (bytes_eq n) ((name_of g.says) ∷ seen) ≡ false → look_up n gs ≡ Some f → Member f (first_of_names ((name_of g.says) ∷ seen) gs) × (name_of f.says ≡ n)) → (b : Bool) → bytes_eq (name_of g.says) n ≡ b → cond b (Some g) (look_up n gs) ≡ Some f → (c : Bool) → list_any (bytes_eq (name_of g.says)) seen ≡ c → Member f (cond c (first_of_names seen gs) (g ∷ first_of_names ((name_of g.says) ∷ seen) gs)) × (name_of f.says ≡ n)
    go i j true p q true r = absurd (false≢true (sym h ∙ subst (λ (x : List ℕ). list_any (bytes_eq x) seen ≡ true) (name_same (name_of g.says) n p) r))
    go i j true p q false r = let same : g ≡ f = cc in (inl (sym same), ap (λ (x : Link). (name_of x.says)) (sym same) ∙ name_same (name_of g.says) n p)
    go i j false p q true r = i h q
    go i j false p q false r = let k = j (or_from (bytes_eq n (name_of g.says)) _ (back (bytes_eq n (name_of g.says)) refl) h) q in (inr k.0, k.1)
      where
        back : (z : Bool) → bytes_eq n (name_of g.says) ≡ z → bytes_eq n (name_of g.says) ≡ false
        back true e = absurd (false≢true (sym p ∙ same_name (name_of g.says) n (sym (name_same n (name_of g.says) e))))
        back false e = e

-- of links with different names the one of a name is found by it
look_up_from : (fs : List Link) (f : Link) → Distinct (names fs) → Member f fs → look_up (name_of f.says) fs ≡ Some f
unfolding look_up
look_up_from [] f d m = absurd m
look_up_from (g ∷ gs) f d (inl i) = rw (same_name (name_of g.says) (name_of f.says) (ap (λ (x : Link). (name_of x.says)) (sym i))) (ap Some (sym i))
look_up_from (g ∷ gs) f d (inr m) = go (look_up_from gs f d.1 m) (bytes_eq (name_of g.says) (name_of f.says)) refl
  where
    go : look_up (name_of f.says) gs ≡ Some f → (b : Bool) → bytes_eq (name_of g.says) (name_of f.says) ≡ b → cond b (Some g) (look_up (name_of f.says) gs) ≡ Some f
    go ih true e = absurd (d.0 (member_along (name_of f.says) (name_of g.says) (names gs) (sym (name_same (name_of g.says) (name_of f.says) e)) (member_map (λ (x : Link). (name_of x.says)) gs f m)))
    go ih false e = ih

rooms_filter : (p : Link → Bool) (fs : List Link) → rooms (filter p fs) ≤ rooms fs
rooms_filter p [] = omega arith
rooms_filter p (g ∷ gs) = go (rooms_filter p gs) (p g)
  where
    go : rooms (filter p gs) ≤ rooms gs → (b : Bool) → rooms (cond b (g ∷ filter p gs) (filter p gs)) ≤ (room_of g.says) + rooms gs
    go ih true = omega arith
    go ih false = omega arith

rooms_first_of_names : (seen : List (List ℕ)) (fs : List Link) → rooms (first_of_names seen fs) ≤ rooms fs
unfolding first_of_names
rooms_first_of_names seen [] = omega arith
rooms_first_of_names seen (g ∷ gs) = go (rooms_first_of_names seen gs) (rooms_first_of_names ((name_of g.says) ∷ seen) gs) (list_any (bytes_eq (name_of g.says)) seen)
  where
    go : rooms (first_of_names seen gs) ≤ rooms gs → rooms (first_of_names ((name_of g.says) ∷ seen) gs) ≤ rooms gs → (b : Bool) → rooms (cond b (first_of_names seen gs) (g ∷ first_of_names ((name_of g.says) ∷ seen) gs)) ≤ (room_of g.says) + rooms gs
    go i j true = omega arith
    go i j false = omega arith

-- an intact entry wins all that it wants
intact_wins : (s : Setting) (t : Tree) (a : Addr) → IsIntact s t a → (i : Item) → IsWant s t a i → wins s t a i ≡ true
intact_wins s t a h i x = means_wins s t a i (
  h.free i x,
  record {
    lowest = λ o j y e. lowest o j y e (h.alone o i j x y e);
    alone = λ o j y e n. absurd (n (h.alone o i j x y e));
  },
)
  where
    lowest : (o : Addr) (j : Item) → IsWant s t o j → j.at ≡ i.at → o ≡ a → i.class ≤ j.class
    lowest o j y e q = h.lowest i j x (subst (λ (z : Addr). IsWant s t z j) q y) e

intact_length : (s : Setting) (t : Tree) (a : Addr) → IsIntact s t a → kept_length s t a ≡ good_length t a
unfolding wants
intact_length s t a h = kept_whole s t a (λ i k c. intact_wins s t a h i (record {
  found_owner = h.is_found;
  among = contains_of (wants t a) i (member_right (node_at t a).own (node_at t a).list i (member_of (node_at t a).list i k));
  takes = c;
}))

intact_sound : (s : Setting) (t : Tree) (a : Addr) → IsIntact s t a → sound s t a ≡ true
unfolding sound wants
intact_sound s t a h = and_from _ _ h.is_found (and_from _ _ (all_from (wins s t a) (node_at t a).own (λ i k. own_wins i k)) (go (node_at t a).directory refl))
  where
    own_wins : (i : Item) → Member i (node_at t a).own → wins s t a i ≡ true
    own_wins i k = intact_wins s t a h i (record {
      found_owner = h.is_found;
      among = contains_of (wants t a) i (member_left (node_at t a).own (node_at t a).list i k);
      takes = h.own_takes i (contains_of (node_at t a).own i k);
    })

    go : (b : Bool) → (node_at t a).directory ≡ b → (not b || (node_at t a).enough (kept_length s t a)) ≡ true
    go true e = subst (λ (n : ℕ). (node_at t a).enough n ≡ true) (sym (intact_length s t a h)) (h.long_enough e)
    go false e = refl

intact_links : (s : Setting) (t : Tree) (a : Addr) → IsIntact s t a → kept_links s t a ≡ whole_links t a
unfolding kept_links whole_links
intact_links s t a h = ap (λ (n : ℕ). (node_at t a).links n) (intact_length s t a h)

-- the one link to an intact directory is its chosen link
intact_chosen : (s : Setting) (t : Tree) → IsWithin s t → (d : Addr) (f : Link) → IsIntact s t d → IsIntact s t (target_of f.says) → (node_at t (target_of f.says)).directory ≡ true → Member f (named s t d) → chosen s t (target_of f.says) ≡ Some (rank_of s t d f)
unfolding chosen named rank_of
intact_chosen s t c d f h k q m = first_one (ranks_over s t (target_of f.says) s.places) (rank_of s t d f) (ranks_have s t (target_of f.says) s.places d f (member_of s.places d (c.among d (found_readable s t c d h.is_found))) (intact_sound s t d h) m refl) (λ x p. go x (ranks_give s t (target_of f.says) s.places x p))
  where
    go : (x : Rank) → (e : Addr) × (g : Link) × (sound s t e ≡ true) × Member g (named s t e) × (target_of g.says ≡ (target_of f.says)) × (x ≡ rank_of s t e g) → x ≡ rank_of s t d f
    go x r =
        let o = k.one_link q r.0 d r.1 f (sound_found s t r.0 r.2) h.is_found (contains_of _ r.1 (first_of_names_member [] (kept_links s t r.0) r.1 r.3)) (contains_of _ f (first_of_names_member [] (kept_links s t d) f m)) r.4 refl in
        cc (r.5, o.0, o.1)

intact_selects : (s : Setting) (t : Tree) → IsWithin s t → (d : Addr) (f : Link) → IsIntact s t d → IsIntact s t (target_of f.says) → ((node_at t (target_of f.says)).directory ≡ false → (is_pointer f.says) ≡ false) → Member f (named s t d) → selects s t d f ≡ true
unfolding selects named
intact_selects s t c d f h k p m = and_from _ _ (intact_sound s t (target_of f.says) k) (go (node_at t (target_of f.says)).directory refl)
  where
    there : Member f (kept_links s t d)
    there = first_of_names_member [] (kept_links s t d) f m

    go : (b : Bool) → (node_at t (target_of f.says)).directory ≡ b → cond b (not (s.start (target_of f.says)) && is_rank d f (chosen s t (target_of f.says))) (not (is_pointer f.says)) ≡ true
    go true e = and_from _ _ (free (s.start (target_of f.says)) refl) (subst (λ (o : Option Rank). is_rank d f o ≡ true) (sym (intact_chosen s t c d f h k e m)) (own_rank s t d f))
      where
        free : (b : Bool) → s.start (target_of f.says) ≡ b → not b ≡ true
        free true i = absurd (k.no_link i d f h.is_found (contains_of _ f there) refl)
        free false i = refl
    go false e = ap not (p e)

-- a named link between intact entries is fitted
intact_fitted : (s : Setting) (t : Tree) → IsWithin s t → (d : Addr) (f : Link) → IsIntact s t d → IsIntact s t (target_of f.says) → ((node_at t (target_of f.says)).directory ≡ false → (is_pointer f.says) ≡ false) → Member f (named s t d) → Member f (fitted s t d)
unfolding fitted selected named
intact_fitted s t c d f h k p m =
    let x : Member f (filter (selects s t d) (named s t d)) = member_filtered (selects s t d) (named s t d) f m (intact_selects s t c d f h k p m) in
    let y : rooms (filter (selects s t d) (named s t d)) ≤ rooms (named s t d) = rooms_filter (selects s t d) (named s t d) in
    let z : rooms (named s t d) ≤ rooms (kept_links s t d) = rooms_first_of_names [] (kept_links s t d) in
    let u : rooms (kept_links s t d) ≤ (node_at t d).space (kept_length s t d) = subst (λ (l : List Link). rooms l ≤ (node_at t d).space (kept_length s t d)) (sym (intact_links s t d h)) (subst (λ (n : ℕ). rooms (whole_links t d) ≤ (node_at t d).space n) (sym (intact_length s t d h)) h.has_space) in
    let e : fit ((node_at t d).space (kept_length s t d)) (filter (selects s t d) (named s t d)) ≡ filter (selects s t d) (named s t d) = fit_whole _ _ (omega arith) in
    subst (λ (l : List Link). Member f l) (sym e) x

head_intact : (s : Setting) (t : Tree) (a : Addr) (ns : List (List ℕ)) → IsIntactPath s t a ns → IsIntact s t a
head_intact s t a [] h = h
head_intact s t a (n ∷ ns) h = h.0

-- an intact path from a kept entry leads to the same entry in the mended volume, and that entry is kept
pub path_stays : (s : Setting) (t u : Tree) → IsMended s t u → (ns : List (List ℕ)) (a : Addr) → kept s t a ≡ true → IsIntactPath s t a ns → LeadsAlike s t u a ns
unfolding follow named
path_stays s t u m [] a h p = record { to = a; old = refl; new = refl; is_kept = h; is_intact = p }
path_stays s t u m (n ∷ ns) a h p =
    let f = p.1.0 in
    let x = look_up_gives n [] (whole_links t a) f refl p.1.1 in
    let y : Member f (named s t a) = subst (λ (l : List Link). Member f (first_of_names [] l)) (sym (intact_links s t a p.0)) x.0 in
    let z = intact_fitted s t m.old_within a f p.0 (head_intact s t (target_of f.says) ns p.1.3) p.1.2 y in
    let k = kept_target s t m.old_within m.old_starts a (target_of f.says) h (edge_from s t a (target_of f.says) f z refl) in
    let g = said_there (fitted s t a) (whole_links u a) (sym (m.each a h).same_links) f z in
    let l : look_up n (whole_links u a) ≡ Some g.0 = subst (λ (q : List ℕ). look_up q (whole_links u a) ≡ Some g.0) (ap name_of (sym g.2) ∙ x.1) (look_up_from (whole_links u a) g.0 (names_differ s t u m a h) g.1) in
    let r = path_stays s t u m ns (target_of f.says) k p.1.3 in
    let e : (target_of g.0.says) ≡ (target_of f.says) = ap target_of (sym g.2) in
    record {
      to = r.to;
      old = ap (λ (o : Option Link). then_at o (follow t ns)) p.1.1 ∙ r.old;
      new = ap (λ (o : Option Link). then_at o (follow u ns)) l ∙ ap (follow u ns) e ∙ r.new;
      is_kept = r.is_kept;
      is_intact = r.is_intact;
    }
