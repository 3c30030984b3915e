-- The next sibling of a kept entry is what the next links of its holder keep: places of links ascend.
use Rattle.std.proofs.Common.{◌≡◌, ℕ, suc, ◌<◌, ◌≤◌, ◌-◌, List, [], ◌∷◌, ◌++◌, map, Bool, true, false, ◌&&◌, cond, nat_eq, eqb-true, Option, Some, None, refl, sym, ap, ◌∙◌, subst, inl, inr, arith}
use Rattle.std.specs.Prelude.{AllPairs, nat_le, nat_lt}
use Rattle.std.specs.List.{filter, list_any}
use Rattle.std.specs.Str.{bytes_eq}
use Rattle.std.proofs.lemmas.Bool.{and_parts, false≢true}
use Rattle.std.proofs.lemmas.Bool.Decides.{nat_tests}
use Rattle.udf_field.specs.declared.address.Addr.{Addr}
use Rattle.udf_file_model.specs.Address.{same_addr}
use Rattle.udf_file_model.specs.Entry.{Entry}
use Rattle.udf_file_model.specs.Fid.{is_live}
use Rattle.udf_file_model.specs.Listing.{Volume, list_for}
use Rattle.udf_file_model.specs.Scan.{Placed, fids, offsets}
use Rattle.udf_file_model.proofs.Listed.{ascending}
use Rattle.udf_tree_model.specs.Link.{Link, fid_link, fid_links, name_of, pointer_links, room_of, target_of}
use Rattle.udf_tree_model.specs.Node.{Setting, Tree, node_at, node_or}
use Rattle.udf_tree_model.specs.Won.{kept_length, kept_links}
use Rattle.udf_tree_model.specs.Chosen.{Rank, first_of_names, fit, fitted, is_rank, named, selected, selects}
use Rattle.udf_tree_model.specs.Frame.{Frame, content_to, entry_at, holder_by, is_file_set, links_of, node_by, node_with, setting_of, stream_of, tree_of}
use Rattle.udf_tree_model.specs.Children.{first_in, keeps, kept_in, next_after}
use Rattle.udf_tree_model.specs.Parent.{keeping}
use Rattle.udf_tree_model.proofs.Members.{Member, contains_of, filter_all, member_filter, member_map, member_of_map}
use Rattle.udf_tree_model.proofs.Linking.{first_of_names_member, fit_member}
use Rattle.udf_tree_model.proofs.Places.{address_same, same_address}

-- ---- places ascend
abbrev pub Ascend : List Link → Type 0
Ascend [] = Unit {0}
Ascend (f ∷ fs) = ((g : Link) → Member g fs → f.place < g.place) × Ascend fs

ascend_filter : (p : Link → Bool) (fs : List Link) → Ascend fs → Ascend (filter p fs)
ascend_filter p [] h = tt
ascend_filter p (f ∷ fs) h = go (p f) (ascend_filter p fs h.1)
  where
    go : (b : Bool) → Ascend (filter p fs) → Ascend (cond b (f ∷ filter p fs) (filter p fs))
    go true k = (λ g m. h.0 g (member_filter p fs g m).0, k)
    go false k = k

ascend_names : (seen : List (List ℕ)) (fs : List Link) → Ascend fs → Ascend (first_of_names seen fs)
unfolding first_of_names
ascend_names seen [] h = tt
ascend_names seen (f ∷ fs) h = go (list_any (bytes_eq (name_of f.says)) seen) (ascend_names seen fs h.1) (ascend_names (name_of f.says ∷ seen) fs h.1)
  where
    go : (b : Bool) → Ascend (first_of_names seen fs) → Ascend (first_of_names (name_of f.says ∷ seen) fs) → Ascend (cond b (first_of_names seen fs) (f ∷ first_of_names (name_of f.says ∷ seen) fs))
    go true k l = k
    go false k l = (λ g m. h.0 g (first_of_names_member (name_of f.says ∷ seen) fs g m), l)

ascend_fit : (n : ℕ) (fs : List Link) → Ascend fs → Ascend (fit n fs)
unfolding fit
ascend_fit n [] h = tt
ascend_fit n (f ∷ fs) h = go (nat_le (room_of f.says) n) (ascend_fit (n - room_of f.says) fs h.1)
  where
    go : (b : Bool) → Ascend (fit (n - room_of f.says) fs) → Ascend (cond b (f ∷ fit (n - room_of f.says) fs) [])
    go true k = (λ g m. h.0 g (fit_member (n - room_of f.says) fs g m), k)
    go false k = tt

first_below : (x : ℕ) (xs : List ℕ) → AllPairs (λ a b. a < b) (x ∷ xs) → (y : ℕ) → Member y xs → x < y
first_below x xs h y m =
    let r = contains_of xs y m in
    subst (λ (z : ℕ). x < z) r.2 (h 0 (suc r.0) y (omega arith) (omega (arith, r.1)))

rest_ascends : (x : ℕ) (xs : List ℕ) → AllPairs (λ a b. a < b) (x ∷ xs) → AllPairs (λ a b. a < b) xs
rest_ascends x xs h i j d l m = h (suc i) (suc j) d (omega (arith, l)) (omega (arith, m))

ascend_fids : (ps : List Placed) → AllPairs (λ a b. a < b) (offsets ps) → Ascend (map fid_link (filter (λ p. is_live p.1) ps))
ascend_fids [] h = tt
ascend_fids (x ∷ ps) h = go (is_live x.1) (ascend_fids ps (rest_ascends x.0 (offsets ps) h))
  where
    live : List Placed
    live = filter (λ (p : Placed). is_live p.1) ps

    beyond : (g : Link) → Member g (map fid_link live) → suc x.0 < g.place
    beyond g m =
        let y = member_of_map fid_link live g m in
        let l = first_below x.0 (offsets ps) h y.0.0 (member_map (λ (p : Placed). p.0) ps y.0 (member_filter (λ (p : Placed). is_live p.1) ps y.0 y.1).0) in
        let e : g.place ≡ suc y.0.0 = ap (λ (z : Link). z.place) y.2 in
        omega (arith, l, e)

    go : (b : Bool) → Ascend (map fid_link live) → Ascend (map fid_link (cond b (x ∷ live) live))
    go true k = (beyond, k)
    go false k = k

ascend_links : (size : ℕ) (e : Entry) (content : List ℕ) → Ascend (links_of size e content)
unfolding links_of fid_links
ascend_links size e content = go (stream_of e.stream)
  where
    live : List Placed
    live = filter (λ (p : Placed). is_live p.1) (fids size content)

    all : Ascend (map fid_link live)
    all = ascend_fids (fids size content) (ascending size content)

    behind : (g : Link) → Member g (map fid_link live) → 0 < g.place
    behind g m =
        let y = member_of_map fid_link live g m in
        let e : g.place ≡ suc y.0.0 = ap (λ (z : Link). z.place) y.2 in
        omega (arith, e)

    go : (o : Option Addr) → Ascend (pointer_links o ++ map fid_link live)
    go None = all
    go (Some a) = (behind, all)

ascend_kept : (f : Frame) (v : Volume) (d : Addr) (limit : ℕ) → Ascend ((node_at (tree_of f v) d).links limit)
unfolding node_at tree_of node_with
ascend_kept f v d limit = by_holder f.system (is_file_set f v d)
  where
    by_entry : (o : Option Entry) → Ascend ((node_or (node_by f v d o)).links limit)
    by_entry None = tt
    by_entry (Some i) = ascend_links v.size i (content_to v i (list_for v d i) limit)

    by_holder : (o : Option Addr) (b : Bool) → Ascend ((node_or (holder_by o b (node_by f v d (entry_at v d)))).links limit)
    by_holder None b = by_entry (entry_at v d)
    by_holder (Some system) false = by_entry (entry_at v d)
    by_holder (Some system) true = (λ g m. absurd m, tt)

pub fitted_ascend : (f : Frame) (v : Volume) (d : Addr) → Ascend (fitted (setting_of f v) (tree_of f v) d)
unfolding fitted selected named kept_links
fitted_ascend f v d =
    let s = setting_of f v in
    let t = tree_of f v in
    ascend_fit ((node_at t d).space (kept_length s t d)) (filter (selects s t d) (first_of_names [] (kept_links s t d)))
    (ascend_filter (selects s t d) (first_of_names [] (kept_links s t d)) (ascend_names [] (kept_links s t d) (ascend_kept f v d (kept_length s t d))))

-- ---- the links beyond a place
abbrev pub beyond : ℕ → List Link → List Link
beyond p fs = filter (λ f. nat_lt p f.place) fs

lt_true : (m n : ℕ) → m < n → nat_lt m n ≡ true
lt_true m n l = grind (arith, nat_tests)

lt_false : (m n : ℕ) → n ≤ m → nat_lt m n ≡ false
lt_false m n l = grind (arith, nat_tests)

eq_true : (m n : ℕ) → m ≡ n → nat_eq m n ≡ true
eq_true m n e = grind (arith, nat_tests)

-- what stands behind all of some links does not stand before
pub next_over : (a : Addr) (xs : List Addr) → ((x : Addr) → Member x xs → x ≡ a → ⊥) → (ys : List Addr) → next_after a (xs ++ ys) ≡ next_after a ys
next_over a [] h ys = refl
next_over a (x ∷ xs) h ys = go (same_addr x a) refl (next_over a xs (λ y m. h y (inr m)) ys)
  where
    go : (b : Bool) → same_addr x a ≡ b → next_after a (xs ++ ys) ≡ next_after a ys → cond b (first_in (xs ++ ys)) (next_after a (xs ++ ys)) ≡ next_after a ys
    go true e k = absurd (h x (inl refl) (same_address x a e))
    go false e k = k

module _ (s : Setting) (t : Tree) (a : Addr) where
  -- a link of that rank keeps what it leads to, and no other link does
  keeps_at : (d : Addr) (f : Link) (r : Rank) → target_of f.says ≡ a → keeping s t a ≡ Some r → keeps s t d f ≡ (same_addr r.holder d && nat_eq r.place f.place)
  unfolding keeps
  keeps_at d f r e k = ap (λ (x : Addr). is_rank d f (keeping s t x)) e ∙ ap (is_rank d f) k

  keeps_none : (d : Addr) (f : Link) → target_of f.says ≡ a → keeping s t a ≡ None → keeps s t d f ≡ false
  unfolding keeps
  keeps_none d f e k = ap (λ (x : Addr). is_rank d f (keeping s t x)) e ∙ ap (is_rank d f) k

  pub not_under : (d : Addr) (fs : List Link) → ((f : Link) → target_of f.says ≡ a → keeps s t d f ≡ false) → (x : Addr) → Member x (kept_in s t d fs) → x ≡ a → ⊥
  unfolding kept_in
  not_under d fs h x m e =
      let y = member_of_map (λ (f : Link). target_of f.says) (filter (keeps s t d) fs) x m in
      false≢true (sym (h y.0 (sym y.2 ∙ e)) ∙ (member_filter (keeps s t d) fs y.0 y.1).1)

  -- none keeps what no link keeps, and none of another holder
  pub none_under : (d : Addr) (fs : List Link) → keeping s t a ≡ None → (x : Addr) → Member x (kept_in s t d fs) → x ≡ a → ⊥
  none_under d fs k = not_under d fs (λ f e. keeps_none d f e k)

  pub other_under : (d : Addr) (fs : List Link) (r : Rank) → keeping s t a ≡ Some r → same_addr r.holder d ≡ false → (x : Addr) → Member x (kept_in s t d fs) → x ≡ a → ⊥
  other_under d fs r k o = not_under d fs (λ f e. keeps_at d f r e k ∙ ap (λ (b : Bool). b && nat_eq r.place f.place) o)

  -- what stands after an entry among what its holder keeps is what the links beyond its own keep
  pub next_beyond : (d : Addr) (r : Rank) → keeping s t a ≡ Some r → r.holder ≡ d → (l : Link) → target_of l.says ≡ a → l.place ≡ r.place → (fs : List Link) → Ascend fs → Member l fs → (ys : List Addr)
      → next_after a (kept_in s t d fs ++ ys) ≡ first_in (kept_in s t d (beyond r.place fs) ++ ys)
  unfolding kept_in
  next_beyond d r k own l leads place [] h m ys = absurd m
  next_beyond d r k own l leads place (x ∷ fs) h (inl i) ys =
      ap (λ (b : Bool). next_after a (map (λ f. target_of f.says) (cond b (x ∷ filter (keeps s t d) fs) (filter (keeps s t d) fs)) ++ ys)) keeps_it
      ∙ ap (λ (b : Bool). cond b (first_in (kept ++ ys)) (next_after a (kept ++ ys))) (address_same (target_of x.says) a leads_it)
      ∙ ap (λ (gs : List Link). first_in (map (λ f. target_of f.says) (filter (keeps s t d) gs) ++ ys)) (sym rest)
    where
      kept : List Addr
      kept = map (λ f. target_of f.says) (filter (keeps s t d) fs)

      leads_it : target_of x.says ≡ a
      leads_it = ap (λ (f : Link). target_of f.says) (sym i) ∙ leads

      place_it : r.place ≡ x.place
      place_it = sym place ∙ ap (λ (f : Link). f.place) i

      keeps_it : keeps s t d x ≡ true
      keeps_it = keeps_at d x r leads_it k ∙ ap (λ (b : Bool). b && nat_eq r.place x.place) (address_same r.holder d own) ∙ eq_true r.place x.place place_it

      past : (g : Link) → Member g fs → nat_lt r.place g.place ≡ true
      past g n = let y = h.0 g n in lt_true r.place g.place (omega (arith, y, place_it))

      rest : beyond r.place (x ∷ fs) ≡ fs
      rest =
          ap (λ (b : Bool). cond b (x ∷ beyond r.place fs) (beyond r.place fs)) (lt_false r.place x.place (omega (arith, place_it)))
          ∙ filter_all (λ f. nat_lt r.place f.place) fs past
  next_beyond d r k own l leads place (x ∷ fs) h (inr m) ys = go (keeps s t d x) refl (next_beyond d r k own l leads place fs h.1 m ys)
    where
      kept : List Addr
      kept = map (λ f. target_of f.says) (filter (keeps s t d) fs)

      here : x.place < r.place
      here = let y = h.0 l m in omega (arith, y, place)

      rest : beyond r.place fs ≡ beyond r.place (x ∷ fs)
      rest = sym (ap (λ (b : Bool). cond b (x ∷ beyond r.place fs) (beyond r.place fs)) (lt_false r.place x.place (omega (arith, here))))

      target : List Link → Option Addr
      target gs = first_in (map (λ f. target_of f.says) (filter (keeps s t d) gs) ++ ys)

      apart : keeps s t d x ≡ true → target_of x.says ≡ a → ⊥
      apart e q =
          let p : r.place ≡ x.place = eqb-true r.place x.place (and_parts (same_addr r.holder d) (nat_eq r.place x.place) (sym (keeps_at d x r q k) ∙ e)).1 in
          absurd (omega (arith, p, here))

      skip : keeps s t d x ≡ true → (b : Bool) → same_addr (target_of x.says) a ≡ b → cond b (first_in (kept ++ ys)) (next_after a (kept ++ ys)) ≡ next_after a (kept ++ ys)
      skip e true q = absurd (apart e (same_address (target_of x.says) a q))
      skip e false q = refl

      go : (b : Bool) → keeps s t d x ≡ b → next_after a (kept ++ ys) ≡ target (beyond r.place fs)
          → next_after a (map (λ f. target_of f.says) (cond b (x ∷ filter (keeps s t d) fs) (filter (keeps s t d) fs)) ++ ys) ≡ target (beyond r.place (x ∷ fs))
      go true e w = skip e (same_addr (target_of x.says) a) refl ∙ w ∙ ap target rest
      go false e w = w ∙ ap target rest
