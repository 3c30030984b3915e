-- The links of a kept entry: its pointer, if that is selected, and then fitted FIDs. Where the rules on links hold all FIDs fit.
use Rattle.std.proofs.Common.{◌≡◌, ◌⊎◌, ℕ, suc, ◌-◌, ◌<◌, ◌≤◌, ◌&&◌, ◌||◌, not, nat_le, Bool, true, false, cond, Option, Some, None, List, [], ◌∷◌, ◌++◌, map, refl, sym, ap, ◌∙◌, subst, inl, inr, arith}
use Rattle.std.specs.Prelude.{◌==◌, AllPairs}
use Rattle.std.specs.List.{list_any, filter}
use Rattle.std.specs.Str.{bytes_eq}
use Rattle.std.proofs.lemmas.Bool.{and_parts, false≢true}
use Rattle.std.proofs.lemmas.Bool.Decides.{nat_tests}
use Rattle.udf_field.specs.declared.address.Addr.{Addr}
use Rattle.udf_field.specs.declared.address.Long.{Long}
use Rattle.udf_file_model.specs.Entry.{Entry}
use Rattle.udf_file_model.specs.Fid.{is_live}
use Rattle.udf_file_model.specs.Listing.{Volume}
use Rattle.udf_file_model.specs.Scan.{Placed, fids, offsets}
use Rattle.udf_file_model.specs.Wanted.{stream_left}
use Rattle.udf_file_model.proofs.Listed.{ascending}
use Rattle.udf_tree_model.specs.Among.{Member}
use Rattle.udf_tree_model.specs.Link.{Link, fid_link, fid_links, is_pointer, name_of, pointed, pointer_link, pointer_links, target_of}
use Rattle.udf_tree_model.specs.Node.{Node, Setting, Tree, is_entry, node_at}
use Rattle.udf_tree_model.specs.Won.{kept_length, kept_links, sound}
use Rattle.udf_tree_model.specs.Chosen.{chosen, first_of_names, fit, fitted, is_rank, named, selected, selects}
use Rattle.udf_tree_model.specs.Rules.{is_chosen, is_directory_entry, is_named, names_hold, targets_hold}
use Rattle.udf_tree_model.specs.Mended.{rooms}
use Rattle.udf_tree_model.specs.Content.{kept_content}
use Rattle.udf_tree_model.specs.Frame.{Frame, entry_at, links_of, node_with, setting_of, stream_of, tree_of}
use Rattle.udf_tree_model.specs.Ordinary.{is_kept_entry}
use Rattle.udf_tree_model.proofs.Members.{all_at, any_gives, contains_of, filter_all, member_append, member_filter, member_map, member_of_map, member_right}
use Rattle.udf_tree_model.proofs.Linking.{Distinct, first_of_names_member, fit_member, fit_whole}
use Rattle.udf_tree_model.proofs.Offsets.{volume_differ}
use Rattle.udf_file_mends.specs.Repairable.{IsRepairable}
use Rattle.udf_file_mends.specs.Wanted.{has_pointer, loses_pointer}
use Rattle.udf_file_mends.proofs.Held as held

-- a link of a FID, live, that stands in a content
pub record IsFidLink (size : ℕ) (content : List ℕ) (l : Link) : Type 0 where
  pub placed : Placed
  pub among : Member placed (fids size content)
  pub live : is_live placed.1 ≡ true
  pub is : l ≡ fid_link placed

pub fid_link_of : (size : ℕ) (content : List ℕ) (l : Link) → Member l (fid_links size content) → IsFidLink size content l
unfolding fid_links
fid_link_of size content l m =
    let r = member_of_map fid_link (filter (λ p. is_live p.1) (fids size content)) l m in
    let k = member_filter (λ (p : Placed). is_live p.1) (fids size content) r.0 r.1 in
    record { placed = r.0; among = k.0; live = k.1; is = r.2 }

no_pointer : (size : ℕ) (content : List ℕ) (l : Link) → Member l (fid_links size content) → is_pointer l.says ≡ false
no_pointer size content l m = let r = fid_link_of size content l m in ap (λ (x : Link). is_pointer x.says) r.is

pub any_none : {X : Type 0} (p : X → Bool) (xs : List X) → ((x : X) → Member x xs → p x ≡ false) → list_any p xs ≡ false
any_none p [] h = refl
any_none p (x ∷ xs) h = ap (λ b. b || list_any p xs) (h x (inl refl)) ∙ any_none p xs (λ y m. h y (inr m))

-- ---- links of FIDs stand once
rest_ascends : (x : ℕ) (xs : List ℕ) → AllPairs (λ a b. a < b) (x ∷ xs) → AllPairs (λ a b. a < b) xs
rest_ascends x xs h i j d l m = h (suc i) (suc j) d (omega (arith, l)) (omega (arith, m))

first_below : (x : ℕ) (xs : List ℕ) → AllPairs (λ a b. a < b) (x ∷ xs) → (y : ℕ) → Member y xs → x < y
first_below x xs h y m =
    let r = contains_of xs y m in
    subst (λ (z : ℕ). x < z) r.2 (h 0 (suc r.0) y (omega arith) (omega (arith, r.1)))

links_distinct : (p : Placed → Bool) (ps : List Placed) → AllPairs (λ a b. a < b) (offsets ps) → Distinct (map fid_link (filter p ps))
links_distinct p [] h = tt
links_distinct p (x ∷ xs) h = by (p x) (links_distinct p xs (rest_ascends x.0 (offsets xs) h))
  where
    alone : Member (fid_link x) (map fid_link (filter p xs)) → ⊥
    alone m =
        let r = member_of_map fid_link (filter p xs) (fid_link x) m in
        let l = first_below x.0 (offsets xs) h r.0.0 (member_map (λ (z : Placed). z.0) xs r.0 (member_filter p xs r.0 r.1).0) in
        let e : suc x.0 ≡ suc r.0.0 = ap (λ (z : Link). z.place) r.2 in
        absurd (omega (arith, l, e))

    by : (b : Bool) → Distinct (map fid_link (filter p xs)) → Distinct (map fid_link (cond b (x ∷ filter p xs) (filter p xs)))
    by true d = (alone, d)
    by false d = d

fids_distinct : (size : ℕ) (content : List ℕ) → Distinct (fid_links size content)
unfolding fid_links
fids_distinct size content = links_distinct (λ p. is_live p.1) (fids size content) (ascending size content)

-- links that are all the first of their names stay
all_first : (seen : List (List ℕ)) (fs : List Link) → Distinct fs → ((l : Link) → Member l fs → Member l (first_of_names seen fs)) → first_of_names seen fs ≡ fs
unfolding first_of_names
all_first seen [] d h = refl
all_first seen (g ∷ gs) d h = by (list_any (bytes_eq (name_of g.says)) seen) (h g (inl refl)) (λ l m. h l (inr m)) (λ k. all_first (name_of g.says ∷ seen) gs d.1 k)
  where
    by : (b : Bool) → Member g (cond b (first_of_names seen gs) (g ∷ first_of_names (name_of g.says ∷ seen) gs))
        → ((l : Link) → Member l gs → Member l (cond b (first_of_names seen gs) (g ∷ first_of_names (name_of g.says ∷ seen) gs)))
        → (((l : Link) → Member l gs → Member l (first_of_names (name_of g.says ∷ seen) gs)) → first_of_names (name_of g.says ∷ seen) gs ≡ gs)
        → cond b (first_of_names seen gs) (g ∷ first_of_names (name_of g.says ∷ seen) gs) ≡ g ∷ gs
    by true m k on = absurd (d.0 (first_of_names_member seen gs g m))
    by false m k on = ap (λ r. g ∷ r) (on (λ l i. rest l i (k l i)))
      where
        rest : (l : Link) → Member l gs → (l ≡ g) ⊎ Member l (first_of_names (name_of g.says ∷ seen) gs) → Member l (first_of_names (name_of g.says ∷ seen) gs)
        rest l i (inl e) = absurd (d.0 (subst (λ (z : Link). Member z gs) e i))
        rest l i (inr j) = j

module _ (f : Frame) (v : Volume) (ok : IsRepairable f v) (a : Addr) (e : Entry) (kept_there : is_kept_entry f v a ≡ true) (reads : entry_at v a ≡ Some e) where
  abbrev pub s : Setting
  s = setting_of f v

  abbrev pub t : Tree
  t = tree_of f v

  abbrev pub pointer : Option Addr
  pointer = stream_of e.stream

  abbrev pub live : List Link
  live = fid_links v.size (kept_content f v a)

  abbrev pub room : ℕ
  room = (node_at t a).space (kept_length s t a)

  links_are : kept_links s t a ≡ pointer_links pointer ++ live
  unfolding kept_links node_with links_of
  links_are =
      ap (λ (n : Node). n.links (kept_length s t a)) (held.node f v ok a e kept_there reads)
      ∙ ap (λ c. pointer_links pointer ++ fid_links v.size c) (sym (held.content_is f v ok a e kept_there reads))

  -- what came before the FIDs
  abbrev seen_by : Option Addr → List (List ℕ)
  seen_by None = []
  seen_by (Some p) = [] ∷ []

  abbrev pub first_fids : List Link
  first_fids = first_of_names (seen_by pointer) live

  abbrev pub chosen_fids : List Link
  chosen_fids = filter (selects s t a) first_fids

  -- the pointer, where it is selected
  abbrev pub pointer_by : Option Addr → List Link
  pointer_by None = []
  pointer_by (Some p) = cond (selects s t a (pointer_link p)) (pointer_link p ∷ []) []

  abbrev pub kept_pointer : List Link
  kept_pointer = pointer_by pointer

  named_are : named s t a ≡ pointer_links pointer ++ first_fids
  unfolding named first_of_names
  named_are = ap (first_of_names []) links_are ∙ by pointer
    where
      by : (o : Option Addr) → first_of_names [] (pointer_links o ++ live) ≡ pointer_links o ++ first_of_names (seen_by o) live
      by None = refl
      by (Some p) = refl

  selected_are : selected s t a ≡ kept_pointer ++ chosen_fids
  unfolding selected
  selected_are = ap (filter (selects s t a)) named_are ∙ by pointer
    where
      by : (o : Option Addr) → filter (selects s t a) (pointer_links o ++ first_of_names (seen_by o) live) ≡ pointer_by o ++ filter (selects s t a) (first_of_names (seen_by o) live)
      by None = refl
      by (Some p) = at (selects s t a (pointer_link p))
        where
          at : (b : Bool) → cond b (pointer_link p ∷ filter (selects s t a) (first_of_names ([] ∷ []) live)) (filter (selects s t a) (first_of_names ([] ∷ []) live))
              ≡ cond b (pointer_link p ∷ []) [] ++ filter (selects s t a) (first_of_names ([] ∷ []) live)
          at true = refl
          at false = refl

  pub fitted_are : fitted s t a ≡ kept_pointer ++ fit room chosen_fids
  unfolding fitted fit
  fitted_are = ap (fit room) selected_are ∙ by pointer
    where
      none_le : (n : ℕ) → nat_le 0 n ≡ true
      none_le n = grind (arith, nat_tests)

      at : (p : Addr) (n : ℕ) (fs : List Link) (b : Bool) → fit n (cond b (pointer_link p ∷ []) [] ++ fs) ≡ cond b (pointer_link p ∷ []) [] ++ fit n fs
      at p n fs true =
          ap (λ b. cond b (pointer_link p ∷ fit (n - 0) fs) []) (none_le n)
          ∙ ap (λ k. pointer_link p ∷ fit k fs) (let z : n - 0 ≡ n = omega arith in z)
      at p n fs false = refl

      by : (o : Option Addr) → fit room (pointer_by o ++ chosen_fids) ≡ pointer_by o ++ fit room chosen_fids
      by None = refl
      by (Some p) = at p room chosen_fids (selects s t a (pointer_link p))

  -- each of the fitted FIDs stands in the content
  pub fitted_live : (l : Link) → Member l (fit room chosen_fids) → Member l live
  fitted_live l m = first_of_names_member (seen_by pointer) live l (member_filter (selects s t a) first_fids l (fit_member room chosen_fids l m)).0

  chosen_plain : has_pointer chosen_fids ≡ false
  chosen_plain = any_none (λ l. is_pointer l.says) chosen_fids (λ l m. no_pointer v.size (kept_content f v a) l (first_of_names_member (seen_by pointer) live l (member_filter (selects s t a) first_fids l m).0))

  live_plain : has_pointer live ≡ false
  live_plain = any_none (λ l. is_pointer l.says) live (λ l m. no_pointer v.size (kept_content f v a) l m)

  has_joined : (xs ys : List Link) → has_pointer ys ≡ false → has_pointer (xs ++ ys) ≡ has_pointer xs
  has_joined [] ys h = h
  has_joined (x ∷ xs) ys h = ap (λ b. is_pointer x.says || b) (has_joined xs ys h)

  loses_is : loses_pointer f v a ≡ (has_pointer (pointer_links pointer) && not (has_pointer kept_pointer))
  unfolding loses_pointer
  loses_is =
      ap (λ ls. has_pointer ls && not (has_pointer (selected s t a))) links_are
      ∙ ap (λ ls. has_pointer (pointer_links pointer ++ live) && not (has_pointer ls)) selected_are
      ∙ ap (λ b. b && not (has_pointer (kept_pointer ++ chosen_fids))) (has_joined (pointer_links pointer) live live_plain)
      ∙ ap (λ b. has_pointer (pointer_links pointer) && not b) (has_joined kept_pointer chosen_fids chosen_plain)

  -- the pointer of the mended entry is the selected one
  pub pointer_left : pointer_links (stream_of (stream_left (loses_pointer f v a) e.stream)) ≡ kept_pointer
  pointer_left = ap (λ b. pointer_links (stream_of (stream_left b e.stream))) loses_is ∙ by_stream e.stream
    where
      chosen_one : (long : Long) (p : Addr) → pointed long ≡ Some p → (b : Bool)
          → pointer_links (stream_of (stream_left (has_pointer (pointer_links (Some p)) && not (has_pointer (cond b (pointer_link p ∷ []) []))) (Some long))) ≡ cond b (pointer_link p ∷ []) []
      chosen_one long p g true = ap pointer_links g
      chosen_one long p g false = refl

      by_pointed : (long : Long) (o : Option Addr) → pointed long ≡ o
          → pointer_links (stream_of (stream_left (has_pointer (pointer_links o) && not (has_pointer (pointer_by o))) (Some long))) ≡ pointer_by o
      by_pointed long None g = ap pointer_links g
      by_pointed long (Some p) g = chosen_one long p g (selects s t a (pointer_link p))

      by_stream : (o : Option Long) → pointer_links (stream_of (stream_left (has_pointer (pointer_links (stream_of o)) && not (has_pointer (pointer_by (stream_of o)))) o)) ≡ pointer_by (stream_of o)
      by_stream None = refl
      by_stream (Some long) = by_pointed long (pointed long) refl

  pub pointer_room : rooms kept_pointer ≡ 0
  pointer_room = by pointer
    where
      at : (p : Addr) (b : Bool) → rooms (cond b (pointer_link p ∷ []) []) ≡ 0
      at p true = refl
      at p false = refl

      by : (o : Option Addr) → rooms (pointer_by o) ≡ 0
      by None = refl
      by (Some p) = at p (selects s t a (pointer_link p))

  -- ---- where the rules on links hold of the FIDs
  module _ (targets : targets_hold s t a ≡ true) (names : names_hold s t a ≡ true) (has_room : rooms live ≤ room) where
    kept_there_too : (l : Link) → Member l live → Member l (kept_links s t a)
    kept_there_too l m = subst (λ (ls : List Link). Member l ls) (sym links_are) (member_right (pointer_links pointer) live l m)

    -- what the rules say of a FID
    record Holds (l : Link) : Type 0 where
      target : (sound s t (target_of l.says) && is_entry s t (target_of l.says)) ≡ true
      first : is_named s t a l ≡ true
      link : (not (is_directory_entry s t (target_of l.says)) || is_chosen s t a l) ≡ true

    holds : (l : Link) → Member l live → Holds l
    unfolding targets_hold names_hold
    holds l m =
        let p = no_pointer v.size (kept_content f v a) l m in
        let k = kept_there_too l m in
        let x = all_at (λ (g : Link). is_pointer g.says || (sound s t (target_of g.says) && is_entry s t (target_of g.says))) (kept_links s t a) l targets k in
        let y = all_at (λ (g : Link). is_pointer g.says || (is_named s t a g && (not (is_directory_entry s t (target_of g.says)) || is_chosen s t a g))) (kept_links s t a) l names k in
        let z = and_parts (is_named s t a l) (not (is_directory_entry s t (target_of l.says)) || is_chosen s t a l) (sym (ap (λ b. b || (is_named s t a l && (not (is_directory_entry s t (target_of l.says)) || is_chosen s t a l))) p) ∙ y) in
        record { target = sym (ap (λ b. b || (sound s t (target_of l.says) && is_entry s t (target_of l.says))) p) ∙ x; first = z.0; link = z.1 }

    selects_each : (l : Link) → Member l live → selects s t a l ≡ true
    unfolding selects
    selects_each l m =
        let h = holds l m in
        let x = and_parts (sound s t (target_of l.says)) (is_entry s t (target_of l.says)) h.target in
        ap (λ b. b && cond (node_at t (target_of l.says)).directory (not (s.start (target_of l.says)) && is_rank a l (chosen s t (target_of l.says))) (not (is_pointer l.says))) x.0
        ∙ by (node_at t (target_of l.says)).directory (is_entry s t (target_of l.says)) x.1 h.link
      where
        by : (b c : Bool) → c ≡ true → (not (b && c) || is_chosen s t a l) ≡ true
            → cond b (not (s.start (target_of l.says)) && is_rank a l (chosen s t (target_of l.says))) (not (is_pointer l.says)) ≡ true
        by true true g k = k
        by true false g k = absurd (false≢true g)
        by false c g k = ap not (no_pointer v.size (kept_content f v a) l m)

    first_each : (l : Link) → Member l live → Member l first_fids
    first_each l m =
        let r = any_gives (λ (g : Link). g.place == l.place) (named s t a) (holds l m).first in
        let same : r.0 ≡ l = differ r.0 (named_kept r.0 r.1) (number r.0.place l.place r.2) in
        here (subst (λ (z : Link). Member z (named s t a)) same r.1)
      where
        number : (m n : ℕ) → (m == n) ≡ true → m ≡ n
        number m n q = grind (arith, nat_tests)

        named_kept : (g : Link) → Member g (named s t a) → Member g (kept_links s t a)
        named_kept g i = unfold named in first_of_names_member [] (kept_links s t a) g i

        differ : (g : Link) → Member g (kept_links s t a) → g.place ≡ l.place → g ≡ l
        differ g i q = unfold kept_links in (volume_differ f v).one a (kept_length s t a) g l (contains_of _ g i) (contains_of _ l (kept_there_too l m)) q

        off : (o : Option Addr) → Member l (pointer_links o) → ⊥
        off None i = i
        off (Some p) (inl q) = false≢true (sym (no_pointer v.size (kept_content f v a) l m) ∙ ap (λ (z : Link). is_pointer z.says) q)
        off (Some p) (inr i) = i

        here : Member l (named s t a) → Member l first_fids
        here i = go (member_append (pointer_links pointer) first_fids l (subst (λ (ls : List Link). Member l ls) named_are i))
          where
            go : Member l (pointer_links pointer) ⊎ Member l first_fids → Member l first_fids
            go (inl j) = absurd (off pointer j)
            go (inr j) = j

    -- all of them fit
    pub all_fit : fit room chosen_fids ≡ live
    all_fit =
        let firsts = all_first (seen_by pointer) live (fids_distinct v.size (kept_content f v a)) first_each in
        ap (λ ls. fit room (filter (selects s t a) ls)) firsts
        ∙ ap (fit room) (filter_all (selects s t a) live selects_each)
        ∙ fit_whole room live has_room
