-- The rules on the content of a kept directory, told by its links and its parent FIDs.
use Rattle.std.proofs.Common.{◌≡◌, ℕ, suc, ◌<◌, List, [], ◌∷◌, ◌++◌, map, length, Bool, true, false, cond, ◌&&◌, ◌||◌, not, nat_eq, Option, Some, None, refl, sym, ap, ◌∙◌, subst, inl, inr, arith}
use Rattle.std.specs.Prelude.{◌==◌, AllPairs, count_by, is_some}
use Rattle.std.specs.List.{list_all, list_any, filter}
use Rattle.std.specs.Str.{bytes_eq}
use Rattle.std.proofs.lemmas.Bool.Decides.{nat_tests}
use Rattle.std.proofs.lemmas.List.Folds.{list_all-map}
use Rattle.std.proofs.lemmas.List.Sums.{length-filter}
use Rattle.udf_field.specs.declared.address.Addr.{Addr}
use Rattle.udf_file_model.specs.Address.{same_addr}
use Rattle.udf_file_model.specs.Entry.{Entry}
use Rattle.udf_file_model.specs.Fid.{is_live, is_parent, target}
use Rattle.udf_file_model.specs.Listing.{Volume}
use Rattle.udf_file_model.specs.Pack.{packed}
use Rattle.udf_file_model.specs.Scan.{Placed, fids, fids_of, offsets}
use Rattle.udf_file_model.proofs.Listed.{ascending}
use Rattle.udf_tree_model.specs.Among.{Member}
use Rattle.udf_tree_model.specs.Chosen.{Rank, chosen, is_rank, named}
use Rattle.udf_tree_model.specs.Content.{content_holds, content_stays, kept_content}
use Rattle.udf_tree_model.specs.Frame.{Frame, entry_at, is_holder, links_of, node_with, setting_of, stream_of, tree_of}
use Rattle.udf_tree_model.specs.Kept.{kept}
use Rattle.udf_tree_model.specs.Laws.{HasSoundStarts}
use Rattle.udf_tree_model.specs.Link as model
use Rattle.udf_tree_model.specs.Link.{fid_link, fid_links, is_pointer, pointer_links, target_of}
use Rattle.udf_tree_model.specs.Node.{Node, Setting, Tree, is_entry, node_at}
use Rattle.udf_tree_model.specs.Parent.{is_stream_directory, parent}
use Rattle.udf_tree_model.specs.Rules.{is_chosen, is_directory_entry, is_named, names_hold, targets_hold}
use Rattle.udf_tree_model.specs.Won.{kept_length, kept_links, sound}
use Rattle.udf_tree_model.proofs.Finding.{volume_within}
use Rattle.udf_tree_model.proofs.Keeping.{kept_sound}
use Rattle.udf_tree_model.proofs.Linking.{Distinct}
use Rattle.udf_tree_model.proofs.Members.{any_gives, contains_of, member_filter, member_map, member_of_map}
use Rattle.udf_tree_model.proofs.Stating.{node_is}
use Rattle.udf_held.specs.declared.held.Held.{Held}
use Rattle.udf_found.specs.declared.link.Link.{Link}
use Rattle.udf_found.specs.declared.shape.Shape.{Shape}
use Rattle.udf_held.specs.Held.{IsHeld, IsHeldOf}
use Rattle.udf_found.specs.Linked.{AreLinks, Outline, is_first, outline_of, outline_seen}
use Rattle.udf_found.specs.Parents.{alone, is_lawful, is_lawful_kind, only_parent}
use Rattle.udf_kept.specs.Selects.{is_rank_at}
use Rattle.udf_found.specs.Shape.{IsShaped}
use Rattle.udf_contents.specs.Stays.{link_holds, names_parent, target_holds}

-- ---- the order of a content, by its one parent FID
all_filtered : (p q : List ℕ → Bool) (fs : List (List ℕ)) → list_all (λ fid. not (p fid) || q fid) fs ≡ list_all q (filter p fs)
all_filtered p q [] = refl
all_filtered p q (g ∷ gs) = go (p g) (all_filtered p q gs)
  where
    go : (b : Bool) → list_all (λ fid. not (p fid) || q fid) gs ≡ list_all q (filter p gs)
        → ((not b || q g) && list_all (λ fid. not (p fid) || q fid) gs) ≡ list_all q (cond b (g ∷ filter p gs) (filter p gs))
    go true h = ap (λ x. q g && x) h
    go false h = h

one_named : (stream : Bool) (above : Addr) (gs : List (List ℕ)) → ((length gs == 1) && list_all (λ fid. stream || same_addr (target fid).at above) gs) ≡ names_parent stream above (alone gs)
unfolding alone
one_named stream above [] = refl
one_named stream above (g ∷ []) = last (stream || same_addr (target g).at above)
  where
    last : (b : Bool) → (b && true) ≡ b
    last true = refl
    last false = refl
one_named stream above (g ∷ (h ∷ gs)) = ap (λ b. b && list_all (λ fid. stream || same_addr (target fid).at above) (g ∷ (h ∷ gs))) more
  where
    more : nat_eq (length (g ∷ (h ∷ gs))) 1 ≡ false
    more = grind (arith, nat_tests)

pub order_is : (size : ℕ) (stream : Bool) (above : Addr) (content : List ℕ) → content_holds size stream above content ≡ names_parent stream above (only_parent size content)
unfolding content_holds only_parent is_lawful
order_is size stream above content = by (bytes_eq content (packed fs)) (list_all is_lawful_kind fs)
  where
    fs : List (List ℕ)
    fs = fids_of (fids size content)

    one : ((count_by is_parent fs == 1) && list_all (λ fid. not (is_parent fid) || (stream || same_addr (target fid).at above)) fs) ≡ names_parent stream above (alone (filter is_parent fs))
    one =
        ap (λ n. (n == 1) && list_all (λ fid. not (is_parent fid) || (stream || same_addr (target fid).at above)) fs) (sym (length-filter is_parent fs))
        ∙ ap (λ b. (length (filter is_parent fs) == 1) && b) (all_filtered is_parent (λ fid. stream || same_addr (target fid).at above) fs)
        ∙ one_named stream above (filter is_parent fs)

    by : (a b : Bool) → (a && (b && ((count_by is_parent fs == 1) && list_all (λ fid. not (is_parent fid) || (stream || same_addr (target fid).at above)) fs)))
        ≡ names_parent stream above (cond (a && b) (alone (filter is_parent fs)) None)
    by true true = one
    by true false = refl
    by false b = refl

-- ---- the places of links differ
pub first_below : (x : ℕ) (xs : List ℕ) → AllPairs (λ a b. a < b) (x ∷ xs) → (y : ℕ) → Member y xs → x < y
first_below x xs h y m =
    let r = contains_of xs y m in
    subst (λ (z : ℕ). x < z) r.2 (h 0 (suc r.0) y (omega arith) (omega (arith, r.1)))

pub rest_ascends : (x : ℕ) (xs : List ℕ) → AllPairs (λ a b. a < b) (x ∷ xs) → AllPairs (λ a b. a < b) xs
rest_ascends x xs h i j d l m = h (suc i) (suc j) d (omega (arith, l)) (omega (arith, m))

abbrev pub places : List model.Link → List ℕ
places fs = map (λ f. f.place) fs

-- a place of the links of FIDs is that of one of them
pub place_among : (q : Placed → Bool) (ps : List Placed) (n : ℕ) → Member n (places (map fid_link (filter q ps))) → (p : Placed) × Member p ps × (n ≡ suc p.0)
place_among q ps n m =
    let x = member_of_map (λ (f : model.Link). f.place) (map fid_link (filter q ps)) n m in
    let y = member_of_map fid_link (filter q ps) x.0 x.1 in
    (y.0, (member_filter q ps y.0 y.1).0, x.2 ∙ ap (λ (f : model.Link). f.place) y.2)

fids_differ : (q : Placed → Bool) (ps : List Placed) → AllPairs (λ a b. a < b) (offsets ps) → Distinct (places (map fid_link (filter q ps)))
fids_differ q [] h = tt
fids_differ q (x ∷ xs) h = go (q x) (fids_differ q xs (rest_ascends x.0 (offsets xs) h))
  where
    later : Member (suc x.0) (places (map fid_link (filter q xs))) → ⊥
    later m =
        let y = place_among q xs (suc x.0) m in
        let l = first_below x.0 (offsets xs) h y.0.0 (member_map (λ (z : Placed). z.0) xs y.0 y.1) in
        let e = y.2 in
        absurd (omega (arith, l, e))

    go : (b : Bool) → Distinct (places (map fid_link (filter q xs))) → Distinct (places (map fid_link (cond b (x ∷ filter q xs) (filter q xs))))
    go true d = (later, d)
    go false d = d

links_differ : (size : ℕ) (o : Option Addr) (content : List ℕ) → Distinct (places (pointer_links o ++ fid_links size content))
unfolding fid_links
links_differ size None content = fids_differ (λ p. is_live p.1) (fids size content) (ascending size content)
links_differ size (Some a) content =
    (λ m. let y = place_among (λ p. is_live p.1) (fids size content) 0 m in let e = y.2 in absurd (omega (arith, e)), fids_differ (λ p. is_live p.1) (fids size content) (ascending size content))

-- the kept links of an entry
pub links_are : (f : Frame) (v : Volume) (a : Addr) (e : Entry) → entry_at v a ≡ Some e → is_holder f v a ≡ false
    → kept_links (setting_of f v) (tree_of f v) a ≡ links_of v.size e (kept_content f v a)
unfolding kept_links node_with kept_content
links_are f v a e there other =
    ap (λ (n : Node). n.links (kept_length (setting_of f v) (tree_of f v) a)) (node_is f v a e there other)
    ∙ sym (ap (λ (o : Option Entry). links_of v.size e (Rattle.udf_tree_model.specs.Content.content_by f v a o)) there)

kept_differ : (f : Frame) (v : Volume) (a : Addr) (e : Entry) → entry_at v a ≡ Some e → is_holder f v a ≡ false → Distinct (places (kept_links (setting_of f v) (tree_of f v) a))
unfolding links_of
kept_differ f v a e there other =
    subst (λ (fs : List model.Link). Distinct (places fs)) (sym (links_are f v a e there other)) (links_differ v.size (stream_of e.stream) (kept_content f v a))

-- ---- the first links of names, by their places
named_here : (ls : List Link) → Distinct (map (λ l. l.place) ls) → (l : Link) → Member l ls → list_any (λ x. x.place == l.place) (filter is_first ls) ≡ is_first l
named_here [] d l m = absurd m
named_here (x ∷ xs) d l (inl e) = subst (λ (y : Link). list_any (λ z. z.place == y.place) (filter is_first (x ∷ xs)) ≡ is_first y) (sym e) (go (is_first x))
  where
    same : (x.place == x.place) ≡ true
    same = let t : nat_eq x.place x.place ≡ true = grind (arith, nat_tests) in t

    none : (b : Bool) → list_any (λ z. z.place == x.place) (filter is_first xs) ≡ b → b ≡ false
    none false q = refl
    none true q =
        let r = any_gives (λ (z : Link). z.place == x.place) (filter is_first xs) q in
        let t = r.2 in
        let k : r.0.place ≡ x.place = grind (arith, nat_tests) in
        absurd (d.0 (subst (λ (n : ℕ). Member n (map (λ (z : Link). z.place) xs)) k (member_map (λ (z : Link). z.place) xs r.0 (member_filter is_first xs r.0 r.1).0)))

    go : (b : Bool) → list_any (λ z. z.place == x.place) (cond b (x ∷ filter is_first xs) (filter is_first xs)) ≡ b
    go true = ap (λ t. t || list_any (λ z. z.place == x.place) (filter is_first xs)) same
    go false = none (list_any (λ z. z.place == x.place) (filter is_first xs)) refl
named_here (x ∷ xs) d l (inr m) = go (is_first x) (named_here xs d.1 l m)
  where
    other : (b : Bool) → (x.place == l.place) ≡ b → b ≡ false
    other false q = refl
    other true q =
        let k : l.place ≡ x.place = grind (arith, nat_tests) in
        absurd (d.0 (subst (λ (n : ℕ). Member n (map (λ (z : Link). z.place) xs)) k (member_map (λ (z : Link). z.place) xs l m)))

    go : (b : Bool) → list_any (λ z. z.place == l.place) (filter is_first xs) ≡ is_first l → list_any (λ z. z.place == l.place) (cond b (x ∷ filter is_first xs) (filter is_first xs)) ≡ is_first l
    go true h = ap (λ t. t || list_any (λ z. z.place == l.place) (filter is_first xs)) (other (x.place == l.place) refl) ∙ h
    go false h = h

-- ---- both rules on links
all_both : {X : Type 0} (p q : X → Bool) (xs : List X) → (list_all p xs && list_all q xs) ≡ list_all (λ x. p x && q x) xs
all_both p q [] = refl
all_both {X} p q (x ∷ xs) = swap (p x) (q x) (list_all p xs) (list_all q xs) ∙ ap (λ b. (p x && q x) && b) (all_both p q xs)
  where
    swap : (a b c d : Bool) → ((a && c) && (b && d)) ≡ ((a && b) && (c && d))
    swap false b c d = refl
    swap true true c d = go c
      where
        go : (c : Bool) → (c && d) ≡ (c && d)
        go c = refl
    swap true false true d = refl
    swap true false false d = refl

all_same : {X : Type 0} (p q : X → Bool) (xs : List X) → ((x : X) → Member x xs → p x ≡ q x) → list_all p xs ≡ list_all q xs
all_same p q [] h = refl
all_same p q (x ∷ xs) h = ap (λ b. b && list_all p xs) (h x (inl refl)) ∙ ap (λ b. q x && b) (all_same p q xs (λ y m. h y (inr m)))

any_outline : (n : ℕ) (gs : List model.Link) → list_any (λ g. g.place == n) gs ≡ list_any (λ o. o.place == n) (map outline_of gs)
any_outline n [] = refl
any_outline n (g ∷ gs) = ap (λ b. (g.place == n) || b) (any_outline n gs)

any_seen : (n : ℕ) (ls : List Link) → list_any (λ l. l.place == n) ls ≡ list_any (λ o. o.place == n) (map outline_seen ls)
any_seen n [] = refl
any_seen n (l ∷ ls) = ap (λ b. (l.place == n) || b) (any_seen n ls)

places_outline : (gs : List model.Link) → places gs ≡ map (λ o. o.place) (map outline_of gs)
places_outline [] = refl
places_outline (g ∷ gs) = ap (λ ns. g.place ∷ ns) (places_outline gs)

places_seen : (ls : List Link) → map (λ l. l.place) ls ≡ map (λ o. o.place) (map outline_seen ls)
places_seen [] = refl
places_seen (l ∷ ls) = ap (λ ns. l.place ∷ ns) (places_seen ls)

module _ (s : Setting) (t : Tree) (d : Addr) where
  test : Outline → Bool → Bool
  test o first = o.pointer || (first && target_holds s t d o.place o.target)

  same_rank : (f : model.Link) (o : Option Rank) → is_rank d f o ≡ is_rank_at d f.place o
  same_rank f None = refl
  same_rank f (Some x) = refl

  rule : (f : model.Link)
      → ((is_pointer f.says || (sound s t (target_of f.says) && is_entry s t (target_of f.says)))
      && (is_pointer f.says || (is_named s t d f && (not (is_directory_entry s t (target_of f.says)) || is_chosen s t d f))))
      ≡ test (outline_of f) (is_named s t d f)
  unfolding test target_holds
  rule f =
      ap (λ r. (is_pointer f.says || (sound s t a && is_entry s t a)) && (is_pointer f.says || (is_named s t d f && (not ((node_at t a).directory && is_entry s t a) || (not (s.start a) && r))))) (same_rank f (chosen s t a))
      ∙ by (is_pointer f.says) (sound s t a) (is_entry s t a) (is_named s t d f) (node_at t a).directory (not (s.start a) && is_rank_at d f.place (chosen s t a))
    where
      a : Addr
      a = target_of f.says

      falls : (n : Bool) → false ≡ (n && false)
      falls true = refl
      falls false = refl

      by : (p b e n g r : Bool) → ((p || (b && e)) && (p || (n && (not (g && e) || r)))) ≡ (p || (n && ((b && e) && (not g || r))))
      by true b e n g r = refl
      by false false e n g r = falls n
      by false true false n g r = falls n
      by false true true n true r = refl
      by false true true n false r = refl

  links_rule : (ls : List Link) → AreLinks (kept_links s t d) ls → Distinct (places (kept_links s t d)) → (targets_hold s t d && names_hold s t d) ≡ list_all (link_holds s t d) ls
  unfolding targets_hold names_hold test named
  links_rule ls h k =
      all_both (λ f. is_pointer f.says || (sound s t (target_of f.says) && is_entry s t (target_of f.says)))
      (λ f. is_pointer f.says || (is_named s t d f && (not (is_directory_entry s t (target_of f.says)) || is_chosen s t d f))) fs
      ∙ all_same _ (λ f. test (outline_of f) (has f.place)) fs (λ f m. rule f ∙ ap (test (outline_of f)) (any_outline f.place (named s t d)))
      ∙ sym (list_all-map (λ o. test o (has o.place)) outline_of fs)
      ∙ ap (list_all (λ o. test o (has o.place))) (sym h.all)
      ∙ list_all-map (λ o. test o (has o.place)) outline_seen ls
      ∙ all_same (λ l. test (outline_seen l) (has l.place)) (link_holds s t d) ls (λ l m. ap (test (outline_seen l)) (here l m))
    where
      fs : List model.Link
      fs = kept_links s t d

      has : ℕ → Bool
      has n = list_any (λ o. o.place == n) (map outline_of (named s t d))

      differ : Distinct (map (λ (l : Link). l.place) ls)
      differ = subst Distinct (places_outline fs ∙ ap (map (λ (o : Outline). o.place)) (sym h.all) ∙ sym (places_seen ls)) k

      here : (l : Link) → Member l ls → has l.place ≡ is_first l
      here l m = ap (list_any (λ o. o.place == l.place)) (sym h.named) ∙ sym (any_seen l.place (filter is_first ls)) ∙ named_here ls differ l m

-- ---- the content of a held directory
pub stays_is : (f : Frame) (v : Volume) (h : Held) (stream : Bool) (above : Addr) → IsHeld (setting_of f v) (tree_of f v) h → IsHeldOf f v h → HasSoundStarts (setting_of f v) (tree_of f v)
    → kept (setting_of f v) (tree_of f v) h.at ≡ true → is_some h.shape ≡ true → above ≡ parent f v h.at → stream ≡ is_stream_directory (setting_of f v) (tree_of f v) h.at
    → (names_parent stream above h.parents.only && list_all (link_holds (setting_of f v) (tree_of f v) h.at) h.links.items) ≡ content_stays f v h.at
unfolding content_stays
stays_is f v h stream above i o starts k shaped up str =
    swap (names_parent stream above h.parents.only) (list_all (link_holds s t h.at) h.links.items)
    ∙ ap (λ b. b && names_parent stream above h.parents.only) (sym (by h.shape shaped o.shape))
    ∙ ap (λ b. (targets_hold s t h.at && names_hold s t h.at) && b) order
    ∙ joined (targets_hold s t h.at) (names_hold s t h.at) _
  where
    s : Setting
    s = setting_of f v

    t : Tree
    t = tree_of f v

    stands : h.sound ≡ true
    stands = i.sound_is ∙ kept_sound s t (volume_within f v) starts h.at k

    by : (x : Option Shape) → is_some x ≡ true → IsShaped f v h.at x → (targets_hold s t h.at && names_hold s t h.at) ≡ list_all (link_holds s t h.at) h.links.items
    by None e q = cc
    by (Some x) e (other, entry, there, shape) = links_rule s t h.at h.links.items (i.links stands) (kept_differ f v h.at entry there other)

    order : names_parent stream above h.parents.only ≡ content_holds v.size (is_stream_directory s t h.at) (parent f v h.at) (kept_content f v h.at)
    order =
        ap (λ b. names_parent b above h.parents.only) str
        ∙ ap (λ x. names_parent (is_stream_directory s t h.at) x h.parents.only) up
        ∙ ap (names_parent (is_stream_directory s t h.at) (parent f v h.at)) (o.parent stands shaped)
        ∙ sym (order_is v.size (is_stream_directory s t h.at) (parent f v h.at) (kept_content f v h.at))

    swap : (a b : Bool) → (a && b) ≡ (b && a)
    swap true true = refl
    swap true false = refl
    swap false true = refl
    swap false false = refl

    joined : (a b c : Bool) → ((a && b) && c) ≡ (a && (b && c))
    joined true b c = refl
    joined false b c = refl
