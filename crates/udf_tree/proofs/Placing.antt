-- The links of an entry stand in the order of their places, and what is judged of them too.
use Rattle.std.proofs.Common.{◌≡◌, ℕ, suc, ◌<◌, List, [], ◌∷◌, ◌++◌, length, map, Bool, true, false, cond, nat_eq, Option, Some, None, refl, sym, ap, ◌∙◌, subst, inl, inr, arith}
use Rattle.std.specs.Prelude.{AllPairs}
use Rattle.std.specs.declared.cmp.Ordering.TheVariants.{Less}
use Rattle.std.specs.List.{AllByRecursion, filter}
use Rattle.std.specs.List.Sorted.{IsStrictlySortedBy}
use Rattle.std.specs.Map.{keys_of}
use Rattle.std.specs.Ordering.{is_eq, nat_cmp}
use Rattle.std.proofs.lemmas.Bool.Decides.{nat_tests}
use Rattle.std.proofs.lemmas.Option.{same_Some}
use Rattle.udf_field.specs.declared.address.Addr.{Addr}
use Rattle.udf_file_model.specs.Entry.{Entry}
use Rattle.udf_file_model.specs.Fid.{is_live}
use Rattle.udf_file_model.specs.Listing.{Volume, list_for}
use Rattle.udf_file_model.specs.Scan.{Placed, fids, offsets}
use Rattle.udf_file_model.proofs.Listed.{ascending}
use Rattle.udf_tree_model.specs.Among.{Member}
use Rattle.udf_tree_model.specs.Frame.{Frame, content_to, entry_at, holder_by, is_file_set, links_of, node_by, node_with, setting_of, stream_of, tree_of}
use Rattle.udf_tree_model.specs.Link as model
use Rattle.udf_tree_model.specs.Link.{fid_link, fid_links, pointer_links, target_of}
use Rattle.udf_tree_model.specs.Node.{Setting, Tree, node_at, node_or}
use Rattle.udf_tree_model.specs.Won.{kept_length, kept_links}
use Rattle.udf_tree_model.proofs.Members.{member_map}
use Rattle.udf_tree.specs.declared.judge.Verdict.{Verdict}
use Rattle.udf_tree.specs.Judged.{judged, judged_all, judged_in, judged_links, verdict, verdict_in}
use Rattle.udf_found.specs.Linked.{earliers, earliers_after}
use Rattle.udf_contents.proofs.Ruling.{first_below, place_among, places, rest_ascends}

-- each number is below all later ones
abbrev pub Rising : List ℕ → Type 0
Rising [] = Unit {0}
Rising (x ∷ xs) = ((y : ℕ) → Member y xs → x < y) × Rising xs

-- ---- the places of the links of an entry
fids_rise : (q : Placed → Bool) (ps : List Placed) → AllPairs (λ a b. a < b) (offsets ps) → Rising (places (map fid_link (filter q ps)))
fids_rise q [] h = tt
fids_rise q (x ∷ xs) h = go (q x) (fids_rise q xs (rest_ascends x.0 (offsets xs) h))
  where
    later : (n : ℕ) → Member n (places (map fid_link (filter q xs))) → suc x.0 < n
    later n m =
        let y = place_among q xs n m in
        let l = first_below x.0 (offsets xs) h y.0.0 (member_map (λ (z : Placed). z.0) xs y.0 y.1) in
        let e = y.2 in
        omega (arith, l, e)

    go : (b : Bool) → Rising (places (map fid_link (filter q xs))) → Rising (places (map fid_link (cond b (x ∷ filter q xs) (filter q xs))))
    go true d = (later, d)
    go false d = d

links_rise : (size : ℕ) (o : Option Addr) (content : List ℕ) → Rising (places (pointer_links o ++ fid_links size content))
unfolding fid_links
links_rise size None content = fids_rise (λ p. is_live p.1) (fids size content) (ascending size content)
links_rise size (Some a) content =
    (λ n m. let y = place_among (λ p. is_live p.1) (fids size content) n m in let e = y.2 in omega (arith, e), fids_rise (λ p. is_live p.1) (fids size content) (ascending size content))

entry_rise : (size : ℕ) (e : Entry) (content : List ℕ) → Rising (places (links_of size e content))
unfolding links_of
entry_rise size e content = links_rise size (stream_of e.stream) content

volume_rise : (f : Frame) (v : Volume) (d : Addr) (limit : ℕ) → Rising (places ((node_at (tree_of f v) d).links limit))
unfolding node_at tree_of node_with
volume_rise f v d limit = by_holder f.system (is_file_set f v d)
  where
    by_entry : (o : Option Entry) → Rising (places ((node_or (node_by f v d o)).links limit))
    by_entry None = tt
    by_entry (Some i) = entry_rise v.size i (content_to v i (list_for v d i) limit)

    by_holder : (o : Option Addr) (b : Bool) → Rising (places ((node_or (holder_by o b (node_by f v d (entry_at v d)))).links limit))
    by_holder None b = by_entry (entry_at v d)
    by_holder (Some system) false = by_entry (entry_at v d)
    by_holder (Some system) true = (λ n m. absurd m, tt)

kept_rise : (f : Frame) (v : Volume) (a : Addr) → Rising (places (kept_links (setting_of f v) (tree_of f v) a))
unfolding kept_links
kept_rise f v a = volume_rise f v a (kept_length (setting_of f v) (tree_of f v) a)

-- ---- lists in order are the same where the same stands at each place
less_from : (a b : ℕ) → nat_cmp a b ≡ Less → a < b
less_from a b e = grind (arith, nat_tests)

all_less : (a : ℕ) (xs : List ℕ) → AllByRecursion (λ b. nat_cmp a b ≡ Less) xs → (b : ℕ) → Member b xs → a < b
all_less a [] h b m = absurd m
all_less a (x ∷ xs) h b (inl e) = subst (λ (z : ℕ). a < z) (sym e) (less_from a x h.0)
all_less a (x ∷ xs) h b (inr m) = all_less a xs h.1 b m

pub sorted_rise : (xs : List ℕ) → IsStrictlySortedBy nat_cmp xs → Rising xs
unfolding IsStrictlySortedBy
sorted_rise [] h = tt
sorted_rise (x ∷ xs) h = (all_less x xs h.0, sorted_rise xs h.1)

itself : (a : ℕ) → is_eq (nat_cmp a a) ≡ true
itself a = grind (arith, nat_tests)

below : (a b : ℕ) → a < b → is_eq (nat_cmp a b) ≡ false
below a b l = grind (arith, nat_tests)

equal : (a b : ℕ) → is_eq (nat_cmp a b) ≡ true → a ≡ b
equal a b e = grind (arith, nat_tests)

here : (x : ℕ × Verdict) (es : List (ℕ × Verdict)) → verdict_in (x ∷ es) x.0 ≡ Some x.1
here x es = ap (λ b. cond b (Some x.1) (verdict_in es x.0)) (itself x.0)

nowhere : (es : List (ℕ × Verdict)) (q : ℕ) → ((y : ℕ) → Member y (keys_of es) → q < y) → verdict_in es q ≡ None
nowhere [] q h = refl
nowhere (x ∷ es) q h = ap (λ b. cond b (Some x.1) (verdict_in es q)) (below q x.0 (h x.0 (inl refl))) ∙ nowhere es q (λ y m. h y (inr m))

before : (x y : ℕ × Verdict) (es fs : List (ℕ × Verdict)) → Rising (keys_of (y ∷ fs)) → verdict_in (x ∷ es) x.0 ≡ verdict_in (y ∷ fs) x.0 → x.0 < y.0 → ⊥
before x y es fs r h l = let n : Some x.1 ≡ None = sym (here x es) ∙ h ∙ nowhere (y ∷ fs) x.0 above in cc
  where
    above : (z : ℕ) → Member z (keys_of (y ∷ fs)) → x.0 < z
    above z (inl e) = omega (arith, l, e)
    above z (inr m) = let k = r.0 z m in omega (arith, l, k)

same_entries : (es fs : List (ℕ × Verdict)) → Rising (keys_of es) → Rising (keys_of fs) → ((q : ℕ) → verdict_in es q ≡ verdict_in fs q) → es ≡ fs
same_entries [] [] r s h = refl
same_entries [] (y ∷ fs) r s h = let n : None ≡ Some y.1 = h y.0 ∙ here y fs in cc
same_entries (x ∷ es) [] r s h = let n : Some x.1 ≡ None = sym (here x es) ∙ h x.0 in cc
same_entries (x ∷ es) (y ∷ fs) r s h = both place (same_Some x.1 y.1 (sym (here x es) ∙ h x.0 ∙ ap (verdict_in (y ∷ fs)) place ∙ here y fs)) (same_entries es fs r.1 s.1 rest)
  where
    place : x.0 ≡ y.0
    place = let a = before x y es fs s (h x.0) in let b = before y x fs es r (sym (h y.0)) in omega (arith, a, b)

    both : x.0 ≡ y.0 → x.1 ≡ y.1 → es ≡ fs → x ∷ es ≡ y ∷ fs
    both i j k = ap (λ (n : ℕ). (n, x.1) ∷ es) i ∙ ap (λ (w : Verdict). (y.0, w) ∷ es) j ∙ ap (λ (zs : List (ℕ × Verdict)). y ∷ zs) k

    rest : (q : ℕ) → verdict_in es q ≡ verdict_in fs q
    rest q = by (is_eq (nat_cmp q x.0)) refl
      where
        by : (b : Bool) → is_eq (nat_cmp q x.0) ≡ b → verdict_in es q ≡ verdict_in fs q
        by true e = let i = equal q x.0 e in nowhere es q (λ z m. let l = r.0 z m in omega (arith, i, l)) ∙ sym (nowhere fs q (λ z m. let l = s.0 z m in let j = place in omega (arith, i, j, l)))
        by false e =
            sym (ap (λ b. cond b (Some x.1) (verdict_in es q)) e)
            ∙ h q
            ∙ ap (λ b. cond b (Some y.1) (verdict_in fs q)) (ap (λ (n : ℕ). is_eq (nat_cmp q n)) (sym place) ∙ e)

-- ---- what is judged of the links of the definitions, in order
pub earliers_long : (before fs : List model.Link) → length (earliers_after before fs) ≡ length fs
unfolding earliers_after
earliers_long before [] = refl
earliers_long before (f ∷ fs) = ap (λ (n : ℕ). suc n) (earliers_long (before ++ f ∷ []) fs)

turned : (q n : ℕ) → is_eq (nat_cmp q n) ≡ nat_eq n q
turned q n = grind (arith, nat_tests)

module _ (s : Setting) (t : Tree) (d : Addr) where
  all_places : (fs : List model.Link) (os : List (Option ℕ)) → length os ≡ length fs → keys_of (judged_all s t d fs os) ≡ places fs
  all_places [] os n = refl
  all_places (f ∷ fs) [] n = absurd (omega (arith, n))
  all_places (f ∷ fs) (o ∷ os) n = ap (λ ns. f.place ∷ ns) (all_places fs os (omega (arith, n)))

  all_in : (fs : List model.Link) (os : List (Option ℕ)) (q : ℕ) → verdict_in (judged_all s t d fs os) q ≡ judged_in s t d fs os q
  all_in [] os q = refl
  all_in (f ∷ fs) [] q = refl
  all_in (f ∷ fs) (o ∷ os) q =
      ap (λ b. cond b (Some (verdict s t d f.place (target_of f.says) o)) (verdict_in (judged_all s t d fs os) q)) (turned q f.place)
      ∙ ap (λ x. cond (nat_eq f.place q) (Some (verdict s t d f.place (target_of f.says) o)) x) (all_in fs os q)

pub links_in : (f : Frame) (v : Volume) (a : Addr) (q : ℕ) → verdict_in (judged_links f v a) q ≡ judged f v a q
unfolding judged judged_links
links_in f v a q = all_in (setting_of f v) (tree_of f v) a (kept_links (setting_of f v) (tree_of f v) a) (earliers (kept_links (setting_of f v) (tree_of f v) a)) q

-- what is judged of each place is judged of all links
pub all_judged : (f : Frame) (v : Volume) (a : Addr) (es : List (ℕ × Verdict)) → IsStrictlySortedBy nat_cmp (keys_of es) → ((q : ℕ) → verdict_in es q ≡ judged f v a q) → es ≡ judged_links f v a
unfolding judged_links
all_judged f v a es sorted h =
    let fs = kept_links (setting_of f v) (tree_of f v) a in
    same_entries es (judged_links f v a) (sorted_rise (keys_of es) sorted)
    (subst Rising (sym (all_places (setting_of f v) (tree_of f v) a fs (earliers fs) (earliers_long [] fs))) (kept_rise f v a))
    (λ q. h q ∙ sym (links_in f v a q))
