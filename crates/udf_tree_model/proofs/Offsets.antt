-- In what is read of an entry a place names one link: FIDs stand at different offsets, and the pointer before them.
use Rattle.std.proofs.Common.{◌≡◌, ◌⊎◌, ℕ, suc, ◌<◌, List, [], ◌∷◌, ◌++◌, Bool, true, false, Option, Some, None, sym, ap, ◌∙◌, subst, inl, inr, arith}
use Rattle.std.specs.Prelude.{AllPairs}
use Rattle.std.specs.List.{filter}
use Rattle.udf_field.specs.declared.address.Addr.{Addr}
use Rattle.udf_file_model.specs.Entry.{Entry}
use Rattle.udf_file_model.specs.Listing.{Volume, list_for}
use Rattle.udf_file_model.specs.Fid.{is_live}
use Rattle.udf_file_model.specs.Scan.{Placed, fids, offsets}
use Rattle.udf_file_model.proofs.Listed.{ascending}
use Rattle.udf_tree_model.specs.Link.{Link, fid_link, fid_links, pointer_links}
use Rattle.udf_tree_model.specs.Node.{node_at, node_or}
use Rattle.udf_tree_model.specs.Frame.{Frame, stream_of, links_of, node_with, node_by, holder_by, is_file_set, entry_at, tree_of, content_to}
use Rattle.udf_tree_model.specs.Laws.{PlacesDiffer}
use Rattle.udf_tree_model.proofs.Members.{Member, member_of, contains_of, member_append, member_map, member_of_map, member_filter}

first_below : (x : ℕ) (xs : List ℕ) → AllPairs (λ a b. a < b) (x ∷ xs) → (y : ℕ) → Member y xs → x < y
first_below x xs h y m =
    let r = contains_of xs y m in
    subst (λ (z : ℕ). x < z) r.2 (h 0 (suc r.0) y (omega arith) (omega (arith, r.1)))

rest_ascends : (x : ℕ) (xs : List ℕ) → AllPairs (λ a b. a < b) (x ∷ xs) → AllPairs (λ a b. a < b) xs
rest_ascends x xs h i j d l m = h (suc i) (suc j) d (omega (arith, l)) (omega (arith, m))

-- of a list whose numbers ascend a number names one element
one_of : (ps : List Placed) → AllPairs (λ a b. a < b) (offsets ps) → (p q : Placed) → Member p ps → Member q ps → p.0 ≡ q.0 → p ≡ q
one_of [] h p q m n e = absurd m
one_of (x ∷ xs) h p q (inl i) (inl j) e = i ∙ sym j
one_of (x ∷ xs) h p q (inr i) (inr j) e = one_of xs (rest_ascends x.0 (offsets xs) h) p q i j e
one_of (x ∷ xs) h p q (inl i) (inr j) e =
    let l = first_below x.0 (offsets xs) h q.0 (member_map (λ (z : Placed). z.0) xs q j) in
    let k : x.0 ≡ q.0 = ap (λ (z : Placed). z.0) (sym i) ∙ e in
    absurd (omega (arith, l, k))
one_of (x ∷ xs) h p q (inr i) (inl j) e =
    let l = first_below x.0 (offsets xs) h p.0 (member_map (λ (z : Placed). z.0) xs p i) in
    let k : x.0 ≡ p.0 = ap (λ (z : Placed). z.0) (sym j) ∙ sym e in
    absurd (omega (arith, l, k))

-- of links that a place of which names one
abbrev OnePlace : List Link → Type 0
OnePlace fs = (f g : Link) → Member f fs → Member g fs → f.place ≡ g.place → f ≡ g

fids_one : (size : ℕ) (content : List ℕ) → OnePlace (fid_links size content)
unfolding fid_links
fids_one size content f g m n e =
    let ps = fids size content in
    let x = member_of_map fid_link (filter (λ p. is_live p.1) ps) f m in
    let y = member_of_map fid_link (filter (λ p. is_live p.1) ps) g n in
    let i = (member_filter (λ p. is_live p.1) ps x.0 x.1).0 in
    let j = (member_filter (λ p. is_live p.1) ps y.0 y.1).0 in
    let same : x.0.0 ≡ y.0.0 = low (ap (λ (z : Link). z.place) (sym x.2) ∙ e ∙ ap (λ (z : Link). z.place) y.2) in
    x.2 ∙ ap fid_link (one_of ps (ascending size content) x.0 y.0 i j same) ∙ sym y.2
  where
    low : {k l : ℕ} → suc k ≡ suc l → k ≡ l
    low q = cc

fid_place : (size : ℕ) (content : List ℕ) (f : Link) → Member f (fid_links size content) → f.place ≡ 0 → ⊥
unfolding fid_links
fid_place size content f m e =
    let x = member_of_map fid_link (filter (λ p. is_live p.1) (fids size content)) f m in
    let z : suc x.0.0 ≡ 0 = ap (λ (z : Link). z.place) (sym x.2) ∙ e in
    absurd (omega arith)

pointer_one : (o : Option Addr) → OnePlace (pointer_links o)
pointer_one None f g m n e = absurd m
pointer_one (Some a) f g (inl p) (inl q) e = p ∙ sym q
pointer_one (Some a) f g (inr m) n e = absurd m
pointer_one (Some a) f g (inl p) (inr n) e = absurd n

pointer_place : (o : Option Addr) (f : Link) → Member f (pointer_links o) → f.place ≡ 0
pointer_place None f m = absurd m
pointer_place (Some a) f (inl p) = ap (λ (z : Link). z.place) p
pointer_place (Some a) f (inr m) = absurd m

both_one : (o : Option Addr) (fs : List Link) → OnePlace fs → ((f : Link) → Member f fs → f.place ≡ 0 → ⊥) → OnePlace (pointer_links o ++ fs)
both_one o fs h k f g m n e = go (member_append (pointer_links o) fs f m) (member_append (pointer_links o) fs g n)
  where
    go : Member f (pointer_links o) ⊎ Member f fs → Member g (pointer_links o) ⊎ Member g fs → f ≡ g
    go (inl i) (inl j) = pointer_one o f g i j e
    go (inl i) (inr j) = absurd (k g j (sym e ∙ pointer_place o f i))
    go (inr i) (inl j) = absurd (k f i (e ∙ pointer_place o g j))
    go (inr i) (inr j) = h f g i j e

links_one : (size : ℕ) (e : Entry) (content : List ℕ) → OnePlace (links_of size e content)
unfolding links_of
links_one size e content = both_one (stream_of e.stream) (fid_links size content) (fids_one size content) (fid_place size content)

pub volume_differ : (f : Frame) (v : Volume) → PlacesDiffer (tree_of f v)
unfolding node_at tree_of node_with
volume_differ f v = record { one = λ d limit x y m n e. by_holder d limit f.system (is_file_set f v d) x y (member_of _ x m) (member_of _ y n) e }
  where
    by_entry : (d : Addr) (limit : ℕ) (o : Option Entry) → OnePlace ((node_or (node_by f v d o)).links limit)
    by_entry d limit None = λ x y m n e. absurd m
    by_entry d limit (Some i) = links_one v.size i (content_to v i (list_for v d i) limit)

    by_holder : (d : Addr) (limit : ℕ) (o : Option Addr) (b : Bool) → OnePlace ((node_or (holder_by o b (node_by f v d (entry_at v d)))).links limit)
    by_holder d limit None b = by_entry d limit (entry_at v d)
    by_holder d limit (Some system) false = by_entry d limit (entry_at v d)
    by_holder d limit (Some system) true = pointer_one (Some system)
