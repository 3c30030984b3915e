-- The one parent FID of the mended content of a kept directory.
use Rattle.std.proofs.Common.{◌≡◌, ◌⊎◌, ℕ, ◌+◌, ◌≤◌, List, [], ◌∷◌, ◌++◌, length, Bool, true, false, cond, ◌&&◌, ◌||◌, refl, sym, ap, ◌∙◌, subst, inl, inr, arith, Option, Some, None}
use Rattle.std.specs.Prelude.{◌==◌, count_by, find}
use Rattle.std.specs.List.{AllByRecursion, filter, list_all}
use Rattle.std.specs.Str.{bytes_eq}
use Rattle.std.proofs.lemmas.Bool.{and_parts, and_from, false≢true}
use Rattle.std.proofs.lemmas.Bool.Decides.{nat_tests}
use Rattle.std.proofs.lemmas.List.Sums.{length-filter}
use Rattle.udf_field.specs.declared.address.Addr.{Addr}
use Rattle.udf_model.specs.Bytes.{IsBytes}
use Rattle.udf_model.specs.Size.{is_size}
use Rattle.udf_file_model.specs.Address.{same_addr}
use Rattle.udf_file_model.specs.Content.{block_at}
use Rattle.udf_file_model.specs.Entry.{Entry}
use Rattle.udf_file_model.specs.Fid.{IsFid, is_deleted, is_live, is_parent, target}
use Rattle.udf_file_model.specs.Listing.{Volume, list_for}
use Rattle.udf_file_model.specs.Pack.{packed}
use Rattle.udf_file_model.specs.Scan.{Placed, fids, fids_of}
use Rattle.udf_file_model.proofs.Fids.{parent_not_live}
use Rattle.udf_file_model.proofs.Scanned.{packed_scan, placed_fids}
use Rattle.udf_tree_model.specs.Among.{Member}
use Rattle.udf_tree_model.specs.Chosen.{fitted}
use Rattle.udf_tree_model.specs.Content.{content_holds, content_location, content_stays, fitted_bytes, kept_content, kept_fids, mended_content, parent_fid, parent_fid_by}
use Rattle.udf_tree_model.specs.Counts.{parents_in}
use Rattle.udf_tree_model.specs.Frame.{Frame, content_to, entry_at, holder_by, is_file_set, links_of, node_by, node_with, setting_of, stream_of, tree_of}
use Rattle.udf_tree_model.specs.Link.{Link, Says, Pointer, Fid, fid_link, fid_links, pointer_links}
use Rattle.udf_tree_model.specs.Node.{node_at, node_or}
use Rattle.udf_tree_model.specs.Parent.{parent}
use Rattle.udf_tree_model.specs.Rules.{targets_hold, names_hold}
use Rattle.udf_tree_model.specs.Won.{kept_length, kept_links}
use Rattle.udf_tree_model.proofs.Keeping.{fitted_gives}
use Rattle.udf_tree_model.proofs.Members.{member_append, member_filter, member_of_map}
use Rattle.udf_found.specs.Parents.{alone, is_lawful, is_lawful_kind, only_parent}
use Rattle.udf_kept.proofs.Counted.{count_one}
use Rattle.udf_dues.proofs.Wholeness.{FitsFields, IsParentFid, fid_is_whole, fid_of_bytes, fresh_names, named_parent}

-- ---- fitted FIDs are whole, and none is a parent FID
record IsNamed (size : ℕ) (fid : List ℕ) : Type 0 where
  is : IsFid size fid
  other : is_parent fid ≡ false

abbrev HasNamed : ℕ → Says → Type 0
HasNamed size (Pointer a) = Unit {0}
HasNamed size (Fid fid) = IsNamed size fid

live_other : (fid : List ℕ) → is_live fid ≡ true → is_parent fid ≡ false
live_other fid h = by (is_parent fid) refl
  where
    by : (b : Bool) → is_parent fid ≡ b → is_parent fid ≡ false
    by false e = e
    by true e = absurd (false≢true (sym (parent_not_live fid e) ∙ h))

placed_member : (ps : List Placed) (p : Placed) → Member p ps → Member p.1 (fids_of ps)
placed_member [] p m = absurd m
placed_member (q ∷ qs) p (inl e) = inl (ap (λ (x : Placed). x.1) e)
placed_member (q ∷ qs) p (inr m) = inr (placed_member qs p m)

fid_named : (size : ℕ) (content : List ℕ) (l : Link) → Member l (fid_links size content) → HasNamed size l.says
unfolding fid_links
fid_named size content l m =
    let x = member_of_map fid_link (filter (λ p. is_live p.1) (fids size content)) l m in
    let y = member_filter (λ (p : Placed). is_live p.1) (fids size content) x.0 x.1 in
    subst (λ (k : Link). HasNamed size k.says) (sym x.2) (record { is = fid_is_whole size content x.0.1 (placed_member (fids size content) x.0 y.0); other = live_other x.0.1 y.1 })

pointer_named : (size : ℕ) (o : Option Addr) (l : Link) → Member l (pointer_links o) → HasNamed size l.says
pointer_named size None l m = absurd m
pointer_named size (Some a) l (inl e) = subst (λ (k : Link). HasNamed size k.says) (sym e) tt
pointer_named size (Some a) l (inr m) = absurd m

links_named : (size : ℕ) (e : Entry) (content : List ℕ) (l : Link) → Member l (links_of size e content) → HasNamed size l.says
unfolding links_of
links_named size e content l m = go (member_append (pointer_links (stream_of e.stream)) (fid_links size content) l m)
  where
    go : Member l (pointer_links (stream_of e.stream)) ⊎ Member l (fid_links size content) → HasNamed size l.says
    go (inl k) = pointer_named size (stream_of e.stream) l k
    go (inr k) = fid_named size content l k

volume_named : (f : Frame) (v : Volume) (d : Addr) (limit : ℕ) (l : Link) → Member l ((node_at (tree_of f v) d).links limit) → HasNamed v.size l.says
unfolding node_at tree_of node_with
volume_named f v d limit l m = by_holder f.system (is_file_set f v d) m
  where
    by_entry : (o : Option Entry) → Member l ((node_or (node_by f v d o)).links limit) → HasNamed v.size l.says
    by_entry None k = absurd k
    by_entry (Some i) k = links_named v.size i (content_to v i (list_for v d i) limit) l k

    by_holder : (o : Option Addr) (b : Bool) → Member l ((node_or (holder_by o b (node_by f v d (entry_at v d)))).links limit) → HasNamed v.size l.says
    by_holder None b k = by_entry (entry_at v d) k
    by_holder (Some system) false k = by_entry (entry_at v d) k
    by_holder (Some system) true k = pointer_named v.size (Some system) l k

fitted_named : (f : Frame) (v : Volume) (d : Addr) (l : Link) → Member l (fitted (setting_of f v) (tree_of f v) d) → HasNamed v.size l.says
unfolding kept_links
fitted_named f v d l m = volume_named f v d (kept_length (setting_of f v) (tree_of f v) d) l (fitted_gives (setting_of f v) (tree_of f v) d l m).0

-- the FIDs of some links
abbrev says_fids : Says → List (List ℕ) → List (List ℕ)
says_fids (Pointer a) fids = fids
says_fids (Fid fid) fids = fid ∷ fids

abbrev link_fids : List Link → List (List ℕ)
link_fids [] = []
link_fids (l ∷ ls) = says_fids l.says (link_fids ls)

bytes_packed : (ls : List Link) → fitted_bytes ls ≡ packed (link_fids ls)
bytes_packed [] = refl
bytes_packed (l ∷ ls) = by (bytes_packed ls) l.says
  where
    by : fitted_bytes ls ≡ packed (link_fids ls) → (x : Says) → fitted_bytes (record { place = l.place; says = x } ∷ ls) ≡ packed (says_fids x (link_fids ls))
    by rest (Pointer a) = rest
    by rest (Fid fid) = ap (λ bytes. fid ++ bytes) rest

all_named : (size : ℕ) (ls : List Link) → ((l : Link) → Member l ls → HasNamed size l.says) → AllByRecursion (IsNamed size) (link_fids ls)
all_named size [] f = tt
all_named size (l ∷ ls) f = by l.says (f l (inl refl)) (all_named size ls (λ k m. f k (inr m)))
  where
    by : (x : Says) → HasNamed size x → AllByRecursion (IsNamed size) (link_fids ls) → AllByRecursion (IsNamed size) (says_fids x (link_fids ls))
    by (Pointer a) h rest = rest
    by (Fid fid) h rest = (h, rest)

all_whole : (size : ℕ) (xs : List (List ℕ)) → AllByRecursion (IsNamed size) xs → AllByRecursion (IsFid size) xs
all_whole size [] h = tt
all_whole size (x ∷ xs) h = (h.0.is, all_whole size xs h.1)

-- the test of a parent FID that names an address
abbrev names_at : Addr → List ℕ → Bool
names_at a fid = is_parent fid && same_addr (target fid).at a

none_named : (size : ℕ) (a : Addr) (xs : List (List ℕ)) → AllByRecursion (IsNamed size) xs → count_by (names_at a) xs ≡ 0
none_named size a [] h = refl
none_named size a (x ∷ xs) h =
    let here : cond {A = ℕ} (names_at a x) 1 0 ≡ 0 = ap (λ b. cond {A = ℕ} (b && same_addr (target x).at a) 1 0) h.0.other in
    let rest = none_named size a xs h.1 in
    let step = count_one (names_at a) x xs in
    omega (arith, here, rest, step)

-- ---- a mended content
found_among : (p : List ℕ → Bool) (xs : List (List ℕ)) (x : List ℕ) → find p xs ≡ Some x → Member x xs × (p x ≡ true)
found_among p [] x e = cc
found_among p (y ∷ ys) x e = by (found_among p ys x) (p y) refl e
  where
    by : (find p ys ≡ Some x → Member x ys × (p x ≡ true)) → (b : Bool) → p y ≡ b → cond b (Some y) (find p ys) ≡ Some x → Member x (y ∷ ys) × (p x ≡ true)
    by ih true t i = let same : y ≡ x = cc in (inl (sym same), ap p (sym same) ∙ t)
    by ih false t i = let r = ih i in (inr r.0, r.1)

size_room : (n : ℕ) → is_size n ≡ true → 40 ≤ n
unfolding is_size
size_room n h = grind (arith, nat_tests)

module _ (f : Frame) (v : Volume) (size : is_size v.size ≡ true) (d : Addr) (block : IsBytes (block_at v d)) (content : IsBytes (kept_content f v d)) (fits : FitsFields (parent f v d)) where
  parent_is : IsParentFid v.size (parent_fid f v d) (parent f v d)
  unfolding parent_fid
  parent_is = by (find is_parent (kept_fids f v d)) refl
    where
      by : (o : Option (List ℕ)) → find is_parent (kept_fids f v d) ≡ o → IsParentFid v.size (parent_fid_by f v d o) (parent f v d)
      by None e = fresh_names v.size (content_location v d (entry_at v d)) (block_at v d) (size_room v.size size) block (parent f v d) fits
      by (Some fid) e =
          let r = found_among is_parent (kept_fids f v d) fid e in
          named_parent v.size fid (parent f v d) (fid_of_bytes v.size (kept_content f v d) fid content r.0) fits r.1

  others : AllByRecursion (IsNamed v.size) (link_fids (fitted (setting_of f v) (tree_of f v) d))
  others = all_named v.size (fitted (setting_of f v) (tree_of f v) d) (fitted_named f v d)

  scanned : content_stays f v d ≡ false → fids_of (fids v.size (mended_content f v d)) ≡ parent_fid f v d ∷ link_fids (fitted (setting_of f v) (tree_of f v) d)
  unfolding mended_content
  scanned h =
      let new = parent_fid f v d ∷ link_fids (fitted (setting_of f v) (tree_of f v) d) in
      ap (λ b. fids_of (fids v.size (cond b (kept_content f v d) (parent_fid f v d ++ fitted_bytes (fitted (setting_of f v) (tree_of f v) d))))) h
      ∙ ap (λ bytes. fids_of (fids v.size (parent_fid f v d ++ bytes))) (bytes_packed (fitted (setting_of f v) (tree_of f v) d))
      ∙ ap fids_of (packed_scan v.size 0 new (parent_is.is, all_whole v.size _ others))
      ∙ placed_fids 0 new

  pub mended_names : content_stays f v d ≡ false → (a : Addr) → parents_in f v a d ≡ cond (same_addr (parent f v d) a) 1 0
  unfolding parents_in
  mended_names h a =
      ap (count_by (names_at a)) (scanned h)
      ∙ (let step = count_one (names_at a) (parent_fid f v d) (link_fids (fitted (setting_of f v) (tree_of f v) d)) in
      let rest = none_named v.size a (link_fids (fitted (setting_of f v) (tree_of f v) d)) others in
      let here : cond {A = ℕ} (names_at a (parent_fid f v d)) 1 0 ≡ cond (same_addr (parent f v d) a) 1 0 =
      ap (λ b. cond {A = ℕ} (b && same_addr (target (parent_fid f v d)).at a) 1 0) parent_is.parent ∙ ap (λ (x : Addr). cond {A = ℕ} (same_addr x a) 1 0) parent_is.names in
      omega (arith, step, rest, here))

-- ---- a content that stays
counts_filter : (a : Addr) (xs : List (List ℕ)) → count_by (names_at a) xs ≡ count_by (λ fid. same_addr (target fid).at a) (filter is_parent xs)
counts_filter a [] = refl
counts_filter a (x ∷ xs) = by (is_parent x) refl (counts_filter a xs) (count_one (names_at a) x xs)
  where
    by : (b : Bool) → is_parent x ≡ b → count_by (names_at a) xs ≡ count_by (λ fid. same_addr (target fid).at a) (filter is_parent xs)
        → count_by (names_at a) (x ∷ xs) ≡ cond (names_at a x) 1 0 + count_by (names_at a) xs
        → count_by (names_at a) (x ∷ xs) ≡ count_by (λ fid. same_addr (target fid).at a) (cond b (x ∷ filter is_parent xs) (filter is_parent xs))
    by true e rest step =
        let here : cond {A = ℕ} (names_at a x) 1 0 ≡ cond (same_addr (target x).at a) 1 0 = ap (λ b. cond {A = ℕ} (b && same_addr (target x).at a) 1 0) e in
        let other = count_one (λ (fid : List ℕ). same_addr (target fid).at a) x (filter is_parent xs) in
        omega (arith, here, rest, step, other)
    by false e rest step =
        let here : cond {A = ℕ} (names_at a x) 1 0 ≡ 0 = ap (λ b. cond {A = ℕ} (b && same_addr (target x).at a) 1 0) e in
        omega (arith, here, rest, step)

-- the one of some FIDs
IsOne : List (List ℕ) → Type 0
IsOne ys = (x : Addr) × (alone ys ≡ Some x) × ((a : Addr) → count_by (λ (fid : List ℕ). same_addr (target fid).at a) ys ≡ cond (same_addr x a) 1 0)

one_of : (ys : List (List ℕ)) → length ys ≡ 1 → IsOne ys
unfolding alone IsOne
one_of [] e = absurd (omega (arith, e))
one_of (y ∷ []) e = ((target y).at, refl, λ a. count_one (λ (fid : List ℕ). same_addr (target fid).at a) y [] ∙ last (cond (same_addr (target y).at a) 1 0))
  where
    last : (n : ℕ) → n + 0 ≡ n
    last n = omega arith
one_of (y ∷ (z ∷ zs)) e = absurd (omega (arith, e))

-- the parent FID of a content that stays
pub record NamesParent (f : Frame) (v : Volume) (d x : Addr) : Type 0 where
  pub only : only_parent v.size (kept_content f v d) ≡ Some x
  pub counts : (a : Addr) → parents_in f v a d ≡ cond (same_addr x a) 1 0

pub stays_names : (f : Frame) (v : Volume) (d : Addr) → content_stays f v d ≡ true → (x : Addr) × NamesParent f v d x
unfolding content_stays content_holds only_parent is_lawful mended_content parents_in IsOne
stays_names f v d h =
    let a = and_parts (targets_hold (setting_of f v) (tree_of f v) d) _ h in
    let b = and_parts (names_hold (setting_of f v) (tree_of f v) d) _ a.1 in
    let c = and_parts (bytes_eq (kept_content f v d) (packed (kept_fids f v d))) _ b.1 in
    let k = and_parts (list_all (λ fid. is_deleted fid || (is_live fid || is_parent fid)) (kept_fids f v d)) _ c.1 in
    let n = and_parts (count_by is_parent (kept_fids f v d) == 1) _ k.1 in
    let one : length (filter is_parent (kept_fids f v d)) ≡ 1 = length-filter is_parent (kept_fids f v d) ∙ equal_is (count_by is_parent (kept_fids f v d)) 1 n.0 in
    let r = one_of (filter is_parent (kept_fids f v d)) one in (
      r.0,
      record {
        only = ap (λ t. cond t (alone (filter is_parent (kept_fids f v d))) None) (and_from (bytes_eq (kept_content f v d) (packed (kept_fids f v d))) (list_all is_lawful_kind (kept_fids f v d)) c.0 k.0) ∙ r.1;
        counts = λ y.
            ap (λ t. count_by (names_at y) (fids_of (fids v.size (cond t (kept_content f v d) (parent_fid f v d ++ fitted_bytes (fitted (setting_of f v) (tree_of f v) d)))))) h
            ∙ counts_filter y (kept_fids f v d) ∙ r.2 y;
      },
    )
  where
    equal_is : (m n : ℕ) → (m == n) ≡ true → m ≡ n
    equal_is m n t = grind (arith, nat_tests)
