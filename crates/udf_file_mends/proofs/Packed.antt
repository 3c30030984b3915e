-- Contents of FIDs one after another: what their links say, and how much room beside the parent FID they take.
use Rattle.std.proofs.Common.{◌≡◌, ℕ, ◌+◌, ◌<◌, ◌≤◌, ◌||◌, not, Bool, true, false, cond, List, [], ◌∷◌, ◌++◌, map, length, refl, ap, ◌∙◌, inl, inr, arith, length-append, sym, subst}
use Rattle.std.specs.Prelude.{◌==◌, count_by}
use Rattle.std.specs.List.{AllByRecursion, list_all, filter}
use Rattle.std.specs.Str.{bytes_eq}
use Rattle.std.proofs.lemmas.Bool.{and_from, and_parts, false≢true, or_left, or_right}
use Rattle.std.proofs.lemmas.Bool.Decides.{nat_tests}
use Rattle.std.proofs.lemmas.List.Sums.{length-filter}
use Rattle.std.proofs.lemmas.Slice.Eq.{bytes_eq-Decides}
use Rattle.udf_field.specs.declared.address.Addr.{Addr}
use Rattle.udf_model.specs.Bytes.{IsBytes}
use Rattle.udf_model.proofs.Parts.{append_is_bytes}
use Rattle.udf_file_model.specs.Address.{same_addr}
use Rattle.udf_file_model.specs.Fid.{IsFid, is_deleted, is_live, is_parent, target}
use Rattle.udf_file_model.specs.Pack.{packed}
use Rattle.udf_file_model.specs.Scan.{Placed, fids, fids_of}
use Rattle.udf_file_model.proofs.Fids.{parent_not_live}
use Rattle.udf_file_model.proofs.Scanned.{packed_scan, placed_fids}
use Rattle.udf_tree_model.specs.Among.{Member}
use Rattle.udf_tree_model.proofs.Members.{all_from, member_filter}
use Rattle.udf_tree_model.proofs.Places.{address_same}
use Rattle.udf_tree_model.specs.Link.{Link, Says, Fid, fid_link, fid_links, room_of}
use Rattle.udf_tree_model.specs.Mended.{rooms, said}
use Rattle.udf_tree_model.specs.Content.{content_holds, fid_of, fitted_bytes}
use Rattle.udf_tree_model.specs.Frame.{parent_length}

-- what FIDs say
abbrev pub fids_say : List (List ℕ) → List Says
fids_say list = map Fid list

pub links_say : (ps : List Placed) → said (map fid_link (filter (λ p. is_live p.1) ps)) ≡ fids_say (filter is_live (fids_of ps))
links_say [] = refl
links_say (p ∷ ps) = by (is_live p.1) (links_say ps)
  where
    by : (b : Bool) → said (map fid_link (filter (λ p. is_live p.1) ps)) ≡ fids_say (filter is_live (fids_of ps))
        → said (map fid_link (cond b (p ∷ filter (λ p. is_live p.1) ps) (filter (λ p. is_live p.1) ps))) ≡ fids_say (cond b (p.1 ∷ filter is_live (fids_of ps)) (filter is_live (fids_of ps)))
    by true e = ap (λ l. Fid p.1 ∷ l) e
    by false e = e

rooms_of_says : (links : List Link) (list : List (List ℕ)) → said links ≡ fids_say list → rooms links ≡ length (packed list)
rooms_of_says [] [] e = refl
rooms_of_says [] (x ∷ xs) e = absurd (clash e)
  where
    clash : {s : Says} {l : List Says} → [] ≡ s ∷ l → ⊥
    clash e = cc
rooms_of_says (l ∷ ls) [] e = absurd (clash e)
  where
    clash : {s : Says} {r : List Says} → s ∷ r ≡ [] → ⊥
    clash e = cc
rooms_of_says (l ∷ ls) (x ∷ xs) e =
    let h : l.says ≡ Fid x = first e in
    let r : said ls ≡ fids_say xs = rest e in
    let i = rooms_of_says ls xs r in
    let k : room_of l.says ≡ length x = ap room_of h in
    omega (arith, i, k, length-append x (packed xs))
  where
    first : {a b : Says} {l r : List Says} → a ∷ l ≡ b ∷ r → a ≡ b
    first e = cc

    rest : {a b : Says} {l r : List Says} → a ∷ l ≡ b ∷ r → l ≡ r
    rest e = cc

-- the live FIDs of a list take what it leaves, beside its first parent FID
live_within : (list : List (List ℕ)) → length (packed (filter is_live list)) ≤ length (packed list)
live_within [] = omega arith
live_within (x ∷ xs) = by (is_live x) (live_within xs)
  where
    by : (b : Bool) → length (packed (filter is_live xs)) ≤ length (packed xs) → length (packed (cond b (x ∷ filter is_live xs) (filter is_live xs))) ≤ length (x ++ packed xs)
    by true l = omega (arith, l, length-append x (packed xs), length-append x (packed (filter is_live xs)))
    by false l = omega (arith, l, length-append x (packed xs))

live_beside : (list : List (List ℕ)) → 0 < length (filter is_parent list) → parent_length list + length (packed (filter is_live list)) ≤ length (packed list)
unfolding parent_length
live_beside [] h = absurd (omega (arith, h))
live_beside (x ∷ xs) h = by (is_parent x) refl h (λ k. live_beside xs k)
  where
    other : (b : Bool) → parent_length xs + length (packed (filter is_live xs)) ≤ length (packed xs)
        → parent_length xs + length (packed (cond b (x ∷ filter is_live xs) (filter is_live xs))) ≤ length (x ++ packed xs)
    other true l = omega (arith, l, length-append x (packed xs), length-append x (packed (filter is_live xs)))
    other false l = omega (arith, l, length-append x (packed xs))

    by : (b : Bool) → is_parent x ≡ b → 0 < length (cond b (x ∷ filter is_parent xs) (filter is_parent xs))
        → (0 < length (filter is_parent xs) → parent_length xs + length (packed (filter is_live xs)) ≤ length (packed xs))
        → cond b (length x) (parent_length xs) + length (packed (cond (is_live x) (x ∷ filter is_live xs) (filter is_live xs))) ≤ length (x ++ packed xs)
    by true e k on =
        let dead : length (packed (cond (is_live x) (x ∷ filter is_live xs) (filter is_live xs))) ≡ length (packed (filter is_live xs)) =
        ap (λ b. length (packed (cond b (x ∷ filter is_live xs) (filter is_live xs)))) (parent_not_live x e) in
        omega (arith, dead, live_within xs, length-append x (packed xs))
    by false e k on = other (is_live x) (on k)

-- a content on which the rule holds: its links fit beside its parent FID
pub whole_beside : (size : ℕ) (stream : Bool) (parent : Addr) (content : List ℕ) → content_holds size stream parent content ≡ true
    → parent_length (fids_of (fids size content)) + rooms (fid_links size content) ≤ length content
unfolding content_holds fid_links
whole_beside size stream parent content h =
    let list = fids_of (fids size content) in
    let x = and_parts (bytes_eq content (packed list)) _ h in
    let y = and_parts (list_all (λ fid. is_deleted fid || (is_live fid || is_parent fid)) list) _ x.1 in
    let z = and_parts (count_by is_parent list == 1) (list_all (λ fid. not (is_parent fid) || (stream || same_addr (target fid).at parent)) list) y.1 in
    let whole : content ≡ packed list = (bytes_eq-Decides content (packed list)).0 x.0 in
    let one : count_by is_parent list ≡ 1 = number (count_by is_parent list) 1 z.0 in
    let some : 0 < length (filter is_parent list) = omega (arith, one, length-filter is_parent list) in
    let taken = rooms_of_says (map fid_link (filter (λ p. is_live p.1) (fids size content))) (filter is_live list) (links_say (fids size content)) in
    omega (arith, taken, live_beside list some, ap length whole)
  where
    number : (m n : ℕ) → (m == n) ≡ true → m ≡ n
    number m n q = grind (arith, nat_tests)

-- ---- links that are FIDs
-- each link is of a live FID of bytes
pub record IsLiveFid (size : ℕ) (l : Link) : Type 0 where
  pub fid : List ℕ
  pub says : l.says ≡ Fid fid
  pub is : IsFid size fid
  pub live : is_live fid ≡ true
  pub bytes : IsBytes fid

abbrev pub AllLiveFids : ℕ → List Link → Type 0
AllLiveFids size ls = (l : Link) → Member l ls → IsLiveFid size l

-- what a list of links is, if all of them are of live FIDs
pub record AsFids (size : ℕ) (ls : List Link) : Type 0 where
  pub list : List (List ℕ)
  pub says : said ls ≡ fids_say list
  pub bytes : fitted_bytes ls ≡ packed list
  pub are : AllByRecursion (IsFid size) list
  pub live : filter is_live list ≡ list
  pub are_bytes : IsBytes (packed list)

pub as_fids : (size : ℕ) (ls : List Link) → AllLiveFids size ls → AsFids size ls
as_fids size [] h = record { list = []; says = refl; bytes = refl; are = tt; live = refl; are_bytes = λ i. omega arith }
as_fids size (l ∷ ls) h =
    let x = h l (inl refl) in
    let r = as_fids size ls (λ k m. h k (inr m)) in
    record {
      list = x.fid ∷ r.list;
      says = ap (λ z. z ∷ said ls) x.says ∙ ap (λ z. Fid x.fid ∷ z) r.says;
      bytes = ap (λ z. fid_of z ++ fitted_bytes ls) x.says ∙ ap (λ z. x.fid ++ z) r.bytes;
      are = (x.is, r.are);
      live = ap (λ b. cond b (x.fid ∷ filter is_live r.list) (filter is_live r.list)) x.live ∙ ap (λ z. x.fid ∷ z) r.live;
      are_bytes = append_is_bytes x.fid (packed r.list) x.bytes r.are_bytes;
    }

-- ---- a parent FID and live FIDs, packed
module _ (size : ℕ) (parent : List ℕ) (is : IsFid size parent) (leads : is_parent parent ≡ true) (list : List (List ℕ)) (are : AllByRecursion (IsFid size) list) (live : filter is_live list ≡ list) where
  abbrev pub content : List ℕ
  content = parent ++ packed list

  scanned : fids_of (fids size content) ≡ parent ∷ list
  scanned = ap fids_of (packed_scan size 0 (parent ∷ list) (is, are)) ∙ placed_fids 0 (parent ∷ list)

  alive : filter is_live (parent ∷ list) ≡ list
  alive = ap (λ b. cond b (parent ∷ filter is_live list) (filter is_live list)) (parent_not_live parent leads) ∙ live

  pub packed_says : said (fid_links size content) ≡ fids_say list
  unfolding fid_links
  packed_says = links_say (fids size content) ∙ ap (λ l. fids_say (filter is_live l)) scanned ∙ ap fids_say alive

  pub packed_parent : parent_length (fids_of (fids size content)) ≡ length parent
  unfolding parent_length
  packed_parent = ap parent_length scanned ∙ ap (λ b. cond b (length parent) (parent_length list)) leads

  pub packed_beside : parent_length (fids_of (fids size content)) + rooms (fid_links size content) ≤ length content
  packed_beside = omega (arith, packed_parent, rooms_of_says (fid_links size content) list packed_says, length-append parent (packed list))

  pub packed_rooms : (ls : List Link) → said ls ≡ fids_say list → length content ≡ length parent + rooms ls
  packed_rooms ls e = omega (arith, rooms_of_says ls list e, length-append parent (packed list))

-- ---- a packed content breaks no rule
not_parent : (fid : List ℕ) → is_live fid ≡ true → is_parent fid ≡ false
not_parent fid h = by (is_parent fid) refl
  where
    by : (b : Bool) → is_parent fid ≡ b → is_parent fid ≡ false
    by true k = absurd (false≢true (sym (parent_not_live fid k) ∙ h))
    by false k = k

all_live : (list : List (List ℕ)) → filter is_live list ≡ list → (fid : List ℕ) → Member fid list → is_live fid ≡ true
all_live list h fid m = (member_filter is_live list fid (subst (λ (l : List (List ℕ)). Member fid l) (sym h) m)).1

no_parents : (list : List (List ℕ)) → ((fid : List ℕ) → Member fid list → is_parent fid ≡ false) → filter is_parent list ≡ []
no_parents [] h = refl
no_parents (x ∷ xs) h = ap (λ b. cond b (x ∷ filter is_parent xs) (filter is_parent xs)) (h x (inl refl)) ∙ no_parents xs (λ y m. h y (inr m))

module _ (size : ℕ) (stream : Bool) (at : Addr) (parent : List ℕ) (is : IsFid size parent) (leads : is_parent parent ≡ true) (names : (target parent).at ≡ at) (list : List (List ℕ)) (are : AllByRecursion (IsFid size) list) (live : filter is_live list ≡ list) where
  abbrev made : List ℕ
  made = parent ++ packed list

  made_scanned : fids_of (fids size made) ≡ parent ∷ list
  made_scanned = scanned size parent is leads list are live

  list_live : (fid : List ℕ) → Member fid list → is_live fid ≡ true
  list_live = all_live list live

  pub packed_holds : content_holds size stream at made ≡ true
  unfolding content_holds
  packed_holds =
      and_from (bytes_eq made (packed (fids_of (fids size made)))) _ ((bytes_eq-Decides made (packed (fids_of (fids size made)))).1 (sym (ap packed made_scanned)))
      (and_from (list_all (λ fid. is_deleted fid || (is_live fid || is_parent fid)) (fids_of (fids size made))) _
      (ap (list_all (λ fid. is_deleted fid || (is_live fid || is_parent fid))) made_scanned ∙ all_from (λ fid. is_deleted fid || (is_live fid || is_parent fid)) (parent ∷ list) each)
      (and_from (count_by is_parent (fids_of (fids size made)) == 1) _ one
      (ap (list_all (λ fid. not (is_parent fid) || (stream || same_addr (target fid).at at))) made_scanned
      ∙ all_from (λ fid. not (is_parent fid) || (stream || same_addr (target fid).at at)) (parent ∷ list) named)))
    where
      each : (fid : List ℕ) → Member fid (parent ∷ list) → (is_deleted fid || (is_live fid || is_parent fid)) ≡ true
      each fid (inl e) = or_right (is_deleted fid) (is_live fid || is_parent fid) (or_right (is_live fid) (is_parent fid) (ap is_parent e ∙ leads))
      each fid (inr m) = or_right (is_deleted fid) (is_live fid || is_parent fid) (or_left (is_live fid) (is_parent fid) (list_live fid m))

      counted : count_by is_parent (fids_of (fids size made)) ≡ 1
      counted =
          ap (count_by is_parent) made_scanned
          ∙ sym (length-filter is_parent (parent ∷ list))
          ∙ ap (λ b. length (cond b (parent ∷ filter is_parent list) (filter is_parent list))) leads
          ∙ ap (λ l. length (parent ∷ l)) (no_parents list (λ fid m. not_parent fid (list_live fid m)))

      one : (count_by is_parent (fids_of (fids size made)) == 1) ≡ true
      one = ap (λ (n : ℕ). n == 1) counted

      named : (fid : List ℕ) → Member fid (parent ∷ list) → (not (is_parent fid) || (stream || same_addr (target fid).at at)) ≡ true
      named fid (inl e) = or_right (not (is_parent fid)) (stream || same_addr (target fid).at at) (or_right stream (same_addr (target fid).at at) (address_same (target fid).at at (ap (λ (z : List ℕ). (target z).at) e ∙ names)))
      named fid (inr m) = or_left (not (is_parent fid)) (stream || same_addr (target fid).at at) (ap not (not_parent fid (list_live fid m)))
