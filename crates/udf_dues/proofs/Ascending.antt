-- The places of a volume stand in the order of their addresses, and what that makes of tests of lower addresses.
use Rattle.std.proofs.Common.{◌≡◌, ◌⊎◌, ℕ, zero, suc, ◌+◌, ◌<◌, ◌≤◌, List, [], ◌∷◌, ◌++◌, map, Bool, true, false, cond, ◌&&◌, ◌||◌, refl, sym, ap, ◌∙◌, subst, inl, inr, arith}
use Rattle.std.specs.Prelude.{count_by}
use Rattle.std.specs.List.{list_any, filter, flat_map, range_with_len}
use Rattle.std.proofs.lemmas.Bool.Decides.{nat_tests}
use Rattle.udf_field.specs.declared.address.Addr.{Addr}
use Rattle.udf_file_model.specs.Address.{addr}
use Rattle.udf_file_model.specs.Listing.{Volume, addresses_from, is_placed}
use Rattle.udf_tree_model.specs.Chosen.{is_lower}
use Rattle.udf_tree_model.specs.Frame.{Frame, addresses_below, places}
use Rattle.udf_tree_model.specs.Parent.{ordinary}
use Rattle.udf_tree_model.specs.Counts.{ordinary_entries}
use Rattle.udf_tree_model.proofs.Members.{Member, member_append, member_right, member_filter}
use Rattle.udf_kept.proofs.Counted.{count_one}

-- each address is lower than all later ones
abbrev pub Ascending : List Addr → Type 0
Ascending [] = Unit {0}
Ascending (a ∷ rest) = ((b : Addr) → Member b rest → is_lower a b ≡ true) × Ascending rest

pub ascending_filter : (p : Addr → Bool) (xs : List Addr) → Ascending xs → Ascending (filter p xs)
ascending_filter p [] h = tt
ascending_filter p (x ∷ xs) h = go (p x) (ascending_filter p xs h.1)
  where
    go : (b : Bool) → Ascending (filter p xs) → Ascending (cond b (x ∷ filter p xs) (filter p xs))
    go true k = (λ b m. h.0 b (member_filter p xs b m).0, k)
    go false k = k

ascending_append : (xs ys : List Addr) → Ascending xs → Ascending ys → ((a b : Addr) → Member a xs → Member b ys → is_lower a b ≡ true) → Ascending (xs ++ ys)
ascending_append [] ys h k f = k
ascending_append (x ∷ xs) ys h k f = (first, ascending_append xs ys h.1 k (λ a b m n. f a b (inr m) n))
  where
    first : (b : Addr) → Member b (xs ++ ys) → is_lower x b ≡ true
    first b m = go (member_append xs ys b m)
      where
        go : Member b xs ⊎ Member b ys → is_lower x b ≡ true
        go (inl n) = h.0 b n
        go (inr n) = f x b (inl refl) n

lower_block : (p m n : ℕ) → m < n → is_lower (addr p m) (addr p n) ≡ true
lower_block p m n l = grind (arith, nat_tests)

lower_part : (p q m n : ℕ) → p < q → is_lower (addr p m) (addr q n) ≡ true
lower_part p q m n l = grind (arith, nat_tests)

pub not_lower : (a b : Addr) → is_lower a b ≡ true → is_lower b a ≡ false
not_lower a b h = grind (arith, nat_tests)

pub not_lower_itself : (a : Addr) → is_lower a a ≡ false
not_lower_itself a = grind (arith, nat_tests)

row_bounds : (p m n : ℕ) (b : Addr) → Member b (map (λ block. addr p block) (range_with_len m n)) → (b.part ≡ p) × (m ≤ b.block)
row_bounds p m zero b h = absurd h
row_bounds p m (suc n) b (inl e) = (ap (λ (x : Addr). x.part) e, let k : b.block ≡ m = ap (λ (x : Addr). x.block) e in omega (arith, k))
row_bounds p m (suc n) b (inr h) = let r = row_bounds p (m + 1) n b h in let k = r.1 in (r.0, omega (arith, k))

ascending_row : (p m n : ℕ) → Ascending (map (λ block. addr p block) (range_with_len m n))
ascending_row p m zero = tt
ascending_row p m (suc n) = (first, ascending_row p (m + 1) n)
  where
    first : (b : Addr) → Member b (map (λ block. addr p block) (range_with_len (m + 1) n)) → is_lower (addr p m) b ≡ true
    first b h =
        let r = row_bounds p (m + 1) n b h in
        let k = r.1 in
        subst (λ (q : ℕ). is_lower (addr p m) (addr q b.block) ≡ true) (sym r.0) (lower_block p m b.block (omega (arith, k)))

rows_bound : (p n blocks : ℕ) (b : Addr) → Member b (flat_map (λ part. addresses_from (addr part 0) blocks) (range_with_len p n)) → p ≤ b.part
rows_bound p zero blocks b h = absurd h
rows_bound p (suc n) blocks b h = go (rows_bound (p + 1) n blocks b) (member_append (addresses_from (addr p 0) blocks) (flat_map (λ part. addresses_from (addr part 0) blocks) (range_with_len (p + 1) n)) b h)
  where
    go : (Member b (flat_map (λ part. addresses_from (addr part 0) blocks) (range_with_len (p + 1) n)) → p + 1 ≤ b.part)
        → Member b (addresses_from (addr p 0) blocks) ⊎ Member b (flat_map (λ part. addresses_from (addr part 0) blocks) (range_with_len (p + 1) n)) → p ≤ b.part
    go ih (inl m) = let k = (row_bounds p 0 blocks b m).0 in omega (arith, k)
    go ih (inr m) = let k = ih m in omega (arith, k)

ascending_rows : (p n blocks : ℕ) → Ascending (flat_map (λ part. addresses_from (addr part 0) blocks) (range_with_len p n))
ascending_rows p zero blocks = tt
ascending_rows p (suc n) blocks = ascending_append (addresses_from (addr p 0) blocks) (flat_map (λ part. addresses_from (addr part 0) blocks) (range_with_len (p + 1) n)) (ascending_row p 0 blocks) (ascending_rows (p + 1) n blocks) across
  where
    across : (a b : Addr) → Member a (addresses_from (addr p 0) blocks) → Member b (flat_map (λ part. addresses_from (addr part 0) blocks) (range_with_len (p + 1) n)) → is_lower a b ≡ true
    across a b m k =
        let x = (row_bounds p 0 blocks a m).0 in
        let y = rows_bound (p + 1) n blocks b k in
        lower_part a.part b.part a.block b.block (omega (arith, x, y))

ascending_below : (parts blocks : ℕ) → Ascending (addresses_below parts blocks)
unfolding addresses_below
ascending_below parts blocks = ascending_rows 0 parts blocks

pub places_ascend : (v : Volume) → Ascending (places v)
unfolding places
places_ascend v = ascending_filter (is_placed v) (addresses_below 65536 4294967296) (ascending_below 65536 4294967296)

pub ordinary_ascend : (f : Frame) (v : Volume) → Ascending (ordinary_entries f v)
unfolding ordinary_entries
ordinary_ascend f v = ascending_filter (ordinary f v) (places v) (places_ascend v)

-- none of these is lower
none_lower : (g : Addr → Bool) (a : Addr) (xs : List Addr) → ((b : Addr) → Member b xs → is_lower b a ≡ false) → list_any (λ b. is_lower b a && g b) xs ≡ false
none_lower g a [] h = refl
none_lower g a (x ∷ xs) h = ap (λ t. (t && g x) || list_any (λ b. is_lower b a && g b) xs) (h x (inl refl)) ∙ none_lower g a xs (λ b m. h b (inr m))

no_lower : (g : Addr → Bool) (a : Addr) (xs : List Addr) → ((b : Addr) → Member b xs → is_lower b a ≡ false) → count_by (λ b. is_lower b a && g b) xs ≡ 0
no_lower g a [] h = refl
no_lower g a (x ∷ xs) h =
    let none : cond {A = ℕ} (is_lower x a && g x) 1 0 ≡ 0 = ap (λ t. cond {A = ℕ} (t && g x) 1 0) (h x (inl refl)) in
    let rest = no_lower g a xs (λ b m. h b (inr m)) in
    let step = count_one (λ b. is_lower b a && g b) x xs in
    omega (arith, none, rest, step)

from_itself : (a : Addr) (after : List Addr) → Ascending (a ∷ after) → (b : Addr) → Member b (a ∷ after) → is_lower b a ≡ false
from_itself a after h b (inl e) = subst (λ (x : Addr). is_lower x a ≡ false) (sym e) (not_lower_itself a)
from_itself a after h b (inr m) = not_lower a b (h.0 b m)

-- of a list in order those that are lower than one are those before it
pub any_lower : (g : Addr → Bool) (before : List Addr) (a : Addr) (after : List Addr) → Ascending (before ++ a ∷ after)
    → list_any (λ b. is_lower b a && g b) (before ++ a ∷ after) ≡ list_any g before
any_lower g [] a after h = none_lower g a (a ∷ after) (from_itself a after h)
any_lower g (x ∷ xs) a after h =
    ap (λ t. (t && g x) || list_any (λ b. is_lower b a && g b) (xs ++ a ∷ after)) (h.0 a (member_right xs (a ∷ after) a (inl refl)))
    ∙ ap (λ t. g x || t) (any_lower g xs a after h.1)

pub count_lower : (g : Addr → Bool) (before : List Addr) (a : Addr) (after : List Addr) → Ascending (before ++ a ∷ after)
    → count_by (λ b. is_lower b a && g b) (before ++ a ∷ after) ≡ count_by g before
count_lower g [] a after h = no_lower g a (a ∷ after) (from_itself a after h)
count_lower g (x ∷ xs) a after h =
    let one : cond {A = ℕ} (is_lower x a && g x) 1 0 ≡ cond (g x) 1 0 = ap (λ t. cond {A = ℕ} (t && g x) 1 0) (h.0 a (member_right xs (a ∷ after) a (inl refl))) in
    let rest = count_lower g xs a after h.1 in
    let step = count_one (λ b. is_lower b a && g b) x (xs ++ a ∷ after) in
    let other = count_one g x xs in
    omega (arith, one, rest, step, other)
