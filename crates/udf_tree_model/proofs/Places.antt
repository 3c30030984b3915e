-- The placed addresses of a volume are among its places, and its entries stand there.
use Rattle.std.proofs.Common.{◌≡◌, ℕ, zero, suc, ◌+◌, ◌≤◌, ◌<◌, List, [], ◌∷◌, Bool, true, false, cond, ◌&&◌, Option, Some, None, refl, ap, ◌∙◌, subst, inl, inr, arith}
use Rattle.std.specs.Prelude.{nat_lt, is_some, ◌==◌}
use Rattle.std.specs.List.{flat_map, range_with_len}
use Rattle.std.proofs.lemmas.Bool.{and_parts, and_from, false≢true}
use Rattle.std.proofs.lemmas.Bool.Decides.{nat_tests}
use Rattle.udf_field.specs.declared.address.Addr.{Addr}
use Rattle.udf_file_model.specs.Address.{addr, same_addr}
use Rattle.udf_file_model.specs.Listing.{Volume, is_placed, addresses_from}
use Rattle.udf_tree_model.specs.Node.{readable}
use Rattle.udf_tree_model.specs.Frame.{Frame, is_address, addresses_below, places, entry_by, entry_at, node_by, holder_by, is_file_set, tree_of}
use Rattle.udf_tree_model.proofs.Members.{Member, member_map, member_left, member_right, member_filtered}

-- the test of addresses tells which are the same
pub same_address : (a b : Addr) → same_addr a b ≡ true → a ≡ b
same_address a b h =
    let x = and_parts (a.part == b.part) (a.block == b.block) h in
    both a b (number a.part b.part x.0) (number a.block b.block x.1)
  where
    number : (m n : ℕ) → (m == n) ≡ true → m ≡ n
    number m n t = grind (arith, nat_tests)

    both : (x y : Addr) → x.part ≡ y.part → x.block ≡ y.block → x ≡ y
    both x y p q =
        let first : x ≡ addr y.part x.block = ap (λ (m : ℕ). addr m x.block) p in
        first ∙ ap (λ (n : ℕ). addr y.part n) q

pub address_same : (a b : Addr) → a ≡ b → same_addr a b ≡ true
address_same a b e = subst (λ (x : Addr). same_addr a x ≡ true) e (and_from (a.part == a.part) (a.block == a.block) (number a.part) (number a.block))
  where
    number : (n : ℕ) → (n == n) ≡ true
    number n = grind (arith, nat_tests)

in_range : (m n x : ℕ) → m ≤ x → x < m + n → Member x (range_with_len m n)
in_range m zero x l h = absurd (omega (arith, l, h))
in_range m (suc n) x l h = go (λ t. in_range (m + 1) n x t (omega (arith, h))) (x == m) refl
  where
    go : (m + 1 ≤ x → Member x (range_with_len (m + 1) n)) → (b : Bool) → (x == m) ≡ b → Member x (range_with_len m (suc n))
    go rest true e = let t : x ≡ m = grind (arith, nat_tests) in inl t
    go rest false e = let t : m + 1 ≤ x = grind (arith, nat_tests) in inr (rest t)

pub in_flat_map : {X Y : Type 0} (f : X → List Y) (xs : List X) (x : X) (y : Y) → Member x xs → Member y (f x) → Member y (flat_map f xs)
in_flat_map f [] x y m k = absurd m
in_flat_map {X} {Y} f (z ∷ zs) x y (inl e) k = member_left (f z) (flat_map f zs) y (subst (λ (w : X). Member y (f w)) e k)
in_flat_map f (z ∷ zs) x y (inr m) k = member_right (f z) (flat_map f zs) y (in_flat_map f zs x y m k)

below : (parts blocks : ℕ) (a : Addr) → a.part < parts → a.block < blocks → Member a (addresses_below parts blocks)
unfolding addresses_below
below parts blocks a p b =
    in_flat_map (λ part. addresses_from (addr part 0) blocks) (range_with_len 0 parts) a.part a
    (in_range 0 parts a.part (omega arith) (omega arith))
    (member_map (λ block. addr a.part block) (range_with_len 0 blocks) a.block (in_range 0 blocks a.block (omega arith) (omega arith)))

-- each placed address is one of the places
pub placed_among : (v : Volume) (a : Addr) → is_address a ≡ true → is_placed v a ≡ true → Member a (places v)
unfolding places
placed_among v a h p =
    let x = and_parts (nat_lt a.part 65536) (nat_lt a.block 4294967296) h in
    member_filtered (is_placed v) (addresses_below 65536 4294967296) a (below 65536 4294967296 a (small a.part 65536 x.0) (small a.block 4294967296 x.1)) p
  where
    small : (m n : ℕ) → nat_lt m n ≡ true → m < n
    small m n t = grind (arith, nat_tests)

-- an entry, and the file set where it holds a pointer, stand at placed addresses
pub readable_placed : (f : Frame) (v : Volume) (a : Addr) → readable (tree_of f v) a ≡ true → (is_address a ≡ true) × (is_placed v a ≡ true)
unfolding readable tree_of entry_at
readable_placed f v a h = by_holder f.system (is_file_set f v a) refl h
  where
    by_place : (o : Option ℕ) → is_some (node_by f v a (entry_by v a o)) ≡ true → is_some o ≡ true
    by_place None k = k
    by_place (Some sector) k = refl

    by_address : (b : Bool) → is_address a ≡ b → is_some (node_by f v a (cond b (entry_by v a (v.place a)) None)) ≡ true → (is_address a ≡ true) × (is_placed v a ≡ true)
    by_address true e k = (e, by_place (v.place a) k)
    by_address false e k = absurd (false≢true k)

    by_holder : (o : Option Addr) (b : Bool) → is_file_set f v a ≡ b
        → is_some (holder_by o b (node_by f v a (cond (is_address a) (entry_by v a (v.place a)) None))) ≡ true → (is_address a ≡ true) × (is_placed v a ≡ true)
    by_holder None b e k = by_address (is_address a) refl k
    by_holder (Some x) false e k = by_address (is_address a) refl k
    by_holder (Some x) true e k = let y = and_parts (same_addr a f.file_set) (is_address a && is_placed v a) e in and_parts (is_address a) (is_placed v a) y.1
