-- The addresses of a cut list begin those of the list, and its allocation extents and its blocks have different ones.
use Rattle.std.proofs.Common.{◌≡◌, ◌⊎◌, ℕ, zero, suc, ◌+◌, ◌-◌, ◌<◌, ◌≤◌, nat_lt, Bool, true, false, cond, List, [], ◌∷◌, ◌++◌, map, take, drop, refl, sym, ap, ◌∙◌, subst, inl, inr, arith, append_assoc, append-nil}
use Rattle.std.specs.Prelude.{◌==◌, ◌≢◌, AllPairs}
use Rattle.std.specs.List.{range_with_len}
use Rattle.std.proofs.lemmas.Bool.Decides.{nat_tests}
use Rattle.std.proofs.Math.Nat.{le-div_iff_mul-le, div-mul-le_self}
use Rattle.udf_field.specs.declared.address.Addr.{Addr}
use Rattle.udf_file_model.specs.Address.{addr}
use Rattle.udf_file_model.specs.Descriptors.{Descriptor}
use Rattle.udf_file_model.specs.Pieces.{Piece, Extent, Blocks, IsAmong, extents_of, runs_of}
use Rattle.udf_file_model.specs.Front.{blocks_for, is_hole}
use Rattle.udf_file_model.specs.Cut.{cut_pieces}
use Rattle.udf_file_model.specs.Listing.{Volume, addresses, addresses_from}
use Rattle.udf_tree_model.proofs.Members.{Member, contains_of, member_append, member_left, member_right}
use Rattle.udf_tree_model.proofs.Linking.{Distinct}
use Rattle.udf_file_mends.specs.Spread.{Sited, spread, spread_from}
use Rattle.udf_file_mends.proofs.Sited.{sites}
use Rattle.udf_file_mends.proofs.Reach.{AllRecorded}

-- ---- lists in which nothing stands twice
pub distinct_pairs : {X : Type 0} (xs : List X) → AllPairs (λ x y. x ≢ y) xs → Distinct xs
distinct_pairs [] h = tt
distinct_pairs {X} (x ∷ xs) h = (first, distinct_pairs xs (λ i j d l m. h (suc i) (suc j) d (omega (arith, l)) (omega (arith, m))))
  where
    first : Member x xs → ⊥
    first m = let r = contains_of xs x m in h 0 (suc r.0) x (omega arith) (omega (arith, r.1)) (sym r.2)

pub distinct_left : {X : Type 0} (xs ys : List X) → Distinct (xs ++ ys) → Distinct xs
distinct_left [] ys d = tt
distinct_left (x ∷ xs) ys d = (λ m. d.0 (member_left xs ys x m), distinct_left xs ys d.1)

pub distinct_right : {X : Type 0} (xs ys : List X) → Distinct (xs ++ ys) → Distinct ys
distinct_right [] ys d = d
distinct_right (x ∷ xs) ys d = distinct_right xs ys d.1

pub distinct_apart : {X : Type 0} (xs ys : List X) → Distinct (xs ++ ys) → (x : X) → Member x xs → Member x ys → ⊥
distinct_apart [] ys d x m n = m
distinct_apart {X} (z ∷ zs) ys d x (inl e) n = d.0 (member_right zs ys z (subst (λ (k : X). Member k ys) e n))
distinct_apart (z ∷ zs) ys d x (inr m) n = distinct_apart zs ys d.1 x m n

pub distinct_join : {X : Type 0} (xs ys : List X) → Distinct xs → Distinct ys → ((x : X) → Member x xs → Member x ys → ⊥) → Distinct (xs ++ ys)
distinct_join [] ys d e h = e
distinct_join {X} (x ∷ xs) ys d e h = (first, distinct_join xs ys d.1 e (λ z m n. h z (inr m) n))
  where
    first : Member x (xs ++ ys) → ⊥
    first m = go (member_append xs ys x m)
      where
        go : Member x xs ⊎ Member x ys → ⊥
        go (inl i) = d.0 i
        go (inr i) = h x (inl refl) i

-- ---- the addresses of a cut
pub fewer_blocks : (size m n : ℕ) → 0 < size → m ≤ n → blocks_for size m ≤ blocks_for size n
fewer_blocks size m n some h =
    (le-div_iff_mul-le {k = size} {x = blocks_for size m} {y = n + (size - 1)} some).1 (omega (arith, h, div-mul-le_self (m + (size - 1)) size))

front_from : (part : ℕ) (n m block : ℕ) → n ≤ m → (rest : List Addr) × (map (λ b. addr part b) (range_with_len block m) ≡ map (λ b. addr part b) (range_with_len block n) ++ rest)
front_from part zero m block l = (map (λ b. addr part b) (range_with_len block m), refl)
front_from part (suc n) zero block l = absurd (omega (arith, l))
front_from part (suc n) (suc m) block l = let r = front_from part n m (block + 1) (omega (arith, l)) in (r.0, ap (λ z. addr part block ∷ z) r.1)

-- the addresses of a list that a cut leaves out
pub record LeftOut (size b : ℕ) (ps : List Piece) : Type 0 where
  pub rest : List Addr
  pub split : addresses size ps ≡ addresses size (cut_pieces b ps) ++ rest

above : (m n : ℕ) → nat_lt m n ≡ false → n ≤ m
above m n t = grind (arith, nat_tests)

pub left_out : (size : ℕ) → 0 < size → (ps : List Piece) (b : ℕ) → LeftOut size b ps
unfolding cut_pieces
left_out size some [] b = record { rest = []; split = refl }
left_out size some (Extent x ∷ rest) b = by (b == 0) (left_out size some rest b)
  where
    P : Bool → Type 0
    P t = (out : List Addr) × (addresses size (Extent x ∷ rest) ≡ addresses size (cond t [] (Extent x ∷ cut_pieces b rest)) ++ out)

    both : LeftOut size b rest → (t : Bool) → (out : List Addr) × (addresses size (Extent x ∷ rest) ≡ addresses size (cond t [] (Extent x ∷ cut_pieces b rest)) ++ out)
    both on true = (addresses size (Extent x ∷ rest), refl)
    both on false = (on.rest, ap (λ z. x ∷ z) on.split)

    by : (t : Bool) → LeftOut size b rest → LeftOut size b (Extent x ∷ rest)
    by t on = let r = both on (b == 0) in record { rest = r.0; split = r.1 }
left_out size some (Blocks d ∷ rest) b = let r = both (left_out size some rest (b - d.length)) (b == 0) (nat_lt d.length b) refl in record { rest = r.0; split = r.1 }
  where
    own : ℕ → List Addr
    own n = cond (is_hole d) [] (addresses_from d.at n)

    part : (n m : ℕ) → n ≤ m → (t : Bool) → (out : List Addr) × (cond t [] (addresses_from d.at m) ++ addresses size rest ≡ (cond t [] (addresses_from d.at n) ++ []) ++ out)
    part n m l true = (addresses size rest, refl)
    part n m l false =
        let r = front_from d.at.part n m d.at.block l in (
          r.0 ++ addresses size rest,
          ap (λ z. z ++ addresses size rest) r.1 ∙ append_assoc (addresses_from d.at n) r.0 (addresses size rest)
              ∙ sym (ap (λ z. z ++ (r.0 ++ addresses size rest)) (append-nil (addresses_from d.at n))),
        )

    both : LeftOut size (b - d.length) rest → (t u : Bool) → nat_lt d.length b ≡ u
        → (out : List Addr)
        × (addresses size (Blocks d ∷ rest) ≡ addresses size (cond t [] (cond u (Blocks d ∷ cut_pieces (b - d.length) rest) (Blocks (record d { length = b }) ∷ []))) ++ out)
    both on true u e = (addresses size (Blocks d ∷ rest), refl)
    both on false true e = (
      on.rest,
      ap (λ z. cond (is_hole d) [] (addresses_from d.at (blocks_for size d.length)) ++ z) on.split
          ∙ sym (append_assoc (cond (is_hole d) [] (addresses_from d.at (blocks_for size d.length))) (addresses size (cut_pieces (b - d.length) rest)) on.rest),
    )
    both on false false e = part (blocks_for size b) (blocks_for size d.length) (fewer_blocks size b d.length some (above d.length b e)) (is_hole d)

pub cut_distinct : (size : ℕ) → 0 < size → (ps : List Piece) (b : ℕ) → Distinct (addresses size ps) → Distinct (addresses size (cut_pieces b ps))
cut_distinct size some ps b d =
    let o = left_out size some ps b in distinct_left (addresses size (cut_pieces b ps)) o.rest (subst (λ (z : List Addr). Distinct z) o.split d)

pub cut_member : (size : ℕ) → 0 < size → (ps : List Piece) (b : ℕ) (x : Addr) → Member x (addresses size (cut_pieces b ps)) → Member x (addresses size ps)
cut_member size some ps b x m =
    let o = left_out size some ps b in subst (λ (z : List Addr). Member x z) (sym o.split) (member_left (addresses size (cut_pieces b ps)) o.rest x m)

-- ---- allocation extents and blocks
-- the addresses of the blocks of descriptors
abbrev pub run_sites : ℕ → List Descriptor → List Addr
run_sites size [] = []
run_sites size (d ∷ ds) = addresses_from d.at (blocks_for size d.length) ++ run_sites size ds

pub among_extents : (ps : List Piece) (x : Addr) → Member x (extents_of ps) → IsAmong x ps
unfolding extents_of
among_extents [] x m = m
among_extents (Extent y ∷ rest) x (inl e) = inl (sym e)
among_extents (Extent y ∷ rest) x (inr m) = inr (among_extents rest x m)
among_extents (Blocks d ∷ rest) x m = among_extents rest x m

pub extents_among : (ps : List Piece) (x : Addr) → IsAmong x ps → Member x (extents_of ps)
unfolding extents_of
extents_among [] x m = m
extents_among (Extent y ∷ rest) x (inl e) = inl (sym e)
extents_among (Extent y ∷ rest) x (inr m) = inr (extents_among rest x m)
extents_among (Blocks d ∷ rest) x m = extents_among rest x m

module _ (size : ℕ) where
  pub extent_site : (ps : List Piece) (x : Addr) → Member x (extents_of ps) → Member x (addresses size ps)
  unfolding extents_of
  extent_site [] x m = m
  extent_site (Extent y ∷ rest) x (inl e) = inl e
  extent_site (Extent y ∷ rest) x (inr m) = inr (extent_site rest x m)
  extent_site (Blocks d ∷ rest) x m = member_right (cond (is_hole d) [] (addresses_from d.at (blocks_for size d.length))) (addresses size rest) x (extent_site rest x m)

  not_hole : (d : Descriptor) → d.kind ≡ 0 → is_hole d ≡ false
  not_hole d e = ap (λ (k : ℕ). k == 2) e

  own_blocks : (d : Descriptor) → d.kind ≡ 0 → cond (is_hole d) [] (addresses_from d.at (blocks_for size d.length)) ≡ addresses_from d.at (blocks_for size d.length)
  own_blocks d e = ap (λ t. cond t [] (addresses_from d.at (blocks_for size d.length))) (not_hole d e)

  pub run_site : (ps : List Piece) → AllRecorded ps → (x : Addr) → Member x (run_sites size (runs_of ps)) → Member x (addresses size ps)
  unfolding runs_of
  run_site [] h x m = m
  run_site (Extent y ∷ rest) h x m = inr (run_site rest h x m)
  run_site (Blocks d ∷ rest) h x m =
      subst (λ (z : List Addr). Member x (z ++ addresses size rest)) (sym (own_blocks d h.0)) (go (λ i. run_site rest h.1 x i) (member_append (addresses_from d.at (blocks_for size d.length)) (run_sites size (runs_of rest)) x m))
    where
      go : (Member x (run_sites size (runs_of rest)) → Member x (addresses size rest)) → Member x (addresses_from d.at (blocks_for size d.length)) ⊎ Member x (run_sites size (runs_of rest)) → Member x (addresses_from d.at (blocks_for size d.length) ++ addresses size rest)
      go on (inl i) = member_left (addresses_from d.at (blocks_for size d.length)) (addresses size rest) x i
      go on (inr i) = member_right (addresses_from d.at (blocks_for size d.length)) (addresses size rest) x (on i)

  pub extents_distinct : (ps : List Piece) → Distinct (addresses size ps) → Distinct (extents_of ps)
  unfolding extents_of
  extents_distinct [] d = tt
  extents_distinct (Extent y ∷ rest) d = (λ m. d.0 (extent_site rest y m), extents_distinct rest d.1)
  extents_distinct (Blocks e ∷ rest) d = extents_distinct rest (distinct_right (cond (is_hole e) [] (addresses_from e.at (blocks_for size e.length))) (addresses size rest) d)

  pub runs_distinct : (ps : List Piece) → AllRecorded ps → Distinct (addresses size ps) → Distinct (run_sites size (runs_of ps))
  unfolding runs_of
  runs_distinct [] h d = tt
  runs_distinct (Extent y ∷ rest) h d = runs_distinct rest h d.1
  runs_distinct (Blocks e ∷ rest) h d =
      let k = subst (λ (z : List Addr). Distinct (z ++ addresses size rest)) (own_blocks e h.0) d in
      let own = addresses_from e.at (blocks_for size e.length) in
      distinct_join own (run_sites size (runs_of rest)) (distinct_left own (addresses size rest) k)
      (runs_distinct rest h.1 (distinct_right own (addresses size rest) k))
      (λ x m n. distinct_apart own (addresses size rest) k x m (run_site rest h.1 x n))

  pub kinds_apart : (ps : List Piece) → AllRecorded ps → Distinct (addresses size ps) → (x : Addr) → Member x (extents_of ps) → Member x (run_sites size (runs_of ps)) → ⊥
  unfolding extents_of runs_of
  kinds_apart [] h d x m n = m
  kinds_apart (Extent y ∷ rest) h d x (inl e) n = d.0 (run_site rest h y (subst (λ (z : Addr). Member z (run_sites size (runs_of rest))) e n))
  kinds_apart (Extent y ∷ rest) h d x (inr m) n = kinds_apart rest h d.1 x m n
  kinds_apart (Blocks e ∷ rest) h d x m n =
      let k = subst (λ (z : List Addr). Distinct (z ++ addresses size rest)) (own_blocks e h.0) d in
      go (member_append (addresses_from e.at (blocks_for size e.length)) (run_sites size (runs_of rest)) x n) k
      (λ i. kinds_apart rest h.1 (distinct_right (addresses_from e.at (blocks_for size e.length)) (addresses size rest) k) x m i)
    where
      go : Member x (addresses_from e.at (blocks_for size e.length)) ⊎ Member x (run_sites size (runs_of rest)) → Distinct (addresses_from e.at (blocks_for size e.length) ++ addresses size rest)
          → (Member x (run_sites size (runs_of rest)) → ⊥) → ⊥
      go (inl i) k on = distinct_apart (addresses_from e.at (blocks_for size e.length)) (addresses size rest) k x i (extent_site rest x m)
      go (inr i) k on = on i

-- the addresses of a list without those of its allocation extents
abbrev pub data_sites : ℕ → List Piece → List Addr
data_sites size [] = []
data_sites size (Extent x ∷ rest) = data_sites size rest
data_sites size (Blocks d ∷ rest) = cond (is_hole d) [] (addresses_from d.at (blocks_for size d.length)) ++ data_sites size rest

pub data_site : (size : ℕ) (ps : List Piece) (x : Addr) → Member x (data_sites size ps) → Member x (addresses size ps)
data_site size [] x m = m
data_site size (Extent y ∷ rest) x m = inr (data_site size rest x m)
data_site size (Blocks d ∷ rest) x m = go (λ k. data_site size rest x k) (member_append (cond (is_hole d) [] (addresses_from d.at (blocks_for size d.length))) (data_sites size rest) x m)
  where
    own : List Addr
    own = cond (is_hole d) [] (addresses_from d.at (blocks_for size d.length))

    go : (Member x (data_sites size rest) → Member x (addresses size rest)) → Member x own ⊎ Member x (data_sites size rest) → Member x (own ++ addresses size rest)
    go on (inl i) = member_left own (addresses size rest) x i
    go on (inr i) = member_right own (addresses size rest) x (on i)

pub data_apart : (size : ℕ) (ps : List Piece) → Distinct (addresses size ps) → (x : Addr) → Member x (extents_of ps) → Member x (data_sites size ps) → ⊥
unfolding extents_of
data_apart size [] d x m n = m
data_apart size (Extent y ∷ rest) d x (inl e) n = d.0 (data_site size rest y (subst (λ (z : Addr). Member z (data_sites size rest)) e n))
data_apart size (Extent y ∷ rest) d x (inr m) n = data_apart size rest d.1 x m n
data_apart size (Blocks e ∷ rest) d x m n =
    go (λ k. data_apart size rest (distinct_right own (addresses size rest) d) x m k) (member_append own (data_sites size rest) x n)
  where
    own : List Addr
    own = cond (is_hole e) [] (addresses_from e.at (blocks_for size e.length))

    go : (Member x (data_sites size rest) → ⊥) → Member x own ⊎ Member x (data_sites size rest) → ⊥
    go on (inl i) = distinct_apart own (addresses size rest) d x i (extent_site size rest x m)
    go on (inr i) = on i

-- the blocks over which a content is spread are those of the descriptors
sites_from : (v : Volume) (part n block : ℕ) (bytes : List ℕ) → sites (spread_from v part block n bytes) ≡ map (λ b. addr part b) (range_with_len block n)
unfolding spread_from
sites_from v part zero block bytes = refl
sites_from v part (suc n) block bytes = ap (λ z. addr part block ∷ z) (sites_from v part n (block + 1) _)

pub sites_joined : (xs ys : List Sited) → sites (xs ++ ys) ≡ sites xs ++ sites ys
sites_joined [] ys = refl
sites_joined (x ∷ xs) ys = ap (λ z. x.0 ∷ z) (sites_joined xs ys)

pub sites_spread : (v : Volume) (ds : List Descriptor) (content : List ℕ) → sites (spread v ds content) ≡ run_sites v.size ds
unfolding spread
sites_spread v [] content = refl
sites_spread v (d ∷ ds) content =
    let own = spread_from v d.at.part d.at.block (blocks_for v.size d.length) (take d.length content) in
    let rest = spread v ds (drop d.length content) in
    sites_joined own rest
    ∙ ap (λ z. z ++ sites rest) (sites_from v d.at.part (blocks_for v.size d.length) d.at.block (take d.length content))
    ∙ ap (λ z. addresses_from d.at (blocks_for v.size d.length) ++ z) (sites_spread v ds (drop d.length content))
