-- The bytes of lists: of blocks that stay, and the first of them after a cut.
use Rattle.std.proofs.Common.{◌≡◌, ℕ, zero, suc, ◌+◌, ◌-◌, ◌*◌, ◌<◌, ◌≤◌, nat_lt, Bool, true, false, cond, List, [], ◌∷◌, ◌++◌, length, take, replicate, refl, sym, ap, ◌∙◌, subst, inl, inr, arith, length-append, append_assoc, append-nil}
use Rattle.std.specs.Prelude.{◌==◌}
use Rattle.std.proofs.lemmas.Bool.Decides.{nat_tests}
use Rattle.std.proofs.lemmas.List.{length-replicate, length-take-le, take-append-le, take-replicate, take-take, take_all}
use Rattle.udf_field.specs.declared.address.Addr.{Addr}
use Rattle.udf_file_model.specs.Address.{addr}
use Rattle.udf_file_model.specs.Content.{block_at, blocks_from, run_bytes, runs_bytes}
use Rattle.udf_file_model.specs.Cut.{cut_pieces}
use Rattle.udf_file_model.specs.Descriptors.{Descriptor}
use Rattle.udf_file_model.specs.Front.{blocks_for, is_hole}
use Rattle.udf_file_model.specs.Listing.{Volume, addresses_from, with_disk}
use Rattle.udf_file_model.specs.Pieces.{Piece, Extent, Blocks, runs_of, size_of}
use Rattle.udf_tree_model.specs.Among.{Member}
use Rattle.udf_tree_model.proofs.Members.{member_left, member_right}
use Rattle.udf_tree_model.proofs.Stating.{blocks_reach}
use Rattle.udf_file_mends.proofs.Filled.{front_more}
use Rattle.udf_file_mends.proofs.Sites.{data_sites, fewer_blocks}

number_is : (m n : ℕ) → (m == n) ≡ true → m ≡ n
number_is m n t = grind (arith, nat_tests)

below : (m n : ℕ) → nat_lt m n ≡ true → m < n
below m n t = grind (arith, nat_tests)

above : (m n : ℕ) → nat_lt m n ≡ false → n ≤ m
above m n t = grind (arith, nat_tests)

-- recorded blocks are no hole
not_hole : (d : Descriptor) → (d.kind == 0) ≡ true → is_hole d ≡ false
not_hole d h = ap (λ (k : ℕ). k == 2) (number_is d.kind 0 h)

none_taken : (b : ℕ) (xs : List ℕ) → b ≡ 0 → take b xs ≡ []
none_taken b xs e = ap (λ n. take n xs) e

module _ (v : Volume) (disk : ℕ → List ℕ) (some : 0 < v.size) where
  abbrev pub w : Volume
  w = with_disk v disk

  -- the other disk has the same blocks at these addresses
  abbrev pub Same : List Addr → Type 0
  Same xs = (x : Addr) → Member x xs → block_at w x ≡ block_at v x

  -- whole blocks stand there
  abbrev pub Whole : List Addr → Type 0
  Whole xs = (x : Addr) → Member x xs → length (block_at v x) ≡ v.size

  blocks_same : (part n block : ℕ) → Same (addresses_from (addr part block) n) → blocks_from w part block n ≡ blocks_from v part block n
  unfolding blocks_from
  blocks_same part zero block h = refl
  blocks_same part (suc n) block h =
      ap (λ b. b ++ blocks_from w part (block + 1) n) (h (addr part block) (inl refl))
      ∙ ap (λ b. block_at v (addr part block) ++ b) (blocks_same part n (block + 1) (λ x m. h x (inr m)))

  blocks_long : (part n block : ℕ) → Whole (addresses_from (addr part block) n) → length (blocks_from v part block n) ≡ n * v.size
  unfolding blocks_from
  blocks_long part zero block h = omega arith
  blocks_long part (suc n) block h =
      let r = blocks_long part n (block + 1) (λ x m. h x (inr m)) in
      omega (arith, r, h (addr part block) (inl refl), length-append (block_at v (addr part block)) (blocks_from v part (block + 1) n))

  -- fewer blocks are a front
  blocks_front : (part n m block : ℕ) → n ≤ m → (rest : List ℕ) × (blocks_from v part block m ≡ blocks_from v part block n ++ rest)
  unfolding blocks_from
  blocks_front part zero m block l = (blocks_from v part block m, refl)
  blocks_front part (suc n) zero block l = absurd (omega (arith, l))
  blocks_front part (suc n) (suc m) block l =
      let r = blocks_front part n m (block + 1) (omega (arith, l)) in
      (r.0, ap (λ z. block_at v (addr part block) ++ z) r.1 ∙ sym (append_assoc (block_at v (addr part block)) (blocks_from v part (block + 1) n) r.0))

  shorter_sites : (part n m block : ℕ) → n ≤ m → (x : Addr) → Member x (addresses_from (addr part block) n) → Member x (addresses_from (addr part block) m)
  shorter_sites part zero m block l x i = absurd i
  shorter_sites part (suc n) zero block l x i = absurd (omega (arith, l))
  shorter_sites part (suc n) (suc m) block l x (inl e) = inl e
  shorter_sites part (suc n) (suc m) block l x (inr i) = inr (shorter_sites part n m (block + 1) (omega (arith, l)) x i)

  -- the addresses of a descriptor
  abbrev own : Descriptor → ℕ → List Addr
  own d n = cond (is_hole d) [] (addresses_from d.at n)

  own_there : (d : Descriptor) (n : ℕ) → (d.kind == 0) ≡ true → own d n ≡ addresses_from d.at n
  own_there d n h = ap (λ t. cond t [] (addresses_from d.at n)) (not_hole d h)

  run_same : (d : Descriptor) → Same (own d (blocks_for v.size d.length)) → run_bytes w d ≡ run_bytes v d
  unfolding run_bytes
  run_same d h = by (d.kind == 0) refl
    where
      by : (b : Bool) → (d.kind == 0) ≡ b
          → cond b (take d.length (blocks_from w d.at.part d.at.block (blocks_for v.size d.length))) (replicate d.length 0)
          ≡ cond b (take d.length (blocks_from v d.at.part d.at.block (blocks_for v.size d.length))) (replicate d.length 0)
      by true e =
          let S : List Addr → Type 0 = λ z. Same z in
          ap (take d.length) (blocks_same d.at.part (blocks_for v.size d.length) d.at.block (subst S (own_there d (blocks_for v.size d.length) e) h))
      by false e = refl

  run_long : (d : Descriptor) → Whole (own d (blocks_for v.size d.length)) → length (run_bytes v d) ≡ d.length
  unfolding run_bytes
  run_long d h = by (d.kind == 0) refl
    where
      by : (b : Bool) → (d.kind == 0) ≡ b → length (cond b (take d.length (blocks_from v d.at.part d.at.block (blocks_for v.size d.length))) (replicate d.length 0)) ≡ d.length
      by true e =
          let S : List Addr → Type 0 = λ z. Whole z in
          let l = blocks_long d.at.part (blocks_for v.size d.length) d.at.block (subst S (own_there d (blocks_for v.size d.length) e) h) in
          length-take-le d.length (blocks_from v d.at.part d.at.block (blocks_for v.size d.length)) (omega (arith, l, blocks_reach v.size d.length some))
      by false e = length-replicate d.length 0

  -- the first bytes of a descriptor
  run_front : (d : Descriptor) (b : ℕ) → b ≤ d.length → Whole (own d (blocks_for v.size d.length)) → run_bytes v (record d { length = b }) ≡ take b (run_bytes v d)
  unfolding run_bytes
  run_front d b l h = by (d.kind == 0) refl
    where
      by : (t : Bool) → (d.kind == 0) ≡ t
          → cond t (take b (blocks_from v d.at.part d.at.block (blocks_for v.size b))) (replicate b 0)
          ≡ take b (cond t (take d.length (blocks_from v d.at.part d.at.block (blocks_for v.size d.length))) (replicate d.length 0))
      by true e =
          let fewer = fewer_blocks v.size b d.length some l in
          let S : List Addr → Type 0 = λ z. Whole z in
          let all = subst S (own_there d (blocks_for v.size d.length) e) h in
          let r = blocks_front d.at.part (blocks_for v.size b) (blocks_for v.size d.length) d.at.block fewer in
          let long = blocks_long d.at.part (blocks_for v.size b) d.at.block (λ x i. all x (shorter_sites d.at.part (blocks_for v.size b) (blocks_for v.size d.length) d.at.block fewer x i)) in
          sym (
          take-take b d.length (blocks_from v d.at.part d.at.block (blocks_for v.size d.length)) l
          ∙ ap (take b) r.1
          ∙ take-append-le b (blocks_from v d.at.part d.at.block (blocks_for v.size b)) r.0 (omega (arith, long, blocks_reach v.size b some))
          )
      by false e = sym (take-replicate b d.length 0 l)

  pub runs_same : (ps : List Piece) → Same (data_sites v.size ps) → runs_bytes w (runs_of ps) ≡ runs_bytes v (runs_of ps)
  unfolding runs_of runs_bytes
  runs_same [] h = refl
  runs_same (Extent y ∷ rest) h = runs_same rest h
  runs_same (Blocks d ∷ rest) h =
      ap (λ z. z ++ runs_bytes w (runs_of rest)) (run_same d (λ x m. h x (member_left (own d (blocks_for v.size d.length)) (data_sites v.size rest) x m)))
      ∙ ap (λ z. run_bytes v d ++ z) (runs_same rest (λ x m. h x (member_right (own d (blocks_for v.size d.length)) (data_sites v.size rest) x m)))

  -- a cut list has the first bytes
  pub cut_bytes : (ps : List Piece) (b : ℕ) → b ≤ size_of ps → Whole (data_sites v.size ps) → runs_bytes v (runs_of (cut_pieces b ps)) ≡ take b (runs_bytes v (runs_of ps))
  unfolding cut_pieces runs_of runs_bytes
  cut_bytes [] b l h = sym (take_all b [] (omega arith))
  cut_bytes (Extent y ∷ rest) b l h = by (b == 0) refl (cut_bytes rest b l h)
    where
      by : (t : Bool) → (b == 0) ≡ t → runs_bytes v (runs_of (cut_pieces b rest)) ≡ take b (runs_bytes v (runs_of rest))
          → runs_bytes v (runs_of (cond t [] (Extent y ∷ cut_pieces b rest))) ≡ take b (runs_bytes v (runs_of rest))
      by true e on = sym (none_taken b (runs_bytes v (runs_of rest)) (number_is b 0 e))
      by false e on = on
  cut_bytes (Blocks d ∷ rest) b l h =
      by (b == 0) refl (nat_lt d.length b) refl (λ k. cut_bytes rest (b - d.length) k (λ x m. h x (member_right (own d (blocks_for v.size d.length)) (data_sites v.size rest) x m)))
    where
      here : Whole (own d (blocks_for v.size d.length))
      here x m = h x (member_left (own d (blocks_for v.size d.length)) (data_sites v.size rest) x m)

      long : length (run_bytes v d) ≡ d.length
      long = run_long d here

      by : (t : Bool) → (b == 0) ≡ t → (u : Bool) → nat_lt d.length b ≡ u
          → (b - d.length ≤ size_of rest → runs_bytes v (runs_of (cut_pieces (b - d.length) rest)) ≡ take (b - d.length) (runs_bytes v (runs_of rest)))
          → runs_bytes v (runs_of (cond t [] (cond u (Blocks d ∷ cut_pieces (b - d.length) rest) (Blocks (record d { length = b }) ∷ []))))
          ≡ take b (run_bytes v d ++ runs_bytes v (runs_of rest))
      by true e u q on = sym (none_taken b (run_bytes v d ++ runs_bytes v (runs_of rest)) (number_is b 0 e))
      by false e true q on =
          let more = below d.length b q in
          let r = on (omega (arith, l)) in
          sym (
          front_more b (run_bytes v d) (runs_bytes v (runs_of (cut_pieces (b - d.length) rest))) (runs_bytes v (runs_of rest)) (omega (arith, long, more))
          (ap (λ n. take (b - n) (runs_bytes v (runs_of rest))) long ∙ sym r)
          )
      by false e false q on =
          let less = above d.length b q in
          append-nil (run_bytes v (record d { length = b })) ∙ run_front d b less here
          ∙ sym (take-append-le b (run_bytes v d) (runs_bytes v (runs_of rest)) (omega (arith, long, less)))
