-- The bytes before the first item that fails, piece by piece.
use Rattle.std.proofs.Common.{◌≡◌, ◌⊎◌, ℕ, zero, suc, ◌+◌, ◌-◌, ◌*◌, ◌<◌, ◌≤◌, List, [], ◌∷◌, ◌++◌, map, Bool, true, false, cond, ◌&&◌, refl, sym, ap, ◌∙◌, inl, inr, arith}
use Rattle.std.specs.Prelude.{min, ◌==◌}
use Rattle.std.specs.List.{list_all, range_with_len}
use Rattle.std.proofs.lemmas.Bool.{cases_lt, and_parts, false≢true}
use Rattle.std.proofs.lemmas.Bool.Decides.{nat_tests}
use Rattle.udf_field.specs.declared.address.Addr.{Addr}
use Rattle.udf_file_model.specs.Descriptors.{Descriptor}
use Rattle.udf_file_model.specs.Front.{is_hole, blocks_for}
use Rattle.udf_tree_model.specs.Among.{Member}
use Rattle.udf_tree_model.specs.Node.{Item, bytes_of}
use Rattle.udf_tree_model.specs.Won.{bytes_before}
use Rattle.udf_tree_model.specs.Frame.{block_item, empty_item, run_items}

-- ---- lists of items
module _ (p : Item → Bool) where
  pub all_before : (is js : List Item) → list_all p is ≡ true → bytes_before p (is ++ js) ≡ bytes_before p is + bytes_before p js
  unfolding bytes_before
  all_before [] js h = omega arith
  all_before (i ∷ is) js h =
      let b = and_parts (p i) (list_all p is) h in
      let r = all_before is js b.1 in
      ap (λ (c : Bool). cond c (i.bytes + bytes_before p (is ++ js)) 0) b.0
      ∙ omega (arith, r)
      ∙ ap (λ (c : Bool). cond c (i.bytes + bytes_before p is) 0 + bytes_before p js) (sym b.0)

  pub some_before : (is js : List Item) → list_all p is ≡ false → bytes_before p (is ++ js) ≡ bytes_before p is
  unfolding bytes_before
  some_before [] js h = absurd (false≢true (sym h))
  some_before (i ∷ is) js h = by_first (p i) (some_before is js) h
    where
      by_first : (b : Bool) → (list_all p is ≡ false → bytes_before p (is ++ js) ≡ bytes_before p is) → (b && list_all p is) ≡ false
          → cond b (i.bytes + bytes_before p (is ++ js)) 0 ≡ cond b (i.bytes + bytes_before p is) 0
      by_first true r k = ap (λ (n : ℕ). i.bytes + n) (r k)
      by_first false r k = refl

  pub before_within : (is : List Item) → bytes_before p is ≤ bytes_of is
  unfolding bytes_before
  before_within [] = omega arith
  before_within (i ∷ is) = by_first (p i) (before_within is)
    where
      by_first : (b : Bool) → bytes_before p is ≤ bytes_of is → cond b (i.bytes + bytes_before p is) 0 ≤ i.bytes + bytes_of is
      by_first true r = omega (arith, r)
      by_first false r = omega arith

-- tests that agree on a list
pub same_before : (p q : Item → Bool) (is : List Item) → ((i : Item) → Member i is → p i ≡ q i) → bytes_before p is ≡ bytes_before q is
unfolding bytes_before
same_before p q [] h = refl
same_before p q (i ∷ is) h =
    ap (λ (b : Bool). cond b (i.bytes + bytes_before p is) 0) (h i (inl refl))
    ∙ ap (λ (n : ℕ). cond (q i) (i.bytes + n) 0) (same_before p q is (λ x m. h x (inr m)))

pub same_all : (p q : Item → Bool) (is : List Item) → ((i : Item) → Member i is → p i ≡ q i) → list_all p is ≡ list_all q is
same_all p q [] h = refl
same_all p q (i ∷ is) h = ap (λ (b : Bool). b && list_all p is) (h i (inl refl)) ∙ ap (λ (b : Bool). q i && b) (same_all p q is (λ x m. h x (inr m)))

-- ---- the blocks of a descriptor
module _ (size class : ℕ) (barred : Addr → Bool) (some : 0 < size) (p : Item → Bool) (d : Descriptor) where
  abbrev block : ℕ → Item
  block k = block_item size class barred d (d.at.block + k)

  abbrev left : ℕ → ℕ → List Item
  left k n = map (block_item size class barred d) (range_with_len (d.at.block + k) n)

  -- from block k on the blocks before block m pass, and m does not
  pub record FailsAt (k n m : ℕ) : Type 0 where
    pub low : k ≤ m
    pub high : m ≤ k + n
    pub passes : (j : ℕ) → k ≤ j → j < m → p (block j) ≡ true
    pub fails : m < k + n → p (block m) ≡ false

  next_at : (k n : ℕ) → left k (suc n) ≡ block k ∷ left (k + 1) n
  next_at k n = let e : d.at.block + k + 1 ≡ d.at.block + (k + 1) = omega arith in ap (λ (x : ℕ). block k ∷ map (block_item size class barred d) (range_with_len x n)) e

  fails_next : (k n m : ℕ) → FailsAt k (suc n) m → k < m → FailsAt (k + 1) n m
  fails_next k n m f l = record {
    low = omega (arith, l);
    high = let h = f.high in omega (arith, h);
    passes = λ j i g. f.passes j (omega (arith, i)) g;
    fails = λ g. f.fails (omega (arith, g));
  }

  products : (k m : ℕ) → k + 1 ≤ m → k * size + size ≤ m * size
  products k m l =
      let e : m ≡ k + 1 + (m - (k + 1)) = omega (arith, l) in
      let f : m * size ≡ (k + 1 + (m - (k + 1))) * size = ap (λ (x : ℕ). x * size) e in
      let g : (k + 1 + (m - (k + 1))) * size ≡ k * size + size + (m - (k + 1)) * size = omega arith in
      omega (arith, f, g)

  front_left : (n k m : ℕ) → k + n ≡ blocks_for size d.length → FailsAt k n m → bytes_before p (left k n) ≡ min (m * size) d.length - k * size
  unfolding bytes_before
  front_left zero k m e f =
      let l = f.low in
      let h = f.high in
      let same : m * size ≡ k * size = ap (λ (x : ℕ). x * size) (omega (arith, l, h)) in
      omega (arith, same)
  front_left (suc n) k m e f = ap (bytes_before p) (next_at k n) ∙ go (λ l. front_left n (k + 1) m (omega (arith, e)) (fails_next k n m f l)) (cases_lt k m)
    where
      together : (x y s t : ℕ) → s + size ≤ t → x ≡ min size (d.length - s) → y ≡ min t d.length - (s + size) → x + y ≡ min t d.length - s
      together x y s t u g h = omega (arith, u, g, h)

      go : (k < m → bytes_before p (left (k + 1) n) ≡ min (m * size) d.length - (k + 1) * size) → (k < m) ⊎ (m ≤ k) → cond (p (block k)) ((block k).bytes + bytes_before p (left (k + 1) n)) 0 ≡ min (m * size) d.length - k * size
      go ih (inl l) =
          let r : bytes_before p (left (k + 1) n) ≡ min (m * size) d.length - (k + 1) * size = ih l in
          let up : k * size + size ≤ m * size = products k m (omega (arith, l)) in
          let here : d.at.block + k - d.at.block ≡ k = omega arith in
          let first : (block k).bytes ≡ min size (d.length - k * size) = ap (λ (x : ℕ). min size (d.length - x * size)) here in
          ap (λ (b : Bool). cond b ((block k).bytes + bytes_before p (left (k + 1) n)) 0) (f.passes k (omega arith) l)
          ∙ together ((block k).bytes) (bytes_before p (left (k + 1) n)) (k * size) (m * size) up first (r ∙ ap (λ (x : ℕ). min (m * size) d.length - x) product_next)
        where
          product_next : (k + 1) * size ≡ k * size + size
          product_next = omega arith
      go ih (inr l) =
          let low = f.low in
          let same : m ≡ k = omega (arith, l, low) in
          let product : m * size ≡ k * size = ap (λ (x : ℕ). x * size) same in
          ap (λ (b : Bool). cond b ((block k).bytes + bytes_before p (left (k + 1) n)) 0) (ap (λ (x : ℕ). p (block x)) (sym same) ∙ f.fails (omega (arith, l)))
          ∙ omega (arith, product)

  all_left : (n k m : ℕ) → FailsAt k n m → list_all p (left k n) ≡ (m == k + n)
  all_left zero k m f = let l = f.low in let h = f.high in grind (arith, nat_tests)
  all_left (suc n) k m f = ap (list_all p) (next_at k n) ∙ go (λ l. all_left n (k + 1) m (fails_next k n m f l)) (cases_lt k m)
    where
      go : (k < m → list_all p (left (k + 1) n) ≡ (m == k + 1 + n)) → (k < m) ⊎ (m ≤ k) → (p (block k) && list_all p (left (k + 1) n)) ≡ (m == k + suc n)
      go ih (inl l) =
          let e : k + 1 + n ≡ k + suc n = omega arith in
          ap (λ (b : Bool). b && list_all p (left (k + 1) n)) (f.passes k (omega arith) l)
          ∙ ih l
          ∙ ap (λ (x : ℕ). m == x) e
      go ih (inr l) =
          let low = f.low in
          let same : m ≡ k = omega (arith, l, low) in
          ap (λ (b : Bool). b && list_all p (left (k + 1) n)) (ap (λ (x : ℕ). p (block x)) (sym same) ∙ f.fails (omega (arith, l)))
          ∙ other (m == k + suc n) refl
        where
          other : (b : Bool) → (m == k + suc n) ≡ b → false ≡ b
          other false g = refl
          other true g = let low = f.low in let no : m ≡ k + suc n = grind (arith, nat_tests) in absurd (omega (arith, no, l))

  module _ (m : ℕ) (other : is_hole d ≡ false) (f : FailsAt 0 (blocks_for size d.length) m) where
    run_is : run_items size class barred d ≡ left 0 (blocks_for size d.length)
    unfolding run_items
    run_is =
        let e : d.at.block ≡ d.at.block + 0 = omega arith in
        ap (λ (b : Bool). cond b (empty_item d.length ∷ []) (map (block_item size class barred d) (range_with_len d.at.block (blocks_for size d.length)))) other
        ∙ ap (λ (x : ℕ). map (block_item size class barred d) (range_with_len x (blocks_for size d.length))) e

    pub run_before : bytes_before p (run_items size class barred d) ≡ min (m * size) d.length
    run_before = ap (bytes_before p) run_is ∙ front_left (blocks_for size d.length) 0 m (omega arith) f ∙ omega arith

    pub run_all : list_all p (run_items size class barred d) ≡ (m == blocks_for size d.length)
    run_all = ap (list_all p) run_is ∙ all_left (blocks_for size d.length) 0 m f ∙ ap (λ (x : ℕ). m == x) (zero_more (blocks_for size d.length))
      where
        zero_more : (n : ℕ) → 0 + n ≡ n
        zero_more n = omega arith
