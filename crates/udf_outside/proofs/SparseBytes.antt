-- Bytes of a front and of blocks behind it, read and put by parts.
use Rattle.std.proofs.Common.{◌≡◌, ◌⊎◌, inl, inr, ⊎_elim, ◌<◌, ◌≤◌, ℕ, zero, suc, ◌+◌, ◌-◌, min, max, Bool, true, cond, List, [], ◌++◌, length, get_or, drop, map, replicate, refl, sym, ◌∙◌, ap, arith, length-append, length-drop, length-take-le}
use mathlib.Core.Path.{fun_ext}
use Rattle.std.specs.List.{range_with_len}
use Rattle.std.specs.BTreeMap.{BTreeMap}
use Rattle.std.proofs.lemmas.List.{append-nil, same_lists, replicate-append-replicate, ext_get_or, places, length-replicate, get_or-replicate, get_or_past, get_or_append_left, get_or-append_right, get_or-take, get_or-drop}
use Rattle.std.proofs.lemmas.List.FromFn.{length-map-range_with_len, get_or-map-range_with_len}
use Rattle.std.proofs.lemmas.Bool.{cases_lt}
use Rattle.udf_model.specs.Bytes.{IsBytes}
use Rattle.udf_outside.specs.Stops.{is_within, slice_of, put}
use Rattle.udf_outside.specs.Blocks.{byte_in, sparse_bytes}
use Rattle.udf_outside.proofs.Ending.{length_put}
use Rattle.udf_outside.proofs.Torn.{is_outside}

zero_at : (n k : ℕ) → get_or {A = ℕ} (replicate n 0) k 0 ≡ 0
zero_at zero k = refl
zero_at (suc n) zero = refl
zero_at (suc n) (suc k) = zero_at n k

pub zeros_at : (items : List ℕ) (n k : ℕ) → items ≡ replicate n 0 → get_or items k 0 ≡ 0
zeros_at items n k is = ap (λ (l : List ℕ). get_or l k 0) is ∙ zero_at n k

module _ (front : List ℕ) (len : ℕ) (blocks : BTreeMap ℕ (List ℕ)) where
  pub length_sparse : length front ≤ len → length (sparse_bytes front len blocks) ≡ len
  unfolding sparse_bytes
  length_sparse le =
      length-append front (map (λ i. byte_in blocks i) (range_with_len (length front) (len - length front)))
      ∙ ap (λ (n : ℕ). length front + n) (length-map-range_with_len (λ i. byte_in blocks i) (length front) (len - length front)) ∙ omega arith

  pub at_front : (i : ℕ) → i < length front → get_or (sparse_bytes front len blocks) i 0 ≡ get_or front i 0
  unfolding sparse_bytes
  at_front i lt = get_or_append_left front (map (λ i. byte_in blocks i) (range_with_len (length front) (len - length front))) 0 i lt

  pub at_blocks : (i : ℕ) → length front ≤ i → i < len → get_or (sparse_bytes front len blocks) i 0 ≡ byte_in blocks i
  unfolding sparse_bytes
  at_blocks i le lt =
      get_or-append_right front (map (λ i. byte_in blocks i) (range_with_len (length front) (len - length front))) (length front) i 0 refl le
      ∙ get_or-map-range_with_len (λ i. byte_in blocks i) (length front) (len - length front) (i - length front) i 0 (omega arith) (omega arith)

pub sparse_is_bytes : (front : List ℕ) (len : ℕ) (blocks : BTreeMap ℕ (List ℕ)) → length front ≤ len → IsBytes front → ((i : ℕ) → byte_in blocks i < 256) → IsBytes (sparse_bytes front len blocks)
sparse_is_bytes front len blocks le bytes kept i = ⊎_elim
    (λ (in_front : i < length front). let there = at_front front len blocks i in_front in let small = bytes i in omega (arith, there))
    (λ (behind : length front ≤ i). ⊎_elim
    (λ (inside : i < len). let there = at_blocks front len blocks i behind inside in let small = kept i in omega (arith, there))
    (λ (past : len ≤ i). let none = get_or_past (sparse_bytes front len blocks) i 0 (omega (arith, length_sparse front len blocks le)) in omega (arith, none))
    (cases_lt i len))
    (cases_lt i (length front))

pub sparse_same : (front : List ℕ) (len : ℕ) (old new : BTreeMap ℕ (List ℕ)) → ((i : ℕ) → byte_in new i ≡ byte_in old i) → sparse_bytes front len new ≡ sparse_bytes front len old
unfolding sparse_bytes
sparse_same front len old new same = ap (λ (f : ℕ → ℕ). front ++ map f (range_with_len (length front) (len - length front))) (fun_ext same)

pub sparse_front : (front : List ℕ) (blocks : BTreeMap ℕ (List ℕ)) (len : ℕ) → len ≡ length front → sparse_bytes front len blocks ≡ front
unfolding sparse_bytes
sparse_front front blocks len is =
    let none : len - length front ≡ 0 = omega arith in
    ap (λ (n : ℕ). front ++ map (λ i. byte_in blocks i) (range_with_len (length front) n)) none ∙ append-nil front

pub sparse_zeros : (blocks : BTreeMap ℕ (List ℕ)) (n : ℕ) → ((i : ℕ) → byte_in blocks i ≡ 0) → sparse_bytes [] n blocks ≡ replicate n 0
sparse_zeros blocks n none =
    ext_get_or 0 (sparse_bytes [] n blocks) (replicate n 0) (length_sparse [] n blocks (omega arith) ∙ sym (length-replicate n 0))
    (λ i lt. let lt' : i < n = omega (arith, length_sparse [] n blocks (omega arith)) in at_blocks [] n blocks i (omega arith) lt' ∙ none i ∙ sym (get_or-replicate n i 0 0 lt'))

-- a read of a part: first of the front, then of the blocks
pub sparse_slice : (front : List ℕ) (len : ℕ) (blocks : BTreeMap ℕ (List ℕ)) (at n m : ℕ) (into : List ℕ) → length front ≤ len → at + n ≤ len → length into ≡ n → m ≡ min n (length front - at)
    → ((k : ℕ) → k < m → get_or into k 0 ≡ get_or front (at + k) 0) → ((k : ℕ) → m ≤ k → k < n → get_or into k 0 ≡ byte_in blocks (at + k))
    → into ≡ slice_of (sparse_bytes front len blocks) at n
sparse_slice front len blocks at n m into le within size is first rest =
    let whole = sparse_bytes front len blocks in
    let long : length whole ≡ len = length_sparse front len blocks le in
    let enough : n ≤ length (drop at whole) = omega (arith, length-drop at whole) in
    ext_get_or 0 into (slice_of whole at n) (size ∙ sym (length-take-le n (drop at whole) enough)) (λ k lt.
    let lt' : k < n = omega arith in
    let there : get_or (slice_of whole at n) k 0 ≡ get_or whole (at + k) 0 = get_or-take n (drop at whole) k 0 lt' ∙ get_or-drop at whole k 0 in
    ⊎_elim (λ (below : k < m). first k below ∙ sym (at_front front len blocks (at + k) (omega arith)) ∙ sym there)
    (λ (above : m ≤ k). rest k above lt' ∙ sym (at_blocks front len blocks (at + k) (omega arith) (omega arith)) ∙ sym there)
    (cases_lt k m))

put_below : (old from : List ℕ) (at i : ℕ) → at ≤ length old → i < at → get_or (put old at from) i 0 ≡ get_or old i 0
put_below old from at i le lt = grind (arith, places)

put_in : (old from : List ℕ) (at i : ℕ) → at ≤ length old → at ≤ i → i < at + length from → get_or (put old at from) i 0 ≡ get_or from (i - at) 0
put_in old from at i le from_at lt = grind (arith, places)

put_above : (old from : List ℕ) (at i : ℕ) → at ≤ length old → at + length from ≤ i → get_or (put old at from) i 0 ≡ get_or old i 0
put_above old from at i le ge = grind (arith, places)

-- a write of a part: first to the front, then to the blocks
pub sparse_put : (front front' : List ℕ) (len len' : ℕ) (blocks blocks' : BTreeMap ℕ (List ℕ)) (at m : ℕ) (from : List ℕ) → length front ≤ len → at ≤ len → m ≡ min (length from) (length front - at)
    → length front' ≡ length front → len' ≡ max len (at + length from)
    → ((i : ℕ) → (i < at) ⊎ (at + m ≤ i) → get_or front' i 0 ≡ get_or front i 0) → ((i : ℕ) → at ≤ i → i < at + m → get_or front' i 0 ≡ get_or from (i - at) 0)
    → ((i : ℕ) → (i < at + m) ⊎ (at + length from ≤ i) → byte_in blocks' i ≡ byte_in blocks i) → ((i : ℕ) → at + m ≤ i → i < at + length from → byte_in blocks' i ≡ get_or from (i - at) 0)
    → sparse_bytes front' len' blocks' ≡ put (sparse_bytes front len blocks) at from
sparse_put front front' len len' blocks blocks' at m from le within is size grown front_same front_new blocks_same blocks_new =
    let old = sparse_bytes front len blocks in
    let new = sparse_bytes front' len' blocks' in
    let long : length old ≡ len = length_sparse front len blocks le in
    let long' : length new ≡ len' = length_sparse front' len' blocks' (omega arith) in
    let at_old : at ≤ length old = omega arith in
    let both : length new ≡ length (put old at from) = omega (arith, length_put old from at at_old) in
    let old_same : (i : ℕ) → i < len' → i < len → (i < at) ⊎ (at + length from ≤ i) → get_or new i 0 ≡ get_or old i 0 = λ i lt' lt out.
    ⊎_elim (λ (in_front : i < length front). at_front front' len' blocks' i (omega arith) ∙ front_same i (⊎_elim (λ below. inl below) (λ above. inr (omega arith)) out) ∙ sym (at_front front len blocks i in_front))
    (λ (behind : length front ≤ i). at_blocks front' len' blocks' i (omega arith) lt' ∙ blocks_same i (⊎_elim (λ below. inl (omega arith)) (λ above. inr above) out) ∙ sym (at_blocks front len blocks i behind lt))
    (cases_lt i (length front)) in
    ext_get_or 0 new (put old at from) both (λ i lt_new.
    let lt : i < len' = omega arith in
    ⊎_elim (λ (below : i < at). old_same i lt (omega arith) (inl below) ∙ sym (put_below old from at i at_old below))
    (λ (reached : at ≤ i). ⊎_elim
    (λ (inside : i < at + length from). ⊎_elim
    (λ (in_front : i < length front). at_front front' len' blocks' i (omega arith) ∙ front_new i reached (omega arith) ∙ sym (put_in old from at i at_old reached inside))
    (λ (behind : length front ≤ i). at_blocks front' len' blocks' i (omega arith) lt ∙ blocks_new i (omega arith) inside ∙ sym (put_in old from at i at_old reached inside))
    (cases_lt i (length front)))
    (λ (past : at + length from ≤ i). old_same i lt (omega arith) (inr past) ∙ sym (put_above old from at i at_old past))
    (cases_lt i (at + length from)))
    (cases_lt i at))

-- what is put in a range stands there, and elsewhere what stood before
pub picks_old : (at n i x y : ℕ) → (i < at) ⊎ (at + n ≤ i) → cond (is_within at n i) x y ≡ y
picks_old at n i x y out = ap (λ (b : Bool). cond b x y) (is_outside at n i out)

pub picks_new : (at n i x y : ℕ) → at ≤ i → i < at + n → cond (is_within at n i) x y ≡ x
picks_new at n i x y le lt = let inside : is_within at n i ≡ true = grind arith in ap (λ (b : Bool). cond b x y) inside

put_put : (old xs ys : List ℕ) (at place : ℕ) → place ≡ at + length xs → place ≤ length old → put (put old at xs) place ys ≡ put old at (xs ++ ys)
put_put old xs ys at place is le = same_lists _ _ (grind (arith, places)) (λ k d h. grind (arith, places))

-- one more chunk of a fill
pub fill_more : (old : List ℕ) (at place n byte : ℕ) → at ≤ place → place ≤ length old → put (put old at (replicate (place - at) byte)) place (replicate n byte) ≡ put old at (replicate (place + n - at) byte)
fill_more old at place n byte begun within =
    let sum : place - at + n ≡ place + n - at = omega arith in
    put_put old (replicate (place - at) byte) (replicate n byte) at place (omega (arith, length-replicate (place - at) byte)) within
    ∙ ap (λ (l : List ℕ). put old at l) (replicate-append-replicate (place - at) n byte ∙ ap (λ (m : ℕ). replicate m byte) sum)
