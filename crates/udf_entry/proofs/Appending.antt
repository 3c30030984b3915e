-- Contents, block by block and run by run.
use Rattle.std.proofs.Common.{◌≡◌, ℕ, zero, suc, false, cond, min, ◌+◌, ◌-◌, ◌<◌, ◌≤◌, ◌==◌, List, [], ◌∷◌, ◌++◌, append_assoc, length, take, Option, Some, None, arith, sym, ◌∙◌, ap, refl, length-append}
use Rattle.std.specs.Prelude.{replicate, Result, Ok, Err, OnOk}
use Rattle.std.proofs.lemmas.List.{append-nil, length-take, take_all}
use Rattle.udf_field.specs.declared.address.Addr.{Addr}
use Rattle.udf_file_model.specs.Address.{addr}
use Rattle.udf_file_model.specs.Descriptors.{Descriptor}
use Rattle.udf_file_model.specs.Front.{blocks_for}
use Rattle.udf_file_model.specs.Listing.{Volume}
use Rattle.udf_file_model.specs.Content.{block_by, block_at, blocks_from, run_bytes, runs_bytes}

take_nil : {A : Type 0} (n : ℕ) → take {A = A} n [] ≡ []
take_nil zero = refl
take_nil (suc n) = refl

-- a front of two lists one after another is one of the first and then one of the second
pub take_both : {A : Type 0} (w : ℕ) (xs ys : List A) → take w xs ++ take (w - length (take w xs)) ys ≡ take w (xs ++ ys)
take_both zero xs ys = refl
take_both (suc w) [] ys = ap (λ n. take n ys) (let e : suc w - 0 ≡ suc w = omega arith in e)
take_both (suc w) (x ∷ xs) ys =
    ap (λ l. x ∷ l) (ap (λ n. take w xs ++ take n ys) (let e : suc w - suc (length (take w xs)) ≡ w - length (take w xs) = omega arith in e) ∙ take_both w xs ys)

pub take_min : {A : Type 0} (w n : ℕ) (xs : List A) → take w (take n xs) ≡ take (min w n) xs
take_min zero n xs = ap (λ m. take m xs) (let e : 0 ≡ min 0 n = omega arith in e)
take_min (suc w) zero xs = ap (λ m. take m xs) (let e : 0 ≡ min (suc w) 0 = omega arith in e)
take_min (suc w) (suc n) [] = sym (take_nil (min (suc w) (suc n)))
take_min (suc w) (suc n) (x ∷ xs) = ap (λ l. x ∷ l) (take_min w n xs) ∙ ap (λ m. take m (x ∷ xs)) (let e : suc (min w n) ≡ min (suc w) (suc n) = omega arith in e)

pub take_within : {A : Type 0} (w : ℕ) (xs : List A) → take (min w (length xs)) xs ≡ take w xs
take_within zero xs = ap (λ m. take m xs) (let e : min 0 (length xs) ≡ 0 = omega arith in e)
take_within (suc w) [] = take_nil (min (suc w) 0)
take_within (suc w) (x ∷ xs) =
    ap (λ m. take m (x ∷ xs)) (let e : min (suc w) (suc (length xs)) ≡ suc (min w (length xs)) = omega arith in e) ∙ ap (λ l. x ∷ l) (take_within w xs)

-- one block more
pub blocks_more : (v : Volume) (part n block : ℕ) → blocks_from v part block (suc n) ≡ blocks_from v part block n ++ block_at v (addr part (block + n))
unfolding blocks_from
blocks_more v part zero block =
    append-nil (block_at v (addr part block)) ∙ ap (λ b. block_at v (addr part b)) (let e : block ≡ block + 0 = omega arith in e)
blocks_more v part (suc n) block =
    ap (λ l. block_at v (addr part block) ++ l) (blocks_more v part n (block + 1))
    ∙ sym (append_assoc (block_at v (addr part block)) (blocks_from v part (block + 1) n) (block_at v (addr part (block + 1 + n))))
    ∙ ap (λ b. (block_at v (addr part block) ++ blocks_from v part (block + 1) n) ++ block_at v (addr part b)) (let e : block + 1 + n ≡ block + suc n = omega arith in e)

-- a run whose later blocks are not placed ends before them
pub blocks_end : (v : Volume) (part block m n : ℕ) → m ≤ n → ((k : ℕ) → m ≤ k → v.place (addr part (block + k)) ≡ None)
    → blocks_from v part block n ≡ blocks_from v part block m
blocks_end v part block m n few off = more (n - m) (let e : m + (n - m) ≡ n = omega arith in e)
  where
    more : (d : ℕ) → m + d ≡ n → blocks_from v part block n ≡ blocks_from v part block m
    more d e = sym (ap (blocks_from v part block) e) ∙ grow d
      where
        grow : (d : ℕ) → blocks_from v part block (m + d) ≡ blocks_from v part block m
        grow zero = ap (blocks_from v part block) (let e : m + 0 ≡ m = omega arith in e)
        grow (suc d) =
            ap (blocks_from v part block) (let e : m + suc d ≡ suc (m + d) = omega arith in e)
            ∙ blocks_more v part (m + d) block
            ∙ ap (λ o. blocks_from v part block (m + d) ++ block_by v.disk o) (off (m + d) (omega arith))
            ∙ append-nil (blocks_from v part block (m + d)) ∙ grow d

module _ (v : Volume) (a : Addr) (w : ℕ) (old : List ℕ) where
  pub block_none : v.place a ≡ None → old ≡ old ++ take w (block_at v a)
  block_none e = sym (ap (λ o. old ++ take w (block_by v.disk o)) e ∙ ap (λ l. old ++ l) (take_nil w) ∙ append-nil old)

  pub block_some : (s many : ℕ) (room new : List ℕ) → v.place a ≡ Some s → room ≡ v.disk s → many ≡ min w (length room) → new ≡ old ++ take many room
      → new ≡ old ++ take w (block_at v a)
  block_some s many room new e f g h =
      h ∙ ap (λ m. old ++ take m room) g ∙ ap (λ l. old ++ l) (take_within w room) ∙ ap (λ l. old ++ take w l) f
      ∙ ap (λ o. old ++ take w (block_by v.disk o)) (sym e)

module _ (v : Volume) (part block w : ℕ) (first : List ℕ) where
  -- so far i blocks were appended
  pub record Appended (content : List ℕ) (i : ℕ) : Type 0 where
    pub is : content ≡ first ++ take w (blocks_from v part block i)

  pub none_appended : Appended first 0
  unfolding blocks_from
  none_appended = record { is = sym (ap (λ l. first ++ l) (take_nil w) ∙ append-nil first) }

  pub one_appended : (content new : List ℕ) (i left : ℕ) → Appended content i → left ≡ length first + w - length content
      → new ≡ content ++ take left (block_at v (addr part (block + i))) → Appended new (i + 1)
  one_appended content new i left h l e = record {
    is =
        e ∙ ap (λ c. c ++ take left (block_at v (addr part (block + i)))) h.is
        ∙ append_assoc first (take w xs) (take left (block_at v (addr part (block + i))))
        ∙ ap (λ n. first ++ (take w xs ++ take n (block_at v (addr part (block + i))))) left_is
        ∙ ap (λ z. first ++ z) (take_both w xs (block_at v (addr part (block + i))) ∙ ap (take w) (sym (blocks_more v part i block)))
        ∙ ap (λ n. first ++ take w (blocks_from v part block n)) (let e : suc i ≡ i + 1 = omega arith in e);
  }
    where
      xs : List ℕ
      xs = blocks_from v part block i

      left_is : left ≡ w - length (take w xs)
      left_is = omega (arith, l, ap length h.is, length-append first (take w xs))

  -- where no byte is wanted any more, the later blocks add none
  pub enough : (content : List ℕ) (i n : ℕ) → Appended content i → i ≤ n → length first + w ≤ length content → content ≡ first ++ take w (blocks_from v part block n)
  enough content i n h few long = h.is ∙ ap (λ l. first ++ l) (grow (n - i) n (omega arith))
    where
      full : (m : ℕ) → length (take w (blocks_from v part block m)) ≡ w → take w (blocks_from v part block m) ≡ take w (blocks_from v part block (suc m))
      full m e =
          sym (append-nil (take w (blocks_from v part block m)))
          ∙ ap (λ n. take w (blocks_from v part block m) ++ take n (block_at v (addr part (block + m)))) (let z : 0 ≡ w - length (take w (blocks_from v part block m)) = omega (arith, e) in z)
          ∙ take_both w (blocks_from v part block m) (block_at v (addr part (block + m))) ∙ ap (take w) (sym (blocks_more v part m block))

      at_i : length (take w (blocks_from v part block i)) ≡ w
      at_i = omega (arith, long, ap length h.is, length-append first (take w (blocks_from v part block i)), length-take w (blocks_from v part block i))

      both : (d m : ℕ) → i + d ≡ m → (take w (blocks_from v part block i) ≡ take w (blocks_from v part block m))
      both zero m e = ap (λ n. take w (blocks_from v part block n)) (let z : i ≡ m = omega (arith, e) in z)
      both (suc d) m e =
          let one = both d (i + d) refl in
          one ∙ full (i + d) (sym (ap length one) ∙ at_i) ∙ ap (λ n. take w (blocks_from v part block n)) (let z : suc (i + d) ≡ m = omega (arith, e) in z)

      grow : (d m : ℕ) → i + d ≡ m → take w (blocks_from v part block i) ≡ take w (blocks_from v part block m)
      grow d m e = both d m e

  -- past the partition's end no block is placed
  pub past_end : (content : List ℕ) (i n : ℕ) → Appended content i → i ≤ n → ((k : ℕ) → i ≤ k → v.place (addr part (block + k)) ≡ None)
      → content ≡ first ++ take w (blocks_from v part block n)
  past_end content i n h few off = h.is ∙ ap (λ l. first ++ take w l) (sym (blocks_end v part block i n few off))

-- the bytes of a run, by its kind
pub run_recorded : (v : Volume) (d : Descriptor) (w many : ℕ) (old new : List ℕ) → d.kind ≡ 0 → many ≡ min w d.length
    → new ≡ old ++ take many (blocks_from v d.at.part d.at.block (blocks_for v.size d.length)) → new ≡ old ++ take w (run_bytes v d)
unfolding run_bytes
run_recorded v d w many old new k m e =
    let xs = blocks_from v d.at.part d.at.block (blocks_for v.size d.length) in
    e ∙ ap (λ n. old ++ take n xs) m ∙ ap (λ l. old ++ l) (sym (take_min w d.length xs))
    ∙ ap (λ t. old ++ take w (cond t (take d.length xs) (replicate d.length 0))) (sym (ap (λ n. n == 0) k))

pub run_zeros : (v : Volume) (d : Descriptor) (w many : ℕ) (old new : List ℕ) → (d.kind == 0) ≡ false → many ≡ min w d.length
    → new ≡ old ++ replicate many 0 → new ≡ old ++ take w (run_bytes v d)
unfolding run_bytes
run_zeros v d w many old new k m e =
    e ∙ ap (λ n. old ++ replicate n 0) m ∙ ap (λ l. old ++ l) (sym (take_replicate w d.length))
    ∙ ap (λ t. old ++ take w (cond t (take d.length (blocks_from v d.at.part d.at.block (blocks_for v.size d.length))) (replicate d.length 0))) (sym k)
  where
    zeros : ℕ → List ℕ
    zeros m = replicate m 0

    take_replicate : (n m : ℕ) → take n (zeros m) ≡ zeros (min n m)
    take_replicate zero m = ap zeros (let z : 0 ≡ min 0 m = omega arith in z)
    take_replicate (suc n) zero = ap zeros (let z : 0 ≡ min (suc n) 0 = omega arith in z)
    take_replicate (suc n) (suc m) = ap (λ l. 0 ∷ l) (take_replicate n m) ∙ ap zeros (let z : suc (min n m) ≡ min (suc n) (suc m) = omega arith in z)

-- run after run
pub runs_more : (v : Volume) (ds : List Descriptor) (d : Descriptor) → runs_bytes v (ds ++ d ∷ []) ≡ runs_bytes v ds ++ run_bytes v d
unfolding runs_bytes
runs_more v [] d = append-nil (run_bytes v d)
runs_more v (x ∷ ds) d = ap (λ l. run_bytes v x ++ l) (runs_more v ds d) ∙ sym (append_assoc (run_bytes v x) (runs_bytes v ds) (run_bytes v d))

-- past its blocks no address of a reference is placed
pub not_placed : (place : Addr → Option ℕ) (blocks : ℕ → ℕ) (a : Addr) → ((a : Addr) (s : ℕ) → place a ≡ Some s → a.block < blocks a.part) → blocks a.part ≤ a.block
    → place a ≡ None
not_placed place blocks a within past = by_place (place a) refl
  where
    by_place : (o : Option ℕ) → place a ≡ o → o ≡ None
    by_place None e = refl
    by_place (Some s) e = absurd (omega (arith, within a s e, past))

pub recorded_on : {E : Type 0} (v : Volume) (d : Descriptor) (w many blocks : ℕ) (old new : List ℕ) (result : Result Unit E) → d.kind ≡ 0 → many ≡ min w d.length
    → blocks ≡ blocks_for v.size d.length → OnOk result (new ≡ old ++ take many (blocks_from v d.at.part d.at.block blocks))
    → OnOk result (new ≡ old ++ take w (run_bytes v d))
recorded_on v d w many blocks old new (Ok u) k m b e =
    run_recorded v d w many old new k m (e ∙ ap (λ n. old ++ take many (blocks_from v d.at.part d.at.block n)) b)
recorded_on v d w many blocks old new (Err x) k m b e = tt

pub resized : (len n many : ℕ) (old new : List ℕ) → len ≡ length old → n ≡ len + many → new ≡ take n old ++ replicate (n - len) 0 → new ≡ old ++ replicate many 0
resized len n many old new l s e =
    e ∙ ap (λ xs. xs ++ replicate (n - len) 0) (take_all n old (omega (arith, l, s))) ∙ ap (λ k. old ++ replicate k 0) (let z : n - len ≡ many = omega (arith, s) in z)
