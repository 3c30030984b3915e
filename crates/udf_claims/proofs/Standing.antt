-- Values that change only at the keys of a map.
use Rattle.std.proofs.Common.{◌≡◌, ℕ, zero, suc, ◌+◌, ◌-◌, ◌<◌, ◌≤◌, true, false, ◌&&◌, cond, Option, Some, None, nat_lt, nat_le, refl, sym, ap, subst, ◌∙◌, inl, inr, arith, Less}
use Rattle.std.specs.Prelude.{IsSome}
use Rattle.std.specs.Option.{unwrap_or}
use Rattle.std.specs.Ordering.{nat_cmp, is_eq, is_gt}
use Rattle.std.proofs.lemmas.Bool.{cases_lt, cases_eq, cases_order}
use Rattle.std.proofs.lemmas.Bool.Decides.{nat_tests}
use Rattle.udf_claims.specs.Standing.{standing, HasNone, IsNext}

pub is_in : (lo hi x : ℕ) → lo ≤ x → x < hi → (nat_le lo x && nat_lt x hi) ≡ true
is_in lo hi x l h = grind (arith, nat_tests)

pub is_below : (lo hi x : ℕ) → x < lo → (nat_le lo x && nat_lt x hi) ≡ false
is_below lo hi x l = grind (arith, nat_tests)

pub is_above : (lo hi x : ℕ) → hi ≤ x → (nat_le lo x && nat_lt x hi) ≡ false
is_above lo hi x l = grind (arith, nat_tests)

module _ {X : Type 0} where
  unwrap_some : (o : Option X) (d b : X) → o ≡ Some b → unwrap_or o d ≡ b
  unwrap_some o d b e = ap (λ p. unwrap_or p d) e

  unwrap_none : (o : Option X) (d : X) → o ≡ None → unwrap_or o d ≡ d
  unwrap_none o d e = ap (λ p. unwrap_or p d) e

  -- the last key up to a number has its value
  pub standing_last : (f : ℕ → Option X) (d : X) (k x : ℕ) (b : X) → f k ≡ Some b → k ≤ x → ((q : ℕ) → k < q → q ≤ x → f q ≡ None) → standing f d x ≡ b
  unfolding standing
  standing_last f d k zero b e le none = let z : 0 ≡ k = omega arith in unwrap_some (f 0) d b (ap f z ∙ e)
  standing_last f d k (suc x) b e le none = elim (cases_lt k (suc x)) [
    | inl l ↦ unwrap_none (f (suc x)) (standing f d x) (none (suc x) l (omega arith)) ∙ standing_last f d k x b e (omega arith) (λ q m n. none q m (omega arith))
    | inr m ↦ let z : suc x ≡ k = omega arith in unwrap_some (f (suc x)) (standing f d x) b (ap f z ∙ e)
  ]

  pub standing_none : (f : ℕ → Option X) (d : X) (x : ℕ) → ((q : ℕ) → q ≤ x → f q ≡ None) → standing f d x ≡ d
  unfolding standing
  standing_none f d zero none = unwrap_none (f 0) d (none 0 (omega arith))
  standing_none f d (suc x) none = unwrap_none (f (suc x)) (standing f d x) (none (suc x) (omega arith)) ∙ standing_none f d x (λ q n. none q (omega arith))

  at_key : (k : ℕ) (v w : Option X) → cond (is_eq (nat_cmp k k)) v w ≡ v
  at_key k v w = grind (arith, nat_tests)

  off_key : (k q : ℕ) (v w : Option X) → (k ≡ q → ⊥) → cond (is_eq (nat_cmp k q)) v w ≡ w
  off_key k q v w n = grind (arith, nat_tests)

  -- a key more that has the value that stands there
  pub standing_cut : (f g : ℕ → Option X) (d : X) (k : ℕ) → ((q : ℕ) → g q ≡ cond (is_eq (nat_cmp k q)) (Some (standing f d k)) (f q)) → (x : ℕ) → standing g d x ≡ standing f d x
  unfolding standing
  standing_cut f g d k now x = go x
    where
      here : (x : ℕ) → k ≡ x → g x ≡ Some (standing f d x)
      here x e = now x ∙ ap (λ q. cond (is_eq (nat_cmp q x)) (Some (standing f d q)) (f x)) e ∙ at_key x (Some (standing f d x)) (f x)

      there : (x : ℕ) → (k ≡ x → ⊥) → g x ≡ f x
      there x n = now x ∙ off_key k x (Some (standing f d k)) (f x) n

      go : (x : ℕ) → standing g d x ≡ standing f d x
      go zero = elim (cases_eq k 0) [
        | inl e ↦ unwrap_some (g 0) d (standing f d 0) (here 0 e)
        | inr n ↦ ap (λ o. unwrap_or o d) (there 0 n)
      ]
      go (suc x) = elim (cases_eq k (suc x)) [
        | inl e ↦ unwrap_some (g (suc x)) (standing g d x) (standing f d (suc x)) (here (suc x) e)
        | inr n ↦ ap (λ o. unwrap_or o (standing g d x)) (there (suc x) n) ∙ ap (unwrap_or (f (suc x))) (go x)
      ]

  standing_below : (f g : ℕ → Option X) (d : X) (x : ℕ) → ((q : ℕ) → q ≤ x → g q ≡ f q) → standing g d x ≡ standing f d x
  unfolding standing
  standing_below f g d zero same = ap (λ o. unwrap_or o d) (same 0 (omega arith))
  standing_below f g d (suc x) same = ap (λ o. unwrap_or o (standing g d x)) (same (suc x) (omega arith)) ∙ ap (unwrap_or (f (suc x))) (standing_below f g d x (λ q h. same q (omega arith)))

  at_some : (o : Option X) (u w : X) → IsSome o → unwrap_or o u ≡ unwrap_or o w
  at_some None u w h = cc
  at_some (Some v) u w h = refl

  -- the same keys and values from a key on
  standing_above : (f g : ℕ → Option X) (d : X) (k x : ℕ) → IsSome (f k) → ((q : ℕ) → k ≤ q → g q ≡ f q) → k ≤ x → standing g d x ≡ standing f d x
  unfolding standing
  standing_above f g d k zero s same h = ap (λ o. unwrap_or o d) (same 0 h)
  standing_above f g d k (suc x) s same h = ap (λ o. unwrap_or o (standing g d x)) (same (suc x) h) ∙ elim (cases_order k (suc x)) [
    | inl e ↦ let P : ℕ → Type 0 = λ q. IsSome (f q) in at_some (f (suc x)) (standing g d x) (standing f d x) (subst P e s)
    | inr (inl l) ↦ ap (unwrap_or (f (suc x))) (standing_above f g d k x s same (omega arith))
    | inr (inr l) ↦ absurd (omega arith)
  ]

  -- a value from a key on, up to another
  standing_put : (f h : ℕ → Option X) (d v : X) (lo hi : ℕ) → IsSome (f hi) → h lo ≡ Some v → HasNone h (lo + 1) hi → ((q : ℕ) → (nat_le lo q && nat_lt q hi) ≡ false → h q ≡ f q)
      → (x : ℕ) → standing h d x ≡ cond (nat_le lo x && nat_lt x hi) v (standing f d x)
  standing_put f h d v lo hi last first none same x = elim (cases_lt x lo) [
    | inl l ↦ rw (is_below lo hi x l) (standing_below f h d x (λ q m. same q (is_below lo hi q (omega arith))))
    | inr g ↦ elim (cases_lt x hi) [
      | inl l ↦ rw (is_in lo hi x g l) (standing_last h d lo x v first g (λ q m n. none q (omega arith) (omega arith)))
      | inr m ↦ rw (is_above lo hi x m) (standing_above f h d hi x last (λ q n. same q (is_above lo hi q n)) m)
    ]
  ]

  -- the same, in two steps: the keys between are taken away, and the first one gets the value
  pub value_put : (f g h : ℕ → Option X) (d v : X) (lo hi : ℕ) → lo < hi → IsSome (f hi) → HasNone g (lo + 1) hi → ((q : ℕ) → (nat_le (lo + 1) q && nat_lt q hi) ≡ false → g q ≡ f q)
      → ((q : ℕ) → h q ≡ cond (is_eq (nat_cmp lo q)) (Some v) (g q)) → (x : ℕ) → standing h d x ≡ cond (nat_le lo x && nat_lt x hi) v (standing f d x)
  value_put f g h d v lo hi up last none outside now x = standing_put f h d v lo hi last (now lo ∙ at_key lo (Some v) (g lo)) clear same x
    where
      clear : HasNone h (lo + 1) hi
      clear q l m = now q ∙ off_key lo q (Some v) (g q) (λ e. omega arith) ∙ none q l m

      same : (q : ℕ) → (nat_le lo q && nat_lt q hi) ≡ false → h q ≡ f q
      same q e = now q ∙ off_key lo q (Some v) (g q) (λ n. apart n) ∙ outside q (grind (arith, nat_tests))
        where
          apart : lo ≡ q → ⊥
          apart n = grind (arith, nat_tests)

  -- the keys from there on stay
  pub keys_put : (f g h : ℕ → Option X) (v : X) (lo hi : ℕ) → lo < hi → ((q : ℕ) → (nat_le (lo + 1) q && nat_lt q hi) ≡ false → g q ≡ f q)
      → ((q : ℕ) → h q ≡ cond (is_eq (nat_cmp lo q)) (Some v) (g q)) → (q : ℕ) → hi ≤ q → IsSome (f q) → IsSome (h q)
  keys_put f g h v lo hi up outside now q l s = let P : Option X → Type 0 = λ o. IsSome o in
      subst P (sym (now q ∙ off_key lo q (Some v) (g q) (λ e. omega arith) ∙ outside q (is_above (lo + 1) hi q l))) s

  -- a key less that has the value of the number before it
  pub standing_removed : (f g : ℕ → Option X) (d : X) (k : ℕ) → 0 < k → standing f d (k - 1) ≡ standing f d k → ((q : ℕ) → g q ≡ cond (is_eq (nat_cmp k q)) None (f q)) → (x : ℕ) → standing g d x ≡ standing f d x
  unfolding standing
  standing_removed f g d k some equal now x = go x
    where
      here : (x : ℕ) → k ≡ x → g x ≡ None
      here x e = now x ∙ ap (λ q. cond (is_eq (nat_cmp q x)) None (f x)) e ∙ at_key x None (f x)

      there : (x : ℕ) → (k ≡ x → ⊥) → g x ≡ f x
      there x n = now x ∙ off_key k x None (f x) n

      go : (x : ℕ) → standing g d x ≡ standing f d x
      go zero = ap (λ o. unwrap_or o d) (there 0 (λ e. omega arith))
      go (suc x) = elim (cases_eq k (suc x)) [
        | inl e ↦ let z : x ≡ k - 1 = omega arith in unwrap_none (g (suc x)) (standing g d x) (here (suc x) e) ∙ go x ∙ ap (standing f d) z ∙ equal ∙ ap (standing f d) e
        | inr n ↦ ap (λ o. unwrap_or o (standing g d x)) (there (suc x) n) ∙ ap (unwrap_or (f (suc x))) (go x)
      ]

  pub keys_removed : (f g : ℕ → Option X) (k : ℕ) → ((q : ℕ) → g q ≡ cond (is_eq (nat_cmp k q)) None (f q)) → (q : ℕ) → k < q → IsSome (f q) → IsSome (g q)
  keys_removed f g k now q l s = let P : Option X → Type 0 = λ o. IsSome o in subst P (sym (now q ∙ off_key k q None (f q) (λ e. omega arith))) s

  -- one key less of those from a number on, where there are none up to it
  pub none_more : (f g : ℕ → Option X) (lo next hi key : ℕ) → HasNone f lo next → IsNext f next hi key → ((q : ℕ) → g q ≡ cond (is_eq (nat_cmp key q)) None (f q)) → HasNone g lo (key + 1)
  none_more f g lo next hi key none first now q l h = now q ∙ elim (cases_eq key q) [
    | inl e ↦ ap (λ k. cond (is_eq (nat_cmp k q)) None (f q)) e ∙ at_key q None (f q)
    | inr n ↦ off_key key q None (f q) n ∙ elim (cases_lt q next) [ inl m ↦ none q l m | inr m ↦ first.none q m (omega arith) ]
  ]

  pub outside_more : (f g h : ℕ → Option X) (lo next hi key : ℕ) → lo ≤ next → IsNext g next hi key → ((q : ℕ) → (nat_le lo q && nat_lt q hi) ≡ false → g q ≡ f q)
      → ((q : ℕ) → h q ≡ cond (is_eq (nat_cmp key q)) None (g q)) → (q : ℕ) → (nat_le lo q && nat_lt q hi) ≡ false → h q ≡ f q
  outside_more f g h lo next hi key le first was now q e = now q ∙ off_key key q None (g q) apart ∙ was q e
    where
      low : lo ≤ key
      low = omega (arith, first.low)

      apart : key ≡ q → ⊥
      apart n = let high : key < hi = first.high in grind (arith, nat_tests)

  pub none_join : (f : ℕ → Option X) (lo next hi : ℕ) → HasNone f lo next → HasNone f next hi → HasNone f lo hi
  none_join f lo next hi one two q l h = elim (cases_lt q next) [ inl m ↦ one q l m | inr m ↦ two q m h ]

  none_from : (o : Option X) → (IsSome o → ⊥) → o ≡ None
  none_from None h = refl
  none_from (Some v) h = absurd (h refl)

  some_from : (o : Option X) (v : X) → o ≡ Some v → IsSome o
  some_from o v e = let P : Option X → Type 0 = λ p. IsSome p in subst P (sym e) refl

  -- the first of what lies in a range
  pub next_is : (f : ℕ → Option X) (lo hi key : ℕ) (v : X) → lo ≤ key → key < hi → f key ≡ Some v → ((q : ℕ) → lo ≤ q → q < hi → IsSome (f q) → key ≤ q) → IsNext f lo hi key
  next_is f lo hi key v low high here least = record {
    low = low;
    high = high;
    here = some_from (f key) v here;
    none = λ q l m. none_from (f q) (λ s. let g : key ≤ q = least q l (omega arith) s in omega arith);
  }

  -- the value is the same up to the next key
  pub standing_same : (f : ℕ → Option X) (d : X) (x to : ℕ) → HasNone f (x + 1) to → (q : ℕ) → x ≤ q → q < to → standing f d q ≡ standing f d x
  unfolding standing
  standing_same f d x to none zero l h = let e : 0 ≡ x = omega arith in ap (standing f d) e
  standing_same f d x to none (suc q) l h = elim (cases_order x (suc q)) [
    | inl e ↦ ap (standing f d) (sym e)
    | inr (inl m) ↦ unwrap_none (f (suc q)) (standing f d q) (none (suc q) (omega arith) h) ∙ standing_same f d x to none q (omega arith) (omega arith)
    | inr (inr m) ↦ absurd (omega arith)
  ]

  -- the last of what lies up to a number
  pub standing_greatest : (f : ℕ → Option X) (d : X) (k x : ℕ) (b : X) → f k ≡ Some b → k ≤ x → ((q : ℕ) → q ≤ x → IsSome (f q) → q ≤ k) → b ≡ standing f d x
  standing_greatest f d k x b e le last = sym (standing_last f d k x b e le (λ q m n. none_from (f q) (λ s. let g : q ≤ k = last q n s in omega arith)))

pub not_above : (q x : ℕ) → q ≤ x → is_gt (nat_cmp q x) ≡ false
not_above q x h = grind (arith, nat_tests)

pub is_less : (q x : ℕ) → q < x → nat_cmp q x ≡ Less
is_less q x h = grind (arith, nat_tests)

pub from_less : (q x : ℕ) → nat_cmp q x ≡ Less → q < x
from_less q x h = grind (arith, nat_tests)
