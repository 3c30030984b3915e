-- Intervals of numbers in a map: what a look-up of the one before tells, and what one more leaves.
use Rattle.std.proofs.Common.{◌≡◌, ℕ, true, false, ◌+◌, ◌-◌, ◌<◌, ◌≤◌, ◌⊎◌, inl, inr, nat_lt, arith, sym, ◌∙◌, ap, refl, subst, Option, Some, None}
use Rattle.std.specs.Prelude.{IsSome}
use Rattle.std.specs.Ordering.{nat_cmp, is_gt, is_eq}
use Rattle.std.specs.BTreeMap as tree
use Rattle.std.specs.BTreeMap.{BTreeMap}
use Rattle.std.proofs.lemmas.Bool.{cases_lt}
use Rattle.std.proofs.lemmas.Bool.Decides.{nat_tests}
use Rattle.udf_entry.specs.Intervals.{IsOff, AreApart}

pub at_least : (a b : ℕ) → nat_lt a b ≡ false → b ≤ a
at_least a b h = grind (arith, nat_tests)

pub below : (a b : ℕ) → nat_lt a b ≡ true → a < b
below a b h = grind (arith, nat_tests)

pub not_above : (q x : ℕ) → q ≤ x → is_gt (nat_cmp q x) ≡ false
not_above q x h = grind (arith, nat_tests)

pub other_key : (k q : ℕ) → (q ≡ k → ⊥) → is_eq (nat_cmp k q) ≡ false
other_key k q n = grind (arith, nat_tests)

some_at : (f : ℕ → Option ℕ) (k c : ℕ) → f k ≡ Some c → IsSome (f k)
some_at f k c h = let P : Option ℕ → Type 0 = λ o. IsSome o in subst P (sym h) refl

module _ (runs : BTreeMap ℕ ℕ) where
  abbrev at : ℕ → Option ℕ
  at k = tree.get nat_cmp runs k

  -- the number is past the last interval that begins at it or before
  pub off_by_last : (start count x : ℕ) → AreApart runs → at start ≡ Some count → start ≤ x
      → ((q : ℕ) → q ≤ x → IsSome (at q) → q ≤ start) → count ≤ x - start → IsOff runs x
  off_by_last start count x apart here low last past k c h below above =
      elim (cases_lt k start) [
        | inl before ↦ omega (arith, apart.apart k start c count h here before)
        | inr from ↦
            let same : k ≡ start = omega (arith, last k below (some_at at k c h)) in
            let counts : c ≡ count = some_same (sym h ∙ ap at same ∙ here) in
            omega (arith, same, counts)
      ]
    where
      some_same : {a b : ℕ} → Some a ≡ Some b → a ≡ b
      some_same e = cc

  pub held_by_last : (start count x : ℕ) → at start ≡ Some count → start ≤ x → x - start < count → IsOff runs x → ⊥
  held_by_last start count x here low inside off = off start count here low (omega arith)

  -- where a number is in no interval, neither are those before the next interval
  pub off_before : (start x y : ℕ) → IsOff runs x → ((q : ℕ) → x ≤ q → IsSome (at q) → start ≤ q) → x ≤ y → y < start → IsOff runs y
  off_before start x y off next from below k c h low high =
      elim (cases_lt x k) [
        | inl later ↦ omega (arith, next k (omega arith) (some_at at k c h))
        | inr earlier ↦ off k c h earlier (omega arith)
      ]

  -- where nothing begins from a number on that is in no interval, no later number is in one
  pub off_after : (x y : ℕ) → IsOff runs x → ((q : ℕ) → x ≤ q → at q ≡ None) → x ≤ y → IsOff runs y
  off_after x y off none from k c h low high =
      elim (cases_lt x k) [
        | inl later ↦ no_some (sym (none k (omega arith)) ∙ h)
        | inr earlier ↦ off k c h earlier (omega arith)
      ]
    where
      no_some : None ≡ Some c → ⊥
      no_some e = cc

  -- an interval holds its first number
  pub on_start : (start count : ℕ) → AreApart runs → at start ≡ Some count → IsOff runs start → ⊥
  on_start start count apart here off = off start count here (omega arith) (omega (arith, apart.some start count here))

module _ (old new : BTreeMap ℕ ℕ) (start count : ℕ) where
  -- new is old with one more interval
  pub record Adds : Type 0 where
    pub here : tree.get nat_cmp new start ≡ Some count
    pub there : (q : ℕ) → (q ≡ start → ⊥) → tree.get nat_cmp new q ≡ tree.get nat_cmp old q

  off_at_start : AreApart old → IsOff old start → (c : ℕ) → tree.get nat_cmp old start ≡ Some c → ⊥
  off_at_start apart off c h = off start c h (omega arith) (omega (arith, apart.some start c h))

  apart_from : Adds → AreApart old → 0 < count → ((x : ℕ) → start ≤ x → x < start + count → IsOff old x)
      → (l d : ℕ) → tree.get nat_cmp old l ≡ Some d → (l < start → l + d ≤ start) × (start < l → start + count ≤ l)
  apart_from adds apart some off l d h = (
    λ before. elim (cases_lt start (l + d)) [ inl in_it ↦ absurd (off start (omega arith) (omega arith) l d h (omega arith) in_it) | inr out ↦ out ],
    λ after. elim (cases_lt l (start + count)) [
      | inl in_it ↦ absurd (off l (omega arith) in_it l d h (omega arith) (omega (arith, apart.some l d h)))
      | inr out ↦ out
    ],
  )

  some_equal : {a b : ℕ} → Some a ≡ Some b → a ≡ b
  some_equal e = cc

  -- an interval of new is the added one, or one of old
  which : Adds → (k c : ℕ) → tree.get nat_cmp new k ≡ Some c
      → ((k ≡ start) × (c ≡ count)) ⊎ ((k ≡ start → ⊥) × (tree.get nat_cmp old k ≡ Some c))
  which adds k c h = elim (cases_eq k start) [
    | inl e ↦ inl (e, some_equal (sym h ∙ ap (λ q. tree.get nat_cmp new q) e ∙ adds.here))
    | inr n ↦ inr (n, sym (adds.there k n) ∙ h)
  ]
    where
      cases_eq : (a b : ℕ) → (a ≡ b) ⊎ (a ≡ b → ⊥)
      cases_eq a b = elim (cases_lt a b) [
        | inl l ↦ inr (λ e. omega arith)
        | inr l ↦ elim (cases_lt b a) [ inl g ↦ inr (λ e. omega arith) | inr g ↦ inl (omega arith) ]
      ]

  pub adds_apart : Adds → AreApart old → 0 < count → ((x : ℕ) → start ≤ x → x < start + count → IsOff old x) → AreApart new
  adds_apart adds apart some off = record { some = all_some; apart = all_apart }
    where
      some_by : (k c : ℕ) → ((k ≡ start) × (c ≡ count)) ⊎ ((k ≡ start → ⊥) × (tree.get nat_cmp old k ≡ Some c)) → 0 < c
      some_by k c (inl w) = omega (arith, w.1)
      some_by k c (inr w) = apart.some k c w.1

      all_some : (k c : ℕ) → tree.get nat_cmp new k ≡ Some c → 0 < c
      all_some k c h = some_by k c (which adds k c h)

      apart_by : (k l c d : ℕ) → ((k ≡ start) × (c ≡ count)) ⊎ ((k ≡ start → ⊥) × (tree.get nat_cmp old k ≡ Some c))
          → ((l ≡ start) × (d ≡ count)) ⊎ ((l ≡ start → ⊥) × (tree.get nat_cmp old l ≡ Some d)) → k < l → k + c ≤ l
      apart_by k l c d (inl w) (inl v) h = omega (arith, w.0, v.0)
      apart_by k l c d (inl w) (inr v) h = omega (arith, w.0, w.1, (apart_from adds apart some off l d v.1).1)
      apart_by k l c d (inr w) (inl v) h = omega (arith, v.0, v.1, (apart_from adds apart some off k c w.1).0)
      apart_by k l c d (inr w) (inr v) h = apart.apart k l c d w.1 v.1 h

      all_apart : (k l c d : ℕ) → tree.get nat_cmp new k ≡ Some c → tree.get nat_cmp new l ≡ Some d → k < l → k + c ≤ l
      all_apart k l c d g h = apart_by k l c d (which adds k c g) (which adds l d h)

  pub adds_off : Adds → AreApart old → IsOff old start → (x : ℕ) → IsOff new x → IsOff old x
  adds_off adds apart off x new_off k c h below above =
      new_off k c (adds.there k (λ e. off_at_start apart off c (ap (λ q. tree.get nat_cmp old q) (sym e) ∙ h)) ∙ h) below above
