-- That a packet is apart from some others, and that a sector lies in none, by the near sectors at which packets begin.
use Rattle.std.proofs.Common.{◌≡◌, ℕ, ◌+◌, ◌-◌, ◌<◌, ◌≤◌, ◌==◌, Bool, true, false, not, ◌&&◌, ◌||◌, nat_le, nat_lt, arith, refl, sym, ap, ◌∙◌, subst, List, [], ◌∷◌}
use Rattle.std.specs.List.{list_all, list_any}
use Rattle.std.specs.Ordering.{nat_cmp, is_gt}
use Rattle.std.proofs.lemmas.Bool.Decides.{nat_tests}
use Rattle.udf_layer.specs.Packets.{in_packet, packet_apart}

pub not_above : (q x : ℕ) → q ≤ x → is_gt (nat_cmp q x) ≡ false
not_above q x h = grind (arith, nat_tests)

either_false : (a b : Bool) → (a || b) ≡ false → (a ≡ false) × (b ≡ false)
either_false true b h = absurd (cc)
either_false false b h = (refl, h)

both_true : (a b : Bool) → a ≡ true → b ≡ true → (a && b) ≡ true
both_true true b e f = f
both_true false b e f = absurd (cc)

own_first : (pair : ℕ × ℕ) → (pair.1 == pair.1) ≡ true
own_first pair = grind (arith, nat_tests)

-- far enough before or behind
far : (packet first : ℕ) (pair : ℕ × ℕ) → (first < pair.1 + packet → pair.1 < first + packet → ⊥) → packet_apart packet first pair ≡ true
unfolding packet_apart
far packet first pair h = by (nat_le (first + packet) pair.1) (nat_le (pair.1 + packet) first) refl refl
  where
    by : (a b : Bool) → nat_le (first + packet) pair.1 ≡ a → nat_le (pair.1 + packet) first ≡ b → (a || b) ≡ true
    by true b e f = refl
    by false true e f = refl
    by false false e f = absurd (h (grind (arith, nat_tests)) (grind (arith, nat_tests)))

near : (packet first : ℕ) (pair : ℕ × ℕ) → first < pair.1 + packet → pair.1 < first + packet → packet_apart packet first pair ≡ false
unfolding packet_apart
near packet first pair l h = grind (arith, nat_tests)

-- a test that fails exactly of the packets that begin near
module _ (test : ℕ × ℕ → Bool) (IsNear : ℕ → Type 0) (passes : (pair : ℕ × ℕ) → (IsNear pair.1 → ⊥) → test pair ≡ true)
    (fails : (pair : ℕ × ℕ) → IsNear pair.1 → test pair ≡ false) where
  -- where no near sector begins a packet, all pass
  all_pass : (pairs : List (ℕ × ℕ)) → ((q : ℕ) → IsNear q → list_any (λ pair. pair.1 == q) pairs ≡ false) → list_all test pairs ≡ true
  all_pass [] none = refl
  all_pass (pair ∷ pairs) none =
      both_true (test pair) (list_all test pairs)
      (passes pair (λ l. let no : (pair.1 == pair.1) ≡ false = (either_false (pair.1 == pair.1) (list_any (λ p. p.1 == pair.1) pairs) (none pair.1 l)).0 in
      let yes : (pair.1 == pair.1) ≡ true = own_first pair in cc))
      (all_pass pairs (λ q l. (either_false (pair.1 == q) (list_any (λ p. p.1 == q) pairs) (none q l)).1))

  -- where a near sector begins one, that one fails
  found_near : (q : ℕ) (pair : ℕ × ℕ) (rest others b : Bool) → (pair.1 == q) ≡ b → IsNear q → (b || others) ≡ true → (others ≡ true → rest ≡ false)
      → (test pair && rest) ≡ false
  found_near q pair rest others true e l any later =
      let same : q ≡ pair.1 = grind (arith, nat_tests) in ap (λ b. b && rest) (fails pair (subst IsNear same l))
  found_near q pair rest others false e l any later = last (test pair) (later any)
    where
      last : (a : Bool) → rest ≡ false → (a && rest) ≡ false
      last true f = f
      last false f = refl

  one_fails : (q : ℕ) (pairs : List (ℕ × ℕ)) → IsNear q → list_any (λ pair. pair.1 == q) pairs ≡ true → list_all test pairs ≡ false
  one_fails q [] l any = absurd (cc)
  one_fails q (pair ∷ pairs) l any =
      found_near q pair (list_all test pairs) (list_any (λ p. p.1 == q) pairs) (pair.1 == q) refl l any (λ more. one_fails q pairs l more)

  near_decides : (has : Bool) (starts : ℕ → Bool) (pairs : List (ℕ × ℕ)) → (has ≡ false → (q : ℕ) → IsNear q → starts q ≡ false)
      → (has ≡ true → (q : ℕ) × IsNear q × (starts q ≡ true)) → ((q : ℕ) → starts q ≡ list_any (λ pair. pair.1 == q) pairs)
      → not has ≡ list_all test pairs
  near_decides false starts pairs none one same = sym (all_pass pairs (λ q l. sym (same q) ∙ none refl q l))
  near_decides true starts pairs none one same = let w = one refl in sym (one_fails w.0 pairs w.1 (sym (same w.0) ∙ w.2))

-- the test of the near sectors decides
pub is_apart : (packet first low high : ℕ) (has : Bool) (starts : ℕ → Bool) (pairs : List (ℕ × ℕ)) → 0 < packet → low ≡ first - (packet - 1)
    → high ≡ first + (packet - 1) → (has ≡ false → (q : ℕ) → low ≤ q → q ≤ high → starts q ≡ false)
    → (has ≡ true → (q : ℕ) × (low ≤ q) × (q ≤ high) × (starts q ≡ true))
    → ((q : ℕ) → starts q ≡ list_any (λ pair. pair.1 == q) pairs) → not has ≡ list_all (packet_apart packet first) pairs
is_apart packet first low high has starts pairs some l h none one same =
    near_decides (packet_apart packet first) (λ q. (first < q + packet) × (q < first + packet)) (λ pair off. far packet first pair (λ x y. off (x, y)))
    (λ pair n. near packet first pair n.0 n.1) has starts pairs (λ e q n. none e q (omega (arith, n.0)) (omega (arith, n.1)))
    (λ e. let w = one e in (w.0, (omega (arith, w.1), omega (arith, w.2)), w.3)) same

-- a packet holds a sector where it begins less than its length before it
off : (packet s : ℕ) (pair : ℕ × ℕ) → (pair.1 ≤ s → s < pair.1 + packet → ⊥) → not (in_packet packet pair.1 s) ≡ true
unfolding in_packet
off packet s pair h = by (nat_le pair.1 s) (nat_lt s (pair.1 + packet)) refl refl
  where
    by : (a b : Bool) → nat_le pair.1 s ≡ a → nat_lt s (pair.1 + packet) ≡ b → not (a && b) ≡ true
    by false b e f = refl
    by true false e f = refl
    by true true e f = absurd (h (grind (arith, nat_tests)) (grind (arith, nat_tests)))

held : (packet s : ℕ) (pair : ℕ × ℕ) → pair.1 ≤ s → s < pair.1 + packet → not (in_packet packet pair.1 s) ≡ false
unfolding in_packet
held packet s pair l h = grind (arith, nat_tests)

pub is_outside : (packet s low : ℕ) (has : Bool) (starts : ℕ → Bool) (pairs : List (ℕ × ℕ)) → 0 < packet → low ≡ s - (packet - 1)
    → (has ≡ false → (q : ℕ) → low ≤ q → q ≤ s → starts q ≡ false)
    → (has ≡ true → (q : ℕ) × (low ≤ q) × (q ≤ s) × (starts q ≡ true))
    → ((q : ℕ) → starts q ≡ list_any (λ pair. pair.1 == q) pairs) → not has ≡ list_all (λ pair. not (in_packet packet pair.1 s)) pairs
is_outside packet s low has starts pairs some l none one same =
    near_decides (λ pair. not (in_packet packet pair.1 s)) (λ q. (q ≤ s) × (s < q + packet)) (λ pair away. off packet s pair (λ x y. away (x, y)))
    (λ pair n. held packet s pair n.0 n.1) has starts pairs (λ e q n. none e q (omega (arith, n.1)) n.0)
    (λ e. let w = one e in (w.0, (w.2, omega (arith, w.1)), w.3)) same
