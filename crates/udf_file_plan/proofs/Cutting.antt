-- Where a cut of a body ends, as the code walks its descriptors.
use Rattle.std.proofs.Common.{◌≡◌, ℕ, suc, Bool, true, false, cond, ◌+◌, ◌-◌, ◌<◌, ◌≤◌, ◌==◌, nat_lt, List, [], ◌∷◌, Some, None, arith, refl, sym, ◌∙◌, ap, subst}
use Rattle.std.proofs.lemmas.Bool.Decides.{nat_tests}
use Rattle.udf_file_model.specs.Descriptors.{Descriptor, descriptors_from}
use Rattle.udf_file_model.specs.Cut.{onward}
use Rattle.udf_file_model.specs.CutBody.{kept_count, last_length}
use Rattle.udf_file_plan.specs.Cuts.{EndsWithin}

test_is : (m n : ℕ) → m ≡ n → (m == n) ≡ true
test_is m n e = grind (arith, nat_tests)

test_not : (m n : ℕ) → (m ≡ n → ⊥) → (m == n) ≡ false
test_not m n e = grind (arith, nat_tests)

less_is : (m n : ℕ) → m < n → nat_lt m n ≡ true
less_is m n h = grind (arith, nat_tests)

less_not : (m n : ℕ) → n ≤ m → nat_lt m n ≡ false
less_not m n h = grind (arith, nat_tests)

from_step : (at : ℕ → Descriptor) (i n : ℕ) (b : Bool) → ((at i).length == 0) ≡ b
    → descriptors_from at i (suc n) ≡ cond b [] (at i ∷ descriptors_from at (i + 1) n)
unfolding descriptors_from
from_step at i n b e = ap (λ t. cond t [] (at i ∷ descriptors_from at (i + 1) n)) e

none_left : (at : ℕ → Descriptor) (i : ℕ) → descriptors_from at i 0 ≡ []
unfolding descriptors_from
none_left at i = refl

-- one equation per branch
onward_nil : (b : ℕ) → onward b [] ≡ None
unfolding onward
onward_nil b = refl

count_nil : (b : ℕ) → kept_count b [] ≡ 0
unfolding kept_count
count_nil b = refl

last_nil : (b : ℕ) → last_length b [] ≡ 0
unfolding last_length
last_nil b = refl

module _ (b : ℕ) (d : Descriptor) (ds : List Descriptor) where
  onward_more : (d.kind == 3) ≡ true → onward b (d ∷ ds) ≡ Some (record { next = d.at; left = b })
  unfolding onward
  onward_more e = rw e refl

  onward_over : (d.kind == 3) ≡ false → nat_lt d.length b ≡ true → onward b (d ∷ ds) ≡ onward (b - d.length) ds
  unfolding onward
  onward_over e f = rw (e, f) refl

  onward_last : (d.kind == 3) ≡ false → nat_lt d.length b ≡ false → onward b (d ∷ ds) ≡ None
  unfolding onward
  onward_last e f = rw (e, f) refl

  count_over : nat_lt d.length b ≡ true → kept_count b (d ∷ ds) ≡ suc (kept_count (b - d.length) ds)
  unfolding kept_count
  count_over e = rw e refl

  count_last : nat_lt d.length b ≡ false → kept_count b (d ∷ ds) ≡ 1
  unfolding kept_count
  count_last e = rw e refl

  last_over : nat_lt d.length b ≡ true → last_length b (d ∷ ds) ≡ last_length (b - d.length) ds
  unfolding last_length
  last_over e = rw e refl

  last_last : nat_lt d.length b ≡ false → last_length b (d ∷ ds) ≡ b
  unfolding last_length
  last_last e = rw e refl

module _ (at : ℕ → Descriptor) (n b : ℕ) where
  abbrev whole : List Descriptor
  whole = descriptors_from at 0 n

  abbrev rest : ℕ → List Descriptor
  rest i = descriptors_from at i (n - i)

  -- after i descriptors so many bytes are left of the cut
  pub record CutSoFar (left i : ℕ) : Type 0 where
    pub onward_is : onward b (descriptors_from at 0 n) ≡ onward left (descriptors_from at i (n - i))
    pub count_is : kept_count b (descriptors_from at 0 n) ≡ i + kept_count left (descriptors_from at i (n - i))
    pub last_is : last_length b (descriptors_from at 0 n) ≡ last_length left (descriptors_from at i (n - i))

  pub cut_begins : CutSoFar b 0
  cut_begins =
      let m : whole ≡ rest 0 = let e : n ≡ n - 0 = omega arith in ap (descriptors_from at 0) e in
      let z : kept_count b whole ≡ 0 + kept_count b whole = omega arith in
      record { onward_is = ap (onward b) m; count_is = z ∙ ap (λ l. 0 + kept_count b l) m; last_is = ap (last_length b) m }

  rest_is : (i : ℕ) (t : Bool) → i < n → ((at i).length == 0) ≡ t → rest i ≡ cond t [] (at i ∷ rest (i + 1))
  rest_is i t h e = let m : n - i ≡ suc (n - (i + 1)) = omega arith in ap (descriptors_from at i) m ∙ from_step at i (n - (i + 1)) t e

  rest_some : (i : ℕ) → i < n → ((at i).length ≡ 0 → ⊥) → rest i ≡ at i ∷ rest (i + 1)
  rest_some i h some = rest_is i false h (test_not (at i).length 0 some)

  ends_empty : (left i : ℕ) → rest i ≡ [] → CutSoFar left i → EndsWithin b whole i 0
  ends_empty left i e so = record {
    onward_is = so.onward_is ∙ ap (onward left) e ∙ onward_nil left;
    count_is = let z = so.count_is ∙ ap (λ l. i + kept_count left l) e ∙ ap (λ k. i + k) (count_nil left) in omega (arith, z);
    last_is = so.last_is ∙ ap (last_length left) e ∙ last_nil left;
  }

  pub ends_zero : (left i : ℕ) → i < n → (at i).length ≡ 0 → CutSoFar left i → EndsWithin b whole i 0
  ends_zero left i h zero so = ends_empty left i (rest_is i true h (test_is (at i).length 0 zero)) so

  pub ends_done : (left i : ℕ) → n ≡ i → CutSoFar left i → EndsWithin b whole n 0
  ends_done left i h so =
      let e : rest i ≡ [] = (let m : n - i ≡ 0 = omega arith in ap (descriptors_from at i) m) ∙ none_left at i in
      subst (λ (k : ℕ). EndsWithin b whole k 0) (sym h) (ends_empty left i e so)

  pub ends_here : (left i : ℕ) → i < n → ((at i).length ≡ 0 → ⊥) → ((at i).kind ≡ 3 → ⊥) → left ≤ (at i).length → CutSoFar left i → EndsWithin b whole (i + 1) left
  ends_here left i h some here low so =
      let e = rest_some i h some in
      let k = test_not (at i).kind 3 here in
      let l = less_not (at i).length left low in
      record {
        onward_is = so.onward_is ∙ ap (onward left) e ∙ onward_last left (at i) (rest (i + 1)) k l;
        count_is = so.count_is ∙ ap (λ x. i + kept_count left x) e ∙ ap (λ x. i + x) (count_last left (at i) (rest (i + 1)) l);
        last_is = so.last_is ∙ ap (last_length left) e ∙ last_last left (at i) (rest (i + 1)) l;
      }

  pub goes_beyond : (left i : ℕ) → i < n → ((at i).length ≡ 0 → ⊥) → (at i).kind ≡ 3 → CutSoFar left i → onward b whole ≡ Some (record { next = (at i).at; left = left })
  goes_beyond left i h some on so =
      so.onward_is ∙ ap (onward left) (rest_some i h some) ∙ onward_more left (at i) (rest (i + 1)) (test_is (at i).kind 3 on)

  pub goes_on : (left i : ℕ) → i < n → ((at i).length ≡ 0 → ⊥) → ((at i).kind ≡ 3 → ⊥) → (at i).length < left → CutSoFar left i
      → CutSoFar (left - (at i).length) (i + 1)
  goes_on left i h some here low so =
      let e = rest_some i h some in
      let k = test_not (at i).kind 3 here in
      let l = less_is (at i).length left low in
      record {
        onward_is = so.onward_is ∙ ap (onward left) e ∙ onward_over left (at i) (rest (i + 1)) k l;
        count_is = let z = so.count_is ∙ ap (λ x. i + kept_count left x) e ∙ ap (λ x. i + x) (count_over left (at i) (rest (i + 1)) l) in omega (arith, z);
        last_is = so.last_is ∙ ap (last_length left) e ∙ last_over left (at i) (rest (i + 1)) l;
      }
