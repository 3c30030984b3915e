-- What was put of a text.
use Rattle.std.proofs.Common.{◌≡◌, ℕ, ◌+◌, min, arith, ◌++◌, sym, ◌∙◌, ap, subst, List, length, Option, Some, take}
use Rattle.std.proofs.lemmas.List.{append_assoc, take_all, places, same_lists}
use Rattle.std.proofs.Math.Seq.{take-append-add}
use Rattle.udf_top.specs.declared.outcome.Outcome.{Outcome}
use Rattle.udf_top.specs.Steps.{Says}
use Rattle.udf_top.specs.Endings.{HasEnded}
use Rattle.udf_top.specs.Udffsck.{HoldsFront}

pub all_held : (told : Option (List ℕ)) (before text : List ℕ) → told ≡ Some (before ++ text) → HoldsFront told before text
all_held told before text e = (length text, e ∙ ap (λ (t : List ℕ). Some (before ++ t)) (sym (take_all (length text) text (omega arith))))

-- a front of the first part is a front of the whole
pub first_held : (told : Option (List ℕ)) (before first second : List ℕ) → HoldsFront told before first → HoldsFront told before (first ++ second)
first_held told before first second (k, e) = (min_of k, e ∙ ap (λ (t : List ℕ). Some (before ++ t)) (front k first)) where
  min_of : ℕ → ℕ
  min_of k = min k (length first)

  front : (n : ℕ) (xs : List ℕ) → take n xs ≡ take (min n (length xs)) (xs ++ second)
  front n xs = same_lists _ _ (grind (arith, places)) (λ k d h. grind (arith, places))

-- the first part was put whole, and a front of the second
pub then_held : (told : Option (List ℕ)) (before first second : List ℕ) → HoldsFront told (before ++ first) second → HoldsFront told before (first ++ second)
then_held told before first second (k, e) = (length first + k, e ∙ ap (λ (t : List ℕ). Some t) (append_assoc before first (take k second) ∙ ap (λ (t : List ℕ). before ++ t) (both k))) where
  both : (n : ℕ) → first ++ take n second ≡ take (length first + n) (first ++ second)
  both n = sym (take-append-add first second n)

pub says_failed : (told : Option (List ℕ)) (before text : List ℕ) (result : Outcome) → HoldsFront told before text → (HasEnded result → ⊥) → Says told before text result
says_failed told before text result front failed = record { whole = λ ended. absurd (failed ended); front = front }

pub says_whole : (told : Option (List ℕ)) (before text : List ℕ) (result : Outcome) → told ≡ Some (before ++ text) → Says told before text result
says_whole told before text result is = record { whole = λ ended. is; front = all_held told before text is }

pub says_same : (told : Option (List ℕ)) (before text other : List ℕ) (result : Outcome) → text ≡ other → Says told before text result → Says told before other result
says_same told before text other result e says = subst (λ (t : List ℕ). Says told before t result) e says

pub says_then : (told : Option (List ℕ)) (before first second : List ℕ) (result : Outcome) → Says told (before ++ first) second result → Says told before (first ++ second) result
says_then told before first second result says = record {
  whole = λ ended. says.whole ended ∙ ap (λ (t : List ℕ). Some t) (append_assoc before first second);
  front = then_held told before first second says.front;
}
