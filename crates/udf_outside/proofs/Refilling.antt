-- Ranges that are filled with one byte, and a range that is put back.
use Rattle.std.proofs.Common.{◌≡◌, ◌⊎◌, inl, inr, ⊎_elim, ◌<◌, ◌≤◌, ℕ, ◌+◌, min, Bool, true, false, ◌||◌, List, [], ◌∷◌, ◌++◌, length, get_or, refl, sym, ◌∙◌, ap, subst, arith, Option, Some, None}
use Rattle.std.proofs.lemmas.List.{places, get_or_past}
use Rattle.std.proofs.lemmas.Bool.{cases_lt}
use Rattle.std.specs.Option.{unwrap_or}
use Rattle.udf_outside.specs.declared.memory.range.Range.{Range}
use Rattle.udf_outside.specs.Stops.{is_within, slice_of, put}
use Rattle.udf_outside.specs.Ranges.{covers}
use Rattle.udf_outside.specs.Refill.{Refills, is_spared}
use Rattle.udf_outside.proofs.Covering.{covers_push}

pub refills_start : (fill : ℕ) (bytes : List ℕ) → Refills fill (covers []) (λ i. false) bytes bytes
refills_start fill bytes = record {
  size = refl;
  filled = λ i lt is no. absurd (let same : false ≡ true = is in cc);
  spares = λ i is. refl;
  same = λ i no. refl;
}

or_cases : (a b : Bool) → a || b ≡ true → (a ≡ true) ⊎ ((a ≡ false) × (b ≡ true))
or_cases true b is = inl refl
or_cases false b is = inr (refl, is)

or_none : (a b : Bool) → a || b ≡ false → (a ≡ false) × (b ≡ false)
or_none true b is = absurd (let same : true ≡ false = is in cc)
or_none false b is = (refl, is)

bool_cases : (b : Bool) → (b ≡ true) ⊎ (b ≡ false)
bool_cases true = inl refl
bool_cases false = inr refl

-- one more range
pub refills_more : (fill : ℕ) (ranges : List Range) (range : Range) (old middle new : List ℕ) → Refills fill (covers ranges) (λ i. false) old middle
    → Refills fill (is_within range.at range.len) (λ i. false) middle new → Refills fill (covers (ranges ++ range ∷ [])) (λ i. false) old new
refills_more fill ranges range old middle new first second = record {
  size = second.size ∙ first.size;
  filled = λ i lt is no. let is' : covers ranges i || is_within range.at range.len i ≡ true = sym (covers_push ranges range i) ∙ is in
      ⊎_elim (λ (here : is_within range.at range.len i ≡ true). second.filled i (omega (arith, lt, first.size)) here refl)
      (λ (apart : is_within range.at range.len i ≡ false). second.same i apart ∙ ⊎_elim (λ (was : covers ranges i ≡ true). first.filled i lt was refl)
      (λ (both : (covers ranges i ≡ false) × (is_within range.at range.len i ≡ true)). absurd (let same : false ≡ true = sym apart ∙ both.1 in cc)) (or_cases (covers ranges i) (is_within range.at range.len i) is'))
      (bool_cases (is_within range.at range.len i));
  spares = λ i is. absurd (let same : false ≡ true = is in cc);
  same = λ i no. let none = or_none (covers ranges i) (is_within range.at range.len i) (sym (covers_push ranges range i) ∙ no) in second.same i none.1 ∙ first.same i none.0;
}

module _ (old filled : List ℕ) (at n : ℕ) (size : length filled ≡ length old) where
  pub put_size : length (put filled (min at (length old)) (slice_of old (min at (length old)) n)) ≡ length old
  put_size = grind (arith, places)

  pub put_inside : (i : ℕ) → at ≤ i → i < at + n → i < length old → get_or (put filled (min at (length old)) (slice_of old (min at (length old)) n)) i 0 ≡ get_or old i 0
  put_inside i le lt inside = grind (arith, places)

  pub put_outside : (i : ℕ) → (i < at) ⊎ (at + n ≤ i) → i < length old → get_or (put filled (min at (length old)) (slice_of old (min at (length old)) n)) i 0 ≡ get_or filled i 0
  put_outside i out inside = grind (arith, places)

within_cases : (at n i : ℕ) → is_within at n i ≡ true → (at ≤ i) × (i < at + n)
within_cases at n i is = (grind arith, grind arith)

outside_cases : (at n i : ℕ) → is_within at n i ≡ false → (i < at) ⊎ (at + n ≤ i)
outside_cases at n i is = ⊎_elim (λ below. inl below) (λ from. ⊎_elim (λ (inside : i < at + n). absurd (grind arith)) (λ above. inr above) (cases_lt i (at + n))) (cases_lt i at)

-- the spared range is put back
pub refills_within : (fill : ℕ) (pending : ℕ → Bool) (old filled : List ℕ) (at n : ℕ) → Refills fill pending (λ i. false) old filled
    → Refills fill pending (is_within at n) old (put filled (min at (length old)) (slice_of old (min at (length old)) n))
refills_within fill pending old filled at n was = record {
  size = put_size old filled at n was.size;
  filled = λ i lt is no. put_outside old filled at n was.size i (outside_cases at n i no) lt ∙ was.filled i lt is refl;
  spares = λ i is. ⊎_elim (λ (lt : i < length old). let w = within_cases at n i is in put_inside old filled at n was.size i w.0 w.1 lt)
      (λ (past : length old ≤ i). get_or_past _ i 0 (omega (arith, put_size old filled at n was.size)) ∙ sym (get_or_past old i 0 past)) (cases_lt i (length old));
  same = λ i no. ⊎_elim
      (λ (lt : i < length old). ⊎_elim (λ (is : is_within at n i ≡ true). let w = within_cases at n i is in put_inside old filled at n was.size i w.0 w.1 lt)
      (λ (is : is_within at n i ≡ false). put_outside old filled at n was.size i (outside_cases at n i is) lt ∙ was.same i no) (bool_cases (is_within at n i)))
      (λ (past : length old ≤ i). get_or_past _ i 0 (omega (arith, put_size old filled at n was.size)) ∙ sym (get_or_past old i 0 past)) (cases_lt i (length old));
}

none_within : (i : ℕ) → is_within 0 0 i ≡ false
none_within i = grind arith

pub refills_spared : (fill : ℕ) (pending : ℕ → Bool) (old filled : List ℕ) (spared : Option Range) (range : Range) → range ≡ unwrap_or spared (record { at = 0; len = 0 })
    → Refills fill pending (λ i. false) old filled
    → Refills fill pending (is_spared spared) old (put filled (min range.at (length old)) (slice_of old (min range.at (length old)) range.len))
refills_spared fill pending old filled (Some spared) range is was =
    subst (λ (r : Range). Refills fill pending (is_within spared.at spared.len) old (put filled (min r.at (length old)) (slice_of old (min r.at (length old)) r.len))) (sym is)
    (refills_within fill pending old filled spared.at spared.len was)
refills_spared fill pending old filled None range is was =
    let some = refills_within fill pending old filled range.at range.len was in
    let apart : (i : ℕ) → is_within range.at range.len i ≡ false = λ i. ap (λ (r : Range). is_within r.at r.len i) is ∙ none_within i in
    record {
      size = some.size;
      filled = λ i lt pends no. some.filled i lt pends (apart i);
      spares = λ i never. absurd (let same : false ≡ true = never in cc);
      same = some.same;
    }
