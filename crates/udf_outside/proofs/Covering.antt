-- Which offsets a list of ranges covers after one was added.
use Rattle.std.proofs.Common.{◌≡◌, ℕ, suc, ◌+◌, ◌-◌, ◌<◌, Bool, true, false, ◌||◌, List, [], ◌∷◌, ◌++◌, length, take, set, get_or, refl, sym, ◌∙◌, ap, arith}
use Rattle.std.proofs.lemmas.List.{take_more, take_all, set_split, drop_all}
use Rattle.udf_outside.specs.Stops.{is_within}
use Rattle.udf_outside.specs.Ranges.{covers}
use Rattle.udf_outside.specs.declared.memory.range.Range.{Range}

or_false : (b : Bool) → b || false ≡ b
or_false true = refl
or_false false = refl

or_assoc : (a b c : Bool) → (a || b) || c ≡ a || (b || c)
or_assoc true b c = refl
or_assoc false b c = refl

pub covers_push : (ranges : List Range) (range : Range) (i : ℕ) → covers (ranges ++ range ∷ []) i ≡ covers ranges i || is_within range.at range.len i
covers_push [] range i = or_false (is_within range.at range.len i)
covers_push (first ∷ ranges) range i =
    ap (λ (b : Bool). is_within first.at first.len i || b) (covers_push ranges range i) ∙ sym (or_assoc (is_within first.at first.len i) (covers ranges i) (is_within range.at range.len i))

pub last_of : (ranges : List Range) (last : Range) → 0 < length ranges → get_or ranges (length ranges - 1) last ≡ last → ranges ≡ take (length ranges - 1) ranges ++ last ∷ []
last_of ranges last some is =
    let i = length ranges - 1 in
    let lt : i < length ranges = omega arith in
    let more : i + 1 ≡ length ranges = omega arith in
    sym (take_all (length ranges) ranges (omega arith)) ∙ ap (λ (n : ℕ). take n ranges) (sym more) ∙ take_more ranges i last lt ∙ ap (λ (r : Range). take i ranges ++ r ∷ []) is

pub set_last : (ranges : List Range) (joined : Range) → 0 < length ranges → set ranges (length ranges - 1) joined ≡ take (length ranges - 1) ranges ++ joined ∷ []
set_last ranges joined some =
    let lt : length ranges - 1 < length ranges = omega arith in
    set_split ranges (length ranges - 1) joined lt ∙ ap (λ (l : List Range). take (length ranges - 1) ranges ++ joined ∷ l) (drop_all (suc (length ranges - 1)) ranges (omega arith))

pub covers_joined : (ranges : List Range) (last range joined : Range) (i n : ℕ) → n ≡ length ranges → 0 < n → get_or ranges (n - 1) last ≡ last
    → is_within joined.at joined.len i ≡ is_within last.at last.len i || is_within range.at range.len i
    → covers (set ranges (n - 1) joined) i ≡ covers ranges i || is_within range.at range.len i
covers_joined ranges last range joined i n size some is joins =
    let front = take (length ranges - 1) ranges in
    let some' : 0 < length ranges = omega arith in
    let is' : get_or ranges (length ranges - 1) last ≡ last = ap (λ (m : ℕ). get_or ranges (m - 1) last) (sym size) ∙ is in
    ap (λ (m : ℕ). covers (set ranges (m - 1) joined) i) size ∙ ap (λ (l : List Range). covers l i) (set_last ranges joined some') ∙ covers_push front joined i ∙ ap (λ (b : Bool). covers front i || b) joins
    ∙ sym (or_assoc (covers front i) (is_within last.at last.len i) (is_within range.at range.len i))
    ∙ ap (λ (b : Bool). b || is_within range.at range.len i) (sym (covers_push front last i) ∙ ap (λ (l : List Range). covers l i) (sym (last_of ranges last some' is')))
