-- Torn contents, and what a torn write leaves: it comes from what could be left before.
use Rattle.std.proofs.Common.{◌≡◌, ◌⊎◌, inl, inr, ⊎_elim, ◌<◌, ◌≤◌, ℕ, ◌+◌, ◌-◌, min, max, Bool, false, ◌||◌, List, ◌++◌, length, drop, get_or, take, refl, sym, ◌∙◌, ap, arith}
use Rattle.std.proofs.lemmas.List.{same_lists, ext_get_or, places, get_or-take, get_or-drop}
use Rattle.std.proofs.lemmas.Bool.{cases_lt}
use Rattle.udf_outside.specs.Stops.{Content, Leaves, Torn, is_within}

pub torn_self : (at n : ℕ) (bytes : List ℕ) → Torn at n bytes bytes
torn_self at n bytes = record { before = refl; after = refl; no_shorter = omega arith; no_longer = omega arith }

torn_below : (at n i : ℕ) (old new : List ℕ) → Torn at n old new → i < at → get_or new i 0 ≡ get_or old i 0
torn_below at n i old new torn lt = sym (get_or-take at new i 0 lt) ∙ ap (λ (l : List ℕ). get_or l i 0) torn.before ∙ get_or-take at old i 0 lt

torn_above : (at n i : ℕ) (old new : List ℕ) → Torn at n old new → at + n ≤ i → get_or new i 0 ≡ get_or old i 0
torn_above at n i old new torn le =
    let place : at + n + (i - (at + n)) ≡ i = omega arith in
    let at_place : (l : List ℕ) → get_or (drop (at + n) l) (i - (at + n)) 0 ≡ get_or l i 0 = λ l. get_or-drop (at + n) l (i - (at + n)) 0 ∙ ap (λ (k : ℕ). get_or l k 0) place in
    sym (at_place new) ∙ ap (λ (l : List ℕ). get_or l (i - (at + n)) 0) torn.after ∙ at_place old

-- the bytes of v in the range, and those of c elsewhere
abbrev pub mixed : List ℕ → List ℕ → ℕ → ℕ → List ℕ
mixed v c at n = take at c ++ take n (drop at (take (length c) v)) ++ drop (at + n) c

module _ (v c : List ℕ) (at n : ℕ) (within : at ≤ length v) (bound : length c ≤ max (length v) (at + n)) where
  length_mixed : length (mixed v c at n) ≡ min (length c) (length v)
  length_mixed = grind (arith, places)

  mixed_before : (i : ℕ) → i < at → i < length (mixed v c at n) → get_or (mixed v c at n) i 0 ≡ get_or c i 0
  mixed_before i lt inside = grind (arith, places)

  mixed_after : (i : ℕ) → at + n ≤ i → i < length (mixed v c at n) → get_or (mixed v c at n) i 0 ≡ get_or c i 0
  mixed_after i le inside = grind (arith, places)

  mixed_in : (i : ℕ) → at ≤ i → i < at + n → i < length (mixed v c at n) → get_or (mixed v c at n) i 0 ≡ get_or v i 0
  mixed_in i le lt inside = grind (arith, places)

  mixed_torn : Torn at n (mixed v c at n) c
  mixed_torn = record {
    before = same_lists _ _ (grind (arith, places)) (λ k d h. grind (arith, places));
    after = same_lists _ _ (grind (arith, places)) (λ k d h. grind (arith, places));
    no_shorter = omega (arith, length_mixed);
    no_longer = omega (arith, length_mixed);
  }

pub is_outside : (at n i : ℕ) → (i < at) ⊎ (at + n ≤ i) → is_within at n i ≡ false
is_outside at n i (inl below) = grind arith
is_outside at n i (inr above) = grind arith

-- of a write in the range, the range pending
pub leaves_torn : (old new : Content) (at n : ℕ) → at ≤ length old.bytes → Torn at n old.bytes new.bytes → new.base ≡ old.base
    → ((i : ℕ) → new.pending i ≡ (old.pending i || is_within at n i)) → (c : List ℕ) → Leaves new c → (d : List ℕ) × Leaves old d × Torn at n d c
leaves_torn old new at n within torn base pending c left =
    let v = old.bytes in
    let bound : length c ≤ max (length v) (at + n) = omega (arith, left.no_longer, torn.no_longer) in
    let size : length (mixed v c at n) ≡ min (length c) (length v) = length_mixed v c at n within bound in
    let out : (i : ℕ) → i < length (mixed v c at n) → old.pending i ≡ false → (i < at) ⊎ (at + n ≤ i) → get_or c i 0 ≡ get_or new.bytes i 0 = λ i lt clear away.
    let apart : new.pending i ≡ false = pending i ∙ ap (λ (b : Bool). b || is_within at n i) clear ∙ is_outside at n i away in
    left.same i (omega (arith, lt, size)) apart in
    let same : (i : ℕ) → i < length (mixed v c at n) → old.pending i ≡ false → get_or (mixed v c at n) i 0 ≡ get_or v i 0 = λ i lt clear.
    ⊎_elim (λ below. mixed_before v c at n within bound i below lt ∙ out i lt clear (inl below) ∙ torn_below at n i v new.bytes torn below)
    (λ from. ⊎_elim (λ inside. mixed_in v c at n within bound i from inside lt)
    (λ behind. mixed_after v c at n within bound i behind lt ∙ out i lt clear (inr behind) ∙ torn_above at n i v new.bytes torn behind)
    (cases_lt i (at + n)))
    (cases_lt i at) in
    (mixed v c at n, record { no_shorter = omega (arith, size, left.no_shorter, base, torn.no_shorter); no_longer = omega (arith, size); same = same }, mixed_torn v c at n within bound)

pub leaves_self : (content : Content) → Leaves content content.bytes
leaves_self content = record { no_shorter = omega arith; no_longer = omega arith; same = λ i lt clear. refl }

pub leaves_synced : (content : Content) → content.base ≡ length content.bytes → ((i : ℕ) → content.pending i ≡ false) → (c : List ℕ) → Leaves content c → c ≡ content.bytes
leaves_synced content base clear c left = ext_get_or 0 c content.bytes (omega (arith, left.no_shorter, left.no_longer, base)) (λ i lt. left.same i lt (clear i))
