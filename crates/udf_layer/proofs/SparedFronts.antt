-- How much of a run is placed in a sparable partition.
use Rattle.std.proofs.Common.{◌≡◌, ℕ, ◌+◌, ◌-◌, ◌<◌, ◌≤◌, Bool, true, false, nat_lt, cond, Option, Some, None, is_some, List, arith, refl, sym, ap, ◌∙◌, subst}
use Rattle.std.proofs.lemmas.Bool.Decides.{nat_tests}
use Rattle.udf_file_model.specs.Place.{Place, or_else, placed_front, spared_to, sparable_place}
use Rattle.udf_file_model.proofs.Fronts.{front_is, front_means}

none_is : (o : Option ℕ) → is_some o ≡ false → o ≡ None
none_is None h = refl
none_is (Some s) h = absurd (cc)

some_is : (o : Option ℕ) → is_some o ≡ true → (s : ℕ) × (o ≡ Some s)
some_is None h = absurd (cc)
some_is (Some s) h = (s, refl)

or_later : (o other : Option ℕ) → is_some other ≡ true → is_some (or_else o other) ≡ true
or_later None other h = h
or_later (Some s) other h = refl

or_first : (o other : Option ℕ) → is_some o ≡ true → is_some (or_else o other) ≡ true
or_first None other h = absurd (cc)
or_first (Some s) other h = refl

or_neither : (o other : Option ℕ) → o ≡ None → other ≡ None → or_else o other ≡ None
or_neither None other e h = h
or_neither (Some s) other e h = absurd (cc)

within_by : (b : Bool) (n count : ℕ) (o : Option ℕ) → nat_lt n count ≡ b → n < count → cond b o None ≡ o
within_by true n count o e h = refl
within_by false n count o e h = absurd (grind (arith, nat_tests))

beyond_by : (b : Bool) (n count : ℕ) (o : Option ℕ) → nat_lt n count ≡ b → count ≤ n → cond b o None ≡ None
beyond_by true n count o e h = absurd (grind (arith, nat_tests))
beyond_by false n count o e h = refl

module _ (packet : ℕ) (pairs : List (ℕ × ℕ)) (count : ℕ) (below : Place) where
  stands : (n : ℕ) → n < count → sparable_place packet pairs count below n ≡ or_else (spared_to packet pairs n) (below n)
  unfolding sparable_place
  stands n h = within_by (nat_lt n count) n count (or_else (spared_to packet pairs n) (below n)) refl h

  beyond : (n : ℕ) → count ≤ n → sparable_place packet pairs count below n ≡ None
  unfolding sparable_place
  beyond n h = beyond_by (nat_lt n count) n count (or_else (spared_to packet pairs n) (below n)) refl h

  -- what the layer below places together stands at sectors
  pub run_stands : ((n s : ℕ) → below n ≡ Some s → n < count) → (block many run k : ℕ) → run ≡ placed_front below block many → k < run
      → is_some (sparable_place packet pairs count below (block + k)) ≡ true
  run_stands within block many run k e h =
      let placed = (front_means below block many run (sym e)).placed k h in
      let there = some_is (below (block + k)) placed in
      ap (λ o. is_some o) (stands (block + k) (within (block + k) there.0 there.1)) ∙ or_later (spared_to packet pairs (block + k)) (below (block + k)) placed

  pub run_most : (block many run : ℕ) → run ≡ placed_front below block many → run ≤ many
  run_most block many run e = (front_means below block many run (sym e)).within

  -- so does a block whose packet is mapped
  pub spared_stands : (block k : ℕ) → block < count → k < 1 → is_some (spared_to packet pairs block) ≡ true
      → is_some (sparable_place packet pairs count below (block + k)) ≡ true
  spared_stands block k inside one spared =
      let same : block ≡ block + k = omega arith in
      let P : ℕ → Type 0 = λ n. is_some (sparable_place packet pairs count below n) ≡ true in
      subst P same (ap (λ o. is_some o) (stands block inside) ∙ or_first (spared_to packet pairs block) (below block) spared)

  -- a block that is neither mapped nor placed below stands nowhere
  pub stands_nowhere : (block many run : ℕ) → block < count → 0 < many → run ≡ placed_front below block many → run ≡ 0
      → is_some (spared_to packet pairs block) ≡ false → sparable_place packet pairs count below block ≡ None
  stands_nowhere block many run inside some e zero_run off =
      let same : block + 0 ≡ block = omega arith in
      let P : ℕ → Type 0 = λ n. below n ≡ None in
      let none : below block ≡ None = subst P same ((front_means below block many 0 (sym (sym zero_run ∙ e))).ends some) in
      stands block inside ∙ or_neither (spared_to packet pairs block) (below block) (none_is (spared_to packet pairs block) off) none

  -- from step to step
  pub further : (block front step : ℕ) → ((k : ℕ) → k < front → is_some (sparable_place packet pairs count below (block + k)) ≡ true)
      → ((k : ℕ) → k < step → is_some (sparable_place packet pairs count below ((block + front) + k)) ≡ true)
      → (k : ℕ) → k < front + step → is_some (sparable_place packet pairs count below (block + k)) ≡ true
  further block front step here there k h = by (nat_lt k front) refl
    where
      by : (b : Bool) → nat_lt k front ≡ b → is_some (sparable_place packet pairs count below (block + k)) ≡ true
      by true e = here k (grind (arith, nat_tests))
      by false e =
          let later : front ≤ k = grind (arith, nat_tests) in
          let same : (block + front) + (k - front) ≡ block + k = omega arith in
          let P : ℕ → Type 0 = λ n. is_some (sparable_place packet pairs count below n) ≡ true in
          subst P same (there (k - front) (omega arith))

  module _ (block many front : ℕ) (most : front ≤ many) (here : (k : ℕ) → k < front → is_some (sparable_place packet pairs count below (block + k)) ≡ true) where
    pub ends_at_gap : sparable_place packet pairs count below (block + front) ≡ None → front ≡ placed_front (sparable_place packet pairs count below) block many
    ends_at_gap gap = sym (front_is (sparable_place packet pairs count below) block many front most here (λ h. gap))

    pub ends_beyond : count ≤ block + front → front ≡ placed_front (sparable_place packet pairs count below) block many
    ends_beyond past = ends_at_gap (beyond (block + front) past)

    pub ends_whole : many ≤ front → front ≡ placed_front (sparable_place packet pairs count below) block many
    ends_whole whole = sym (front_is (sparable_place packet pairs count below) block many front most here (λ h. absurd (omega arith)))
