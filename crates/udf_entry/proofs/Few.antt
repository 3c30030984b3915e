-- Allocation extents are few: they stand at different blocks of two partitions.
use Rattle.std.proofs.Common.{◌≡◌, ℕ, zero, suc, Bool, true, false, ◌||◌, ◌&&◌, ◌+◌, ◌*◌, ◌<◌, ◌≤◌, ◌==◌, eqb, List, [], ◌∷◌, ◌++◌, map, length, Option, Some, None, arith, sym, ◌∙◌, ap, refl, subst, inl, inr, ◌⊎◌}
use Rattle.std.specs.List.{list_any, IsDistinct}
use Rattle.std.specs.Cmp.{nat_eq_equiv}
use Rattle.std.proofs.lemmas.List.{map-append, length-map}
use Rattle.std.proofs.lemmas.Bool.Decides.{nat_tests}
use Rattle.std.proofs.lemmas.Map.Keys.{IsDistinct-push}
use Rattle.std.proofs.lemmas.Map.Steps.{length-le_from_distinct_below}
use Rattle.udf_field.specs.declared.address.Addr.{Addr}
use Rattle.udf_file_model.specs.Address.{same_addr}

module _ (place : Addr → Option ℕ) (blocks : ℕ) where
  abbrev sector_by : Option ℕ → ℕ
  sector_by None = 0
  sector_by (Some s) = s

  -- a number below twice the blocks for each placed address of two partitions
  abbrev code : Addr → ℕ
  code x = x.part * blocks + sector_by (place x)

  -- the address stands at a block of the image, in one of two partitions
  pub record IsPlaced (x : Addr) : Type 0 where
    pub sector : ℕ
    pub here : place x ≡ Some sector
    pub inside : sector < blocks
    pub few : x.part < 2

  abbrev pub ArePlaced : List Addr → Type 0
  ArePlaced [] = Unit {0}
  ArePlaced (x ∷ xs) = IsPlaced x × ArePlaced xs

  pub record Spread (xs : List Addr) : Type 0 where
    pub placed : ArePlaced xs
    pub distinct : IsDistinct eqb (map code xs)
    pub below : (q : ℕ) → list_any (eqb q) (map code xs) ≡ true → q < 2 * blocks

  pub spread_none : Spread []
  unfolding IsDistinct
  spread_none = record { placed = tt; distinct = tt; below = λ q h. absurd (cc) }

  code_is : (x : Addr) (p : IsPlaced x) → code x ≡ x.part * blocks + p.sector
  code_is x p = ap (λ o. x.part * blocks + sector_by o) p.here

  code_below : (x : Addr) → IsPlaced x → code x < 2 * blocks
  code_below x p = below_by x.part p.few (code_is x p)
    where
      below_by : (part : ℕ) → part < 2 → code x ≡ part * blocks + p.sector → code x < 2 * blocks
      below_by zero h e = omega (arith, e, p.inside)
      below_by (suc zero) h e = omega (arith, e, p.inside)
      below_by (suc (suc n)) h e = absurd (omega arith)

  -- different addresses have different numbers
  code_apart : ((a b : Addr) (s : ℕ) → a.part ≡ b.part → place a ≡ Some s → place b ≡ Some s → a ≡ b)
      → (x y : Addr) → IsPlaced x → IsPlaced y → same_addr x y ≡ false → eqb (code x) (code y) ≡ false
  code_apart apart x y p q off = test (λ e. differ x.part y.part refl refl p.few q.few (sym (code_is x p) ∙ e ∙ code_is y q))
    where
      test : (code x ≡ code y → ⊥) → eqb (code x) (code y) ≡ false
      test h = grind (arith, nat_tests)

      same_true : (a b : Addr) → a ≡ b → same_addr a b ≡ true
      same_true a b e =
          let u : (a.part == b.part) ≡ true = grind (arith, nat_tests, ap (λ z. z.part) e) in
          let v : (a.block == b.block) ≡ true = grind (arith, nat_tests, ap (λ z. z.block) e) in
          ap (λ z. z && (a.block == b.block)) u ∙ v

      true_false : {P : Type 0} (b : Bool) → b ≡ true → b ≡ false → P
      true_false b e f = absurd (cc)

      same_part : x.part ≡ y.part → p.sector ≡ q.sector → ⊥
      same_part e f = true_false (same_addr x y) (same_true x y (apart x y q.sector e (p.here ∙ ap Some f) q.here)) off

      differ : (m n : ℕ) → x.part ≡ m → y.part ≡ n → m < 2 → n < 2 → m * blocks + p.sector ≡ n * blocks + q.sector → ⊥
      differ zero zero e f g h same = same_part (e ∙ sym f) (omega (arith, same))
      differ zero (suc zero) e f g h same = omega (arith, same, p.inside)
      differ (suc zero) zero e f g h same = omega (arith, same, q.inside)
      differ (suc zero) (suc zero) e f g h same = same_part (e ∙ sym f) (omega (arith, same))
      differ (suc (suc m)) n e f g h same = omega arith
      differ zero (suc (suc n)) e f g h same = omega arith
      differ (suc zero) (suc (suc n)) e f g h same = omega arith

  or_none : (a b : Bool) → (a || b) ≡ false → (a ≡ false) × (b ≡ false)
  or_none true b h = absurd (cc)
  or_none false b h = (refl, h)

  none_same : ((a b : Addr) (s : ℕ) → a.part ≡ b.part → place a ≡ Some s → place b ≡ Some s → a ≡ b)
      → (x : Addr) → IsPlaced x → (xs : List Addr) → ArePlaced xs → list_any (same_addr x) xs ≡ false → list_any (eqb (code x)) (map code xs) ≡ false
  none_same apart x p [] all off = refl
  none_same apart x p (y ∷ xs) all off =
      let t = or_none (same_addr x y) (list_any (same_addr x) xs) off in
      both_false (eqb (code x) (code y)) (list_any (eqb (code x)) (map code xs)) (code_apart apart x y p all.0 t.0) (none_same apart x p xs all.1 t.1)
    where
      both_false : (a b : Bool) → a ≡ false → b ≡ false → (a || b) ≡ false
      both_false true b e f = e
      both_false false b e f = f

  placed_push : (xs : List Addr) (x : Addr) → ArePlaced xs → IsPlaced x → ArePlaced (xs ++ x ∷ [])
  placed_push [] x all p = (p, tt)
  placed_push (y ∷ xs) x all p = (all.0, placed_push xs x all.1 p)

  any_push : (test : ℕ → Bool) (xs : List ℕ) (x : ℕ) → list_any test (xs ++ x ∷ []) ≡ true → (list_any test xs ≡ true) ⊎ (test x ≡ true)
  any_push test [] x h = inr (or_or (test x) h)
    where
      or_or : (b : Bool) → (b || false) ≡ true → b ≡ true
      or_or true h = refl
      or_or false h = h
  any_push test (y ∷ ys) x h = choose (test y) h (any_push test ys x)
    where
      choose : (b : Bool) → (b || list_any test (ys ++ x ∷ [])) ≡ true
          → (list_any test (ys ++ x ∷ []) ≡ true → (list_any test ys ≡ true) ⊎ (test x ≡ true)) → ((b || list_any test ys) ≡ true) ⊎ (test x ≡ true)
      choose true h on = inl refl
      choose false h on = on h

  pub spread_more : ((a b : Addr) (s : ℕ) → a.part ≡ b.part → place a ≡ Some s → place b ≡ Some s → a ≡ b)
      → (xs : List Addr) (x : Addr) → Spread xs → IsPlaced x → list_any (same_addr x) xs ≡ false → Spread (xs ++ x ∷ [])
  spread_more apart xs x spread p off = record {
    placed = placed_push xs x spread.placed p;
    distinct =
        let P : List ℕ → Type 0 = λ l. IsDistinct eqb l in
        subst P (sym (map-append code xs (x ∷ [])))
        (IsDistinct-push nat_eq_equiv (map code xs) (code x) spread.distinct (none_same apart x p xs spread.placed off));
    below = λ q h. low q (any_push (eqb q) (map code xs) (code x) (ap (list_any (eqb q)) (sym (map-append code xs (x ∷ []))) ∙ h));
  }
    where
      low : (q : ℕ) → (list_any (eqb q) (map code xs) ≡ true) ⊎ (eqb q (code x) ≡ true) → q < 2 * blocks
      low q (inl h) = spread.below q h
      low q (inr h) = let e : q ≡ code x = grind (arith, nat_tests) in omega (arith, e, code_below x p)

  length_codes : (xs : List Addr) → length (map code xs) ≡ length xs
  length_codes xs = length-map xs code

  -- at most twice as many as the image has blocks
  pub spread_few : (xs : List Addr) → Spread xs → length xs ≤ 2 * blocks
  spread_few xs spread = omega (arith, length_codes xs, length-le_from_distinct_below (map code xs) (2 * blocks) spread.distinct spread.below)
