-- The descriptors of a cut body are the trimmed descriptors.
use Rattle.std.proofs.Common.{◌≡◌, ℕ, zero, suc, Bool, true, false, cond, ◌+◌, ◌-◌, ◌<◌, ◌≤◌, ◌==◌, nat_lt, Some, None, List, [], ◌∷◌, arith, sym, ◌∙◌, ap, refl, subst}
use Rattle.std.proofs.lemmas.Bool.Decides.{nat_tests}
use Rattle.udf_file_model.specs.Descriptors.{Descriptor, descriptors_from}
use Rattle.udf_file_model.specs.Pieces.{bytes_in}
use Rattle.udf_file_model.specs.CutBody.{kept_count, last_length}
use Rattle.udf_file_model.specs.Cut.{trim, Onward, onward}

some_is_none : (o : Onward) → Some o ≡ None → ⊥
some_is_none o e = cc

-- one that goes on elsewhere stays
pub trim_stays : (ds : List Descriptor) (b : ℕ) (o : Onward) → onward b ds ≡ Some o → trim b ds ≡ ds
unfolding onward trim
trim_stays [] b o e = refl
trim_stays (d ∷ ds) b o e = choose (d.kind == 3) (nat_lt d.length b) e (λ x. trim_stays ds (b - d.length) o x)
  where
    none_is_some : None ≡ Some o → ⊥
    none_is_some e = cc

    choose : (k l : Bool) → cond k (Some (record { next = d.at; left = b })) (cond l (onward (b - d.length) ds) None) ≡ Some o
        → (onward (b - d.length) ds ≡ Some o → trim (b - d.length) ds ≡ ds)
        → cond k (d ∷ ds) (cond l (d ∷ trim (b - d.length) ds) (record d { length = b } ∷ [])) ≡ d ∷ ds
    choose true l e on = refl
    choose false true e on = ap (λ t. d ∷ t) (on e)
    choose false false e on = absurd (none_is_some e)

-- one equation per branch
module _ (b : ℕ) (d : Descriptor) (ds : List Descriptor) where
  count_over : nat_lt d.length b ≡ true → kept_count b (d ∷ ds) ≡ suc (kept_count (b - d.length) ds)
  unfolding kept_count
  count_over e = rw e refl

  count_last : nat_lt d.length b ≡ false → kept_count b (d ∷ ds) ≡ 1
  unfolding kept_count
  count_last e = rw e refl

  last_over : nat_lt d.length b ≡ true → last_length b (d ∷ ds) ≡ last_length (b - d.length) ds
  unfolding last_length
  last_over e = rw e refl

  last_last : nat_lt d.length b ≡ false → last_length b (d ∷ ds) ≡ b
  unfolding last_length
  last_last e = rw e refl

  trim_over : (d.kind == 3) ≡ false → nat_lt d.length b ≡ true → trim b (d ∷ ds) ≡ d ∷ trim (b - d.length) ds
  unfolding trim
  trim_over e f = rw (e, f) refl

  trim_last : (d.kind == 3) ≡ false → nat_lt d.length b ≡ false → trim b (d ∷ ds) ≡ record d { length = b } ∷ []
  unfolding trim
  trim_last e f = rw (e, f) refl

-- what a cut to b more bytes inside a body is
pub record IsInside (b : ℕ) (ds : List Descriptor) : Type 0 where
  pub some : 0 < b
  pub within : b ≤ bytes_in ds
  pub ends : onward b ds ≡ None

-- a cut inside a body that begins with a descriptor
data Inside (b : ℕ) (d : Descriptor) (ds : List Descriptor) : Type 0 where
  Over : (d.kind == 3) ≡ false → nat_lt d.length b ≡ true → IsInside (b - d.length) ds → Inside b d ds
  Last : (d.kind == 3) ≡ false → nat_lt d.length b ≡ false → Inside b d ds

inside : (b : ℕ) (d : Descriptor) (ds : List Descriptor) → IsInside b (d ∷ ds) → Inside b d ds
unfolding onward
inside b d ds h = choose (d.kind == 3) (nat_lt d.length b) refl refl h.ends
  where
    below : (m n : ℕ) → nat_lt m n ≡ true → m < n
    below m n h = grind (arith, nat_tests)

    choose : (k l : Bool) → (d.kind == 3) ≡ k → nat_lt d.length b ≡ l → cond k (Some (record { next = d.at; left = b })) (cond l (onward (b - d.length) ds) None) ≡ None → Inside b d ds
    choose true l p q e = absurd (some_is_none (record { next = d.at; left = b }) e)
    choose false true p q e =
        let z = below d.length b q in
        Over p q (record { some = omega arith; within = omega (arith, h.within); ends = e })
    choose false false p q e = Last p q

-- the descriptors kept, and the length of the last
pub count_some : (ds : List Descriptor) (b : ℕ) → IsInside b ds → 0 < kept_count b ds
count_some [] b h = absurd (omega (arith, h.some, h.within))
count_some (d ∷ ds) b h = choose (nat_lt d.length b) refl
  where
    choose : (l : Bool) → nat_lt d.length b ≡ l → 0 < kept_count b (d ∷ ds)
    choose true e = let z = count_over b d ds e in omega (arith, z)
    choose false e = let z = count_last b d ds e in omega (arith, z)

pub last_is_small : (ds : List Descriptor) (b : ℕ) → IsInside b ds → 0 < last_length b ds
last_is_small [] b h = absurd (omega (arith, h.some, h.within))
last_is_small (d ∷ ds) b h = choose (inside b d ds h) (λ x. last_is_small ds (b - d.length) x)
  where
    choose : Inside b d ds → (IsInside (b - d.length) ds → 0 < last_length (b - d.length) ds) → 0 < last_length b (d ∷ ds)
    choose (Over k l i) on = let z = last_over b d ds l in omega (arith, z, on i)
    choose (Last k l) on = let z = last_last b d ds l in omega (arith, z, h.some)

module _ (at : ℕ → Descriptor) where
  from_none : (i n : ℕ) → ((at i).length == 0) ≡ true → descriptors_from at i (suc n) ≡ []
  unfolding descriptors_from
  from_none i n e = rw e refl

  from_some : (i n : ℕ) → ((at i).length == 0) ≡ false → descriptors_from at i (suc n) ≡ at i ∷ descriptors_from at (i + 1) n
  unfolding descriptors_from
  from_some i n e = rw e refl

  from_zero : (i : ℕ) → descriptors_from at i zero ≡ []
  unfolding descriptors_from
  from_zero i = refl

  -- the last kept descriptor is among those read, and not shorter than what is left of it
  pub kept_within : (n i b : ℕ) → IsInside b (descriptors_from at i n) → kept_count b (descriptors_from at i n) ≤ n
  kept_within zero i b h = absurd (omega (arith, h.some, h.within, ap bytes_in (from_zero i)))
  kept_within (suc n) i b h = choose ((at i).length == 0) refl (λ x. kept_within n (i + 1) (b - (at i).length) x)
    where
      rest : List Descriptor
      rest = descriptors_from at (i + 1) n

      by_inside : ((at i).length == 0) ≡ false → Inside b (at i) (descriptors_from at (i + 1) n)
          → (IsInside (b - (at i).length) (descriptors_from at (i + 1) n) → kept_count (b - (at i).length) (descriptors_from at (i + 1) n) ≤ n)
          → kept_count b (descriptors_from at i (suc n)) ≤ suc n
      by_inside e (Over k l x) on = let z = ap (kept_count b) (from_some i n e) ∙ count_over b (at i) (descriptors_from at (i + 1) n) l in omega (arith, z, on x)
      by_inside e (Last k l) on = let z = ap (kept_count b) (from_some i n e) ∙ count_last b (at i) (descriptors_from at (i + 1) n) l in omega (arith, z)

      choose : (t : Bool) → ((at i).length == 0) ≡ t
          → (IsInside (b - (at i).length) (descriptors_from at (i + 1) n) → kept_count (b - (at i).length) (descriptors_from at (i + 1) n) ≤ n)
          → kept_count b (descriptors_from at i (suc n)) ≤ suc n
      choose true e on = absurd (omega (arith, h.some, h.within, ap bytes_in (from_none i n e)))
      choose false e on =
          let P : List Descriptor → Type 0 = λ l. IsInside b l in
          by_inside e (inside b (at i) (descriptors_from at (i + 1) n) (subst P (from_some i n e) h)) on

  pub last_below : (top n i b : ℕ) → ((j : ℕ) → (at j).length < top) → IsInside b (descriptors_from at i n) → last_length b (descriptors_from at i n) < top
  last_below top zero i b low h = absurd (omega (arith, h.some, h.within, ap bytes_in (from_zero i)))
  last_below top (suc n) i b low h = choose ((at i).length == 0) refl (λ x. last_below top n (i + 1) (b - (at i).length) low x)
    where
      above : (m n : ℕ) → nat_lt m n ≡ false → n ≤ m
      above m n h = grind (arith, nat_tests)

      by_inside : ((at i).length == 0) ≡ false → Inside b (at i) (descriptors_from at (i + 1) n)
          → (IsInside (b - (at i).length) (descriptors_from at (i + 1) n) → last_length (b - (at i).length) (descriptors_from at (i + 1) n) < top)
          → last_length b (descriptors_from at i (suc n)) < top
      by_inside e (Over k l x) on = let z = ap (last_length b) (from_some i n e) ∙ last_over b (at i) (descriptors_from at (i + 1) n) l in omega (arith, z, on x)
      by_inside e (Last k l) on =
          let z = ap (last_length b) (from_some i n e) ∙ last_last b (at i) (descriptors_from at (i + 1) n) l in
          omega (arith, z, above (at i).length b l, low i)

      choose : (t : Bool) → ((at i).length == 0) ≡ t
          → (IsInside (b - (at i).length) (descriptors_from at (i + 1) n) → last_length (b - (at i).length) (descriptors_from at (i + 1) n) < top)
          → last_length b (descriptors_from at i (suc n)) < top
      choose true e on = absurd (omega (arith, h.some, h.within, ap bytes_in (from_none i n e)))
      choose false e on =
          let P : List Descriptor → Type 0 = λ l. IsInside b l in
          by_inside e (inside b (at i) (descriptors_from at (i + 1) n) (subst P (from_some i n e) h)) on

-- another body has the first k descriptors, the last of them with another length
pub record HasFirst (at new : ℕ → Descriptor) (i k last : ℕ) : Type 0 where
  pub before : (j : ℕ) → i ≤ j → suc j < i + k → new j ≡ at j
  pub end : (j : ℕ) → suc j ≡ i + k → new j ≡ record (at j) { length = last }

pub trim_from : (at new : ℕ → Descriptor) (n i b : ℕ) → IsInside b (descriptors_from at i n)
    → HasFirst at new i (kept_count b (descriptors_from at i n)) (last_length b (descriptors_from at i n))
    → descriptors_from new i (kept_count b (descriptors_from at i n)) ≡ trim b (descriptors_from at i n)
trim_from at new zero i b h f = absurd (omega (arith, h.some, h.within, ap bytes_in (from_zero at i)))
trim_from at new (suc n) i b h f = choose ((at i).length == 0) refl (λ x y. trim_from at new n (i + 1) (b - (at i).length) x y)
  where
    Goal : List Descriptor → Type 0
    Goal l = descriptors_from new i (kept_count b l) ≡ trim b l

    Known : List Descriptor → Type 0
    Known l = HasFirst at new i (kept_count b l) (last_length b l)

    by_inside : ((at i).length == 0) ≡ false → Inside b (at i) (descriptors_from at (i + 1) n)
        → HasFirst at new i (kept_count b (at i ∷ descriptors_from at (i + 1) n)) (last_length b (at i ∷ descriptors_from at (i + 1) n))
        → (IsInside (b - (at i).length) (descriptors_from at (i + 1) n)
        → HasFirst at new (i + 1) (kept_count (b - (at i).length) (descriptors_from at (i + 1) n)) (last_length (b - (at i).length) (descriptors_from at (i + 1) n))
        → descriptors_from new (i + 1) (kept_count (b - (at i).length) (descriptors_from at (i + 1) n)) ≡ trim (b - (at i).length) (descriptors_from at (i + 1) n))
        → descriptors_from new i (kept_count b (at i ∷ descriptors_from at (i + 1) n)) ≡ trim b (at i ∷ descriptors_from at (i + 1) n)
    by_inside e (Over k l x) f on =
        let rest = descriptors_from at (i + 1) n in
        let c = count_over b (at i) rest l in
        let z = last_over b (at i) rest l in
        let p = count_some rest (b - (at i).length) x in
        let same : new i ≡ at i = f.before i (omega arith) (omega (arith, c, p)) in
        let more = on x (record { before = λ j v w. f.before j (omega arith) (omega (arith, c)); end = λ j v. f.end j (omega (arith, c)) ∙ ap (λ t. record (at j) { length = t }) z }) in
        ap (descriptors_from new i) c
        ∙ from_some new i (kept_count (b - (at i).length) rest) (ap (λ (d : Descriptor). d.length == 0) same ∙ e)
        ∙ ap (λ d. d ∷ descriptors_from new (i + 1) (kept_count (b - (at i).length) rest)) same
        ∙ ap (λ t. at i ∷ t) more
        ∙ sym (trim_over b (at i) rest k l)
    by_inside e (Last k l) f on =
        let rest = descriptors_from at (i + 1) n in
        let c = count_last b (at i) rest l in
        let same : new i ≡ record (at i) { length = b } = f.end i (omega (arith, c)) ∙ ap (λ t. record (at i) { length = t }) (last_last b (at i) rest l) in
        ap (descriptors_from new i) c
        ∙ from_some new i 0 (ap (λ (d : Descriptor). d.length == 0) same ∙ nonzero b h.some)
        ∙ ap (λ d. d ∷ descriptors_from new (i + 1) 0) same
        ∙ ap (λ t. record (at i) { length = b } ∷ t) (from_zero new (i + 1))
        ∙ sym (trim_last b (at i) rest k l)
      where
        nonzero : (n : ℕ) → 0 < n → (n == 0) ≡ false
        nonzero n h = grind (arith, nat_tests)

    choose : (t : Bool) → ((at i).length == 0) ≡ t
        → (IsInside (b - (at i).length) (descriptors_from at (i + 1) n)
        → HasFirst at new (i + 1) (kept_count (b - (at i).length) (descriptors_from at (i + 1) n)) (last_length (b - (at i).length) (descriptors_from at (i + 1) n))
        → descriptors_from new (i + 1) (kept_count (b - (at i).length) (descriptors_from at (i + 1) n)) ≡ trim (b - (at i).length) (descriptors_from at (i + 1) n))
        → descriptors_from new i (kept_count b (descriptors_from at i (suc n))) ≡ trim b (descriptors_from at i (suc n))
    choose true e on = absurd (omega (arith, h.some, h.within, ap bytes_in (from_none at i n e)))
    choose false e on =
        let P : List Descriptor → Type 0 = λ l. IsInside b l in
        let Q : List Descriptor → Type 0 = λ l. HasFirst at new i (kept_count b l) (last_length b l) in
        let R : List Descriptor → Type 0 = λ l. descriptors_from new i (kept_count b l) ≡ trim b l in
        subst R (sym (from_some at i n e))
        (by_inside e (inside b (at i) (descriptors_from at (i + 1) n) (subst P (from_some at i n e) h)) (subst Q (from_some at i n e) f) on)
