-- Of some tables one prevails, or none is whole.
use Rattle.std.proofs.Common.{◌≡◌, ◌⊎◌, inl, inr, ℕ, zero, suc, ◌+◌, ◌<◌, ◌≤◌, arith, refl, sym, ◌∙◌, subst, Option, Some, None}
use Rattle.std.proofs.lemmas.Bool.{cases_lt}
use Rattle.udf_layer.specs.Prevailing.{Prevails}
use Rattle.udf_layer.proofs.Prevails.{highest_prevails, none_prevails}
use Rattle.udf_volume_model.specs.SparingTable.{prevailing_table}

module _ (numbers : ℕ → Option ℕ) where
  abbrev NoneWhole : ℕ → Type 0
  NoneWhole count = (k : ℕ) → k < count → numbers k ≡ None

  last_or_before : (P : ℕ → Type 0) (n : ℕ) → ((k : ℕ) → k < n → P k) → P n → (k : ℕ) → k < n + 1 → P k
  last_or_before P n before last k h = elim (cases_lt k n) [
    | inl less ↦ before k less
    | inr more ↦ let same : n ≡ k = omega arith in subst P same last
  ]

  same_number : (k n m : ℕ) → numbers k ≡ Some n → numbers k ≡ Some m → n ≡ m
  same_number k n m e f = let s : Some n ≡ Some m = sym e ∙ f in cc

  one_more : (n : ℕ) (o : Option ℕ) → numbers n ≡ o → NoneWhole n ⊎ ((best : ℕ) × Prevails numbers n best)
      → NoneWhole (n + 1) ⊎ ((best : ℕ) × Prevails numbers (n + 1) best)
  one_more n None e (inl none) = inl (last_or_before (λ k. numbers k ≡ None) n none e)
  one_more n (Some m) e (inl none) = inr (
    n,
    record {
      within = omega arith;
      number = m;
      whole = e;
      highest = last_or_before (λ k. (x : ℕ) → numbers k ≡ Some x → x ≤ m) n (λ k h x f. let no = none k h in let s : Some x ≡ None = sym f ∙ no in cc)
          (λ x f. omega (arith, same_number n x m f e));
      earliest = λ k x h f. let no = none k h in let s : Some x ≡ None = sym f ∙ no in cc;
    },
  )
  one_more n None e (inr (best, is)) = inr (
    best,
    record {
      within = omega (arith, is.within);
      number = is.number;
      whole = is.whole;
      highest = last_or_before (λ k. (x : ℕ) → numbers k ≡ Some x → x ≤ is.number) n is.highest (λ x f. let s : Some x ≡ None = sym f ∙ e in cc);
      earliest = is.earliest;
    },
  )
  one_more n (Some m) e (inr (best, is)) = elim (cases_lt is.number m) [
    | inl higher ↦ inr (
      n,
      record {
        within = omega arith;
        number = m;
        whole = e;
        highest = last_or_before (λ k. (x : ℕ) → numbers k ≡ Some x → x ≤ m) n (λ k h x f. omega (arith, is.highest k h x f))
            (λ x f. omega (arith, same_number n x m f e));
        earliest = λ k x h f. omega (arith, is.highest k h x f);
      },
    )
    | inr stays ↦ inr (
      best,
      record {
        within = omega (arith, is.within);
        number = is.number;
        whole = is.whole;
        highest = last_or_before (λ k. (x : ℕ) → numbers k ≡ Some x → x ≤ is.number) n is.highest (λ x f. omega (arith, same_number n x m f e));
        earliest = is.earliest;
      },
    )
  ]

  none_or_best : (count : ℕ) → NoneWhole count ⊎ ((best : ℕ) × Prevails numbers count best)
  none_or_best zero = inl (λ k h. absurd (omega arith))
  none_or_best (suc n) =
      let same : n + 1 ≡ suc n = omega arith in
      let P : ℕ → Type 0 = λ c. NoneWhole c ⊎ ((best : ℕ) × Prevails numbers c best) in
      subst P same (one_more n (numbers n) refl (none_or_best n))

  pub prevails : (count best : ℕ) → prevailing_table numbers count ≡ Some best → Prevails numbers count best
  prevails count best e = elim (none_or_best count) [
    | inl none ↦ let no = none_prevails numbers count none in let s : Some best ≡ None = sym e ∙ no in absurd (cc)
    | inr w ↦ let yes = highest_prevails numbers count w.0 w.1 in
        let s : Some w.0 ≡ Some best = sym yes ∙ e in let same : w.0 ≡ best = cc in
        subst (Prevails numbers count) same w.1
  ]

  pub none_whole : (count : ℕ) → prevailing_table numbers count ≡ None → NoneWhole count
  none_whole count e = elim (none_or_best count) [
    | inl none ↦ none
    | inr w ↦ let yes = highest_prevails numbers count w.0 w.1 in let s : Some w.0 ≡ None = sym yes ∙ e in absurd (cc)
  ]
