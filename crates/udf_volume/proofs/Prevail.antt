-- The best of a front, from descriptor to descriptor, and that the best of a whole list prevails.
use Rattle.std.proofs.Common.{◌≡◌, ◌⊎◌, inl, inr, ⊎_elim, ℕ, ◌+◌, ◌<◌, ◌≤◌, arith, refl, sym, ◌∙◌, ap, subst, List, [], length, get_or, Bool, true, false, cond, not, ◌&&◌, ◌||◌, Option, Some, None, eqb, leb, ltb}
use Rattle.std.specs.Prelude.{slice_get}
use Rattle.std.specs.Str.{bytes_eq}
use Rattle.std.specs.List.{position, position_or_len}
use Rattle.std.proofs.lemmas.Bool.{and_parts, and_from, eqb-true, le-leb, lt-leb, lt-ltb, ltb-false, cases_lt}
use Rattle.std.proofs.lemmas.Option.{slice_get_past, slice_get-get_or, get_or_from_slice_get}
use Rattle.std.proofs.lemmas.List.Sums.{position_or_len_is, list_all-from_AllPass}
use Rattle.std.proofs.lemmas.List.Folds.{list_all_at, find_at}
use Rattle.std.proofs.lemmas.Slice.Eq.{bytes_eq-Decides}
use Rattle.udf_volume_model.specs.Sequence.{Descriptor}
use Rattle.udf_volume_model.specs.Prevailing.{number_of, subject_of, is_of, is_highest, prevailing, prevailing_index}
use Rattle.udf_volume.specs.Best.{BestAt, IsBest}

-- one place holds one descriptor
one : (list : List Descriptor) (k : ℕ) (a b : Descriptor) → slice_get list k ≡ Some a → slice_get list k ≡ Some b → a ≡ b
one list k a b e f = let s : Some a ≡ Some b = sym e ∙ f in cc

module _ (kind : ℕ) (subject : List ℕ) (list : List Descriptor) where
  abbrev Of : Descriptor → Type 0
  Of d = is_of kind subject d ≡ true

  pub begins : IsBest kind subject list 0 None
  begins k other lt e = absurd (omega arith)

  at_or_before : (i k : ℕ) → k < i + 1 → (k < i) ⊎ (k ≡ i)
  at_or_before i k lt = ⊎_elim (λ below. inl below) (λ ge. inr (omega arith)) (cases_lt k i)

  pub first : (i : ℕ) (d : Descriptor) → IsBest kind subject list i None → slice_get list i ≡ Some d → Of d → IsBest kind subject list (i + 1) (Some i)
  first i d none here of = (
    d,
    record {
      within = omega arith;
      stands = here;
      of = of;
      highest = λ k other lt e like. ⊎_elim
          (λ below. let no = none k other below e in cc)
          (λ same. let P : ℕ → Type 0 = λ n. slice_get list n ≡ Some other in
          let is : other ≡ d = one list i other d (subst P same e) here in omega (arith, ap number_of is))
          (at_or_before i k lt);
      earliest = λ k other lt e like. let no = none k other lt e in cc;
    },
  )

  pub passes : (i : ℕ) (d : Descriptor) (best : Option ℕ) → IsBest kind subject list i best → slice_get list i ≡ Some d → is_of kind subject d ≡ false
      → IsBest kind subject list (i + 1) best
  passes i d None none here not = λ k other lt e. ⊎_elim
      (λ below. none k other below e)
      (λ same. let P : ℕ → Type 0 = λ n. slice_get list n ≡ Some other in
      ap (is_of kind subject) (one list i other d (subst P same e) here) ∙ not)
      (at_or_before i k lt)
  passes i d (Some best) (b, is) here not = (
    b,
    record {
      within = omega (arith, is.within);
      stands = is.stands;
      of = is.of;
      highest = λ k other lt e like. ⊎_elim
          (λ below. is.highest k other below e like)
          (λ same. let P : ℕ → Type 0 = λ n. slice_get list n ≡ Some other in
          let no : is_of kind subject other ≡ false = ap (is_of kind subject) (one list i other d (subst P same e) here) ∙ not in cc)
          (at_or_before i k lt);
      earliest = is.earliest;
    },
  )

  pub stays : (i best : ℕ) (b d : Descriptor) → IsBest kind subject list i (Some best) → slice_get list best ≡ Some b → slice_get list i ≡ Some d
      → number_of d ≤ number_of b → IsBest kind subject list (i + 1) (Some best)
  stays i best b d (c, is) there here le =
      let same : c ≡ b = one list best c b is.stands there in (
        c,
        record {
          within = omega (arith, is.within);
          stands = is.stands;
          of = is.of;
          highest = λ k other lt e like. ⊎_elim
              (λ below. is.highest k other below e like)
              (λ at. let P : ℕ → Type 0 = λ n. slice_get list n ≡ Some other in
              let it : other ≡ d = one list i other d (subst P at e) here in
              omega (arith, le, ap number_of it, ap number_of same))
              (at_or_before i k lt);
          earliest = is.earliest;
        },
      )

  pub rises : (i best : ℕ) (b d : Descriptor) → IsBest kind subject list i (Some best) → slice_get list best ≡ Some b → slice_get list i ≡ Some d
      → Of d → number_of b < number_of d → IsBest kind subject list (i + 1) (Some i)
  rises i best b d (c, is) there here of lt =
      let same : c ≡ b = one list best c b is.stands there in (
        d,
        record {
          within = omega arith;
          stands = here;
          of = of;
          highest = λ k other below e like. ⊎_elim
              (λ less. omega (arith, is.highest k other less e like, ap number_of same, lt))
              (λ at. let P : ℕ → Type 0 = λ n. slice_get list n ≡ Some other in
              let it : other ≡ d = one list i other d (subst P at e) here in omega (arith, ap number_of it))
              (at_or_before i k below);
          earliest = λ k other below e like. omega (arith, is.highest k other below e like, ap number_of same, lt);
        },
      )

  -- those of its kind and subject are those of the wanted ones
  same_kind : (d other : Descriptor) → Of d → is_of d.id (subject_of d) other ≡ is_of kind subject other
  unfolding is_of
  same_kind d other of =
      let parts = and_parts (eqb d.id kind) (bytes_eq (subject_of d) subject) of in
      ap (λ k. eqb other.id k && bytes_eq (subject_of other) (subject_of d)) (eqb-true _ _ parts.0)
      ∙ ap (λ s. eqb other.id kind && bytes_eq (subject_of other) s) ((bytes_eq-Decides (subject_of d) subject).0 parts.1)

  abbrev passes_test : Descriptor → Bool
  passes_test d = is_of kind subject d && is_highest list d

  -- what its test says of another descriptor
  beats : Descriptor → Descriptor → Bool
  beats d other = not (is_of d.id (subject_of d) other) || leb (number_of other) (number_of d)

  beaten : (d other : Descriptor) → Of d → (b : Bool) → is_of kind subject other ≡ b → (b ≡ true → number_of other ≤ number_of d) → beats d other ≡ true
  unfolding beats
  beaten d other of true e le = ap (λ t. not t || leb (number_of other) (number_of d)) (same_kind d other of ∙ e) ∙ le-leb _ _ (le refl)
  beaten d other of false e le = ap (λ t. not t || leb (number_of other) (number_of d)) (same_kind d other of ∙ e)

  unbeaten : (d other : Descriptor) → Of d → Of other → number_of d < number_of other → beats d other ≡ false
  unfolding beats
  unbeaten d other of like lt = ap (λ t. not t || leb (number_of other) (number_of d)) (same_kind d other of ∙ like) ∙ lt-leb _ _ lt

  best_passes : (best : ℕ) (d : Descriptor) → BestAt kind subject list (length list) best d → passes_test d ≡ true
  unfolding is_highest beats
  best_passes best d is = and_from _ _ is.of (list_all-from_AllPass _ list (λ k x lt.
      let other : Descriptor = get_or list k x in
      beaten d other is.of (is_of kind subject other) refl (λ like. is.highest k other lt (slice_get-get_or list k x lt) like)))

  fails : (best : ℕ) (d other : Descriptor) → BestAt kind subject list (length list) best d → Of d
      → (Of other → number_of other < number_of d) → (b : Bool) → is_of kind subject other ≡ b → passes_test other ≡ false
  unfolding is_highest beats
  fails best d other is of less false e = ap (λ t. t && is_highest list other) e
  fails best d other is of less true e =
      ap (λ t. t && is_highest list other) e
      ∙ list_all_at (beats other) list best d is.within
      (ap (beats other) (get_or_from_slice_get list best d d is.stands) ∙ unbeaten other d e of (less e))

  earlier_fails : (best : ℕ) (d : Descriptor) → BestAt kind subject list (length list) best d → (k : ℕ) → k < best → passes_test (get_or list k d) ≡ false
  earlier_fails best d is k lt =
      let inside : k < length list = omega (arith, is.within) in
      fails best d (get_or list k d) is is.of (is.earliest k (get_or list k d) lt (slice_get-get_or list k d inside))
      (is_of kind subject (get_or list k d)) refl

  found_by : (best : ℕ) → position_or_len passes_test list ≡ best → best < length list → Some best ≡ position passes_test list
  found_by best e lt =
      sym (ap (λ (n : ℕ). cond (ltb n (length list)) (Some n) None) e ∙ ap (λ t. cond t (Some best) None) (lt-ltb best (length list) lt))

  none_by : position_or_len passes_test list ≡ length list → None ≡ position passes_test list
  none_by e =
      sym (ap (λ (n : ℕ). cond (ltb n (length list)) (Some n) None) e
      ∙ ap (λ t. cond t (Some (length list)) None) (let no : ltb (length list) (length list) ≡ false = grind arith in no))

  pub is_found : (n : ℕ) (best : Option ℕ) → n ≡ length list → IsBest kind subject list n best → best ≡ prevailing_index kind subject list
  unfolding prevailing_index
  is_found n (Some best) e (d, is) =
      let P : ℕ → Type 0 = λ m. BestAt kind subject list m best d in
      let at : BestAt kind subject list (length list) best d = subst P e is in
      found_by best (position_or_len_is passes_test list best d (omega (arith, at.within)) (earlier_fails best d at)
      (λ lt. ap passes_test (get_or_from_slice_get list best d d at.stands) ∙ best_passes best d at)) at.within
  is_found n None e none = none_by (position_or_len_is passes_test list (length list) (record { id = 0; body = [] }) (omega arith)
      (λ k lt. ap (λ t. t && is_highest list (get_or list k (record { id = 0; body = [] })))
      (none k _ (omega (arith, e)) (slice_get-get_or list k _ lt)))
      (λ lt. absurd (omega arith)))

  first_of : (n i : ℕ) (b : Bool) → ltb n (length list) ≡ b → Some i ≡ cond b (Some n) None → n ≡ i
  first_of n i true e f = cc
  first_of n i false e f = cc

  pub found : (i : ℕ) (d : Descriptor) → Some i ≡ prevailing_index kind subject list → slice_get list i ≡ Some d → Some d ≡ prevailing kind subject list
  unfolding prevailing_index prevailing
  found i d e here =
      let n : position_or_len passes_test list ≡ i = first_of _ i _ refl e in
      sym (find_at passes_test list ∙ ap (slice_get list) n ∙ here)

  past : (n : ℕ) (b : Bool) → ltb n (length list) ≡ b → None ≡ cond b (Some n) None → length list ≤ n
  past n true e f = cc
  past n false e f = ltb-false n (length list) e

  pub not_found : None ≡ prevailing_index kind subject list → None ≡ prevailing kind subject list
  unfolding prevailing_index prevailing
  not_found e = sym (find_at passes_test list ∙ slice_get_past list _ (past _ _ refl e))
