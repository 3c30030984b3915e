-- What prevails is the highest of its kind and subject, and the earliest of equals.
use Rattle.std.proofs.Common.{◌≡◌, ◌⊎◌, inl, inr, ℕ, zero, suc, ◌<◌, ◌≤◌, arith, refl, sym, ◌∙◌, ap, subst, List, [], ◌∷◌, length, get_or, Bool, true, false, cond, not, ◌&&◌, ◌||◌, Some, None, eqb, leb, ltb}
use Rattle.std.specs.Prelude.{slice_get}
use Rattle.std.specs.Str.{bytes_eq}
use Rattle.std.specs.List.{list_all, position_or_len}
use Rattle.std.proofs.lemmas.Bool.{and_parts, and_from, eqb-true, le-leb, lt-leb, leb-true, leb-false, lt-ltb, ltb-true, cases_lt, cases_Bool}
use Rattle.std.proofs.lemmas.Option.{slice_get_within, slice_get-get_or, get_or_from_slice_get}
use Rattle.std.proofs.lemmas.List.Sums.{position_or_len_is, list_all-from_AllPass, AllPass-from_list_all, passes_at_first, fails_before_first}
use Rattle.std.proofs.lemmas.List.Folds.{list_all_at, find_at}
use Rattle.std.proofs.lemmas.Slice.Eq.{bytes_eq-Decides}
use Rattle.udf_volume_model.specs.Sequence.{Descriptor}
use Rattle.udf_volume_model.specs.Prevailing.{number_of, subject_of, is_of, is_highest, prevailing, prevailing_index, Prevails}
use Rattle.udf_volume_laws.proofs.Members.{fails_at}

nothing : Descriptor
nothing = record { id = 0; body = [] }

one : (list : List Descriptor) (k : ℕ) (a b : Descriptor) → slice_get list k ≡ Some a → slice_get list k ≡ Some b → a ≡ b
one list k a b e f = let s : Some a ≡ Some b = sym e ∙ f in cc

module _ (kind : ℕ) (subject : List ℕ) where
  abbrev Of : Descriptor → Type 0
  Of d = is_of kind subject d ≡ true

  -- those of its kind and subject are those of the wanted ones
  same_kind : (d other : Descriptor) → Of d → is_of d.id (subject_of d) other ≡ is_of kind subject other
  unfolding is_of
  same_kind d other of =
      let parts = and_parts (eqb d.id kind) (bytes_eq (subject_of d) subject) of in
      ap (λ k. eqb other.id k && bytes_eq (subject_of other) (subject_of d)) (eqb-true _ _ parts.0)
      ∙ ap (λ s. eqb other.id kind && bytes_eq (subject_of other) s) ((bytes_eq-Decides (subject_of d) subject).0 parts.1)

  abbrev passes : List Descriptor → Descriptor → Bool
  passes list d = is_of kind subject d && is_highest list d

  -- what the test of the highest asks of another descriptor
  abbrev beats : Descriptor → Descriptor → Bool
  beats d other = not (is_of d.id (subject_of d) other) || leb (number_of other) (number_of d)

  beaten : (d other : Descriptor) → Of d → (b : Bool) → is_of kind subject other ≡ b → (b ≡ true → number_of other ≤ number_of d) → beats d other ≡ true
  beaten d other of true e le = ap (λ t. not t || leb (number_of other) (number_of d)) (same_kind d other of ∙ e) ∙ le-leb _ _ (le refl)
  beaten d other of false e le = ap (λ t. not t || leb (number_of other) (number_of d)) (same_kind d other of ∙ e)

  unbeaten : (d other : Descriptor) → Of d → Of other → number_of d < number_of other → beats d other ≡ false
  unbeaten d other of like lt = ap (λ t. not t || leb (number_of other) (number_of d)) (same_kind d other of ∙ like) ∙ lt-leb _ _ lt

  -- what it says
  below : (d other : Descriptor) → Of d → Of other → beats d other ≡ true → number_of other ≤ number_of d
  below d other of like e =
      leb-true _ _ (sym (ap (λ t. not t || leb (number_of other) (number_of d)) (same_kind d other of ∙ like)) ∙ e)

  above : (d other : Descriptor) → Of d → (b : Bool) → is_of kind subject other ≡ b → beats d other ≡ false → Of other × (number_of d < number_of other)
  above d other of true like e =
      (like, leb-false _ _ (sym (ap (λ t. not t || leb (number_of other) (number_of d)) (same_kind d other of ∙ like)) ∙ e))
  above d other of false like e =
      let t : true ≡ false = sym (ap (λ t. not t || leb (number_of other) (number_of d)) (same_kind d other of ∙ like)) ∙ e in absurd (cc)

  module _ (list : List Descriptor) (index : ℕ) (d : Descriptor) (p : Prevails kind subject list index d) where
    inside : index < length list
    inside = slice_get_within list index d p.stands

    it_passes : passes list d ≡ true
    unfolding is_highest
    it_passes = and_from _ _ p.of (list_all-from_AllPass (beats d) list (λ k x lt.
        let other : Descriptor = get_or list k x in
        beaten d other p.of (is_of kind subject other) refl (λ like. p.highest k other (slice_get-get_or list k x lt) like)))

    fails : (k : ℕ) (other : Descriptor) → k < index → slice_get list k ≡ Some other → (b : Bool) → is_of kind subject other ≡ b → passes list other ≡ false
    unfolding is_highest
    fails k other lt at false e = ap (λ t. t && is_highest list other) e
    fails k other lt at true e =
        ap (λ t. t && is_highest list other) e
        ∙ list_all_at (beats other) list index d inside
        (ap (beats other) (get_or_from_slice_get list index d d p.stands) ∙ unbeaten other d e p.of (p.earliest k other at e lt))

    first : position_or_len (passes list) list ≡ index
    first = position_or_len_is (passes list) list index d (omega (arith, inside))
        (λ k lt. fails k (get_or list k d) lt (slice_get-get_or list k d (omega (arith, inside))) _ refl)
        (λ lt. ap (passes list) (get_or_from_slice_get list index d d p.stands) ∙ it_passes)

    pub index_is : prevailing_index kind subject list ≡ Some index
    unfolding prevailing_index
    index_is = ap (λ (n : ℕ). cond (ltb n (length list)) (Some n) None) first ∙ ap (λ t. cond t (Some index) None) (lt-ltb index (length list) inside)

    pub descriptor_is : prevailing kind subject list ≡ Some d
    unfolding prevailing
    descriptor_is = find_at (passes list) list ∙ ap (slice_get list) first ∙ p.stands

  made : (list : List Descriptor) → position_or_len (passes list) list < length list
      → Prevails kind subject list (position_or_len (passes list) list) (get_or list (position_or_len (passes list) list) nothing)
  unfolding is_highest
  made list inside =
      let n : ℕ = position_or_len (passes list) list in
      let d : Descriptor = get_or list n nothing in
      let test : passes list d ≡ true = passes_at_first (passes list) list nothing inside in
      let parts = and_parts (is_of kind subject d) (list_all (beats d) list) test in
      let high : (k : ℕ) (other : Descriptor) → slice_get list k ≡ Some other → Of other → number_of other ≤ number_of d =
      λ k other at like. below d other parts.0 like
      (ap (beats d) (sym (get_or_from_slice_get list k other other at))
      ∙ AllPass-from_list_all (beats d) list parts.1 k other (slice_get_within list k other at)) in
      record {
        stands = slice_get-get_or list n nothing inside;
        of = parts.0;
        highest = high;
        earliest = λ k other at like lt.
            let unlike : passes list other ≡ false =
            ap (passes list) (sym (get_or_from_slice_get list k other nothing at)) ∙ fails_before_first (passes list) list k nothing lt in
            let none : list_all (beats other) list ≡ false = sym (ap (λ t. t && list_all (beats other) list) like) ∙ unlike in
            let w = fails_at (beats other) list none in
            let more = above other w.1 like (is_of kind subject w.1) refl w.3 in
            omega (arith, more.1, high w.0 w.1 w.2 more.0);
      }

  pub only_index : (list : List Descriptor) (index : ℕ) → prevailing_index kind subject list ≡ Some index → (d : Descriptor) × Prevails kind subject list index d
  unfolding prevailing_index
  only_index list index = by_test (ltb (position_or_len (passes list) list) (length list)) refl where
    by_test : (b : Bool) → ltb (position_or_len (passes list) list) (length list) ≡ b → cond b (Some (position_or_len (passes list) list)) None ≡ Some index
        → (d : Descriptor) × Prevails kind subject list index d
    by_test true t e =
        let is : position_or_len (passes list) list ≡ index = cc in
        let d : Descriptor = get_or list (position_or_len (passes list) list) nothing in
        (d, subst (λ (n : ℕ). Prevails kind subject list n d) is (made list (ltb-true _ _ t)))
    by_test false t e = absurd (cc)

  pub only : (list : List Descriptor) (d : Descriptor) → prevailing kind subject list ≡ Some d → (index : ℕ) × Prevails kind subject list index d
  unfolding prevailing
  only list d e =
      let n : ℕ = position_or_len (passes list) list in
      let at : slice_get list n ≡ Some d = sym (find_at (passes list) list) ∙ e in
      let inside : n < length list = slice_get_within list n d at in
      let same : get_or list n nothing ≡ d = get_or_from_slice_get list n d nothing at in
      (n, subst (λ (x : Descriptor). Prevails kind subject list n x) same (made list inside))

  pub unique : (list : List Descriptor) (index other : ℕ) (a b : Descriptor) → Prevails kind subject list index a → Prevails kind subject list other b
      → (index ≡ other) × (a ≡ b)
  unique list index other a b p q =
      let i : Some index ≡ Some other = sym (index_is list index a p) ∙ index_is list other b q in
      let d : Some a ≡ Some b = sym (descriptor_is list index a p) ∙ descriptor_is list other b q in
      ((cc), (cc))

  -- a list has none of the kind and subject, or one prevails
  abbrev HasNone : List Descriptor → Type 0
  HasNone list = (k : ℕ) (other : Descriptor) → slice_get list k ≡ Some other → is_of kind subject other ≡ false

  abbrev HasBest : List Descriptor → Type 0
  HasBest list = (index : ℕ) × (d : Descriptor) × Prevails kind subject list index d

  here_none : (x : Descriptor) (xs : List Descriptor) → is_of kind subject x ≡ false → HasNone xs → HasNone (x ∷ xs)
  here_none x xs unlike none zero other e = let is : x ≡ other = cc in ap (is_of kind subject) (sym is) ∙ unlike
  here_none x xs unlike none (suc k) other e = none k other e

  alone : (x : Descriptor) (xs : List Descriptor) → Of x → HasNone xs → Prevails kind subject (x ∷ xs) 0 x
  alone x xs of none = record {
    stands = refl;
    of = of;
    highest = high;
    earliest = λ k other e like lt. absurd (omega arith);
  } where
    high : (k : ℕ) (other : Descriptor) → slice_get (x ∷ xs) k ≡ Some other → Of other → number_of other ≤ number_of x
    high zero other e like = let is : x ≡ other = cc in omega (arith, ap number_of is)
    high (suc k) other e like = let unlike : is_of kind subject other ≡ false = none k other e in absurd (cc)

  leads : (x : Descriptor) (xs : List Descriptor) (i : ℕ) (d : Descriptor) → Of x → Prevails kind subject xs i d → number_of d ≤ number_of x
      → Prevails kind subject (x ∷ xs) 0 x
  leads x xs i d of p le = record {
    stands = refl;
    of = of;
    highest = high;
    earliest = λ k other e like lt. absurd (omega arith);
  } where
    high : (k : ℕ) (other : Descriptor) → slice_get (x ∷ xs) k ≡ Some other → Of other → number_of other ≤ number_of x
    high zero other e like = let is : x ≡ other = cc in omega (arith, ap number_of is)
    high (suc k) other e like = omega (arith, p.highest k other e like)

  follows : (x : Descriptor) (xs : List Descriptor) (i : ℕ) (d : Descriptor) → (Of x → number_of x < number_of d) → Prevails kind subject xs i d
      → Prevails kind subject (x ∷ xs) (suc i) d
  follows x xs i d less p = record {
    stands = p.stands;
    of = p.of;
    highest = high;
    earliest = early;
  } where
    high : (k : ℕ) (other : Descriptor) → slice_get (x ∷ xs) k ≡ Some other → Of other → number_of other ≤ number_of d
    high zero other e like = let is : x ≡ other = cc in let l = less (ap (is_of kind subject) is ∙ like) in omega (arith, ap number_of is, l)
    high (suc k) other e like = p.highest k other e like

    early : (k : ℕ) (other : Descriptor) → slice_get (x ∷ xs) k ≡ Some other → Of other → k < suc i → number_of other < number_of d
    early zero other e like lt = let is : x ≡ other = cc in let l = less (ap (is_of kind subject) is ∙ like) in omega (arith, ap number_of is, l)
    early (suc k) other e like lt = p.earliest k other e like (omega arith)

  pub choice : (list : List Descriptor) → HasNone list ⊎ HasBest list
  choice [] = inl (λ k other e. absurd (cc))
  choice (x ∷ xs) = by_first (choice xs) (cases_Bool (is_of kind subject x)) where
    by_first : HasNone xs ⊎ HasBest xs → (is_of kind subject x ≡ true) ⊎ (is_of kind subject x ≡ false) → HasNone (x ∷ xs) ⊎ HasBest (x ∷ xs)
    by_first (inl none) (inl of) = inr (0, x, alone x xs of none)
    by_first (inl none) (inr unlike) = inl (here_none x xs unlike none)
    by_first (inr best) (inl of) = by_order (cases_lt (number_of x) (number_of best.1)) where
      by_order : (number_of x < number_of best.1) ⊎ (number_of best.1 ≤ number_of x) → HasNone (x ∷ xs) ⊎ HasBest (x ∷ xs)
      by_order (inl lt) = inr (suc best.0, best.1, follows x xs best.0 best.1 (λ _. lt) best.2)
      by_order (inr le) = inr (0, x, leads x xs best.0 best.1 of best.2 le)
    by_first (inr best) (inr unlike) = inr (suc best.0, best.1, follows x xs best.0 best.1 (λ of. absurd (cc)) best.2)

  pub none : (list : List Descriptor) → prevailing kind subject list ≡ None → HasNone list
  none list e = by_choice (choice list) where
    by_choice : HasNone list ⊎ HasBest list → HasNone list
    by_choice (inl n) = n
    by_choice (inr best) = let s : Some best.1 ≡ None = sym (descriptor_is list best.0 best.1 best.2) ∙ e in absurd (cc)
