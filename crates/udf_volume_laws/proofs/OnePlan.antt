-- A plan is known by what it has for each sector.
use Rattle.std.proofs.Common.{◌≡◌, ℕ, zero, suc, ◌+◌, ◌<◌, ◌≤◌, arith, refl, sym, ◌∙◌, ap, List, [], ◌∷◌, Bool, true, false, cond, not, Some, None, inl, inr, ◌⊎◌, map}
use Rattle.std.specs.List.{filter, range_with_len}
use Rattle.std.specs.Str.{bytes_eq}
use Rattle.std.proofs.lemmas.Bool.{eq-eqb, ne_eqb, cases_order, cases_lt, cases_eq}
use Rattle.udf_model.specs.Image.{block_of, blocks_in}
use Rattle.udf_volume_model.specs.Opened.{difference, plan_of}
use Rattle.udf_volume_model.specs.Plans.{planned, ClimbsFrom, IsPlan}

here : (n : ℕ) (edit : ℕ × List ℕ) (edits : List (ℕ × List ℕ)) → n ≡ edit.0 → planned n (edit ∷ edits) ≡ Some edit.1
unfolding planned
here n edit edits e = ap (λ b. cond b (Some edit.1) (planned n edits)) (eq-eqb _ _ e)

past : (n : ℕ) (edit : ℕ × List ℕ) (edits : List (ℕ × List ℕ)) → (n ≡ edit.0 → ⊥) → planned n (edit ∷ edits) ≡ planned n edits
unfolding planned
past n edit edits e = ap (λ b. cond b (Some edit.1) (planned n edits)) (ne_eqb _ _ e)

-- below its first sector a plan has nothing
pub none_below : (from n : ℕ) (edits : List (ℕ × List ℕ)) → ClimbsFrom from edits → n < from → planned n edits ≡ None
unfolding planned
none_below from n [] a h = refl
none_below from n (edit ∷ edits) a h =
    past n edit edits (λ e. omega (arith, a.0)) ∙ none_below (edit.0 + 1) n edits a.1 (omega (arith, a.0))

-- two plans that have the same for each sector are one
pub one_plan : (from other : ℕ) (xs ys : List (ℕ × List ℕ)) → ClimbsFrom from xs → ClimbsFrom other ys → ((n : ℕ) → planned n xs ≡ planned n ys) → xs ≡ ys
unfolding planned
one_plan from other [] [] a b h = refl
one_plan from other [] (y ∷ ys) a b h = let e : None ≡ Some y.1 = h y.0 ∙ here y.0 y ys refl in absurd (cc)
one_plan from other (x ∷ xs) [] a b h = let e : Some x.1 ≡ None = sym (here x.0 x xs refl) ∙ h x.0 in absurd (cc)
one_plan from other (x ∷ xs) (y ∷ ys) a b h = by_order (cases_order x.0 y.0) (one_plan (x.0 + 1) (y.0 + 1) xs ys a.1 b.1) where
  by_order : (x.0 ≡ y.0) ⊎ ((x.0 < y.0) ⊎ (y.0 < x.0)) → (((n : ℕ) → planned n xs ≡ planned n ys) → xs ≡ ys) → x ∷ xs ≡ y ∷ ys
  by_order (inr (inl l)) rest =
      let e : Some x.1 ≡ None = sym (here x.0 x xs refl) ∙ h x.0 ∙ past x.0 y ys (λ e. omega arith) ∙ none_below (y.0 + 1) x.0 ys b.1 (omega arith) in absurd (cc)
  by_order (inr (inr l)) rest =
      let e : None ≡ Some y.1 = sym (none_below (x.0 + 1) y.0 xs a.1 (omega arith)) ∙ sym (past y.0 x xs (λ e. omega arith)) ∙ h y.0 ∙ here y.0 y ys refl in absurd (cc)
  by_order (inl e) rest =
      let block : Some x.1 ≡ Some y.1 = sym (here x.0 x xs refl) ∙ h x.0 ∙ here x.0 y ys e in
      let same : x.1 ≡ y.1 = cc in
      ap (λ n. (n, x.1) ∷ xs) e ∙ ap (λ b. (y.0, b) ∷ xs) same ∙ ap (λ zs. y ∷ zs) (rest (λ n. by_here n (cases_eq n x.0))) where
        by_here : (n : ℕ) → (n ≡ x.0) ⊎ (n ≡ x.0 → ⊥) → planned n xs ≡ planned n ys
        by_here n (inl i) = none_below (x.0 + 1) n xs a.1 (omega arith) ∙ sym (none_below (y.0 + 1) n ys b.1 (omega arith))
        by_here n (inr i) = sym (past n x xs i) ∙ h n ∙ past n y ys (λ j. i (j ∙ sym e))

-- a filtered range is such a plan
made_ascends : (block : ℕ → List ℕ) (test : ℕ → Bool) (count start from : ℕ) → from ≤ start → ClimbsFrom from (map (λ n. (n, block n)) (filter test (range_with_len start count)))
made_ascends block test zero start from h = tt
made_ascends block test (suc count) start from h =
    by_test (made_ascends block test count (start + 1) (start + 1) (omega arith)) (made_ascends block test count (start + 1) from (omega arith)) (test start) where
      by_test : ClimbsFrom (start + 1) (map (λ n. (n, block n)) (filter test (range_with_len (start + 1) count)))
          → ClimbsFrom from (map (λ n. (n, block n)) (filter test (range_with_len (start + 1) count)))
          → (b : Bool) → ClimbsFrom from (map (λ n. (n, block n)) (cond b (start ∷ filter test (range_with_len (start + 1) count)) (filter test (range_with_len (start + 1) count))))
      by_test p q true = (h, p)
      by_test p q false = q

made_planned : (block : ℕ → List ℕ) (test : ℕ → Bool) (count start n : ℕ) → start ≤ n → n < start + count
    → planned n (map (λ m. (m, block m)) (filter test (range_with_len start count))) ≡ cond (test n) (Some (block n)) None
made_planned block test zero start n l h = absurd (omega arith)
made_planned block test (suc count) start n l h = by_here (cases_eq n start) (made_planned block test count (start + 1) n) where
  after : List (ℕ × List ℕ)
  after = map (λ m. (m, block m)) (filter test (range_with_len (start + 1) count))

  by_test : n ≡ start → (b : Bool) → test start ≡ b → planned n (map (λ m. (m, block m)) (cond b (start ∷ filter test (range_with_len (start + 1) count)) (filter test (range_with_len (start + 1) count)))) ≡ cond b (Some (block start)) None
  by_test e true t = here n (start, block start) after e
  by_test e false t = none_below (start + 1) n after (made_ascends block test count (start + 1) (start + 1) (omega arith)) (omega arith)

  by_skip : (n ≡ start → ⊥) → (b : Bool) → planned n (map (λ m. (m, block m)) (cond b (start ∷ filter test (range_with_len (start + 1) count)) (filter test (range_with_len (start + 1) count)))) ≡ planned n after
  by_skip e true = past n (start, block start) after e
  by_skip e false = refl

  by_here : (n ≡ start) ⊎ (n ≡ start → ⊥) → (start + 1 ≤ n → n < start + 1 + count → planned n after ≡ cond (test n) (Some (block n)) None)
      → planned n (map (λ m. (m, block m)) (filter test (range_with_len start (suc count)))) ≡ cond (test n) (Some (block n)) None
  by_here (inl e) rest = by_test e (test start) refl ∙ ap (λ m. cond (test m) (Some (block m)) None) (sym e)
  by_here (inr e) rest = by_skip e (test start) ∙ rest (omega arith) (omega arith)

made_further : (block : ℕ → List ℕ) (test : ℕ → Bool) (count start n : ℕ) → start + count ≤ n → planned n (map (λ m. (m, block m)) (filter test (range_with_len start count))) ≡ None
unfolding planned
made_further block test zero start n h = refl
made_further block test (suc count) start n h = by_test (made_further block test count (start + 1) n (omega arith)) (test start) where
  by_test : planned n (map (λ m. (m, block m)) (filter test (range_with_len (start + 1) count))) ≡ None → (b : Bool)
      → planned n (map (λ m. (m, block m)) (cond b (start ∷ filter test (range_with_len (start + 1) count)) (filter test (range_with_len (start + 1) count)))) ≡ None
  by_test rest true = past n (start, block start) (map (λ m. (m, block m)) (filter test (range_with_len (start + 1) count))) (λ e. omega arith) ∙ rest
  by_test rest false = rest

turned : (b : Bool) (x : List ℕ) → cond (not b) (Some x) None ≡ cond b None (Some x)
turned true x = refl
turned false x = refl

-- a plan that is exactly the difference is the one plan
pub the_plan : (size : ℕ) (image after : List ℕ) (plan : List (ℕ × List ℕ)) → IsPlan size image after plan → plan ≡ plan_of size image after
unfolding plan_of difference
the_plan size image after plan p =
    one_plan 0 0 plan (map (λ n. (n, block_of size after n)) (filter test (range_with_len 0 (blocks_in size image)))) p.ascends
    (made_ascends (block_of size after) test (blocks_in size image) 0 0 (omega arith)) (λ n. by_order n (cases_lt n (blocks_in size image))) where
      test : ℕ → Bool
      test n = not (bytes_eq (block_of size image n) (block_of size after n))

      by_order : (n : ℕ) → (n < blocks_in size image) ⊎ (blocks_in size image ≤ n)
          → planned n plan ≡ planned n (map (λ m. (m, block_of size after m)) (filter test (range_with_len 0 (blocks_in size image))))
      by_order n (inl l) =
          p.differing n l ∙ sym (turned (bytes_eq (block_of size image n) (block_of size after n)) (block_of size after n))
          ∙ sym (made_planned (block_of size after) test (blocks_in size image) 0 n (omega arith) (omega arith))
      by_order n (inr h) = p.further n h ∙ sym (made_further (block_of size after) test (blocks_in size image) 0 n (omega arith))

-- and the one plan is exactly the difference
pub plan_is : (size : ℕ) (image after : List ℕ) → IsPlan size image after (plan_of size image after)
unfolding plan_of difference
plan_is size image after = record {
  ascends = made_ascends (block_of size after) test (blocks_in size image) 0 0 (omega arith);
  differing = λ n l. made_planned (block_of size after) test (blocks_in size image) 0 n (omega arith) (omega arith)
      ∙ turned (bytes_eq (block_of size image n) (block_of size after n)) (block_of size after n);
  further = λ n h. made_further (block_of size after) test (blocks_in size image) 0 n (omega arith);
} where
  test : ℕ → Bool
  test n = not (bytes_eq (block_of size image n) (block_of size after n))
