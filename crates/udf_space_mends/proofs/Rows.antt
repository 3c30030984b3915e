-- Blocks that are put in a row of sectors.
use Rattle.std.proofs.Common.{◌≡◌, ℕ, zero, suc, ◌+◌, ◌<◌, ◌≤◌, arith, refl, sym, ◌∙◌, ap, inl, inr, ◌⊎◌, List, ◌++◌, length, map, Bool, true, false, not, ◌==◌, ◌&&◌, ltb}
use Rattle.std.specs.List.{list_all, range_with_len}
use Rattle.std.proofs.lemmas.Bool.{cases_eq, ne_eqb, eq-eqb, lt-ltb, and_from, and_parts, false≢true}
use Rattle.std.proofs.lemmas.List.Folds.{list_all-append}
use Rattle.udf_volume_model.specs.Edits.{are_edits, is_off, look}
use Rattle.udf_volume_laws.proofs.Puts.{look_here, look_past}

module _ (base : ℕ) (block : ℕ → List ℕ) where
  abbrev pub row : ℕ → ℕ → List (ℕ × List ℕ)
  row from many = map (λ j. (base + j, block j)) (range_with_len from many)

  pub row_past : (n from many : ℕ) (old : List ℕ) → ((j : ℕ) → from ≤ j → j < from + many → n ≡ base + j → ⊥) → look n (row from many) old ≡ old
  unfolding look
  row_past n from zero old away = refl
  row_past n from (suc many) old away =
      look_past n (base + from) (block from) (row (from + 1) many) old (away from (omega arith) (omega arith))
      ∙ row_past n (from + 1) many old (λ j l h. away j (omega arith) (omega arith))

  pub row_here : (j from many : ℕ) (old : List ℕ) → from ≤ j → j < from + many → look (base + j) (row from many) old ≡ block j
  row_here j from zero old l h = absurd (omega arith)
  row_here j from (suc many) old l h = by (cases_eq j from) (λ ne. row_here j (from + 1) many old (omega (arith, ne)) (omega arith))
    where
      here : j ≡ from → look (base + j) (row from (suc many)) old ≡ block j
      here e = look_here (base + j) (base + from) (block from) (row (from + 1) many) old (ap (λ k. base + k) e) ∙ ap block (sym e)

      further : (j ≡ from → ⊥) → look (base + j) (row (from + 1) many) old ≡ block j → look (base + j) (row from (suc many)) old ≡ block j
      further ne rest = look_past (base + j) (base + from) (block from) (row (from + 1) many) old (λ e. ne (omega (arith, e))) ∙ rest

      by : (j ≡ from) ⊎ (j ≡ from → ⊥) → ((j ≡ from → ⊥) → look (base + j) (row (from + 1) many) old ≡ block j) → look (base + j) (row from (suc many)) old ≡ block j
      by (inl e) rest = here e
      by (inr ne) rest = further ne (rest ne)

-- what holds of all numbers from one on holds of each of them
pub each_in : (p : ℕ → Bool) (a many j : ℕ) → list_all p (range_with_len a many) ≡ true → j < many → p (a + j) ≡ true
each_in p a zero j all l = absurd (omega arith)
each_in p a (suc many) zero all l = ap p (let e : a + 0 ≡ a = omega arith in e) ∙ (and_parts (p a) (list_all p (range_with_len (a + 1) many)) all).0
each_in p a (suc many) (suc j) all l =
    ap p (let e : a + suc j ≡ a + 1 + j = omega arith in e)
    ∙ each_in p (a + 1) many j (and_parts (p a) (list_all p (range_with_len (a + 1) many)) all).1 (omega arith)

-- a sector at which a block of a row is put has what all sectors of the row have
pub on_row : (p : ℕ → Bool) (base : ℕ) (block : ℕ → List ℕ) (n from many : ℕ) → ((j : ℕ) → j < from + many → p (base + j) ≡ true)
    → is_off n (map (λ j. (base + j, block j)) (range_with_len from many)) ≡ false → p n ≡ true
unfolding is_off
on_row p base block n from zero all off = absurd (false≢true (sym off))
on_row p base block n from (suc many) all off = by (cases_eq (base + from) n) (on_row p base block n (from + 1) many (λ j l. all j (omega arith)))
  where
    here : base + from ≡ n → p n ≡ true
    here e = ap p (sym e) ∙ all from (omega arith)

    further : (base + from ≡ n → ⊥) → (is_off n (map (λ j. (base + j, block j)) (range_with_len (from + 1) many)) ≡ false → p n ≡ true) → p n ≡ true
    further ne on =
        on (sym (ap (λ b. not b && is_off n (map (λ j. (base + j, block j)) (range_with_len (from + 1) many))) (ne_eqb (base + from) n ne)) ∙ off)

    by : (base + from ≡ n) ⊎ (base + from ≡ n → ⊥) → (is_off n (map (λ j. (base + j, block j)) (range_with_len (from + 1) many)) ≡ false → p n ≡ true) → p n ≡ true
    by (inl e) rest = here e
    by (inr ne) rest = further ne rest

-- the blocks of a row are whole and in the image
pub row_fits : (size blocks base : ℕ) (block : ℕ → List ℕ) (from many : ℕ) → ((j : ℕ) → length (block j) ≡ size)
    → base + (from + many) ≤ blocks → are_edits size blocks (map (λ j. (base + j, block j)) (range_with_len from many)) ≡ true
unfolding are_edits
row_fits size blocks base block from zero long room = refl
row_fits size blocks base block from (suc many) long room =
    and_from ((length (block from) == size) && ltb (base + from) blocks) (are_edits size blocks (map (λ j. (base + j, block j)) (range_with_len (from + 1) many)))
    (and_from (length (block from) == size) (ltb (base + from) blocks) (eq-eqb _ _ (long from)) (lt-ltb _ _ (omega arith)))
    (row_fits size blocks base block (from + 1) many long (omega arith))

pub fit_both : (size blocks : ℕ) (xs ys : List (ℕ × List ℕ)) → are_edits size blocks xs ≡ true → are_edits size blocks ys ≡ true
    → are_edits size blocks (xs ++ ys) ≡ true
unfolding are_edits
fit_both size blocks xs ys e f = list_all-append (λ edit. (length edit.1 == size) && ltb edit.0 blocks) xs ys ∙ and_from _ _ e f
