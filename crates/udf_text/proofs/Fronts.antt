-- The characters that a loop over a text has passed.
use Rattle.std.proofs.Common.{◌≡◌, ℕ, ◌<◌, ◌≤◌, List, [], ◌∷◌, ◌++◌, length, take, drop, get_or, sym, ap, ◌∙◌, arith, ⊎_elim, take-append-drop, append-nil, length-append}
use Rattle.std.specs.Str.{chars, IsUtf8}
use Rattle.std.proofs.lemmas.Bool.{cases_lt}
use Rattle.std.proofs.lemmas.List.{take_more, length_push, take-append-le}
use Rattle.std.proofs.lemmas.Str.{encodes-chars}
use Rattle.udf_text.specs.Compressed.{encoding}
use Rattle.udf_text.specs.Front.{IsLongestFront}
use Rattle.udf_text.specs.Size.{size_of}
use Rattle.udf_text.specs.declared.size.Size.{Size}
use Rattle.udf_text.proofs.Lengths.{unit_count, unit_count-append, unit_count_le, longer}

-- one more character passed
pub front_more : (cs ys : List ℕ) (c : ℕ) → ys ≡ take (length ys) cs → (length ys < length cs) × (c ≡ get_or cs (length ys) c) → ys ++ c ∷ [] ≡ take (length (ys ++ c ∷ [])) cs
front_more cs ys c e at =
    ap (λ l. l ++ c ∷ []) e ∙ ap (λ x. take (length ys) cs ++ x ∷ []) at.1
    ∙ sym (take_more cs (length ys) c at.0) ∙ ap (λ n. take n cs) (sym (length_push ys c))

-- there is room for the units of such characters
pub few_units : (text ys : List ℕ) (s : Size) → IsUtf8 text → s ≡ size_of ys → ys ≡ take (length ys) (chars text) → s.units ≤ length text
unfolding size_of
few_units text ys s u e front =
    let cs = chars text in
    omega (arith, ap (λ (x : Size). x.units) e, ap unit_count front, unit_count-append (take (length ys) (chars text)) (drop (length ys) (chars text)), ap unit_count (take-append-drop (length ys) (chars text)), unit_count_le (chars text), ap length (encodes-chars text u))

-- a beginning is the longest that fits where one more character does not
pub longest_before : (cs ys : List ℕ) (c bytes : ℕ) → ys ≡ take (length ys) cs → ys ++ c ∷ [] ≡ take (length (ys ++ c ∷ [])) cs
    → length (encoding ys) ≤ bytes → bytes < length (encoding (ys ++ c ∷ [])) → IsLongestFront cs bytes ys
longest_before cs ys c bytes front next fits over = record {
  begins = (drop (length ys) cs, sym (take-append-drop (length ys) cs) ∙ ap (λ l. l ++ drop (length ys) cs) (sym front));
  fits = fits;
  longest = λ other rest e small. ⊎_elim
      (λ (more : length ys < length other).
      let n = length_push ys c in
      let within : length (ys ++ c ∷ []) ≤ length other = omega arith in
      let begun : take (length (ys ++ c ∷ [])) other ≡ ys ++ c ∷ [] =
      sym (take-append-le (length (ys ++ c ∷ [])) other rest within) ∙ ap (take (length (ys ++ c ∷ []))) (sym e) ∙ sym next in
      let whole : other ≡ (ys ++ c ∷ []) ++ drop (length (ys ++ c ∷ [])) other =
      sym (take-append-drop (length (ys ++ c ∷ [])) other) ∙ ap (λ l. l ++ drop (length (ys ++ c ∷ [])) other) begun in
      absurd (omega (arith, longer (ys ++ c ∷ []) (drop (length (ys ++ c ∷ [])) other), ap (λ l. length (encoding l)) whole)))
      (λ (few : length other ≤ length ys). few)
      (cases_lt (length ys) (length other));
}

-- all of the characters that fit
pub longest_all : (cs : List ℕ) (bytes : ℕ) → length (encoding cs) ≤ bytes → IsLongestFront cs bytes cs
longest_all cs bytes fits = record {
  begins = ([], sym (append-nil cs));
  fits = fits;
  longest = λ other rest e small. omega (arith, ap length e, length-append other rest);
}
