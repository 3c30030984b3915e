-- A body that is cut has the trimmed descriptors.
use Rattle.std.proofs.Common.{◌≡◌, ℕ, Bool, true, false, cond, ◌<◌, ◌≤◌, ◌==◌, Option, Some, None, List, [], length, arith, sym, ◌∙◌, ap, refl, subst}
use Rattle.std.proofs.lemmas.Bool.Decides.{nat_tests}
use Rattle.udf_field.specs.declared.address.Addr.{Addr}
use Rattle.udf_model.specs.Bytes.{IsBytes}
use Rattle.udf_file_model.specs.Descriptors.{Descriptor, descriptor_at, descriptor_count, descriptors_from, descriptors}
use Rattle.udf_file_model.specs.Pieces.{bytes_in}
use Rattle.udf_file_model.specs.CutBody.{kept_count, last_length, first_of, cut_body_by, cut_body, cut_descriptors}
use Rattle.udf_file_model.specs.Cut.{trim, Onward, onward}
use Rattle.udf_file_model.proofs.Trim.{trim_stays, IsInside}
use Rattle.udf_file_model.proofs.First.{shorts, longs, short_cut, long_cut, short_shorter, long_shorter, first_is_bytes}

none_of : (kind : ℕ) (holder : Addr) (body : List ℕ) → (kind == 0) ≡ false → (kind == 1) ≡ false → descriptors kind holder body ≡ []
unfolding descriptors descriptor_count descriptors_from
none_of kind holder body e f = rw (e, f) refl

pub none_in_empty : (kind : ℕ) (holder : Addr) → descriptors kind holder [] ≡ []
none_in_empty kind holder = choose (kind == 0) (kind == 1) refl refl
  where
    shorts_none : descriptors 0 holder [] ≡ []
    shorts_none = unfold descriptors descriptor_count descriptors_from in refl

    longs_none : descriptors 1 holder [] ≡ []
    longs_none = unfold descriptors descriptor_count descriptors_from in refl

    number : (a b : ℕ) → (a == b) ≡ true → a ≡ b
    number a b t = grind (arith, nat_tests)

    choose : (a b : Bool) → (kind == 0) ≡ a → (kind == 1) ≡ b → descriptors kind holder [] ≡ []
    choose true b e f = ap (λ k. descriptors k holder []) (number kind 0 e) ∙ shorts_none
    choose false true e f = ap (λ k. descriptors k holder []) (number kind 1 f) ∙ longs_none
    choose false false e f = none_of kind holder [] e f

module _ (holder : Addr) (b : ℕ) (body : List ℕ) (all : IsBytes body) where
  -- the first descriptors, where the cut lies inside the body
  first_descriptors : (kind : ℕ) → 0 < b → b ≤ bytes_in (descriptors kind holder body) → onward b (descriptors kind holder body) ≡ None
      → descriptors kind holder (first_of kind (kept_count b (descriptors kind holder body)) (last_length b (descriptors kind holder body)) body) ≡ trim b (descriptors kind holder body)
  first_descriptors kind some within ends = choose (kind == 0) (kind == 1) refl refl
    where
      Goal : ℕ → Type 0
      Goal k = 0 < b → b ≤ bytes_in (descriptors k holder body) → onward b (descriptors k holder body) ≡ None
          → descriptors k holder (first_of k (kept_count b (descriptors k holder body)) (last_length b (descriptors k holder body)) body) ≡ trim b (descriptors k holder body)

      of_shorts : 0 < b → b ≤ bytes_in (descriptors 0 holder body) → onward b (descriptors 0 holder body) ≡ None
          → descriptors 0 holder (first_of 0 (kept_count b (descriptors 0 holder body)) (last_length b (descriptors 0 holder body)) body) ≡ trim b (descriptors 0 holder body)
      of_shorts s w e =
          let same : descriptors 0 holder body ≡ shorts holder b body all = unfold descriptors descriptor_at descriptor_count in refl in
          let P : List Descriptor → Type 0 = λ l. IsInside b l in
          let Q : List Descriptor → Type 0 = λ l. descriptors 0 holder (first_of 0 (kept_count b l) (last_length b l) body) ≡ trim b l in
          let i : IsInside b (descriptors 0 holder body) = record { some = s; within = w; ends = e } in
          subst Q (sym same) (short_cut holder b body all (subst P same i))

      of_longs : 0 < b → b ≤ bytes_in (descriptors 1 holder body) → onward b (descriptors 1 holder body) ≡ None
          → descriptors 1 holder (first_of 1 (kept_count b (descriptors 1 holder body)) (last_length b (descriptors 1 holder body)) body) ≡ trim b (descriptors 1 holder body)
      of_longs s w e =
          let same : descriptors 1 holder body ≡ longs holder b body all = unfold descriptors descriptor_at descriptor_count in refl in
          let P : List Descriptor → Type 0 = λ l. IsInside b l in
          let Q : List Descriptor → Type 0 = λ l. descriptors 1 holder (first_of 1 (kept_count b l) (last_length b l) body) ≡ trim b l in
          let i : IsInside b (descriptors 1 holder body) = record { some = s; within = w; ends = e } in
          subst Q (sym same) (long_cut holder b body all (subst P same i))

      number : (x y : ℕ) → (x == y) ≡ true → x ≡ y
      number x y t = grind (arith, nat_tests)

      choose : (x y : Bool) → (kind == 0) ≡ x → (kind == 1) ≡ y
          → descriptors kind holder (first_of kind (kept_count b (descriptors kind holder body)) (last_length b (descriptors kind holder body)) body) ≡ trim b (descriptors kind holder body)
      choose true y e f =
          let P : ℕ → Type 0 = λ k. 0 < b → b ≤ bytes_in (descriptors k holder body) → onward b (descriptors k holder body) ≡ None
          → descriptors k holder (first_of k (kept_count b (descriptors k holder body)) (last_length b (descriptors k holder body)) body) ≡ trim b (descriptors k holder body) in
          subst P (sym (number kind 0 e)) of_shorts some within ends
      choose false true e f =
          let P : ℕ → Type 0 = λ k. 0 < b → b ≤ bytes_in (descriptors k holder body) → onward b (descriptors k holder body) ≡ None
          → descriptors k holder (first_of k (kept_count b (descriptors k holder body)) (last_length b (descriptors k holder body)) body) ≡ trim b (descriptors k holder body) in
          subst P (sym (number kind 1 f)) of_longs some within ends
      choose false false e f = absurd (omega (arith, some, within, ap bytes_in (none_of kind holder body e f)))

  -- the descriptors of a cut body
  pub body_cut : (kind : ℕ) → (onward b (descriptors kind holder body) ≡ None → b ≤ bytes_in (descriptors kind holder body))
      → descriptors kind holder (cut_body kind holder b body) ≡ cut_descriptors b (descriptors kind holder body)
  unfolding cut_body cut_descriptors
  body_cut kind within = choose (b == 0) refl
    where
      positive : (b == 0) ≡ false → 0 < b
      positive e = grind (arith, nat_tests)

      by_onward : 0 < b → (q : Option Onward) → onward b (descriptors kind holder body) ≡ q
          → descriptors kind holder (cut_body_by kind b (descriptors kind holder body) body q) ≡ trim b (descriptors kind holder body)
      by_onward s None e = first_descriptors kind s (within e) e
      by_onward s (Some o) e = sym (trim_stays (descriptors kind holder body) b o e)

      choose : (t : Bool) → (b == 0) ≡ t
          → descriptors kind holder (cond t [] (cut_body_by kind b (descriptors kind holder body) body (onward b (descriptors kind holder body)))) ≡ cond t [] (trim b (descriptors kind holder body))
      choose true e = none_in_empty kind holder
      choose false e = by_onward (positive e) (onward b (descriptors kind holder body)) refl

  first_shorter : (kind : ℕ) → 0 < b → b ≤ bytes_in (descriptors kind holder body) → onward b (descriptors kind holder body) ≡ None
      → length (first_of kind (kept_count b (descriptors kind holder body)) (last_length b (descriptors kind holder body)) body) ≤ length body
  first_shorter kind some within ends = choose (kind == 0) (kind == 1) refl refl
    where
      of_shorts : 0 < b → b ≤ bytes_in (descriptors 0 holder body) → onward b (descriptors 0 holder body) ≡ None
          → length (first_of 0 (kept_count b (descriptors 0 holder body)) (last_length b (descriptors 0 holder body)) body) ≤ length body
      of_shorts s w e =
          let same : descriptors 0 holder body ≡ shorts holder b body all = unfold descriptors descriptor_at descriptor_count in refl in
          let P : List Descriptor → Type 0 = λ l. IsInside b l in
          let Q : List Descriptor → Type 0 = λ l. length (first_of 0 (kept_count b l) (last_length b l) body) ≤ length body in
          let i : IsInside b (descriptors 0 holder body) = record { some = s; within = w; ends = e } in
          subst Q (sym same) (short_shorter holder b body all (subst P same i))

      of_longs : 0 < b → b ≤ bytes_in (descriptors 1 holder body) → onward b (descriptors 1 holder body) ≡ None
          → length (first_of 1 (kept_count b (descriptors 1 holder body)) (last_length b (descriptors 1 holder body)) body) ≤ length body
      of_longs s w e =
          let same : descriptors 1 holder body ≡ longs holder b body all = unfold descriptors descriptor_at descriptor_count in refl in
          let P : List Descriptor → Type 0 = λ l. IsInside b l in
          let Q : List Descriptor → Type 0 = λ l. length (first_of 1 (kept_count b l) (last_length b l) body) ≤ length body in
          let i : IsInside b (descriptors 1 holder body) = record { some = s; within = w; ends = e } in
          subst Q (sym same) (long_shorter holder b body all (subst P same i))

      number : (x y : ℕ) → (x == y) ≡ true → x ≡ y
      number x y t = grind (arith, nat_tests)

      choose : (x y : Bool) → (kind == 0) ≡ x → (kind == 1) ≡ y
          → length (first_of kind (kept_count b (descriptors kind holder body)) (last_length b (descriptors kind holder body)) body) ≤ length body
      choose true y e f =
          let P : ℕ → Type 0 = λ k. 0 < b → b ≤ bytes_in (descriptors k holder body) → onward b (descriptors k holder body) ≡ None
          → length (first_of k (kept_count b (descriptors k holder body)) (last_length b (descriptors k holder body)) body) ≤ length body in
          subst P (sym (number kind 0 e)) of_shorts some within ends
      choose false true e f =
          let P : ℕ → Type 0 = λ k. 0 < b → b ≤ bytes_in (descriptors k holder body) → onward b (descriptors k holder body) ≡ None
          → length (first_of k (kept_count b (descriptors k holder body)) (last_length b (descriptors k holder body)) body) ≤ length body in
          subst P (sym (number kind 1 f)) of_longs some within ends
      choose false false e f = absurd (omega (arith, some, within, ap bytes_in (none_of kind holder body e f)))

  -- a cut body is not longer, and has bytes
  pub cut_shorter : (kind : ℕ) → (onward b (descriptors kind holder body) ≡ None → b ≤ bytes_in (descriptors kind holder body))
      → length (cut_body kind holder b body) ≤ length body
  unfolding cut_body
  cut_shorter kind within = choose (b == 0) refl
    where
      positive : (b == 0) ≡ false → 0 < b
      positive e = grind (arith, nat_tests)

      by_onward : 0 < b → (q : Option Onward) → onward b (descriptors kind holder body) ≡ q
          → length (cut_body_by kind b (descriptors kind holder body) body q) ≤ length body
      by_onward s None e = first_shorter kind s (within e) e
      by_onward s (Some o) e = omega arith

      choose : (t : Bool) → (b == 0) ≡ t → length (cond t [] (cut_body_by kind b (descriptors kind holder body) body (onward b (descriptors kind holder body)))) ≤ length body
      choose true e = omega arith
      choose false e = by_onward (positive e) (onward b (descriptors kind holder body)) refl

  pub cut_is_bytes : (kind : ℕ) → IsBytes (cut_body kind holder b body)
  unfolding cut_body
  cut_is_bytes kind = choose (b == 0)
    where
      none : IsBytes []
      none i = omega arith

      by_onward : (q : Option Onward) → IsBytes (cut_body_by kind b (descriptors kind holder body) body q)
      by_onward None = first_is_bytes kind (kept_count b (descriptors kind holder body)) (last_length b (descriptors kind holder body)) body all
      by_onward (Some o) = all

      choose : (t : Bool) → IsBytes (cond t [] (cut_body_by kind b (descriptors kind holder body) body (onward b (descriptors kind holder body))))
      choose true = none
      choose false = by_onward (onward b (descriptors kind holder body))
