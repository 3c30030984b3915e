-- The first descriptors of a body, the last of them with another length.
use Rattle.std.proofs.Common.{◌≡◌, ℕ, Bool, true, false, cond, ◌+◌, ◌-◌, ◌*◌, ◌/◌, ◌%◌, ◌^◌, ◌<◌, ◌≤◌, ◌==◌, ◌⊎◌, inl, inr, List, length, take, arith, sym, ◌∙◌, ap}
use Rattle.std.proofs.lemmas.Bool.Decides.{nat_tests}
use Rattle.std.proofs.lemmas.List.{length-take-le, get_or-take}
use Rattle.udf_field.specs.declared.address.Addr.{Addr}
use Rattle.udf_field.specs.FieldView.{short_at, long_at}
use Rattle.udf_model.specs.Bytes.{IsBytes, number_at, with_number}
use Rattle.udf_model.proofs.Written.{number_length, number_back, number_stays, number_fits, number_is_bytes, same_number}
use Rattle.udf_model.proofs.Parts.{take_is_bytes}
use Rattle.udf_file_model.specs.Address.{addr}
use Rattle.udf_file_model.specs.Descriptors.{Descriptor, of_short, of_long, descriptor_at, descriptor_count, descriptors_from, descriptors}
use Rattle.udf_file_model.specs.CutBody.{width_of, with_length, with_last, kept_count, last_length, first_of}
use Rattle.udf_file_model.specs.Cut.{trim}
use Rattle.udf_file_model.proofs.Trim.{IsInside, count_some, kept_within, last_below, HasFirst, trim_from}

-- a front of a body in which one number is new
module _ (t p v : ℕ) (body : List ℕ) (inside : p + 4 ≤ t) (within : t ≤ length body) where
  abbrev part : List ℕ
  part = take t (with_number 4 p v body)

  part_length : length part ≡ t
  part_length = length-take-le t (with_number 4 p v body) (omega (arith, number_length 4 p v body (omega arith)))

  in_part : (m i : ℕ) → i + m ≤ t → number_at m part i ≡ number_at m (with_number 4 p v body) i
  in_part m i h = same_number m i part (with_number 4 p v body) (λ j low high. get_or-take t (with_number 4 p v body) j 0 (omega arith))

  part_stays : (m i : ℕ) → i + m ≤ t → (i + m ≤ p) ⊎ (p + 4 ≤ i) → number_at m part i ≡ number_at m body i
  part_stays m i h o = in_part m i h ∙ number_stays 4 p v m i body (omega arith) o

  part_there : v < 256 ^ 4 → number_at 4 part p ≡ v
  part_there small = in_part 4 p inside ∙ number_back 4 p v body (omega arith) small

abbrev stored : ℕ → ℕ → List ℕ → ℕ
stored p last body = number_at 4 body p / 1073741824 * 1073741824 + last

module _ (p last : ℕ) (body : List ℕ) (all : IsBytes body) (small : last < 1073741824) where
  stored_fits : stored p last body < 256 ^ 4
  stored_fits = omega (arith, number_fits 4 p body all, small)

  stored_kind : stored p last body / 2 ^ 30 ≡ number_at 4 body p / 2 ^ 30
  stored_kind = omega (arith, small)

  stored_bytes : stored p last body % 2 ^ 30 ≡ last
  stored_bytes = omega (arith, small)

make_short : Addr → ℕ → ℕ → ℕ → ℕ → Descriptor
make_short holder j kind bytes block = record { kind = kind; length = bytes; at = addr holder.part block; holder = holder; index = j }

make_long : Addr → ℕ → ℕ → ℕ → ℕ → ℕ → Descriptor
make_long holder j kind bytes block part = record { kind = kind; length = bytes; at = record { part = part; block = block }; holder = holder; index = j }

module _ (holder : Addr) (n last : ℕ) (body : List ℕ) (some : 0 < n) (small : last < 1073741824) (all : IsBytes body) where
  abbrev front : ℕ → List ℕ
  front w = take (n * w) (with_number 4 ((n - 1) * w) (stored ((n - 1) * w) last body) body)

  short_first : n * 8 ≤ length body → HasFirst (λ j. of_short holder j (short_at body (8 * j))) (λ j. of_short holder j (short_at (front 8) (8 * j))) 0 n last
  unfolding make_short
  short_first room = record {
    before = λ j low high.
        let a = part_stays (n * 8) ((n - 1) * 8) (stored ((n - 1) * 8) last body) body (omega arith) room 4 (8 * j) (omega arith) (inl (omega arith)) in
        let b = part_stays (n * 8) ((n - 1) * 8) (stored ((n - 1) * 8) last body) body (omega arith) room 4 (8 * j + 4) (omega arith) (inl (omega arith)) in
        ap (λ x. make_short holder j (x / 2 ^ 30) (x % 2 ^ 30) (number_at 4 (front 8) (8 * j + 4))) a
        ∙ ap (λ x. make_short holder j (number_at 4 body (8 * j) / 2 ^ 30) (number_at 4 body (8 * j) % 2 ^ 30) x) b;
    end = λ j is.
        let at : 8 * j ≡ (n - 1) * 8 = omega arith in
        let a = part_there (n * 8) ((n - 1) * 8) (stored ((n - 1) * 8) last body) body (omega arith) room (stored_fits ((n - 1) * 8) last body all small) in
        let b = part_stays (n * 8) ((n - 1) * 8) (stored ((n - 1) * 8) last body) body (omega arith) room 4 (8 * j + 4) (omega arith) (inr (omega arith)) in
        let same : number_at 4 (front 8) (8 * j) ≡ stored ((n - 1) * 8) last body = ap (number_at 4 (front 8)) at ∙ a in
        ap (λ x. make_short holder j (x / 2 ^ 30) (x % 2 ^ 30) (number_at 4 (front 8) (8 * j + 4))) same
        ∙ ap (λ x. make_short holder j x (stored ((n - 1) * 8) last body % 2 ^ 30) (number_at 4 (front 8) (8 * j + 4)))
        (stored_kind ((n - 1) * 8) last body all small ∙ ap (λ k. number_at 4 body k / 2 ^ 30) (sym at))
        ∙ ap (λ x. make_short holder j (number_at 4 body (8 * j) / 2 ^ 30) x (number_at 4 (front 8) (8 * j + 4))) (stored_bytes ((n - 1) * 8) last body all small)
        ∙ ap (λ x. make_short holder j (number_at 4 body (8 * j) / 2 ^ 30) last x) b;
  }

  long_first : n * 16 ≤ length body → HasFirst (λ j. of_long holder j (long_at body (16 * j))) (λ j. of_long holder j (long_at (front 16) (16 * j))) 0 n last
  unfolding make_long
  long_first room = record {
    before = λ j low high.
        let s = part_stays (n * 16) ((n - 1) * 16) (stored ((n - 1) * 16) last body) body (omega arith) room in
        let a = s 4 (16 * j) (omega arith) (inl (omega arith)) in
        let b = s 4 (16 * j + 4) (omega arith) (inl (omega arith)) in
        let c = s 2 (16 * j + 4 + 4) (omega arith) (inl (omega arith)) in
        ap (λ x. make_long holder j (x / 2 ^ 30) (x % 2 ^ 30) (number_at 4 (front 16) (16 * j + 4)) (number_at 2 (front 16) (16 * j + 4 + 4))) a
        ∙ ap (λ x. make_long holder j (number_at 4 body (16 * j) / 2 ^ 30) (number_at 4 body (16 * j) % 2 ^ 30) x (number_at 2 (front 16) (16 * j + 4 + 4))) b
        ∙ ap (λ x. make_long holder j (number_at 4 body (16 * j) / 2 ^ 30) (number_at 4 body (16 * j) % 2 ^ 30) (number_at 4 body (16 * j + 4)) x) c;
    end = λ j is.
        let at : 16 * j ≡ (n - 1) * 16 = omega arith in
        let a = part_there (n * 16) ((n - 1) * 16) (stored ((n - 1) * 16) last body) body (omega arith) room (stored_fits ((n - 1) * 16) last body all small) in
        let s = part_stays (n * 16) ((n - 1) * 16) (stored ((n - 1) * 16) last body) body (omega arith) room in
        let b = s 4 (16 * j + 4) (omega arith) (inr (omega arith)) in
        let c = s 2 (16 * j + 4 + 4) (omega arith) (inr (omega arith)) in
        let same : number_at 4 (front 16) (16 * j) ≡ stored ((n - 1) * 16) last body = ap (number_at 4 (front 16)) at ∙ a in
        ap (λ x. make_long holder j (x / 2 ^ 30) (x % 2 ^ 30) (number_at 4 (front 16) (16 * j + 4)) (number_at 2 (front 16) (16 * j + 4 + 4))) same
        ∙ ap (λ x. make_long holder j x (stored ((n - 1) * 16) last body % 2 ^ 30) (number_at 4 (front 16) (16 * j + 4)) (number_at 2 (front 16) (16 * j + 4 + 4)))
        (stored_kind ((n - 1) * 16) last body all small ∙ ap (λ k. number_at 4 body k / 2 ^ 30) (sym at))
        ∙ ap (λ x. make_long holder j (number_at 4 body (16 * j) / 2 ^ 30) x (number_at 4 (front 16) (16 * j + 4)) (number_at 2 (front 16) (16 * j + 4 + 4)))
        (stored_bytes ((n - 1) * 16) last body all small)
        ∙ ap (λ x. make_long holder j (number_at 4 body (16 * j) / 2 ^ 30) last x (number_at 2 (front 16) (16 * j + 4 + 4))) b
        ∙ ap (λ x. make_long holder j (number_at 4 body (16 * j) / 2 ^ 30) last (number_at 4 body (16 * j + 4)) x) c;
  }

  some_test : (n == 0) ≡ false
  some_test = grind (arith, nat_tests)

  first_short : first_of 0 n last body ≡ front 8
  unfolding first_of with_last with_length width_of
  first_short =
      ap (λ t. take (n * 8) (cond t body (with_number 4 (0 + (n - 1) * 8) (number_at 4 body (0 + (n - 1) * 8) / 1073741824 * 1073741824 + last) body))) some_test
      ∙ ap (λ k. take (n * 8) (with_number 4 k (number_at 4 body k / 1073741824 * 1073741824 + last) body)) (let e : 0 + (n - 1) * 8 ≡ (n - 1) * 8 = omega arith in e)

  first_long : first_of 1 n last body ≡ front 16
  unfolding first_of with_last with_length width_of
  first_long =
      ap (λ t. take (n * 16) (cond t body (with_number 4 (0 + (n - 1) * 16) (number_at 4 body (0 + (n - 1) * 16) / 1073741824 * 1073741824 + last) body))) some_test
      ∙ ap (λ k. take (n * 16) (with_number 4 k (number_at 4 body k / 1073741824 * 1073741824 + last) body)) (let e : 0 + (n - 1) * 16 ≡ (n - 1) * 16 = omega arith in e)

-- the descriptors of the first of a body
module _ (holder : Addr) (b : ℕ) (body : List ℕ) (all : IsBytes body) where
  small_length : (j : ℕ) → (of_short holder j (short_at body (8 * j))).length < 1073741824
  small_length j = omega arith

  large_length : (j : ℕ) → (of_long holder j (long_at body (16 * j))).length < 1073741824
  large_length j = omega arith

  abbrev pub shorts : List Descriptor
  shorts = descriptors_from (λ j. of_short holder j (short_at body (8 * j))) 0 (length body / 8)

  abbrev pub longs : List Descriptor
  longs = descriptors_from (λ j. of_long holder j (long_at body (16 * j))) 0 (length body / 16)

  pub short_cut : IsInside b shorts → descriptors 0 holder (first_of 0 (kept_count b shorts) (last_length b shorts) body) ≡ trim b shorts
  unfolding descriptors descriptor_at descriptor_count
  short_cut h =
      let n = kept_count b shorts in
      let last = last_length b shorts in
      let some = count_some shorts b h in
      let fits = kept_within (λ j. of_short holder j (short_at body (8 * j))) (length body / 8) 0 b h in
      let small = last_below (λ j. of_short holder j (short_at body (8 * j))) 1073741824 (length body / 8) 0 b small_length h in
      let room : n * 8 ≤ length body = omega (arith, fits) in
      let many : length (front holder n last body some small all 8) / 8 ≡ n =
      omega (arith, part_length (n * 8) ((n - 1) * 8) (stored ((n - 1) * 8) last body) body (omega (arith, some)) room) in
      ap (λ xs. descriptors_from (λ j. of_short holder j (short_at xs (8 * j))) 0 (length xs / 8)) (first_short holder n last body some small all)
      ∙ ap (descriptors_from (λ j. of_short holder j (short_at (front holder n last body some small all 8) (8 * j))) 0) many
      ∙ trim_from (λ j. of_short holder j (short_at body (8 * j))) (λ j. of_short holder j (short_at (front holder n last body some small all 8) (8 * j))) (length body / 8) 0 b h
      (short_first holder n last body some small all room)

  pub long_cut : IsInside b longs → descriptors 1 holder (first_of 1 (kept_count b longs) (last_length b longs) body) ≡ trim b longs
  unfolding descriptors descriptor_at descriptor_count
  long_cut h =
      let n = kept_count b longs in
      let last = last_length b longs in
      let some = count_some longs b h in
      let fits = kept_within (λ j. of_long holder j (long_at body (16 * j))) (length body / 16) 0 b h in
      let small = last_below (λ j. of_long holder j (long_at body (16 * j))) 1073741824 (length body / 16) 0 b large_length h in
      let room : n * 16 ≤ length body = omega (arith, fits) in
      let many : length (front holder n last body some small all 16) / 16 ≡ n =
      omega (arith, part_length (n * 16) ((n - 1) * 16) (stored ((n - 1) * 16) last body) body (omega (arith, some)) room) in
      ap (λ xs. descriptors_from (λ j. of_long holder j (long_at xs (16 * j))) 0 (length xs / 16)) (first_long holder n last body some small all)
      ∙ ap (descriptors_from (λ j. of_long holder j (long_at (front holder n last body some small all 16) (16 * j))) 0) many
      ∙ trim_from (λ j. of_long holder j (long_at body (16 * j))) (λ j. of_long holder j (long_at (front holder n last body some small all 16) (16 * j))) (length body / 16) 0 b h
      (long_first holder n last body some small all room)

  pub short_shorter : IsInside b shorts → length (first_of 0 (kept_count b shorts) (last_length b shorts) body) ≤ length body
  short_shorter h =
      let n = kept_count b shorts in
      let last = last_length b shorts in
      let some = count_some shorts b h in
      let fits = kept_within (λ j. of_short holder j (short_at body (8 * j))) (length body / 8) 0 b h in
      let small = last_below (λ j. of_short holder j (short_at body (8 * j))) 1073741824 (length body / 8) 0 b small_length h in
      let room : n * 8 ≤ length body = omega (arith, fits) in
      omega (
        arith,
        ap length (first_short holder n last body some small all),
        part_length (n * 8) ((n - 1) * 8) (stored ((n - 1) * 8) last body) body (omega (arith, some)) room,
        room,
      )

  pub long_shorter : IsInside b longs → length (first_of 1 (kept_count b longs) (last_length b longs) body) ≤ length body
  long_shorter h =
      let n = kept_count b longs in
      let last = last_length b longs in
      let some = count_some longs b h in
      let fits = kept_within (λ j. of_long holder j (long_at body (16 * j))) (length body / 16) 0 b h in
      let small = last_below (λ j. of_long holder j (long_at body (16 * j))) 1073741824 (length body / 16) 0 b large_length h in
      let room : n * 16 ≤ length body = omega (arith, fits) in
      omega (
        arith,
        ap length (first_long holder n last body some small all),
        part_length (n * 16) ((n - 1) * 16) (stored ((n - 1) * 16) last body) body (omega (arith, some)) room,
        room,
      )

pub first_is_bytes : (kind n last : ℕ) (body : List ℕ) → IsBytes body → IsBytes (first_of kind n last body)
unfolding first_of with_last with_length
first_is_bytes kind n last body all = take_is_bytes (n * width_of kind) _ (choose (n == 0))
  where
    choose : (t : Bool) → IsBytes (cond t body (with_number 4 (0 + (n - 1) * width_of kind) (number_at 4 body (0 + (n - 1) * width_of kind) / 1073741824 * 1073741824 + last) body))
    choose true = all
    choose false = number_is_bytes 4 (0 + (n - 1) * width_of kind) (number_at 4 body (0 + (n - 1) * width_of kind) / 1073741824 * 1073741824 + last) body all
