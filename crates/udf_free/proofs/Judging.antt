-- The verdict by the bits is that of the rule.
use Rattle.std.proofs.Common.{◌≡◌, ℕ, ◌+◌, refl, sym, ◌∙◌, ap, Bool, true, false, cond, not, Some, None, List, [], ◌∷◌, length, map, drop}
use Rattle.std.specs.List.{count_by, range_with_len}
use Rattle.std.specs.Simd.Lanes.{zip2}
use Rattle.std.proofs.lemmas.List.Sums.{sum_by-cons}
use Rattle.std.proofs.lemmas.Simd.{zip2-map}
use Rattle.udf_field.specs.declared.address.Short.{Short}
use Rattle.udf_file_model.specs.Address.{addr}
use Rattle.udf_file_model.specs.Listing.{Volume}
use Rattle.udf_space.specs.Area.{bitmap_in, is_bitmap}
use Rattle.udf_space.specs.Bits.{bit_of, bits_of, differ}
use Rattle.udf_space.proofs.Packing.{bits_length}
use Rattle.udf_tree_model.specs.Claimed.{is_free}
use Rattle.udf_tree_model.specs.Frame.{Frame}
use Rattle.udf_rules_model.specs.Bitmap.{area_of, is_headed, same_bit, wrong_bits}
use Rattle.udf_free.specs.Free.{free_bits}
use Rattle.udf_free.specs.Verdict.{verdict_in, verdict_on}
use Rattle.udf_free.specs.declared.verdict.BitmapVerdict.{BitmapVerdict}

differs_is : (a b : Bool) → differ a b ≡ not (same_bit b a)
differs_is true true = refl
differs_is true false = refl
differs_is false true = refl
differs_is false false = refl

-- a count over a list of answers
pub counted : (g h : ℕ → Bool) → ((n : ℕ) → g n ≡ h n) → (xs : List ℕ) → count_by (λ b. b) (map g xs) ≡ count_by h xs
counted g h same [] = refl
counted g h same (x ∷ xs) =
    sum_by-cons (λ b. cond b 1 0) (g x) (map g xs) ∙ ap (λ b. cond b 1 0 + count_by (λ b. b) (map g xs)) (same x)
    ∙ ap (λ n. cond (h x) 1 0 + n) (counted g h same xs) ∙ sym (sum_by-cons (λ y. cond (h y) 1 0) x xs)

wrong_counted : (f : Frame) (v : Volume) (blocks : ℕ) (area : List ℕ)
    → count_by (λ b. b) (zip2 differ (free_bits f v blocks) (bits_of blocks (drop 24 area))) ≡ wrong_bits f v blocks area
unfolding free_bits bits_of wrong_bits
wrong_counted f v blocks area =
    ap (count_by (λ b. b)) (zip2-map differ (λ n. is_free f v (addr 0 n)) (bit_of (drop 24 area)) (range_with_len 0 blocks))
    ∙ counted (λ n. differ (is_free f v (addr 0 n)) (bit_of (drop 24 area) n)) (λ n. not (same_bit (bit_of (drop 24 area) n) (is_free f v (addr 0 n))))
    (λ n. differs_is (is_free f v (addr 0 n)) (bit_of (drop 24 area) n)) (range_with_len 0 blocks)

pub judged : (f : Frame) (v : Volume) (blocks : ℕ) (extent : Short)
    → verdict_on blocks extent (free_bits f v blocks) (area_of v extent) ≡ verdict_in f v blocks extent
unfolding verdict_on
judged f v blocks extent = by (is_headed blocks extent (area_of v extent))
  where
    by : (b : Bool) → cond b (record { headed = true; wrong = count_by (λ d. d) (zip2 differ (free_bits f v blocks) (bits_of blocks (drop 24 (area_of v extent)))) }) (record { headed = false; wrong = blocks })
        ≡ (let r : BitmapVerdict = record { headed = b; wrong = cond b (wrong_bits f v blocks (area_of v extent)) blocks } in r)
    by true = ap (λ n. let r : BitmapVerdict = record { headed = true; wrong = n } in r) (wrong_counted f v blocks (area_of v extent))
    by false = refl

-- a bitmap that is read has a bit for each block
pub bits_read : (blocks : ℕ) (area : List ℕ) (bits : List Bool) → bitmap_in blocks area ≡ Some bits → length bits ≡ blocks
unfolding bitmap_in
bits_read blocks area bits = by (is_bitmap blocks area)
  where
    by : (b : Bool) → cond b (Some (bits_of blocks (drop 24 area))) None ≡ Some bits → length bits ≡ blocks
    by true e = ap length (some_same (bits_of blocks (drop 24 area)) bits e) ∙ bits_length blocks (drop 24 area)
      where
        some_same : (xs ys : List Bool) → Some xs ≡ Some ys → ys ≡ xs
        some_same xs ys i = cc
    by false e = absurd cc
