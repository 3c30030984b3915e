-- A new integrity descriptor, before its tag is made.
use Rattle.std.proofs.Common.{◌≡◌, ℕ, zero, suc, ◌<◌, ◌≤◌, ◌^◌, arith, refl, ◌∙◌, List, [], ◌∷◌, length, get_or, drop, inl, inr, ap, replicate, codes, Bool, true, false, cond, ltb}
use Rattle.std.specs.List.{list_all}
use Rattle.std.proofs.lemmas.Bool.{and_parts, ltb-true}
use Rattle.std.proofs.lemmas.List.{length-replicate}
use Rattle.udf_model.specs.Bytes.{IsBytes, number_at, written_at}
use Rattle.udf_model.proofs.Written.{number_apart, same_number, written_is_bytes, written_length}
use Rattle.byteorder.specs.Endian.{little_number}
use Rattle.udf_file_model.specs.Wanted.{with_fields}
use Rattle.udf_file_model.proofs.Fields.{AllFit, fields_are_bytes, fields_length, fields_read}
use Rattle.udf_space_mends.specs.IntegrityMend.{fresh_block, fresh_fields}

-- bytes of a list that was looked through
small_bytes : (xs : List ℕ) → list_all (λ x. ltb x 256) xs ≡ true → IsBytes xs
small_bytes [] e i = omega arith
small_bytes (x ∷ xs) e zero = ltb-true x 256 (and_parts (ltb x 256) (list_all (λ x. ltb x 256) xs) e).0
small_bytes (x ∷ xs) e (suc i) = small_bytes xs (and_parts (ltb x 256) (list_all (λ x. ltb x 256) xs) e).1 i

zero_bytes : (n : ℕ) → IsBytes (replicate n 0)
zero_bytes zero i = omega arith
zero_bytes (suc n) zero = omega arith
zero_bytes (suc n) (suc i) = zero_bytes n i

zero_byte : (n i : ℕ) → get_or {A = ℕ} (replicate n 0) i 0 ≡ 0
zero_byte zero i = refl
zero_byte (suc n) zero = refl
zero_byte (suc n) (suc i) = zero_byte n i

drop_none : (n : ℕ) → drop {A = ℕ} n [] ≡ []
drop_none zero = refl
drop_none (suc n) = refl

zero_number : (n at : ℕ) → number_at 4 (replicate n 0) at ≡ 0
zero_number n at = same_number 4 at (replicate n 0) [] (λ k l h. zero_byte n k) ∙ none
  where
    none : number_at 4 [] at ≡ 0
    none = unfold number_at in ap (little_number 4) (drop_none at)

abbrev name : List ℕ
name = codes "*UDFTOOLS-R"

module _ (size : ℕ) (stamp : List ℕ) (revision : ℕ) (big : 512 ≤ size) (twelve : length stamp ≡ 12) (bytes : IsBytes stamp) (low : revision < 2 ^ 16) where
  named_long : length (written_at 89 name (replicate size 0)) ≡ size
  named_long = written_length 89 name (replicate size 0) (omega (arith, length-replicate {A = ℕ} size 0)) ∙ length-replicate {A = ℕ} size 0

  block_long : length (fresh_block size stamp) ≡ size
  block_long = written_length 16 stamp (written_at 89 name (replicate size 0)) (omega (arith, named_long, twelve)) ∙ named_long

  block_is_bytes : IsBytes (fresh_block size stamp)
  block_is_bytes = written_is_bytes 16 stamp (written_at 89 name (replicate size 0)) bytes (written_is_bytes 89 name (replicate size 0) (small_bytes name refl) (zero_bytes size))

  version_fits : (cond (ltb revision 512) 2 3) < 256 ^ 2
  version_fits = by (ltb revision 512)
    where
      by : (b : Bool) → (cond b 2 3) < 256 ^ 2
      by true = omega arith
      by false = omega arith

  fresh_fit : AllFit (length (fresh_block size stamp)) (fresh_fields revision)
  fresh_fit = (
    omega (arith, block_long),
    omega arith,
    (
      omega (arith, block_long),
      version_fits,
      (
        omega (arith, block_long),
        omega arith,
        (
          omega (arith, block_long),
          omega arith,
          (
            omega (arith, block_long),
            omega arith,
            (
              omega (arith, block_long),
              omega (arith, low),
              (
                omega (arith, block_long),
                omega (arith, low),
                (omega (arith, block_long), omega (arith, low), tt),
              ),
            ),
          ),
        ),
      ),
    ),
  )

  abbrev pub base : List ℕ
  base = with_fields (fresh_fields revision) (fresh_block size stamp)

  pub base_long : length base ≡ size
  base_long = fields_length (fresh_fields revision) (fresh_block size stamp) fresh_fit ∙ block_long

  pub base_is_bytes : IsBytes base
  base_is_bytes = fields_are_bytes (fresh_fields revision) (fresh_block size stamp) block_is_bytes

  pub base_nine : number_at 2 base 0 ≡ 9
  base_nine = fields_read (fresh_fields revision) (fresh_block size stamp) 2 0 9 fresh_fit refl

  pub base_one : number_at 4 base 72 ≡ 1
  base_one = fields_read (fresh_fields revision) (fresh_block size stamp) 4 72 1 fresh_fit refl

  -- zeros stand before the recording time's end and the implementation's name
  block_next : number_at 4 (fresh_block size stamp) 32 ≡ 0
  block_next =
      number_apart 16 12 4 32 stamp (written_at 89 name (replicate size 0)) twelve (omega (arith, named_long, big)) (inr (omega arith))
      ∙ number_apart 89 11 4 32 name (replicate size 0) refl (omega (arith, length-replicate {A = ℕ} size 0, big)) (inl (omega arith))
      ∙ zero_number size 32

  pub base_next : number_at 4 base 32 ≡ 0
  base_next = fields_read (fresh_fields revision) (fresh_block size stamp) 4 32 (number_at 4 (fresh_block size stamp) 32) fresh_fit refl ∙ block_next

  pub base_use : number_at 4 base 76 ≡ 46
  base_use = fields_read (fresh_fields revision) (fresh_block size stamp) 4 76 46 fresh_fit refl
