-- The blocks of integrity descriptors, as they are written.
use Rattle.std.proofs.Common.{◌≡◌, ℕ, ◌+◌, ◌%◌, ◌/◌, ◌^◌, arith, sym, ◌∙◌, ap, List, [], ◌∷◌, ◌++◌, length, take, drop, replicate}
use Rattle.std.specs.Prelude.{codes}
use Rattle.std.proofs.lemmas.List.{drop-drop}
use borrow.Rule.Slice.PartMut.{put_mid}
use Rattle.byteorder.specs.Endian.{little_bytes}
use Rattle.udf_model.specs.Bytes.{with_number, written_at}
use Rattle.udf_file_model.specs.Wanted.{with_fields}
use Rattle.udf_space_mends.specs.IntegrityMend.{fresh_block}
use Rattle.udf_space_plan.specs.Descriptor.{counted}
use Rattle.udf_space_plan.specs.declared.descriptor.Counts.{Counts}

abbrev little_rest : ℕ → List ℕ
little_rest m = m / 256 % 256 ∷ m / 65536 % 256 ∷ m / 16777216 % 256 ∷ []

low_bytes : (n : ℕ) → little_bytes 4 (n % 2 ^ 32) ≡ little_bytes 4 n
low_bytes n =
    let zero : n % 2 ^ 32 % 256 ≡ n % 256 = omega arith in
    let one : n % 2 ^ 32 / 256 % 256 ≡ n / 256 % 256 = omega arith in
    let two : n % 2 ^ 32 / 65536 % 256 ≡ n / 65536 % 256 = omega arith in
    let three : n % 2 ^ 32 / 16777216 % 256 ≡ n / 16777216 % 256 = omega arith in
    ap (λ k. k ∷ little_rest (n % 2 ^ 32)) zero
    ∙ ap (λ k. n % 256 ∷ k ∷ n % 2 ^ 32 / 65536 % 256 ∷ n % 2 ^ 32 / 16777216 % 256 ∷ []) one
    ∙ ap (λ k. n % 256 ∷ n / 256 % 256 ∷ k ∷ n % 2 ^ 32 / 16777216 % 256 ∷ []) two
    ∙ ap (λ k. n % 256 ∷ n / 256 % 256 ∷ n / 65536 % 256 ∷ k ∷ []) three

low_number : (at n : ℕ) (area : List ℕ) → with_number 4 at (n % 2 ^ 32) area ≡ with_number 4 at n area
unfolding with_number
low_number at n area = ap (λ (b : List ℕ). take at area ++ (b ++ drop (at + 4) area)) (low_bytes n)

-- the counts, of which those of files and directories keep their lowest four bytes
pub counts_written : (c : Counts) (area b1 b2 b3 b4 b5 b6 : List ℕ) (files directories : ℕ) → directories ≡ c.directories % 2 ^ 32 → files ≡ c.files % 2 ^ 32
    → b1 ≡ with_number 4 124 directories area → b2 ≡ with_number 4 120 files b1 → b3 ≡ with_number 4 84 c.blocks b2 → b4 ≡ with_number 4 80 c.free b3
    → b5 ≡ with_number 8 40 c.next_id b4 → b6 ≡ with_number 4 28 1 b5 → b6 ≡ counted c area
unfolding counted with_fields
counts_written c area b1 b2 b3 b4 b5 b6 files directories d f e1 e2 e3 e4 e5 e6 =
    e6 ∙ ap (with_number 4 28 1)
    (e5 ∙ ap (with_number 8 40 c.next_id)
    (e4 ∙ ap (with_number 4 80 c.free)
    (e3 ∙ ap (with_number 4 84 c.blocks)
    (e2 ∙ ap (λ n. with_number 4 120 n b1) f ∙ low_number 120 c.files b1
    ∙ ap (with_number 4 120 c.files) (e1 ∙ ap (λ n. with_number 4 124 n area) d ∙ low_number 124 c.directories area)))))

-- the name over the zeros
name_written : (xs : List ℕ) → put_mid 89 11 xs (codes "*UDFTOOLS-R") ≡ written_at 89 (codes "*UDFTOOLS-R") xs
unfolding written_at
name_written xs = ap (λ rest. take 89 xs ++ (codes "*UDFTOOLS-R" ++ rest)) (drop-drop 11 89 xs)

stamp_written : (stamp : List ℕ) → length stamp ≡ 12 → (xs : List ℕ) → put_mid 16 12 xs stamp ≡ written_at 16 stamp xs
unfolding written_at
stamp_written stamp long xs = ap (λ rest. take 16 xs ++ (stamp ++ rest)) (drop-drop 12 16 xs) ∙ ap (λ k. take 16 xs ++ (stamp ++ drop (16 + k) xs)) (sym long)

-- the zeros, and what is laid over them
pub blank_written : (size : ℕ) (stamp laid zeros name : List ℕ) → length stamp ≡ 12 → laid ≡ stamp → zeros ≡ replicate size 0 → name ≡ codes "*UDFTOOLS-R"
    → put_mid 16 12 (put_mid 89 11 zeros name) laid ≡ fresh_block size stamp
blank_written size stamp laid zeros name long l z n =
    ap (λ (xs : List ℕ). put_mid 16 12 (put_mid 89 11 zeros name) xs) l
    ∙ ap (λ (xs : List ℕ). put_mid 16 12 (put_mid 89 11 zeros xs) stamp) n
    ∙ ap (λ (xs : List ℕ). put_mid 16 12 (put_mid 89 11 xs (codes "*UDFTOOLS-R")) stamp) z
    ∙ ap (λ (xs : List ℕ). put_mid 16 12 xs stamp) (name_written (replicate size 0))
    ∙ stamp_written stamp long (written_at 89 (codes "*UDFTOOLS-R") (replicate size 0))
