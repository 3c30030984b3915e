-- One bit, by division.
use Rattle.std.proofs.Common.{◌≡◌, ℕ, suc, zero, ◌*◌, ◌/◌, ◌%◌, ◌<◌, arith, ◌∙◌, ap, bit_and}
use Rattle.std.specs.Prelude.{nat_eq}
use Rattle.std.proofs.lemmas.Nat.Bits.{and_pow}
use Rattle.std.proofs.lemmas.Bool.Decides.{nat_tests}

one_of_two : (b k : ℕ) → b < 2 → 0 < k → nat_eq (b * k) k ≡ nat_eq b 1
one_of_two zero k low some = grind (arith, nat_tests)
one_of_two (suc zero) k low some = grind (arith, nat_tests)
one_of_two (suc (suc b)) k low some = absurd (omega arith)

pub deleted_bit : (n : ℕ) → nat_eq (bit_and n 4) 4 ≡ nat_eq (n / 4 % 2) 1
deleted_bit n = ap (λ m. nat_eq m 4) (and_pow n 2) ∙ one_of_two (n / 4 % 2) 4 (omega arith) (omega arith)

pub parent_bit : (n : ℕ) → nat_eq (bit_and n 8) 8 ≡ nat_eq (n / 8 % 2) 1
parent_bit n = ap (λ m. nat_eq m 8) (and_pow n 3) ∙ one_of_two (n / 8 % 2) 8 (omega arith) (omega arith)
