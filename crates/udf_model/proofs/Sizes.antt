-- How large a block may be.
use Rattle.std.proofs.Common.{◌≡◌, ◌≤◌, ⊎_elim, ℕ, ◌==◌, ◌||◌, true, arith}
use Rattle.std.proofs.lemmas.Bool.{eqb-true, or_cases}
use Rattle.udf_model.specs.Size.{is_size}

pub size_cases : (size : ℕ) → is_size size ≡ true → (512 ≤ size) × (size ≤ 4096)
unfolding is_size
size_cases size test =
    ⊎_elim (λ e. let is = eqb-true size 512 e in (omega arith, omega arith))
    (λ rest. ⊎_elim (λ e. let is = eqb-true size 1024 e in (omega arith, omega arith))
    (λ rest'. ⊎_elim (λ e. let is = eqb-true size 2048 e in (omega arith, omega arith)) (λ e. let is = eqb-true size 4096 e in (omega arith, omega arith))
    (or_cases (size == 2048) (size == 4096) rest'))
    (or_cases (size == 1024) ((size == 2048) || (size == 4096)) rest))
    (or_cases (size == 512) ((size == 1024) || ((size == 2048) || (size == 4096))) test)

pub large : (size : ℕ) → is_size size ≡ true → 512 ≤ size
large size is = (size_cases size is).0

pub small : (size : ℕ) → is_size size ≡ true → size ≤ 4096
small size is = (size_cases size is).1
