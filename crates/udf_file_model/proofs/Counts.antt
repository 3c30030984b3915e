-- Blocks and bytes, and the bytes of descriptors.
use Rattle.std.proofs.Common.{◌≡◌, ℕ, Bool, true, false, cond, ◌+◌, ◌-◌, ◌*◌, ◌/◌, ◌<◌, ◌≤◌, ◌==◌, arith, ap, refl}
use Rattle.std.proofs.lemmas.Bool.Decides.{nat_tests}
use Rattle.std.proofs.lemmas.Nat.{div-mul-add}
use Rattle.std.proofs.Math.Nat.{le-div_iff_mul-le}
use Rattle.udf_file_model.specs.CutBody.{width_of}
use Rattle.udf_file_model.specs.Descriptors.{descriptor_count}
use Rattle.udf_file_model.specs.Front.{blocks_for}

pub front_less : (size n bytes : ℕ) → 0 < size → n < blocks_for size bytes → n * size < bytes
front_less size n bytes some h =
    let f : (n + 1) * size ≤ bytes + (size - 1) = (le-div_iff_mul-le {k = size} {x = n + 1} {y = bytes + (size - 1)} some).0 (omega arith) in
    omega (arith, f)

pub front_blocks : (size n : ℕ) → 0 < size → blocks_for size (n * size) ≡ n
front_blocks size n some = div-mul-add n size (size - 1) (omega arith)

-- so many whole descriptors fit a body
pub count_fits : (kind n bytes : ℕ) → n ≤ descriptor_count kind bytes → (n * width_of kind ≤ bytes) × (kind ≡ 3 → n ≡ 0)
unfolding descriptor_count width_of
count_fits kind n bytes h = choose (kind == 0) (kind == 1) refl refl h
  where
    choose : (a b : Bool) → (kind == 0) ≡ a → (kind == 1) ≡ b → n ≤ cond a (bytes / 8) (cond b (bytes / 16) 0) → (n * cond a 8 16 ≤ bytes) × (kind ≡ 3 → n ≡ 0)
    choose true b e f h = ((le-div_iff_mul-le {k = 8} {x = n} {y = bytes} (omega arith)).0 h, λ z. absurd (grind (arith, nat_tests)))
    choose false true e f h = ((le-div_iff_mul-le {k = 16} {x = n} {y = bytes} (omega arith)).0 h, λ z. absurd (grind (arith, nat_tests)))
    choose false false e f h = let z : n ≡ 0 = omega arith in (omega (arith, ap (λ m. m * 16) z), λ q. z)
