-- A write that is undone.
use Rattle.std.proofs.Common.{◌≡◌, ℕ, ◌≤◌, List, length, take, arith}
use Rattle.std.proofs.lemmas.List.{same_lists, places}
use Rattle.udf_outside.specs.Stops.{slice_of, put}

pub put_back : (old bytes : List ℕ) (at n : ℕ) → at ≤ length old → length bytes ≡ n → take (length old) (put (put old at bytes) at (slice_of old at n)) ≡ old
put_back old bytes at n within size = same_lists _ _ (grind (arith, places)) (λ k d h. grind (arith, places))
