-- The places that hold no good anchor.
use Rattle.std.proofs.Common.{◌≡◌, ℕ, ◌+◌, ◌*◌, ◌<◌, ◌≤◌, arith, sym, List, length, get_or, subst}
use Rattle.std.specs.List.{All}
use Rattle.std.proofs.Math.Nat.{mul-le-mul_right}

pub fits : (size blocks whole : ℕ) (places : List ℕ) (i place : ℕ) → All (λ at. at < blocks) places → i < length places
    → place ≡ get_or places i place → blocks * size ≤ whole → (place + 1) * size ≤ whole
fits size blocks whole places i place inside h is room =
    let below : place < blocks = let P : ℕ → Type 0 = λ n. n < blocks in subst P (sym is) (inside i place h) in
    let up : place + 1 ≤ blocks = omega (arith, below) in
    omega (arith, mul-le-mul_right size up, room)
