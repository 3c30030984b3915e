-- Tests of addresses in their order, and of the blocks of a run.
use Rattle.std.specs.Prelude.{Bool, true, false, ◌≡◌, ℕ, ◌<◌, ◌≤◌}
use Rattle.udf_field.specs.declared.address.Addr.{Addr}
use Rattle.udf_claims.specs.Winner.{number}

-- each number from lo on and below hi passes
abbrev pub AllPass : (ℕ → Bool) → ℕ → ℕ → Type 0
AllPass p lo hi = (q : ℕ) → lo ≤ q → q < hi → p q ≡ true

-- the first number from lo on, below hi, that does not pass
pub record IsFirstFailure (p : ℕ → Bool) (lo hi x : ℕ) : Type 0 where
  pub low : lo ≤ x
  pub high : x < hi
  pub fails : p x ≡ false
  pub before : (q : ℕ) → lo ≤ q → q < x → p q ≡ true

-- each address from a place on, below another, passes
pub record AllPassAt (p : Addr → Bool) (lo hi : ℕ) : Type 0 where
  pub pass : (a : Addr) → a.block < 4294967296 → lo ≤ number a → number a < hi → p a ≡ true

-- the place of the first address from a place on, below another, that does not pass
pub record IsFirstFailureAt (p : Addr → Bool) (lo hi x : ℕ) : Type 0 where
  pub low : lo ≤ x
  pub high : x < hi
  pub fails : (a : Addr) → a.block < 4294967296 → number a ≡ x → p a ≡ false
  pub before : (a : Addr) → a.block < 4294967296 → lo ≤ number a → number a < x → p a ≡ true
