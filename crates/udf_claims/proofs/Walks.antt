-- Tests of addresses in their order.
use Rattle.std.proofs.Common.{◌≡◌, ℕ, ◌+◌, ◌-◌, ◌<◌, ◌≤◌, Bool, true, false, inl, inr, arith}
use Rattle.std.proofs.lemmas.Bool.{cases_lt}
use Rattle.udf_field.specs.declared.address.Addr.{Addr}
use Rattle.udf_claims.specs.Walks.{AllPass, IsFirstFailure, AllPassAt, IsFirstFailureAt}
use Rattle.udf_claims.specs.Winner.{number, block_after}

pub pass_none : (p : Addr → Bool) (lo : ℕ) → AllPassAt p lo lo
pass_none p lo = record { pass = λ a k l h. absurd (omega arith) }

pub pass_more : (p : Addr → Bool) (lo next end : ℕ) → AllPassAt p lo next → ((a : Addr) → a.block < 4294967296 → next ≤ number a → number a < end → p a ≡ true) → AllPassAt p lo end
pass_more p lo next end was more = record { pass = λ a k l h. elim (cases_lt (number a) next) [ inl m ↦ was.pass a k l m | inr m ↦ more a k m h ] }

pub fails_here : (p : Addr → Bool) (lo next hi : ℕ) → lo ≤ next → next < hi → AllPassAt p lo next → ((a : Addr) → a.block < 4294967296 → number a ≡ next → p a ≡ false) → IsFirstFailureAt p lo hi next
fails_here p lo next hi low high was fails = record { low = low; high = high; fails = fails; before = was.pass }

-- the same test of the blocks of a run
pub shift_all : (p : Addr → Bool) (a : Addr) (s n : ℕ) → s ≡ number a → a.block + n < 4294967296 → AllPassAt p s (s + n) → AllPass (λ i. p (block_after a i)) 0 n
shift_all p a s n e fits all i l h = all.pass (block_after a i) (omega arith) (omega arith) (omega arith)

pub shift_first : (p : Addr → Bool) (a : Addr) (s n x : ℕ) → s ≡ number a → a.block + n < 4294967296 → IsFirstFailureAt p s (s + n) x → IsFirstFailure (λ i. p (block_after a i)) 0 n (x - s)
shift_first p a s n x e fits first =
    let h : x - s < n = omega (arith, first.low, first.high) in
    record {
      low = omega arith;
      high = h;
      fails = first.fails (block_after a (x - s)) (omega arith) (omega (arith, first.low));
      before = λ i l m. first.before (block_after a i) (omega arith) (omega arith) (omega (arith, first.low));
    }
