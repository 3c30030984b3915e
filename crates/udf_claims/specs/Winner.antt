-- Who wins an address, by the list of the runs of wants.
use Rattle.std.specs.Prelude.{◌≡◌, ℕ, ◌+◌, ◌*◌, ◌<◌, ◌≤◌, Bool, true, false, not, ◌&&◌, ◌||◌, cond, List, nat_eq, nat_lt, nat_le}
use Rattle.std.specs.List.{list_any, list_all}
use Rattle.udf_field.specs.declared.address.Addr.{Addr}
use Rattle.udf_claims.specs.declared.run.Claimed.{Claimed}
use Rattle.udf_claims.specs.declared.run.Run.{Run}

-- the run has a want of the address
unfoldable pub covers : Run → Addr → Bool
covers r a = nat_eq r.at.part a.part && (nat_le r.at.block a.block && nat_lt a.block (r.at.block + r.blocks))

-- the owner's want of the address, of this class, is not beaten by the run: the run has none there, or the class is
-- not above the run's, and below it where the run is another owner's
unfoldable pub yields_not : ℕ → Addr → ℕ → Run → Bool
yields_not owner a class r = not (covers r a) || cond (nat_eq r.owner owner) (nat_le class r.class) (nat_lt class r.class)

unfoldable pub prevails : List Run → ℕ → Addr → ℕ → Bool
prevails rs owner a class = list_all (yields_not owner a class) rs

-- the owner has a want of the address that no run beats
unfoldable pub wins : List Run → ℕ → Addr → Bool
wins rs owner a = list_any (λ r. nat_eq r.owner owner && (covers r a && prevails rs owner a r.class)) rs

-- the address so many blocks after another
abbrev pub block_after : Addr → ℕ → Addr
block_after a i = record { part = a.part; block = a.block + i }

-- whether the owner wins a block of a run, by its place in it
unfoldable pub wins_block : List Run → ℕ → Addr → ℕ → Bool
wins_block rs owner a i = wins rs owner (block_after a i)

-- some run has a want of the address
unfoldable pub claimed : List Run → Addr → Bool
claimed rs a = list_any (λ r. covers r a) rs

-- the place of an address in the order of addresses
abbrev pub number : Addr → ℕ
number a = a.part * 4294967296 + a.block

-- no run has a want of the last block of a part
pub record IsBounded (rs : List Run) : Type 0 where
  pub last : (p : ℕ) → claimed rs (record { part = p; block = 4294967295 }) ≡ false

-- no address from one on is claimed
pub record IsUnclaimedFrom (rs : List Run) (at : Addr) : Type 0 where
  pub free : (a : Addr) → a.part < 65536 → a.block < 4294967296 → number at ≤ number a → claimed rs a ≡ false

-- the first claimed blocks from an address on, all that follow on one another in their part
pub record IsNextClaimed (rs : List Run) (at : Addr) (next : Claimed) : Type 0 where
  pub after : number at ≤ number next.at
  pub some : 0 < next.blocks
  pub fits : next.at.block + next.blocks < 4294967296
  pub claimed_block : (i : ℕ) → i < next.blocks → claimed rs (block_after next.at i) ≡ true
  pub ends : claimed rs (block_after next.at next.blocks) ≡ false
  pub before : (a : Addr) → a.block < 4294967296 → number at ≤ number a → number a < number next.at → claimed rs a ≡ false
