-- What the two maps of a `Claims` keep of its runs.
use Rattle.std.specs.Prelude.{◌≡◌, false, ℕ, ◌+◌, ◌*◌, ◌<◌, List, Option, Some}
use Rattle.std.specs.BTreeMap.{BTreeMap}
use Rattle.udf_field.specs.declared.address.Addr.{Addr}
use Rattle.udf_claims.specs.declared.best.Best.{Best}
use Rattle.udf_claims.specs.declared.run.Run.{Run}
use Rattle.udf_claims.specs.Best.{best_at}
use Rattle.udf_claims.specs.Shares.{IsTop}
use Rattle.udf_claims.specs.Standing.{owner_at}
use Rattle.udf_claims.specs.Winner.{number, claimed}

-- the values of an address, by class: those of a class lie together, in the order of addresses
abbrev pub by_class : BTreeMap ℕ (Option ℕ) → ℕ → ℕ → Option ℕ
by_class steps x c = owner_at steps (c * 281474976710656 + x)

-- the best of the runs is the least class that is wanted, and an owner that wants it alone wanted it last
pub record IsBest (latest sole : ℕ → Option ℕ) (best : Option Best) : Type 0 where
  pub top : IsTop latest sole best
  pub same : (b : Best) (o : ℕ) → best ≡ Some b → b.owner ≡ Some o → latest b.class ≡ Some o

-- each address has the best of the runs, and none holds the last block of a part
pub record Tells (latest sole : BTreeMap ℕ (Option ℕ)) (rs : List Run) : Type 0 where
  pub told : (a : Addr) → a.part < 65536 → a.block < 4294967296 → IsBest (by_class latest (number a)) (by_class sole (number a)) (best_at a rs)
  pub last : (p : ℕ) → claimed rs (record { part = p; block = 4294967295 }) ≡ false
