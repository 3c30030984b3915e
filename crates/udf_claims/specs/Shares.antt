-- What the wants of one class leave at a number: the owner that wanted it last, and the one that wants it alone.
use Rattle.std.specs.Prelude.{◌≡◌, ℕ, ◌*◌, ◌<◌, ◌≤◌, cond, Option, Some, None, IsSome}
use Rattle.udf_claims.specs.declared.best.Best.{Best}
use Rattle.udf_claims.specs.Best.{is_owner}
use Rattle.udf_claims.specs.Standing.{HasNone}

-- who wants it alone, after one want more
unfoldable pub sole_after : ℕ → Option ℕ → Option ℕ → Option ℕ
sole_after owner None sole = Some owner
sole_after owner (Some last) sole = cond (is_owner (Some last) owner) sole None

-- the least class that is wanted, and its one owner, by the two values of each class
pub record IsTop (latest sole : ℕ → Option ℕ) (best : Option Best) : Type 0 where
  pub free : best ≡ None → (c : ℕ) → c < 256 → latest c ≡ None
  pub low : (b : Best) → best ≡ Some b → b.class < 256
  pub lower : (b : Best) → best ≡ Some b → (c : ℕ) → c < b.class → latest c ≡ None
  pub here : (b : Best) → best ≡ Some b → IsSome (latest b.class)
  pub owner : (b : Best) → best ≡ Some b → sole b.class ≡ b.owner

-- a class from one on, between which no number is a key, where each class has as many numbers as there are addresses
pub record IsNextClass (f : ℕ → Option (Option ℕ)) (from class : ℕ) : Type 0 where
  pub low : from ≤ class
  pub high : class < 256
  pub none : HasNone f (from * 281474976710656) (class * 281474976710656)
