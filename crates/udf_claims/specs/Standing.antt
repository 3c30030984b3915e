-- A value for each number that changes only at the keys of a map, seen as its look-up.
use Rattle.std.specs.Prelude.{◌≡◌, ℕ, zero, suc, ◌<◌, ◌≤◌, ◌&&◌, cond, nat_le, nat_lt, Option, None, IsSome}
use Rattle.std.specs.Option.{unwrap_or}
use Rattle.std.specs.Ordering.{nat_cmp}
use Rattle.std.specs.BTreeMap.{BTreeMap, get}

module _ {X : Type 0} where
  -- the value at the greatest key up to x, and d where there is none
  unfoldable pub standing : (ℕ → Option X) → X → ℕ → X
  standing f d zero = unwrap_or (f 0) d
  standing f d (suc x) = unwrap_or (f (suc x)) (standing f d x)

  -- no key from lo on, below hi
  abbrev pub HasNone : (ℕ → Option X) → ℕ → ℕ → Type 0
  HasNone f lo hi = (q : ℕ) → lo ≤ q → q < hi → f q ≡ None

  -- the first key from lo on, below hi
  pub record IsNext (f : ℕ → Option X) (lo hi key : ℕ) : Type 0 where
    pub low : lo ≤ key
    pub high : key < hi
    pub here : IsSome (f key)
    pub none : (q : ℕ) → lo ≤ q → q < key → f q ≡ None

-- the owner of a number, if any
abbrev pub owner_at : BTreeMap ℕ (Option ℕ) → ℕ → Option ℕ
owner_at steps x = standing (get nat_cmp steps) None x

abbrev pub HasKey : BTreeMap ℕ (Option ℕ) → ℕ → Type 0
HasKey steps x = IsSome (get nat_cmp steps x)

abbrev pub SameOwners : BTreeMap ℕ (Option ℕ) → BTreeMap ℕ (Option ℕ) → Type 0
SameOwners old new = (q : ℕ) → owner_at new q ≡ owner_at old q

-- the numbers from lo on, below hi, have these owners, and the others the owners that they had
abbrev pub SetsOwners : BTreeMap ℕ (Option ℕ) → BTreeMap ℕ (Option ℕ) → ℕ → ℕ → (ℕ → Option ℕ) → Type 0
SetsOwners old new lo hi owner = (q : ℕ) → owner_at new q ≡ cond (nat_le lo q && nat_lt q hi) (owner q) (owner_at old q)

-- the keys from lo on stay
abbrev pub KeepsKeys : BTreeMap ℕ (Option ℕ) → BTreeMap ℕ (Option ℕ) → ℕ → Type 0
KeepsKeys old new lo = (q : ℕ) → lo ≤ q → HasKey old q → HasKey new q

-- the keys of one map from lo on, up to hi, are keys of the other
abbrev pub SharesKeys : BTreeMap ℕ (Option ℕ) → BTreeMap ℕ (Option ℕ) → ℕ → ℕ → Type 0
SharesKeys one other lo hi = (q : ℕ) → lo ≤ q → q ≤ hi → HasKey one q → HasKey other q
