-- What is reached from some starts along edges, round by round, over a finite list of places.
use Rattle.std.specs.Prelude.{◌≡◌, ℕ, zero, suc, ◌≤◌, Bool, true, ◌&&◌, ◌||◌, cond, List, length}
use Rattle.std.specs.List.{list_any}
use Rattle.udf_field.specs.declared.address.Addr.{Addr}

pub record Graph : Type 0 where
  pub start : Addr → Bool
  pub edge : Addr → Addr → Bool
  pub places : List Addr

-- what has p, and the ends of edges from there
unfoldable pub step : Graph → (Addr → Bool) → Addr → Bool
step g p a = p a || list_any (λ d. p d && g.edge d a) g.places

-- what so many rounds reach
unfoldable pub in_round : Graph → ℕ → Addr → Bool
in_round g zero = g.start
in_round g (suc k) = step g (in_round g k)

-- what is reached: as many rounds as there are places reach all
unfoldable pub reached : Graph → Addr → Bool
reached g a = in_round g (length g.places) a

-- the first round from k on, of n rounds, that reaches it
unfoldable pub round_from : Graph → ℕ → ℕ → Addr → ℕ
round_from g zero k a = k
round_from g (suc n) k a = cond (in_round g k a) k (round_from g n (suc k) a)

-- the first round that reaches it
unfoldable pub round_of : Graph → Addr → ℕ
round_of g a = round_from g (length g.places) 0 a

-- a set that has the starts, and with each address the ends of its edges
pub record IsClosed (g : Graph) (p : Addr → Bool) : Type 0 where
  pub starts : (a : Addr) → g.start a ≡ true → p a ≡ true
  pub edges : (d a : Addr) → p d ≡ true → g.edge d a ≡ true → p a ≡ true

-- the least such set
pub record IsLeastClosed (g : Graph) (p : Addr → Bool) : Type 0 where
  pub closed : IsClosed g p
  pub least : (q : Addr → Bool) → IsClosed g q → (a : Addr) → p a ≡ true → q a ≡ true

-- a walk of so many edges from a start
abbrev pub Walk : Graph → ℕ → Addr → Type 0
Walk g zero a = g.start a ≡ true
Walk g (suc k) a = (d : Addr) × Walk g k d × (g.edge d a ≡ true)

-- the length of a shortest walk
pub record IsShortest (g : Graph) (a : Addr) (k : ℕ) : Type 0 where
  pub walk : Walk g k a
  pub shortest : (j : ℕ) → Walk g j a → k ≤ j
