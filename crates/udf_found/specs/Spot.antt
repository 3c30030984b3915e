-- Addresses with their levels, and queues of them.
use Rattle.std.specs.Prelude.{◌≡◌, ℕ, suc, ◌≤◌, Bool, true, false, List, [], ◌∷◌, ◌++◌, map, take, drop}
use Rattle.std.specs.List.{list_any}
use Rattle.udf_field.specs.declared.address.Addr.{Addr}
use Rattle.udf_file_model.specs.Address.{same_addr}
use Rattle.udf_tree_model.specs.Among.{Member}
use Rattle.udf_tree_model.specs.Node.{Tree, Setting}
use Rattle.udf_tree_model.specs.Rounds.{Graph, in_round}
use Rattle.udf_tree_model.specs.Found.{found, level}

pub record Spot : Type 0 where
  pub at : Addr
  pub level : ℕ

abbrev pub spot : Addr → ℕ → Spot
spot a l = record { at = a; level = l }

abbrev pub addresses : List Spot → List Addr
addresses q = map (λ x. x.at) q

-- the address stands in the list
abbrev pub knows : Addr → List Spot → Bool
knows a q = list_any (same_addr a) (addresses q)

-- no address stands twice
abbrev pub ComeOnce : List Spot → Type 0
ComeOnce [] = Unit {0}
ComeOnce (x ∷ xs) = (knows x.at xs ≡ false) × ComeOnce xs

-- the address stands there with at most this level
pub record Has (q : List Spot) (a : Addr) (m : ℕ) : Type 0 where
  pub level : ℕ
  pub there : Member (spot a level) q
  pub low : level ≤ m

-- no level falls
abbrev pub Rising : List Spot → Type 0
Rising [] = Unit {0}
Rising (x ∷ xs) = ((y : Spot) → Member y xs → x.level ≤ y.level) × Rising xs

-- a queue of addresses by levels, of which those of the first list are done
pub record IsQueue (g : Graph) (done rest : List Spot) : Type 0 where
  pub reached : (x : Spot) → Member x (done ++ rest) → in_round g x.level x.at ≡ true
  pub starts : (a : Addr) → g.start a ≡ true → Has (done ++ rest) a 0
  pub closed : (x : Spot) (a : Addr) → Member x done → g.edge x.at a ≡ true → Has (done ++ rest) a (suc x.level)
  pub near : (x y : Spot) → Member y rest → Member x (done ++ rest) → x.level ≤ suc y.level
  pub rising : Rising (done ++ rest)

-- of which the first n are done
abbrev pub IsQueueAt : Graph → ℕ → List Spot → Type 0
IsQueueAt g n q = IsQueue g (take n q) (drop n q)

-- the found addresses, each once and with its level, in the order of levels
pub record IsFoundList (s : Setting) (t : Tree) (q : List Spot) : Type 0 where
  pub each : (x : Spot) → Member x q → (found s t x.at ≡ true) × (x.level ≡ level s t x.at)
  pub all : (a : Addr) → found s t a ≡ knows a q
  pub once : ComeOnce q
  pub rising : Rising q
