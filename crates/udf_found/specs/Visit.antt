-- What adding an address to a queue of found entries makes of it.
use Rattle.std.specs.Prelude.{◌≡◌, ℕ, suc, ◌≤◌, ◌<◌, Bool, true, false, cond, List, [], ◌∷◌, ◌++◌, take, drop, length, slice_index_or}
use Rattle.std.specs.List.{list_any}
use Rattle.udf_field.specs.declared.address.Addr.{Addr}
use Rattle.udf_file_model.specs.Address.{same_addr}
use Rattle.udf_tree_model.specs.Among.{Member}
use Rattle.udf_tree_model.specs.Node.{Tree, readable}
use Rattle.udf_tree_model.specs.Rounds.{Graph}
use Rattle.udf_found.specs.Spot.{Spot, spot, knows, ComeOnce, Has, IsQueue}

-- an address is put at the end where it is new and readable
pub record Adds (tells : Type 0) (t : Tree) (places : List Addr) (a : Addr) (level : ℕ) (old new : List Spot) : Type 0 where
  pub goes : Bool
  pub is : new ≡ cond goes (old ++ spot a level ∷ []) old
  pub fresh : goes ≡ true → knows a old ≡ false
  pub placed : goes ≡ true → Member a places
  pub true_one : tells → goes ≡ true → readable t a ≡ true
  pub all : tells → readable t a ≡ true → knows a new ≡ true

-- the addresses are among the places, none stands twice, and no level is above its index
pub record IsPlaced (places : List Addr) (q : List Spot) : Type 0 where
  pub once : ComeOnce q
  pub among : (x : Spot) → Member x q → Member x.at places
  pub low : (k : ℕ) (d : Spot) → k < length q → (slice_index_or q k d).level ≤ k

-- at the index next stands x, and these of its targets are done
pub record Visit (g : Graph) (t : Tree) (next : ℕ) (x : Spot) (targets : List Addr) (q : List Spot) : Type 0 where
  pub rest : List Spot
  pub here : drop next q ≡ x ∷ rest
  pub inside : next ≤ length q
  pub queue : IsQueue g (take next q) (x ∷ rest)
  pub led : (a : Addr) → readable t a ≡ true → list_any (λ y. same_addr y a) targets ≡ true → Has q a (suc x.level)
