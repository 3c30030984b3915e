-- Sectors and second sectors (twins) of blocks and of addresses, and when they are all different.
use Rattle.std.specs.Prelude.{◌≡◌, ◌⊎◌, ℕ, Bool, false, Some}
use Rattle.udf_field.specs.declared.address.Addr.{Addr}
use Rattle.udf_file_model.specs.Place.{Place}
use Rattle.udf_file_model.specs.Address.{Places}

-- the sector or the twin of an address
abbrev pub StandsAt : Places → Places → Addr → ℕ → Type 0
StandsAt place twin a s = (place a ≡ Some s) ⊎ (twin a ≡ Some s)

-- no two blocks stand at one sector or twin
abbrev pub AreApart : Place → Place → Type 0
AreApart place twin = (m n s : ℕ) → (place m ≡ Some s) ⊎ (twin m ≡ Some s) → (place n ≡ Some s) ⊎ (twin n ≡ Some s) → m ≡ n

-- a reference's blocks: those of a partition at its own reference, and none elsewhere
abbrev pub none_inner : Addr → Bool
none_inner a = false
