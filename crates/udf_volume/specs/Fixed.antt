-- Addresses that no file may take, as stretches of blocks.
use Rattle.std.specs.Prelude.{Bool, false, Option, Some, None, List}
use Rattle.std.specs.List.{list_any}
use Rattle.udf_field.specs.declared.address.Addr.{Addr}
use Rattle.udf_volume_model.specs.FileSet.{stretch_has}
use Rattle.udf_volume.specs.declared.stretch.Stretch.{Stretch}

-- fixed addresses, and the address after the file set
pub record FixedAddresses : Type 0 where
  pub stretches : List Stretch
  pub after : Addr

-- one of the stretches has the address
unfoldable pub stretches_over : List Stretch → Addr → Bool
stretches_over xs a = list_any (λ x. stretch_has x.at x.blocks a) xs

-- the stretch has the address, where there is one
abbrev pub in_stretch : Option Stretch → Addr → Bool
in_stretch None a = false
in_stretch (Some x) a = stretch_has x.at x.blocks a
