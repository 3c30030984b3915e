-- The bytes that are put for the rule on the space bitmap.
use Rattle.std.specs.Prelude.{ℕ, Bool, List}
use Rattle.udf_field.specs.declared.address.Short.{Short}
use Rattle.udf_file_model.specs.Address.{Places}
use Rattle.udf_model.specs.Bytes.{number_at}
use Rattle.udf_outside.specs.Sectors.{disk_of}
use Rattle.udf_outside.specs.Stops.{Held}
use Rattle.udf_rules_model.specs.Bitmap.{area_of}
use Rattle.udf_space.specs.Area.{encoded}
use Rattle.udf_space_plan.specs.Extent.{placed_blocks}
use Rattle.udf_volume.specs.declared.volume.Volume.{Volume}

-- an extent with a bitmap of these bits over it, whose tag has the version and the serial number of the logical volume descriptor's
abbrev pub bitmap_over : Volume → Held → Places → Short → List Bool → List ℕ
bitmap_over volume held place extent bits =
    encoded (number_at 2 (disk_of volume.size held volume.lvd) 2) (number_at 2 (disk_of volume.size held volume.lvd) 6) extent.block bits
    (area_of (placed_blocks volume held place) extent)
