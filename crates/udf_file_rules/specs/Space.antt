-- What is reported of the space of a volume.
use Rattle.std.specs.Prelude.{ℕ, ◌==◌, ◌&&◌, if◌then◌else◌, List, [], ◌∷◌}
use Rattle.udf_file_model.specs.Address.{addr}
use Rattle.udf_free.specs.declared.verdict.BitmapVerdict.{BitmapVerdict}
use Rattle.udf_rules.specs.declared.finding.Place.TheVariants.{At}
use Rattle.udf_rules.specs.declared.finding.Finding.{Finding}

-- what is reported of a verdict on the space bitmap, with the number of free blocks, unless the rule holds
unfoldable pub bitmap_report : BitmapVerdict → ℕ → List Finding
bitmap_report verdict free =
    if verdict.headed && (verdict.wrong == 0) then [] else record { rule = 12; place = At (addr 0 0); first = verdict.wrong; second = free } ∷ []
