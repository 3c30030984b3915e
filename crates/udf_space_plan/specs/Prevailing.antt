-- What is put for the rule on integrity, by what prevails in the extent.
use Rattle.std.specs.Prelude.{ℕ, if◌then◌else◌, Option, List, [], ◌∷◌}
use Rattle.udf_field.specs.declared.address.Short.{Short}
use Rattle.udf_file_model.specs.Listing.{Volume}
use Rattle.udf_rules_model.specs.Integrity.{is_formed, is_stated}
use Rattle.udf_space_mends.specs.IntegrityMend.{Origin, corrected, fresh}
use Rattle.udf_space_plan.specs.Descriptor.{ends_by, made_by}
use Rattle.udf_space_plan.specs.declared.descriptor.Counts.{Counts}
use Rattle.udf_tree_model.specs.Frame.{Frame}
use Rattle.udf_volume.specs.declared.volume.Volume as code
use Rattle.udf_volume_model.specs.Anchor.{blocks_for}

-- where none prevails: a new descriptor in the first block, and the end behind it
unfoldable pub first_by : code.Volume → Counts → Origin → List (ℕ × List ℕ)
first_by volume c o =
    (volume.integrity.start, made_by volume.size c o volume.integrity.start)
    ∷ ends_by volume.size volume.integrity.start (made_by volume.size c o volume.integrity.start) (blocks_for volume.size volume.integrity.length)

-- where one prevails: nothing if it is right, else its correction, or a new one if it is not formed
unfoldable pub prevailing_edits : Frame → Volume → ℕ → Option Short → Origin → ℕ → List (ℕ × List ℕ)
prevailing_edits f v blocks bitmap origin sector =
    if is_stated f v blocks bitmap (v.disk sector) then []
    else (sector, if is_formed (v.disk sector) then corrected f v blocks bitmap sector (v.disk sector) else fresh f v blocks origin sector) ∷ []
