-- What the code has of an integrity descriptor that is written.
use Rattle.std.specs.Prelude.{ℕ, ◌+◌, nat_lt, if◌then◌else◌, List, [], ◌∷◌}
use Rattle.udf_file_model.specs.Wanted.{with_fields}
use Rattle.udf_model.specs.Tag.{retagged}
use Rattle.udf_volume_model.specs.Mended.{terminator}
use Rattle.udf_space_mends.specs.IntegrityMend as mend
use Rattle.udf_space_mends.specs.IntegrityMend.{fresh_block, fresh_fields, stated_fields}
use Rattle.udf_space_plan.specs.declared.descriptor.Counts.{Counts}
use Rattle.udf_space_plan.specs.declared.origin.Origin.{Origin}

abbrev pub origin_seen : Origin → mend.Origin
origin_seen o = record { stamp = o.stamp; revision = o.revision }

-- a block with the counts of a closed descriptor
unfoldable pub counted : Counts → List ℕ → List ℕ
counted c block = with_fields (stated_fields c.next_id c.free c.blocks c.files c.directories) block

-- a new descriptor at a sector
unfoldable pub made_by : ℕ → Counts → mend.Origin → ℕ → List ℕ
made_by size c o sector = retagged sector 118 (counted c (with_fields (fresh_fields o.revision) (fresh_block size o.stamp)))

-- a terminating descriptor behind the first block, where there is a second
abbrev pub ends_by : ℕ → ℕ → List ℕ → ℕ → List (ℕ × List ℕ)
ends_by size start like blocks = if nat_lt 1 blocks then (start + 1, terminator size (start + 1) like) ∷ [] else []
