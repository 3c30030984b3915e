-- What descriptors are to state, as the code has it.
use Rattle.std.specs.Prelude.{ℕ, ◌||◌, ◌==◌, if◌then◌else◌, Option, Some, None}
use Rattle.udf_file_rules.specs.declared.right.Right.{Right}
use Rattle.udf_file_rules.specs.Right.{least_by, next_id_by}
use Rattle.udf_integrity.specs.declared.descriptor.Integrity.{Integrity}
use Rattle.udf_space_plan.specs.declared.descriptor.Counts.{Counts}

-- a new descriptor, with so many free blocks
abbrev pub fresh_counts : Right → ℕ → Counts
fresh_counts r free = record { next_id = least_by r; free = free; blocks = r.blocks; files = r.tally.files; directories = r.tally.directories }

abbrev pub free_or : Option ℕ → ℕ → ℕ
free_or None stated = stated
free_or (Some free) stated = free

-- both ways of counting files stand
abbrev pub files_by : Right → Integrity → ℕ
files_by r i = if (i.files == r.tally.files) || (i.files == r.files_named) then i.files else r.tally.files

-- a descriptor that states this
abbrev pub corrected_counts : Right → Integrity → Counts
corrected_counts r i = record { next_id = next_id_by r i; free = free_or r.free i.free; blocks = r.blocks; files = files_by r i; directories = r.tally.directories }
