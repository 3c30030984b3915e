-- The blocks of the image in what a bench holds.
use Rattle.std.specs.Prelude.{ℕ, List}
use Rattle.udf_model.specs.Image.{block_of}
use Rattle.udf_outside.specs.Stops.{Held, bytes_of}
use Rattle.udf_outside.specs.declared.bench.Role.TheVariants.{Image}

-- the block of each sector, at a block size
abbrev pub disk_of : ℕ → Held → ℕ → List ℕ
disk_of size held = block_of size (bytes_of Image held)
