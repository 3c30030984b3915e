-- The size of a file in memory is the number of its bytes.
use Rattle.std.specs.Prelude.{◌≡◌, length, refl}
use Rattle.udf_outside.specs.declared.bench.Role.{Role}
use Rattle.udf_outside.specs.declared.bench.Role.TheVariants.{Image, Side}
use Rattle.udf_outside.specs.declared.memory.MemBench.{MemBench}
use Rattle.udf_outside.specs.Files.{file_of}
use Rattle.udf_outside.specs.Stops.{bytes_of}
use Rattle.udf_outside.specs.Undo.{held_of, content_in}
use Rattle.udf_outside.specs.Memory.{files_in, held_in}

pub sizes_in : (bench : MemBench) (role : Role) → (file_of role (files_in bench)).size ≡ length (bytes_of role (held_in bench))
unfolding files_in held_in held_of content_in
sizes_in bench Image = refl
sizes_in bench Side = refl
