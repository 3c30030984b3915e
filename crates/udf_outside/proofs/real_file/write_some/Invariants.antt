use Rattle.std.proofs.Common.{◌≤◌, length}
use Rattle.udf_outside.proofs.real_file.write_some.Given as goal

abbrev pub invariant-loop : goal.invariant-loop
invariant-loop l = l.done ≤ length l.from
