use Rattle.std.proofs.Common.{◌*◌, min}
use Rattle.udf_model.specs.Bytes.{IsBytes}
use Rattle.udf_space.specs.Stored.{Clears}
use Rattle.udf_space.proofs.stored.clear_run.Given as goal

abbrev pub invariant-loop-i : goal.invariant-loop-i
invariant-loop-i l = Clears l.start (min (8 * l.i) l.end) l.initial.bytes l.bytes × IsBytes l.bytes
