-- A FID is long enough.
use Rattle.std.proofs.Common.{arith}
use Rattle.udf_dir.proofs.Lengths.{room}
use Rattle.udf_dir.proofs.fid.Fid.is_live.Goals as goal

pub bounds-self-inside-19 : goal.bounds-self-inside-19
bounds-self-inside-19 c = omega (arith, room c.self.inside.bytes.now c.self.invariant)
