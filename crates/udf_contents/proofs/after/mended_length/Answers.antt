use Rattle.std.proofs.Common.{subst, arith}
use Rattle.udf_contents.specs.After.{IsMending}
use Rattle.udf_contents.proofs.Leaving.{kept_stays, written_length}
use Rattle.udf_contents.proofs.after.mended_length.Goals as goal

pub returns-in-Some : goal.returns-in-Some
returns-in-Some c f v e some m =
    let long = written_length f v c.args.held.now e c.args.shape.now c.in-Some.new (subst (IsMending f v c.args.held.now e c.args.shape.now) c.in-Some.is m) in
    omega (arith, c.len.ensures, c.in-Some.new.bytes.ok.0, long)

pub returns-in-None : goal.returns-in-None
returns-in-None c f v e some m =
    kept_stays f v c.args.held.now e c.args.shape.now c.min.result c.stated_length.result some (subst (IsMending f v c.args.held.now e c.args.shape.now) c.in-None.is m) c.stated_length.ensures c.min.ensures
