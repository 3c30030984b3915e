use Rattle.std.proofs.Common.{subst}
use Rattle.udf_contents.specs.After.{IsMending}
use Rattle.udf_contents.proofs.Leaving.{none_stays, written_moves}
use Rattle.udf_contents.proofs.after.list_stays.Goals as goal

pub returns-in-Some : goal.returns-in-Some
returns-in-Some c f v e m =
    written_moves f v c.args.held.now e c.args.shape.now c.in-Some.field-0 (subst (IsMending f v c.args.held.now e c.args.shape.now) c.in-Some.is m)

pub returns-in-None : goal.returns-in-None
returns-in-None c f v e m =
    none_stays f v c.args.held.now e c.args.shape.now c.allocation_holds.result (subst (IsMending f v c.args.held.now e c.args.shape.now) c.in-None.is m)
    (c.allocation_holds.ensures f v e m.held m.shape)
