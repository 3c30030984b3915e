use Rattle.std.proofs.Common.{sym}
use Rattle.udf_found.proofs.Wanting.{also_ok, shape_wants}
use Rattle.udf_held.proofs.wants.add_wants.Goals as goal

pub returns : goal.returns
returns g c f v e r s there shape =
    also_ok c.add_runs.result _ _ (λ k.
    shape_wants (g.P.Parts.blocks c.args.parts.now) f v c.args.at e c.args.shape.now c.deref.result.now c.deref-2.result.now c.owner_of-owner.result c.extent_class.result c.block_class-class.result c.args.size c.args.claims.now
    c.add_want.new.claims c.add_extents.new.claims c.add_runs.new.claims there shape s c.deref.ensures.value c.deref-2.ensures.value c.owner_of-owner.ensures (c.extent_class.ensures f r) (c.block_class-class.ensures f e r (sym shape.directory))
    c.in_ok-add_want.ensures c.in_ok-add_extents.ensures k)
    c.add_runs.ensures
