-- A packet that begins near before a sector holds it.
use Rattle.std.proofs.Common.{◌-◌, arith}
use Rattle.std.specs.Ordering.{nat_cmp}
use Rattle.std.specs.BTreeSet.{contains}
use Rattle.udf_layer.proofs.Near.{is_outside}
use Rattle.udf_layer.proofs.sectors.is_outside.Goals as goal

pub returns : goal.returns
returns c = λ pairs same.
    is_outside c.args.packet c.args.sector (c.args.sector - (c.args.packet - 1)) c.has_between.result
    (contains nat_cmp c.args.starts.now) pairs (omega arith) (omega arith)
    (λ e q l h. c.has_between.ensures.none e q (omega arith) (omega arith))
    (λ e. let w = c.has_between.ensures.some e in (w.0, omega (arith, w.1), omega (arith, w.2), w.3)) same
