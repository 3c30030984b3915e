use Rattle.std.proofs.Common.{ℕ, List}
use Rattle.udf_wanted.specs.Writable.{is_writable}
use Rattle.udf_repair_plan.proofs.Putting.{one_put, writable_at}
use Rattle.udf_repair_plan.proofs.plan.put_plan.Goals as goal

pub loop-i-preserved : goal.loop-i-preserved
loop-i-preserved c =
    let edit : ℕ × List ℕ = (c.block-sector.result.0, c.block-sector.result.1.now) in record {
      put = one_put c.args.wanted.now c.loop-i.wanted c.put.new.self _ c.loop-i.i edit c.block-sector.ensures c.loop-i.invariant.put c.in_ok-put.ensures.put;
      writable = c.in_ok-put.ensures.among (is_writable c.args.volume.now) c.loop-i.invariant.writable
          (writable_at c.args.volume.now c.args.plan.now c.loop-i.i edit c.requires.plan c.block-sector.ensures);
    }
