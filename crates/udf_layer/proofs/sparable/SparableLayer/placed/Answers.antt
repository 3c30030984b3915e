-- The walk ends at the last block, at the partition's end, or at the first block that stands nowhere.
use Rattle.std.proofs.Common.{arith}
use Rattle.udf_layer.proofs.SparedFronts.{ends_at_gap, ends_beyond, ends_whole, further}
use Rattle.udf_layer.proofs.sparable.SparableLayer.placed.Goals as goal

pub loop-front-init : goal.loop-front-init
loop-front-init g c = record { most = omega arith; here = λ k h. absurd (omega arith) }

pub returns-then-step-eq0 : goal.returns-then-step-eq0
returns-then-step-eq0 g c =
    ends_at_gap c.args.self.now.table.packet c.args.self.now.table.pairs (g.L.Layer.blocks c.args.self.now.below) (g.L.Layer.place c.args.self.now.below)
    c.args.block c.args.many c.loop-front.front c.loop-front.invariant.most c.loop-front.invariant.here (c.step-step.ensures.gap c.if-step-eq0.true)

pub loop-front-smaller : goal.loop-front-smaller
loop-front-smaller g c = omega arith

pub loop-front-preserved : goal.loop-front-preserved
loop-front-preserved g c = record {
  most = omega (arith, c.step-step.ensures.few);
  here = further c.args.self.now.table.packet c.args.self.now.table.pairs (g.L.Layer.blocks c.args.self.now.below) (g.L.Layer.place c.args.self.now.below)
      c.args.block c.loop-front.front c.step-step.result c.loop-front.invariant.here c.step-step.ensures.placed;
}

pub returns-else-block-front : goal.returns-else-block-front
returns-else-block-front g c =
    ends_beyond c.args.self.now.table.packet c.args.self.now.table.pairs (g.L.Layer.blocks c.args.self.now.below) (g.L.Layer.place c.args.self.now.below)
    c.args.block c.args.many c.loop-front.front c.loop-front.invariant.most c.loop-front.invariant.here (omega arith)

pub returns-after-loop-front : goal.returns-after-loop-front
returns-after-loop-front g c =
    ends_whole c.args.self.now.table.packet c.args.self.now.table.pairs (g.L.Layer.blocks c.args.self.now.below) (g.L.Layer.place c.args.self.now.below)
    c.args.block c.args.many c.loop-front.front c.loop-front.invariant.most c.loop-front.invariant.here (omega arith)
