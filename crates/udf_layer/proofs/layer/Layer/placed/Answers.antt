-- The walk ends at the last block, at the first that stands nowhere, or at the layer's end.
use Rattle.std.proofs.Common.{◌∙◌, ℕ, Option, ap, is_some, ◌+◌, arith, sym}
use Rattle.udf_layer.proofs.PlacedFronts.{front_at_end, front_at_gap, front_whole, is_a_gap}
use Rattle.udf_layer.proofs.layer.Layer.placed.Goals as goal

pub returns-then-limit-block : goal.returns-then-limit-block
returns-then-limit-block g c =
    front_at_end (g.Self.Layer.place c.args.self.now) c.args.block c.args.many c.loop-i.i c.loop-i.invariant
    (g.Self.Layer.blocks c.args.self.now) (g.met.Self.Layer.within c.args.self.now) (omega arith) (omega arith)

pub returns-then-is_none : goal.returns-then-is_none
returns-then-is_none g c =
    front_at_gap (g.Self.Layer.place c.args.self.now) c.args.block c.args.many c.loop-i.i c.loop-i.invariant (omega arith) (is_a_gap (g.Self.Layer.place c.args.self.now (c.args.block + c.loop-i.i)) c.is_none.result (ap (λ (o : Option ℕ). is_some o) (sym c.locate.ensures) ∙ c.is_none.ensures) c.if-is_none.true)

pub returns : goal.returns
returns g c =
    front_whole (g.Self.Layer.place c.args.self.now) c.args.block c.args.many c.loop-i.i c.loop-i.invariant (omega arith)
