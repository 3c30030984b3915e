-- The walk ends at the last address, at the first that is not placed, or at the partition's end.
use Rattle.std.proofs.Common.{◌∙◌, ℕ, Option, ap, is_some, ◌+◌, arith, sym}
use Rattle.udf_file_model.specs.Address.{addr, part_place, placed_blocks}
use Rattle.udf_layer.proofs.PlacedFronts.{front_at_end, front_at_gap, front_whole, is_a_gap}
use Rattle.udf_layer.proofs.parts.Parts.placed.Goals as goal

pub returns-then-limit-at : goal.returns-then-limit-at
unfolding placed_blocks
returns-then-limit-at g c =
    front_at_end (part_place (g.Self.Parts.place c.args.self.now) c.args.at.part) c.args.at.block c.args.many c.loop-i.i c.loop-i.invariant
    (g.Self.Parts.blocks c.args.self.now c.args.at.part)
    (λ n s. g.met.Self.Parts.within_blocks c.args.self.now (addr c.args.at.part n) s) (omega arith) (omega arith)

pub returns-then-is_none : goal.returns-then-is_none
unfolding placed_blocks
returns-then-is_none g c =
    front_at_gap (part_place (g.Self.Parts.place c.args.self.now) c.args.at.part) c.args.at.block c.args.many c.loop-i.i c.loop-i.invariant
    (omega arith) (is_a_gap (part_place (g.Self.Parts.place c.args.self.now) c.args.at.part (c.args.at.block + c.loop-i.i)) c.is_none.result (ap (λ (o : Option ℕ). is_some o) (sym c.locate.ensures) ∙ c.is_none.ensures) c.if-is_none.true)

pub returns : goal.returns
unfolding placed_blocks
returns g c =
    front_whole (part_place (g.Self.Parts.place c.args.self.now) c.args.at.part) c.args.at.block c.args.many c.loop-i.i c.loop-i.invariant (omega arith)
