-- What is placed below stands, and so does a block whose packet is mapped.
use Rattle.std.proofs.Common.{◌∙◌, ℕ, Option, ap, is_some, sym, arith}
use Rattle.udf_layer.proofs.SparedFronts.{run_most, run_stands, spared_stands, stands_nowhere}
use Rattle.udf_layer.proofs.sparable.Sparable.step.Goals as goal

pub returns-then-run-gt0-clause-few : goal.returns-then-run-gt0-clause-few
returns-then-run-gt0-clause-few g c =
    run_most c.args.self.now.table.packet c.args.self.now.table.pairs (g.L.Layer.blocks c.args.self.now.below) (g.L.Layer.place c.args.self.now.below)
    c.args.block c.args.many c.placed-run.result c.placed-run.ensures

pub returns-then-run-gt0-clause-placed : goal.returns-then-run-gt0-clause-placed
returns-then-run-gt0-clause-placed g c = λ k h.
    run_stands c.args.self.now.table.packet c.args.self.now.table.pairs (g.L.Layer.blocks c.args.self.now.below) (g.L.Layer.place c.args.self.now.below)
    (g.met.L.Layer.within c.args.self.now.below) c.args.block c.args.many c.placed-run.result k c.placed-run.ensures h

pub returns-then-is_some-clause-placed : goal.returns-then-is_some-clause-placed
returns-then-is_some-clause-placed g c = λ k h.
    spared_stands c.args.self.now.table.packet c.args.self.now.table.pairs (g.L.Layer.blocks c.args.self.now.below) (g.L.Layer.place c.args.self.now.below)
    c.args.block k c.requires.inside h
    (ap (λ (o : Option ℕ). is_some o) (sym c.spared.ensures) ∙ (sym c.is_some.ensures ∙ c.if-is_some.true))

pub returns-else-is_some-clause-gap : goal.returns-else-is_some-clause-gap
returns-else-is_some-clause-gap g c = λ h.
    stands_nowhere c.args.self.now.table.packet c.args.self.now.table.pairs (g.L.Layer.blocks c.args.self.now.below) (g.L.Layer.place c.args.self.now.below)
    c.args.block c.args.many c.placed-run.result c.requires.inside c.requires.some c.placed-run.ensures (omega arith)
    (ap (λ (o : Option ℕ). is_some o) (sym c.spared.ensures) ∙ (sym c.is_some.ensures ∙ c.if-is_some.false))
