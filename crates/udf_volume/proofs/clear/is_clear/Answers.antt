use Rattle.std.proofs.Common.{Option, ap, sym, ◌∙◌}
use Rattle.udf_volume_model.specs.FileSet.{touches}
use Rattle.udf_volume.specs.declared.stretch.Stretch.{Stretch}
use Rattle.udf_volume.specs.Fixed.{in_stretch}
use Rattle.udf_volume.proofs.Cleared.{cleared, touching, unplaced}
use Rattle.udf_volume.proofs.clear.is_clear.Goals as goal

pub returns-then-not-is_placed-clause-clear : goal.returns-then-not-is_placed-clause-clear
returns-then-not-is_placed-clause-clear g c disk =
    unplaced c.args.volume.now c.args.extent c.requires.extent (g.P.Parts.place c.args.parts.now) (g.P.Parts.inner c.args.parts.now) disk
    (sym c.is_placed.ensures.placed ∙ c.if-not-is_placed.true)

pub returns-then-touches_stretch-clause-clear : goal.returns-then-touches_stretch-clause-clear
returns-then-touches_stretch-clause-clear g c disk =
    touching c.args.volume.now c.args.extent c.requires.extent (g.P.Parts.place c.args.parts.now) (g.P.Parts.inner c.args.parts.now) disk
    (ap (λ (o : Option Stretch). touches (in_stretch o) c.args.extent.at c.args.extent.blocks) (sym c.bitmap_of.ensures)
    ∙ sym c.touches_stretch.ensures ∙ c.if-touches_stretch.true)

pub returns-clause-clear : goal.returns-clause-clear
returns-clause-clear g c disk =
    cleared c.args.volume.now c.args.extent c.requires.extent (g.P.Parts.place c.args.parts.now) (g.P.Parts.inner c.args.parts.now) disk
    c.touches_inner.result c.touches_inner.ensures (sym c.is_placed.ensures.placed ∙ c.if-not-is_placed.false)
    (ap (λ (o : Option Stretch). touches (in_stretch o) c.args.extent.at c.args.extent.blocks) (sym c.bitmap_of.ensures)
    ∙ sym c.touches_stretch.ensures ∙ c.if-touches_stretch.false)
