use Rattle.std.proofs.Common.{Option, sym, ap, ◌∙◌}
use Rattle.udf_volume_model.specs.FileSet.{touches}
use Rattle.udf_volume.specs.declared.stretch.Stretch.{Stretch}
use Rattle.udf_volume.specs.Fixed.{in_stretch}
use Rattle.udf_volume.proofs.Cleared.{no_stretch}
use Rattle.udf_volume.proofs.clear.touches_stretch.Goals as goal

pub returns-in-None : goal.returns-in-None
returns-in-None c =
    sym (no_stretch c.args.extent.at c.args.extent.blocks)
    ∙ ap (λ (o : Option Stretch). touches (in_stretch o) c.args.extent.at c.args.extent.blocks) (sym c.in-None.is)
