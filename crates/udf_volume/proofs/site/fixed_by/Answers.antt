use Rattle.std.proofs.Common.{List, ap}
use Rattle.udf_volume.specs.declared.stretch.Stretch.{Stretch}
use Rattle.udf_volume.specs.Fixed.{in_stretch, stretches_over}
use Rattle.udf_volume_model.specs.FileSet.{stretch_has}
use Rattle.udf_volume.proofs.Sited.{joined}
use Rattle.udf_volume.proofs.site.fixed_by.Goals as goal

pub returns-clause-fixed : goal.returns-clause-fixed
unfolding stretches_over
returns-clause-fixed c a =
    joined (stretches_over c.none.result.stretches a) (in_stretch c.args.bitmap a) (stretch_has c.args.extent.at c.args.extent.blocks a) (in_stretch c.args.end a)
    (stretches_over c.in_ok-with_bitmap.with_bitmap.stretches a) (stretches_over c.in_ok-with_extent.with_extent.stretches a) (stretches_over c.in_ok-fixed.fixed.stretches a)
    (ap (λ (xs : List Stretch). stretches_over xs a) c.none.ensures.stretches)
    (c.in_ok-with_bitmap.ensures.stretches a) (c.in_ok-with_extent.ensures.stretches a) (c.in_ok-fixed.ensures.stretches a)
