use Rattle.std.proofs.Common.{sym, ap, ◌∙◌}
use Rattle.udf_file_model.specs.Address.{lone_places}
use Rattle.udf_partitions.specs.Base.{base_place}
use Rattle.udf_partitions.specs.declared.base.Base.{Base}
use Rattle.udf_partitions.proofs.Placing.{all_inside}
use Rattle.udf_partitions.proofs.opened.partitions.Goals as goal

pub returns-clause-inside : goal.returns-clause-inside
returns-clause-inside c a s h =
    all_inside (base_place c.base_of.result) c.args.volume.now.blocks c.base_of.ensures.inside a s (ap (λ (b : Base). lone_places 0 (base_place b) a) (sym c.new.ensures) ∙ h)
