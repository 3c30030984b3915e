-- The partition number of a map of type 2.
use Rattle.std.proofs.Common.{◌∙◌, ap}
use Rattle.udf_volume_model.specs.Maps.{second_kind}
use Rattle.udf_volume.proofs.Mapped.{other_number}
use Rattle.udf_volume.proofs.maps.number_at.Goals as goal

pub returns-in-Some : goal.returns-in-Some
returns-in-Some c =
    other_number c.args.table.now c.second_kind.result c.in-Some.field-0 c.if-begins.ensures c.if-not-begins.ensures
    (c.second_kind.ensures ∙ ap second_kind c.over.ensures) c.in-Some.is
