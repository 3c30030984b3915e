-- The map table, by the length that is stated.
use Rattle.std.proofs.Common.{◌∙◌, ap}
use Rattle.udf_volume_model.specs.Prevailing.{number_in}
use Rattle.udf_volume.proofs.Mapped.{table_is}
use Rattle.udf_volume.proofs.maps.map_table.Goals as goal

pub returns : goal.returns
returns c =
    table_is c.args.logical.now.body c.body.result.now c.u32_at-stated.result c.min.result c.body.ensures.bytes
    (c.u32_at-stated.ensures ∙ ap (λ l. number_in 4 l 264) c.fields.ensures.fields) c.min.ensures
