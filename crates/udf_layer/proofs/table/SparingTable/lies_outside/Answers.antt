-- The mapped packets begin at the table's sectors.
use Rattle.std.proofs.Common.{◌∙◌, ap}
use Rattle.udf_layer.specs.Packets.{outside_packets}
use Rattle.udf_layer.proofs.table.SparingTable.lies_outside.Goals as goal
use Rattle.udf_volume_model.specs.SparingTable.{Table}

pub returns : goal.returns
unfolding outside_packets
returns c =
    c.is_outside.ensures c.self.inside.pairs.items c.self.invariant.started
    ∙ ap (λ (t : Table). outside_packets t.packet t.pairs c.args.sector) c.self.view_is
