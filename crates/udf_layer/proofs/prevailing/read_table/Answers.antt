-- The table of an area that lies in the image.
use Rattle.std.proofs.Common.{arith}
use Rattle.udf_outside.specs.Stops.{bytes_of}
use Rattle.udf_outside.specs.Sectors.{disk_of}
use Rattle.udf_outside.specs.declared.bench.Role.TheVariants.{Image}
use Rattle.udf_layer.proofs.WholeTables.{bytes_inside}
use Rattle.udf_layer.proofs.prevailing.read_table.Goals as goal
use Rattle.udf_volume_model.specs.SparingTable.{table_area}

pub returns-clause-table : goal.returns-clause-table
returns-clause-table g c = λ tells.
    c.table_of.ensures.read (table_area c.args.size (disk_of c.args.size (g.B.Bench.held c.args.bench.now)) c.args.bytes c.args.at) (c.in_ok-front.ensures.front tells)
    (bytes_inside c.args.size c.args.bytes c.args.at (bytes_of Image (g.B.Bench.held c.args.bench.now)) c.requires.large
    (omega (arith, c.requires.within, g.met.B.Bench.sizes c.args.bench.now Image tells c.requires.attached)))
