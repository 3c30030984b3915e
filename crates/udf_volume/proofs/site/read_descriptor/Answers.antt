use Rattle.std.proofs.Common.{sym}
use Rattle.udf_volume.proofs.Sited.{in_image}
use Rattle.udf_volume.proofs.site.read_descriptor.Goals as goal

pub read_block-requires-clause-within : goal.read_block-requires-clause-within
read_block-requires-clause-within g c =
    in_image (g.B.Bench.files c.args.bench.now).image.size c.args.size c.in-Some.sector (c.requires.placed c.args.at c.in-Some.sector (sym c.in-Some.ensures))
