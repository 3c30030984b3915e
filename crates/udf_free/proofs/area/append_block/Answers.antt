use Rattle.std.proofs.Common.{sym}
use Rattle.udf_entry.proofs.Extents.{in_image}
use Rattle.udf_free.proofs.area.append_block.Goals as goal

pub read_block-requires-clause-within : goal.read_block-requires-clause-within
read_block-requires-clause-within g c =
    in_image (g.B.Bench.files c.args.bench.now).image.size c.args.size c.in-Some.sector (c.requires.inside c.args.at c.in-Some.sector (sym c.in-Some.ensures))
