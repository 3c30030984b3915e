use Rattle.std.proofs.Common.{length}
use Rattle.udf_file_plan.proofs.Placed.{inside_whole}
use Rattle.udf_file_plan.proofs.mend.content_at.Goals as goal

pub content_of-requires-clause-placed : goal.content_of-requires-clause-placed
content_of-requires-clause-placed g c a s place =
    inside_whole c.args.volume.now (g.P.Parts.place c.args.parts.now) (g.B.Bench.files c.args.bench.now) (length c.args.block.now) c.requires.over c.requires.whole a s place
