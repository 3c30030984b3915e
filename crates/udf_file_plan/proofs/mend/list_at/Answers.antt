use Rattle.std.proofs.Common.{length}
use Rattle.udf_file_plan.proofs.Placed.{inside_whole}
use Rattle.udf_file_plan.proofs.mend.list_at.Goals as goal

pub list_of-requires-clause-placed : goal.list_of-requires-clause-placed
list_of-requires-clause-placed g c a s place =
    inside_whole c.args.volume.now (g.P.Parts.place c.args.parts.now) (g.B.Bench.files c.args.bench.now) (length c.args.block.now) c.requires.over c.requires.whole a s place
