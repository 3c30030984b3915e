use Rattle.udf_found.specs.Shape.{pieces_seen}
use Rattle.udf_contents.proofs.Covering.{list_added}
use Rattle.udf_found.proofs.Wanting.{also_ok}
use Rattle.udf_contents.proofs.after.add_list.Goals as goal

pub returns : goal.returns
returns g c =
    also_ok c.add_runs.result _ _
    (λ k. list_added (g.P.Parts.blocks c.args.parts.now) c.args.size c.args.owner 1 (pieces_seen c.args.pieces.now) c.args.claims.now c.add_extents.new.claims c.add_runs.new.claims c.in_ok-add_extents.ensures k)
    c.add_runs.ensures
