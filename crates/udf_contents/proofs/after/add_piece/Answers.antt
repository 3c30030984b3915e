use Rattle.std.proofs.Common.{sym, ap}
use Rattle.udf_entry.specs.RunView.{run_seen}
use Rattle.udf_found.specs.Shape.{piece_seen}
use Rattle.udf_contents.proofs.Covering.{blocks_added, extent_added}
use Rattle.udf_contents.proofs.after.add_piece.Goals as goal

pub returns-in_ok-add_want-in-Extent : goal.returns-in_ok-add_want-in-Extent
returns-in_ok-add_want-in-Extent g c =
    extent_added (g.P.Parts.blocks c.args.parts.now) c.args.size c.args.owner 1 c.args.left c.requires.left c.args.claims.now c.add_want.new.claims
    (piece_seen c.args.piece.now) c.in-Extent.at (ap piece_seen (sym c.in-Extent.is)) c.in_ok-add_want-in-Extent.ensures

pub returns-in_ok-add_run-in-Blocks : goal.returns-in_ok-add_run-in-Blocks
returns-in_ok-add_run-in-Blocks g c =
    blocks_added (g.P.Parts.blocks c.args.parts.now) c.args.size c.args.owner 1 c.args.left c.requires.left c.args.claims.now c.add_run.new.claims
    (piece_seen c.args.piece.now) (run_seen c.in-Blocks.run') c.min-length.result (ap piece_seen (sym c.in-Blocks.is)) c.min-length.ensures c.in_ok-add_run-in-Blocks.ensures
