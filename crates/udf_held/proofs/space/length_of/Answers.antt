use Rattle.std.proofs.Common.{refl, ap, ◌∙◌, ◌∷◌}
use Rattle.udf_entry.specs.RunView.{run_seen}
use Rattle.udf_file_model.specs.Cut.{to_part}
use Rattle.udf_found.specs.Shape.{piece_seen}
use Rattle.udf_found.specs.declared.pieces.Piece.{Piece}
use Rattle.udf_held.proofs.Spaces.{blocks_to_part, extent_to_part}
use Rattle.udf_held.proofs.space.length_of.Goals as goal

pub returns-in-Extent : goal.returns-in-Extent
returns-in-Extent c rest = ap (λ (p : Piece). to_part c.args.size (piece_seen p ∷ rest)) c.in-Extent.is ∙ extent_to_part c.args.size c.in-Extent.field-0 rest

pub returns-in-Blocks : goal.returns-in-Blocks
returns-in-Blocks c rest =
    ap (λ (p : Piece). to_part c.args.size (piece_seen p ∷ rest)) c.in-Blocks.is ∙ blocks_to_part c.args.size c.in-Blocks.run'.length (run_seen c.in-Blocks.run') _ rest refl refl
