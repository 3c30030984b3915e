use Rattle.std.proofs.Common.{◌≡◌, ◌<◌, List, arith, ap, ◌∙◌}
use Rattle.udf_file_model.specs.Cut.{cut_pieces}
use Rattle.udf_file_model.specs.Listing.{list_for}
use Rattle.udf_file_model.specs.Pieces.{Piece}
use Rattle.udf_found.specs.Shape.{pieces_seen}
use Rattle.udf_contents.proofs.Leaving.{front_left, list_left, mended_added}
use Rattle.udf_found.proofs.Wanting.{also_ok}
use Rattle.udf_contents.proofs.after.add_mended.Goals as goal

pub returns-then-list_stays : goal.returns-then-list_stays
returns-then-list_stays g c f v e z m =
    let ps : List Piece = pieces_seen c.deref.result.now in
    let list : ps ≡ list_for v c.args.held.now.at e = ap pieces_seen c.deref.ensures.value ∙ m.shape.pieces in
    also_ok c.add_list.result _ _
    (λ k. mended_added (g.P.Parts.blocks c.args.parts.now) f v c.args.held.now e c.args.shape.now c.args.content.now c.args.size c.owner_of-owner.result 1 ps c.args.claims.now c.add_want.new.claims c.add_list.new.claims z m
    (list_left f v c.args.held.now.at e c.list_stays.result ps (c.list_stays.ensures f v e m) c.if-list_stays.true list) c.in_ok-add_want.ensures k)
    c.add_list.ensures

pub returns-else-list_stays : goal.returns-else-list_stays
returns-else-list_stays g c f v e z m =
    let ps : List Piece = pieces_seen c.deref-else-list_stays.result.now in
    let list : ps ≡ list_for v c.args.held.now.at e = ap pieces_seen c.deref-else-list_stays.ensures.value ∙ m.shape.pieces in
    let some : 0 < v.size = omega (arith, z, c.requires) in
    also_ok c.add_front.result _ _
    (λ k. mended_added (g.P.Parts.blocks c.args.parts.now) f v c.args.held.now e c.args.shape.now c.args.content.now c.args.size c.owner_of-owner.result 1 (cut_pieces c.mended_length-bytes.result ps) c.args.claims.now c.add_want.new.claims c.add_front.new.claims z m
    (front_left f v c.args.held.now.at e c.list_stays.result c.mended_length-bytes.result ps (c.list_stays.ensures f v e m) c.if-list_stays.false (c.mended_length-bytes.ensures f v e some m) list) c.in_ok-add_want.ensures k)
    c.add_front.ensures
