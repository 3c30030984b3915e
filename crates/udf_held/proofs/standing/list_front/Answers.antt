use Rattle.std.proofs.Common.{◌≡◌, ◌+◌, ◌∷◌, ℕ, Bool, List, drop, get_or, arith, sym, ap, ◌∙◌}
use Rattle.std.specs.List.{list_all}
use Rattle.std.proofs.lemmas.List.{drop_more, get_or_default}
use Rattle.udf_file_model.specs.Address.{addr}
use Rattle.udf_file_model.specs.Pieces as model
use Rattle.udf_tree_model.specs.Won.{bytes_before}
use Rattle.udf_tree_model.specs.Frame.{items}
use Rattle.udf_tree_model.proofs.Members.{member_map}
use Rattle.udf_found.specs.declared.pieces.Piece.{Piece}
use Rattle.udf_found.specs.declared.pieces.Piece.TheVariants as piece
use Rattle.udf_found.specs.Shape.{piece_seen, pieces_seen}
use Rattle.udf_held.specs.Standing.{is_bar, stands}
use Rattle.udf_found.proofs.Going.{member_at}
use Rattle.udf_held.proofs.Standings.{below_piece, front_small, is_false, is_true, last_front, last_whole, next_front, next_whole}
use Rattle.udf_found.proofs.Wanting.{drop_none}
use Rattle.udf_held.proofs.standing.list_front.Goals as goal

pub returns-then-not-front : goal.returns-then-not-front
returns-then-not-front g c extents class w small =
    let xs : List Piece = c.args.pieces.now in
    let i : ℕ = c.loop-piece.piece-index in
    let d : Piece = piece.Extent (addr 0 0) in
    let x : Piece = get_or xs i d in
    let here : drop i xs ≡ x ∷ drop (i + 1) xs = drop_more xs i d c.loop-piece-test.true in
    let kept : List model.Piece → ℕ = λ ps. bytes_before (stands c.args.claims.now c.args.owner) (items c.args.size extents class (is_bar c.args.bar) ps) in
    let all : List model.Piece → Bool = λ ps. list_all (stands c.args.claims.now c.args.owner) (items c.args.size extents class (is_bar c.args.bar) ps) in
    let among = member_map piece_seen xs x (member_at xs i x c.loop-piece-test.true (get_or_default xs i d x c.loop-piece-test.true)) in
    let front = c.piece_front-front.ensures extents class (below_piece (g.P.Parts.blocks c.args.parts.now) c.args.size (piece_seen x) (pieces_seen xs) among w) in
    let lost = is_false c.piece_front-front.result.whole c.if-not-front.true in
    record {
      bytes =
          last_front c.args.size extents class c.requires (is_bar c.args.bar) (stands c.args.claims.now c.args.owner) (piece_seen x) (pieces_seen (drop (i + 1) xs)) c.piece_front-front.result
          c.loop-piece.kept c.saturating_add-kept.result (kept (pieces_seen xs)) front lost
          (ap (λ (l : List Piece). c.loop-piece.kept + kept (pieces_seen l)) (sym here) ∙ c.loop-piece.invariant.counted extents class w small)
          (front_small c.args.size extents class c.requires (is_bar c.args.bar) (stands c.args.claims.now c.args.owner) (pieces_seen xs) small)
          c.saturating_add-kept.ensures;
      whole =
          last_whole c.args.size extents class c.requires (is_bar c.args.bar) (stands c.args.claims.now c.args.owner) (piece_seen x) (pieces_seen (drop (i + 1) xs)) c.piece_front-front.result
          (all (pieces_seen xs)) front lost
          (ap (λ (l : List Piece). all (pieces_seen l)) (sym here) ∙ c.loop-piece.invariant.won extents class w);
    }

pub loop-piece-preserved : goal.loop-piece-preserved
loop-piece-preserved g c =
    let xs : List Piece = c.args.pieces.now in
    let i : ℕ = c.loop-piece.piece-index in
    let d : Piece = piece.Extent (addr 0 0) in
    let x : Piece = get_or xs i d in
    let here : drop i xs ≡ x ∷ drop (i + 1) xs = drop_more xs i d c.loop-piece-test.true in
    let among = member_map piece_seen xs x (member_at xs i x c.loop-piece-test.true (get_or_default xs i d x c.loop-piece-test.true)) in
    let kept = is_true c.piece_front-front.result.whole c.if-not-front.false in
    record {
      counted = λ extents class w small.
          let total : List model.Piece → ℕ = λ ps. bytes_before (stands c.args.claims.now c.args.owner) (items c.args.size extents class (is_bar c.args.bar) ps) in
          next_front c.args.size extents class c.requires (is_bar c.args.bar) (stands c.args.claims.now c.args.owner) (piece_seen x) (pieces_seen (drop (i + 1) xs)) c.piece_front-front.result
          c.loop-piece.kept c.saturating_add-kept.result (total (pieces_seen xs))
          (c.piece_front-front.ensures extents class (below_piece (g.P.Parts.blocks c.args.parts.now) c.args.size (piece_seen x) (pieces_seen xs) among w))
          kept
          (ap (λ (l : List Piece). c.loop-piece.kept + total (pieces_seen l)) (sym here) ∙ c.loop-piece.invariant.counted extents class w small)
          (front_small c.args.size extents class c.requires (is_bar c.args.bar) (stands c.args.claims.now c.args.owner) (pieces_seen xs) small)
          c.saturating_add-kept.ensures;
      won = λ extents class w.
          let all : List model.Piece → Bool = λ ps. list_all (stands c.args.claims.now c.args.owner) (items c.args.size extents class (is_bar c.args.bar) ps) in
          next_whole c.args.size extents class c.requires (is_bar c.args.bar) (stands c.args.claims.now c.args.owner) (piece_seen x) (pieces_seen (drop (i + 1) xs)) c.piece_front-front.result
          (all (pieces_seen xs))
          (c.piece_front-front.ensures extents class (below_piece (g.P.Parts.blocks c.args.parts.now) c.args.size (piece_seen x) (pieces_seen xs) among w))
          kept
          (ap (λ (l : List Piece). all (pieces_seen l)) (sym here) ∙ c.loop-piece.invariant.won extents class w);
    }

pub returns : goal.returns
unfolding bytes_before items
returns g c extents class w small =
    let kept : List model.Piece → ℕ = λ ps. bytes_before (stands c.args.claims.now c.args.owner) (items c.args.size extents class (is_bar c.args.bar) ps) in
    let all : List model.Piece → Bool = λ ps. list_all (stands c.args.claims.now c.args.owner) (items c.args.size extents class (is_bar c.args.bar) ps) in
    let none = drop_none c.args.pieces.now c.loop-piece.piece-index c.loop-piece-test.false in
    let e = ap (λ (l : List Piece). c.loop-piece.kept + kept (pieces_seen l)) (sym none) ∙ c.loop-piece.invariant.counted extents class w small in
    record { bytes = omega (arith, e); whole = ap (λ (l : List Piece). all (pieces_seen l)) (sym none) ∙ c.loop-piece.invariant.won extents class w }
