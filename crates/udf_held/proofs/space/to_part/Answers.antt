use Rattle.std.proofs.Common.{◌≡◌, ◌+◌, ◌∷◌, ℕ, List, Bool, cond, drop, get_or, arith, sym, ap, ◌∙◌}
use Rattle.std.proofs.lemmas.List.{drop_more}
use Rattle.udf_file_model.specs.Address.{addr}
use Rattle.udf_file_model.specs.Cut.{to_part}
use Rattle.udf_found.specs.declared.pieces.Piece.{Piece}
use Rattle.udf_found.specs.declared.pieces.Piece.TheVariants as piece
use Rattle.udf_found.specs.Shape.{pieces_seen}
use Rattle.udf_held.proofs.Spaces.{part_small}
use Rattle.udf_found.proofs.Wanting.{drop_none}
use Rattle.udf_held.proofs.space.to_part.Goals as goal

pub returns-then-length : goal.returns-then-length
returns-then-length c small =
    let xs : List Piece = c.args.pieces.now in
    let i : ℕ = c.loop-piece.piece-index in
    let d : Piece = piece.Extent (addr 0 0) in
    let rest : ℕ = to_part c.args.size (pieces_seen (drop (i + 1) xs)) in
    let here : drop i xs ≡ get_or xs i d ∷ drop (i + 1) xs = drop_more xs i d c.loop-piece-test.true in
    let e = ap (λ (l : List Piece). c.loop-piece.bytes + to_part c.args.size (pieces_seen l)) (sym here) ∙ c.loop-piece.invariant small in
    let k = c.length_of-length.ensures (pieces_seen (drop (i + 1) xs)) ∙ ap (λ (b : Bool). cond b c.length_of-length.result.bytes (c.length_of-length.result.bytes + rest)) c.if-length.true in
    let l = part_small c.args.size (pieces_seen xs) in
    let n = c.saturating_add-bytes.ensures in
    omega (arith, e, k, l, n, small)

pub loop-piece-preserved : goal.loop-piece-preserved
loop-piece-preserved c small =
    let xs : List Piece = c.args.pieces.now in
    let i : ℕ = c.loop-piece.piece-index in
    let d : Piece = piece.Extent (addr 0 0) in
    let rest : ℕ = to_part c.args.size (pieces_seen (drop (i + 1) xs)) in
    let here : drop i xs ≡ get_or xs i d ∷ drop (i + 1) xs = drop_more xs i d c.loop-piece-test.true in
    let e = ap (λ (l : List Piece). c.loop-piece.bytes + to_part c.args.size (pieces_seen l)) (sym here) ∙ c.loop-piece.invariant small in
    let k = c.length_of-length.ensures (pieces_seen (drop (i + 1) xs)) ∙ ap (λ (b : Bool). cond b c.length_of-length.result.bytes (c.length_of-length.result.bytes + rest)) c.if-length.false in
    let l = part_small c.args.size (pieces_seen xs) in
    let n = c.saturating_add-bytes.ensures in
    omega (arith, e, k, l, n, small)

pub returns : goal.returns
unfolding to_part
returns c small =
    let none = drop_none c.args.pieces.now c.loop-piece.piece-index c.loop-piece-test.false in
    let e = ap (λ (l : List Piece). c.loop-piece.bytes + to_part c.args.size (pieces_seen l)) (sym none) ∙ c.loop-piece.invariant small in
    omega (arith, e)
