use Rattle.std.proofs.Common.{◌≡◌, ◌<◌, ◌^◌, ℕ, List, sym, ap, ◌∙◌, subst, arith}
use Rattle.udf_file_model.specs.Cut.{to_part}
use Rattle.udf_file_model.specs.Listing.{list_for}
use Rattle.udf_file_model.specs.Pieces.{Piece, size_of}
use Rattle.udf_found.specs.Shape.{pieces_seen}
use Rattle.udf_held.proofs.Spaces.{embedded_capacity, listed_capacity}
use Rattle.udf_held.proofs.Standings.{list_small}
use Rattle.udf_held.proofs.space.capacity.Goals as goal

pub returns-in-Some : goal.returns-in-Some
returns-in-Some c v a e s h = embedded_capacity v.size c.in-Some.bytes e (list_for v a e) (sym c.in-Some.is ∙ h.embedded)

pub returns-in-None : goal.returns-in-None
returns-in-None c v a e s h =
    let pieces : pieces_seen c.deref.result.now ≡ list_for v a e = ap pieces_seen c.deref.ensures.value ∙ h.pieces in
    let small : size_of (list_for v a e) < 2 ^ 63 = list_small v a e (omega (arith, s, c.requires)) in
    listed_capacity v.size c.to_part.result e (list_for v a e) (sym c.in-None.is ∙ h.embedded)
    (c.to_part.ensures (let P : List Piece → Type 0 = λ ps. size_of ps < 2 ^ 63 in subst P (sym pieces) small)
    ∙ ap (to_part c.args.size) pieces ∙ ap (λ (n : ℕ). to_part n (list_for v a e)) (sym s))
