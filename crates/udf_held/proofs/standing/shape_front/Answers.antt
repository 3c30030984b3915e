use Rattle.std.proofs.Common.{◌≡◌, ◌<◌, ℕ, List, Option, Some, arith, refl, sym, ap, ◌∙◌, subst}
use Rattle.udf_field.specs.declared.address.Addr.{Addr}
use Rattle.udf_file_model.specs.Listing.{addresses, list_for}
use Rattle.udf_file_model.specs.Pieces.{runs_of, size_of}
use Rattle.udf_file_model.specs.Pieces as model
use Rattle.udf_tree_model.specs.Node.{Item}
use Rattle.udf_tree_model.specs.Frame.{block_class, extent_class, is_barred, items, items_of}
use Rattle.udf_found.specs.Shape.{pieces_seen}
use Rattle.udf_held.specs.Standing.{AreBelow, IsFront, is_bar, stands}
use Rattle.udf_held.proofs.Standings.{bars_same, embedded_front, list_below, list_small, listed_items, same_items}
use Rattle.udf_found.proofs.Wanting.{placed_low}
use Rattle.udf_held.proofs.standing.shape_front.Goals as goal

pub returns-in-Some : goal.returns-in-Some
returns-in-Some g c f v a e after s p shape =
    embedded_front c.args.claims.now c.args.owner f v.size a e (list_for v a e) c.in-Some.bytes _ (sym c.in-Some.is ∙ shape.embedded) refl refl

pub returns-in-None : goal.returns-in-None
returns-in-None g c f v a e after s p shape =
    let blocks : ℕ → ℕ = g.P.Parts.blocks c.args.parts.now in
    let ps : List model.Piece = list_for v a e in
    let some : 0 < v.size = omega (arith, s, c.requires) in
    let within : (x : Addr) (n : ℕ) → v.place x ≡ Some n → x.block < blocks x.part =
    subst (λ (k : Addr → Option ℕ). (x : Addr) (n : ℕ) → k x ≡ Some n → x.block < blocks x.part) (sym p) (g.met.P.Parts.within_blocks c.args.parts.now) in
    let list : pieces_seen c.deref.result.now ≡ ps = ap pieces_seen c.deref.ensures.value ∙ shape.pieces in
    let below : AreBelow blocks (addresses c.args.size (pieces_seen c.deref.result.now)) =
    subst (λ (n : ℕ). AreBelow blocks (addresses n (pieces_seen c.deref.result.now))) s
    (subst (λ (l : List model.Piece). AreBelow blocks (addresses v.size l)) (sym list) (list_below blocks v a e some (placed_low blocks v.place within))) in
    let small = subst (λ (l : List model.Piece). size_of l < 9223372036854775808) (sym list) (list_small v a e some) in
    let bars = bars_same f e (runs_of ps) c.args.shape.now.directory c.args.after (runs_of (pieces_seen c.args.shape.now.pieces.items)) c.bar_of.result shape.directory after (ap runs_of shape.pieces) c.bar_of.ensures in
    let same : items c.args.size (extent_class f a) (block_class f a e) (is_bar c.bar_of.result) (pieces_seen c.deref.result.now) ≡ items_of f v.size a e ps =
    ap (items c.args.size (extent_class f a) (block_class f a e) (is_bar c.bar_of.result)) list
    ∙ ap (λ (n : ℕ). items n (extent_class f a) (block_class f a e) (is_bar c.bar_of.result) ps) (sym s)
    ∙ same_items v.size (extent_class f a) (block_class f a e) (is_bar c.bar_of.result) (is_barred f e (runs_of ps)) bars ps
    ∙ sym (listed_items f v.size a e ps (sym c.in-None.is ∙ shape.embedded)) in
    subst (λ (l : List Item). IsFront (stands c.args.claims.now c.args.owner) l c.list_front.result) same (c.list_front.ensures (extent_class f a) (block_class f a e) below small)
