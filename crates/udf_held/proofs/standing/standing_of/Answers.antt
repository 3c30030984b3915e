use Rattle.std.proofs.Common.{ℕ, ◌&&◌, ◌||◌, not, true, Bool, arith, refl, ap, ◌∙◌, subst}
use Rattle.std.specs.Prelude.{min, nat_le}
use Rattle.udf_field.specs.declared.address.Addr.{Addr}
use Rattle.udf_file_model.specs.Listing.{list_for}
use Rattle.udf_claims.specs.Winner.{wins}
use Rattle.udf_tree_model.specs.Frame.{items_of}
use Rattle.udf_held.specs.declared.standing.Front.{Front}
use Rattle.udf_found.specs.Shape.{IsShaped}
use Rattle.udf_held.specs.Standing.{IsFront, stands}
use Rattle.udf_held.proofs.Standings.{entry_standing, holder_standing}
use Rattle.udf_held.proofs.standing.standing_of.Goals as goal

pub returns-in_default : goal.returns-in_default
returns-in_default g c f v after s p here shaped won =
    holder_standing f v c.args.node.now.at (record { kept = 0; whole = true; sound = true }) (subst (IsShaped f v c.args.node.now.at) c.in_default.is shaped) here refl refl refl

pub returns : goal.returns
returns g c f v after s p here shaped won =
    let a : Addr = c.args.node.now.at in
    let x = subst (IsShaped f v a) c.in-Some.is shaped in
    let shape = x.3 in
    let front : Front = c.shape_front-front.result in
    entry_standing f v c.args.claims.now won a here x.1 x.2 x.0 (record { kept = front.bytes; whole = front.whole; sound = c.is_sound.result }) front c.in-Some.shape.content c.in-Some.shape.directory
    (omega (arith, s, c.requires))
    (subst (λ (n : ℕ). IsFront (stands c.args.claims.now n) (items_of f v.size a x.1 (list_for v a x.1)) front) c.owner_of-owner.ensures (c.shape_front-front.ensures f v a x.1 after s p shape))
    refl refl shape.directory shape.content
    (c.is_sound.ensures
    ∙ ap (λ (b : Bool). (not c.in-Some.shape.directory || nat_le 40 (min front.bytes c.in-Some.shape.content)) && b)
    (c.wins-own.ensures ∙ ap (λ (n : ℕ). wins c.args.claims.now n a) c.owner_of-owner.ensures))
