use Rattle.std.proofs.Common.{◌≡◌, ◌<◌, ◌&&◌, List, Option, false, length, take, arith, sym, ap, ◌∙◌, subst}
use Rattle.std.proofs.lemmas.List.{take_all}
use Rattle.udf_field.specs.declared.address.Addr.{Addr}
use Rattle.udf_tree_model.specs.Frame.{setting_of, tree_of}
use Rattle.udf_tree_model.proofs.Places.{same_address}
use Rattle.udf_found.specs.declared.arena.Found.{Found}
use Rattle.udf_held.specs.declared.standing.Standing.{Standing}
use Rattle.udf_kept.specs.Entries.{is_directory_shape, is_sound_by}
use Rattle.udf_found.specs.Order.{is_known}
use Rattle.udf_found.proofs.Going.{member_at}
use Rattle.udf_kept.proofs.Rooting.{no_root, other_more, root_is, standing_at}
use Rattle.udf_kept.proofs.entries.root_stands.Goals as goal

pub loop-i-preserved : goal.loop-i-preserved
loop-i-preserved c =
    let l : c.loop-i.i < length c.args.arena.now = omega (arith, c.len-i-end.ensures, c.loop-i-test.true) in
    record { other = other_more c.args.root c.args.arena.now c.loop-i.i c.node-node.result.now l c.node-node.ensures.node (sym c.eq.ensures ∙ c.if-eq.false) c.loop-i.invariant.other }

pub returns-then-eq : goal.returns-then-eq
returns-then-eq c f v r set read list stand =
    let q : List Found = c.args.arena.now in
    let n : Found = c.node-node.result.now in
    let l : c.loop-i.i < length q = omega (arith, c.len-i-end.ensures, c.loop-i-test.true) in
    let x = standing_at (setting_of f v) (tree_of f v) q c.args.standings.now c.loop-i.i n stand l c.node-node.ensures.node in
    let root : c.args.root ≡ n.at = same_address c.args.root n.at (sym c.eq.ensures ∙ c.if-eq.true) in
    c.is_sound_directory.ensures
    ∙ ap (λ (o : Option Standing). is_directory_shape n.shape && is_sound_by o) (c.standing_at.ensures ∙ x.1)
    ∙ root_is f v n.at n.shape x.0 (r ∙ root) set (read.shapes n (member_at q c.loop-i.i n l c.node-node.ensures.node)) x.2

pub returns : goal.returns
returns c f v r set read list stand =
    let all : take c.loop-i.i c.args.arena.now ≡ c.args.arena.now = take_all c.loop-i.i c.args.arena.now (omega (arith, c.len-i-end.ensures, c.loop-i-test.false)) in
    no_root f v c.args.arena.now list (ap (λ (a : Addr). is_known a c.args.arena.now) r ∙ subst (λ (q : List Found). is_known c.args.root q ≡ false) all c.loop-i.invariant.other)
