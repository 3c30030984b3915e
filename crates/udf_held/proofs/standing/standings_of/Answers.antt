use Rattle.std.proofs.Common.{◌≡◌, ◌<◌, List, take, length, subst, arith}
use Rattle.std.proofs.lemmas.List.{take_all}
use Rattle.udf_tree_model.specs.Frame.{setting_of, tree_of}
use Rattle.udf_tree_model.proofs.Members.{member_map}
use Rattle.udf_found.specs.declared.arena.Found.{Found}
use Rattle.udf_found.specs.Spot.{spot}
use Rattle.udf_held.specs.Standing.{AreStanding}
use Rattle.udf_found.proofs.Going.{member_at}
use Rattle.udf_held.proofs.Standings.{next_standing}
use Rattle.udf_held.proofs.standing.standings_of.Goals as goal

pub loop-i-preserved : goal.loop-i-preserved
loop-i-preserved g c =
    let q : List Found = c.args.arena.now in
    let n : Found = c.node.result.now in
    let l : c.loop-i.i < length q = omega (arith, c.len-i-end.ensures, c.loop-i-test.true) in
    let m = member_at q c.loop-i.i n l c.node.ensures.node in
    record {
      standings = λ f v after s p read list won. next_standing (setting_of f v) (tree_of f v) q c.loop-i.i n c.loop-i.standings.items c.push.new.self.items c.standing_of.result l c.node.ensures.node c.in_ok-push.ensures.items
          (c.standing_of.ensures f v after s p (list.each (spot n.at n.level) (member_map (λ (x : Found). spot x.at x.level) q n m)).0 (read.shapes n m) won) (c.loop-i.invariant.standings f v after s p read list won);
    }

pub returns : goal.returns
returns g c = record {
  standings = λ f v after s p read list won.
      let all : take c.loop-i.i c.args.arena.now ≡ c.args.arena.now = take_all c.loop-i.i c.args.arena.now (omega (arith, c.len-i-end.ensures, c.loop-i-test.false)) in
      subst (λ (q : List Found). AreStanding (setting_of f v) (tree_of f v) q c.loop-i.standings.items) all (c.loop-i.invariant.standings f v after s p read list won);
}
