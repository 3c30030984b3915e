use Rattle.std.proofs.Common.{ℕ, ◌<◌, ◌≤◌, length, refl, arith}
use Rattle.udf_found.specs.declared.arena.Found.{Found}
use Rattle.udf_found.specs.Wanted.{found_wants, wants_over}
use Rattle.udf_found.proofs.Going.{member_at}
use Rattle.udf_found.proofs.Wanting.{drop_read, no_more, one_more}
use Rattle.udf_held.proofs.claimed.add_all.Goals as goal

pub loop-i-preserved : goal.loop-i-preserved
unfolding wants_over
loop-i-preserved g c =
    let blocks : ℕ → ℕ = g.P.Parts.blocks c.args.parts.now in
    let n : Found = c.node.result.now in
    let l : c.loop-i.i < length c.args.arena.now = omega (arith, c.len-i-end.ensures, c.loop-i-test.true) in
    record {
      added = λ f v r s read. one_more (wants_over blocks f v) (found_wants blocks f v n.at) c.args.arena.now c.loop-i.i n c.loop-i.claims c.add_found.new.claims _
          (drop_read c.args.arena.now c.loop-i.i n l c.node.ensures.node) refl
          (c.in_ok-add_found.ensures f v r s (read.shapes n (member_at c.args.arena.now c.loop-i.i n l c.node.ensures.node)))
          (c.loop-i.invariant.added f v r s read);
    }

pub returns : goal.returns
unfolding wants_over
returns g c f v r s read =
    let l : length c.args.arena.now ≤ c.loop-i.i = omega (arith, c.len-i-end.ensures, c.loop-i-test.false) in
    no_more (wants_over (g.P.Parts.blocks c.args.parts.now) f v) c.args.arena.now c.loop-i.i c.loop-i.claims _ refl l (c.loop-i.invariant.added f v r s read)
