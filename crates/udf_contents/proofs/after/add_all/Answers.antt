use Rattle.udf_contents.proofs.Taking.{slice_some, some_end, some_more}
use Rattle.udf_contents.proofs.after.add_all.Goals as goal

pub loop-i-preserved : goal.loop-i-preserved
loop-i-preserved g c = record {
  added = λ f v z set held kept contents x low.
      let h = slice_some c.args.held.now c.loop-i.i c.loop-i-test.true in
      some_more (g.P.Parts.blocks c.args.parts.now) f v c.args.held.now c.loop-i.i h.0 c.loop-i.claims c.add_at.new.claims x _ h.1 low
      (c.in_ok-add_at.ensures f v z set held kept contents h.0 h.1) (c.loop-i.invariant.added f v z set held kept contents x low);
}

pub returns : goal.returns
returns g c f v z set held kept contents = record {
  each = λ x low. some_end f v c.args.held.now c.loop-i.i c.loop-i.claims x _ c.loop-i-test.false (c.loop-i.invariant.added f v z set held kept contents x low);
}
