-- At each turn the size is that of the characters passed, which the text holds.
use Rattle.std.proofs.Common.{arith, map-id, sym, ap, ◌∙◌}
use Rattle.std.proofs.lemmas.Iterator.{YieldsList-from_chars}
use Rattle.std.proofs.lemmas.Iterator.Consumers.{YieldsList-turn, YieldsList-end}
use Rattle.udf_text.specs.Size.{size_of}
use Rattle.udf_text.proofs.Fronts.{front_more, few_units}
use Rattle.udf_text.proofs.size.measure.Goals as goal

pub with-size-requires : goal.with-size-requires
with-size-requires c = omega (arith, few_units c.args.text.now _ _ c.utf8.text c.loop-c.invariant.size c.loop-c.invariant.front)

pub loop-c-preserved : goal.loop-c-preserved
loop-c-preserved c =
    let t = YieldsList-turn (YieldsList-from_chars c.args.text.now c.utf8.text cc) c.loop-c.yielded _ c.loop-c.yielded_by _ _ c.in-Some.c c.in-Some.is c.next.ensures.steps in
    record {
      size = c.with-size.ensures _ c.loop-c.invariant.size;
      front = front_more _ _ _ c.loop-c.invariant.front t;
    }

pub returns : goal.returns
returns c =
    let end = YieldsList-end (YieldsList-from_chars c.args.text.now c.utf8.text cc) c.loop-c.yielded _ c.loop-c.yielded_by _ _ c.in-None.is c.next.ensures.steps in
    record {
      size = c.loop-c.invariant.size ∙ ap size_of (sym (map-id c.loop-c.yielded) ∙ end.0);
      bound = omega (arith, few_units c.args.text.now _ _ c.utf8.text c.loop-c.invariant.size c.loop-c.invariant.front);
    }
