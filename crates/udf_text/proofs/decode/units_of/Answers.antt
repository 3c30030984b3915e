-- Each turn reads one unit.
use Rattle.std.proofs.Common.{arith, ap, ◌+◌, drop, ◌++◌, ◌∙◌, length}
use Rattle.std.proofs.lemmas.List.{length_push}
use Rattle.udf_text.specs.Compressed.{units}
use Rattle.udf_text.proofs.Turns.{units_more, units_all}
use Rattle.udf_text.proofs.decode.units_of.Goals as goal

pub loop-at-preserved : goal.loop-at-preserved
loop-at-preserved c = record {
  within = omega arith;
  even = omega (arith, ap length c.in_ok-push.ensures.items, length_push c.loop-at.read.items);
  rest = ap (λ l. l ++ units (drop (c.loop-at.at + 2) c.args.bytes.now)) c.in_ok-push.ensures.items
      ∙ units_more c.args.bytes.now c.loop-at.read.items c.loop-at.at _ (omega arith) (omega arith) c.loop-at.invariant.rest;
}

pub returns : goal.returns
returns c = units_all _ _ _ c.loop-at-test.false c.loop-at.invariant.rest
