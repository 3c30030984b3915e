use Rattle.std.proofs.Common.{◌≡◌, ℕ, List, ◌∷◌, [], arith, length, get_or, ap, subst}
use Rattle.std.proofs.lemmas.List.{length-append, take_all}
use Rattle.udf_tree.specs.Judged.{AreJudged, entries_of}
use Rattle.udf_tree.proofs.Judging.{judged_more}
use Rattle.udf_dues.proofs.Elements.{read_at}
use Rattle.udf_tree.proofs.judge.verdicts_by.Goals as goal

pub loop-index-preserved : goal.loop-index-preserved
loop-index-preserved c =
    let j = c.loop-index.index-index in
    let i = get_or c.args.indexes.now j 0 in
    let is : i ≡ get_or c.args.indexes.now j i = read_at c.args.indexes.now j 0 i c.loop-index-test.true in
    record {
      many = let p = ap length c.in_ok-push.ensures.items in let was = c.loop-index.invariant.many in omega (arith, was, p, length-append c.loop-index.verdicts.items (c.in_ok-verdicts_at.field-0 ∷ []));
      told = λ f v root file_set links ids k.
          judged_more f v c.args.entries.now.held.items c.args.indexes.now j i c.loop-index.verdicts.items c.push.new.self.items c.in_ok-verdicts_at.field-0 c.loop-index-test.true is c.in_ok-push.ensures.items
          (c.in_ok-verdicts_at.ensures f v root file_set links ids k) (c.loop-index.invariant.told f v root file_set links ids k);
    }

pub returns-clause-verdicts : goal.returns-clause-verdicts
returns-clause-verdicts c f v root file_set links ids k =
    subst (λ (is : List ℕ). AreJudged f v c.args.entries.now.held.items is (entries_of c.loop-index.verdicts.items)) (take_all c.loop-index.index-index c.args.indexes.now c.loop-index-test.false)
    (c.loop-index.invariant.told f v root file_set links ids k)
