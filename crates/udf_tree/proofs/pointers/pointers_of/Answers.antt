use Rattle.std.proofs.Common.{◌≡◌, ℕ, List, ◌∷◌, [], arith, length, map, get_or, sym, ap, ◌∙◌}
use Rattle.std.proofs.lemmas.List.{length-append, take_all}
use Rattle.udf_kept.specs.Fitted.{at_of}
use Rattle.udf_tree.specs.Nodes.{numbered}
use Rattle.udf_tree.specs.Survey.{named_by, pointed_by}
use Rattle.udf_contents.proofs.Mending.{got}
use Rattle.udf_dues.proofs.Elements.{read_at}
use Rattle.udf_tree.proofs.Streaming.{index_kept, told_more}
use Rattle.udf_tree.proofs.pointers.pointers_of.Goals as goal

pub loop-index-preserved : goal.loop-index-preserved
loop-index-preserved c =
    let e = c.args.entries.now in
    let j = c.loop-index.index-index in
    let i = get_or c.args.indexes.now j 0 in
    let is : i ≡ get_or c.args.indexes.now j i = read_at c.args.indexes.now j 0 i c.loop-index-test.true in
    record {
      many = let p = ap length c.in_ok-push.ensures.items in let was = c.loop-index.invariant.many in omega (arith, was, p, length-append c.loop-index.pointers.items (c.pointer_at.result ∷ []));
      told = λ f v root file_set links ids k.
          let x = index_kept f v root file_set e links ids k c.args.indexes.now j i c.requires.indexes (got c.args.indexes.now j i c.loop-index-test.true is) in
          told_more (named_by (numbered e.kept.items e.held.items)) (λ n. pointed_by f v (at_of e.held.items n)) c.loop-index.pointers.items c.push.new.self.items c.args.indexes.now j c.pointer_at.result i
          c.loop-index-test.true is c.in_ok-push.ensures.items (c.pointer_at.ensures f v root file_set links ids k x.0 x.1 x.2 ∙ sym (ap (pointed_by f v) x.1)) (c.loop-index.invariant.told f v root file_set links ids k);
    }

pub returns-clause-pointers : goal.returns-clause-pointers
returns-clause-pointers c f v root file_set links ids k =
    c.loop-index.invariant.told f v root file_set links ids k
    ∙ ap (λ (is : List ℕ). map (λ i. pointed_by f v (at_of c.args.entries.now.held.items i)) is) (take_all c.loop-index.index-index c.args.indexes.now c.loop-index-test.false)
