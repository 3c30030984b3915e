use Rattle.std.proofs.Common.{◌≡◌, ℕ, List, ◌∷◌, [], arith, length, map, get_or, sym, ap, ◌∙◌}
use Rattle.std.proofs.lemmas.List.{length-append, take_all}
use Rattle.udf_tree.specs.declared.children.Kin.{Kin}
use Rattle.udf_kept.specs.Fitted.{at_of}
use Rattle.udf_tree.specs.Kindred.{child_by, sibling_by}
use Rattle.udf_tree.specs.Nodes.{numbered}
use Rattle.udf_tree.specs.Survey.{named_by}
use Rattle.udf_contents.proofs.Mending.{got}
use Rattle.udf_dues.proofs.Elements.{read_at}
use Rattle.udf_tree.proofs.Streaming.{index_kept, told_more}
use Rattle.udf_tree.proofs.children.kin_of.Goals as goal

pub loop-index-preserved : goal.loop-index-preserved
loop-index-preserved c =
    let e = c.args.entries.now in
    let numbers = numbered e.kept.items e.held.items in
    let j = c.loop-index.index-index in
    let i = get_or c.args.indexes.now j 0 in
    let is : i ≡ get_or c.args.indexes.now j i = read_at c.args.indexes.now j 0 i c.loop-index-test.true in
    record {
      many = let p = ap length c.in_ok-push.ensures.items in let was = c.loop-index.invariant.many in omega (arith, was, p, length-append c.loop-index.kin.items (c.kin_at.result ∷ []));
      children = λ f v file_set wanted ids k.
          let x = index_kept f v c.args.root file_set e wanted ids k c.args.indexes.now j i c.requires.indexes (got c.args.indexes.now j i c.loop-index-test.true is) in
          told_more (λ (z : Kin). named_by numbers z.first_child) (λ n. child_by f v (at_of e.held.items n)) c.loop-index.kin.items c.push.new.self.items c.args.indexes.now j c.kin_at.result i
          c.loop-index-test.true is c.in_ok-push.ensures.items ((c.kin_at.ensures f v file_set wanted ids k (c.last_child-last.ensures f v c.args.root file_set wanted ids k) x.0 x.1 x.2).first_is ∙ sym (ap (child_by f v) x.1)) (c.loop-index.invariant.children f v file_set wanted ids k);
      siblings = λ f v file_set wanted ids k.
          let x = index_kept f v c.args.root file_set e wanted ids k c.args.indexes.now j i c.requires.indexes (got c.args.indexes.now j i c.loop-index-test.true is) in
          told_more (λ (z : Kin). named_by numbers z.next_sibling) (λ n. sibling_by f v (at_of e.held.items n)) c.loop-index.kin.items c.push.new.self.items c.args.indexes.now j c.kin_at.result i
          c.loop-index-test.true is c.in_ok-push.ensures.items ((c.kin_at.ensures f v file_set wanted ids k (c.last_child-last.ensures f v c.args.root file_set wanted ids k) x.0 x.1 x.2).next_is ∙ sym (ap (sibling_by f v) x.1)) (c.loop-index.invariant.siblings f v file_set wanted ids k);
    }

pub returns-clause-children : goal.returns-clause-children
returns-clause-children c f v file_set wanted ids k =
    c.loop-index.invariant.children f v file_set wanted ids k
    ∙ ap (λ (is : List ℕ). map (λ i. child_by f v (at_of c.args.entries.now.held.items i)) is) (take_all c.loop-index.index-index c.args.indexes.now c.loop-index-test.false)

pub returns-clause-siblings : goal.returns-clause-siblings
returns-clause-siblings c f v file_set wanted ids k =
    c.loop-index.invariant.siblings f v file_set wanted ids k
    ∙ ap (λ (is : List ℕ). map (λ i. sibling_by f v (at_of c.args.entries.now.held.items i)) is) (take_all c.loop-index.index-index c.args.indexes.now c.loop-index-test.false)
