use Rattle.std.proofs.Common.{◌≡◌, ℕ, List, ◌∷◌, [], arith, length, get_or, ap, subst}
use Rattle.std.proofs.lemmas.List.{length-append, take_all}
use Rattle.udf_tree.specs.KeptContents.{AreKeptContents}
use Rattle.udf_tree.proofs.Measuring.{content_more}
use Rattle.udf_dues.proofs.Elements.{read_at}
use Rattle.udf_tree.proofs.kept_contents.contents_at.Goals as goal

pub loop-index-preserved : goal.loop-index-preserved
loop-index-preserved c =
    let j = c.loop-index.index-index in
    let i = get_or c.args.indexes.now j 0 in
    let is : i ≡ get_or c.args.indexes.now j i = read_at c.args.indexes.now j 0 i c.loop-index-test.true in
    record {
      many = let p = ap length c.in_ok-push.ensures.items in let was = c.loop-index.invariant.many in omega (arith, was, p, length-append c.loop-index.contents.items (c.content_at.result ∷ []));
      told = λ f v links ids some k.
          content_more f v c.args.entries.now.held.items c.args.indexes.now j i c.loop-index.contents.items c.push.new.self.items c.content_at.result c.loop-index-test.true is c.in_ok-push.ensures.items
          (c.content_at.ensures f v links ids some k) (c.loop-index.invariant.told f v links ids some k);
    }

pub returns-clause-contents : goal.returns-clause-contents
returns-clause-contents c f v links ids some k =
    subst (λ (is : List ℕ). AreKeptContents f v c.args.entries.now.held.items is c.loop-index.contents.items) (take_all c.loop-index.index-index c.args.indexes.now c.loop-index-test.false)
    (c.loop-index.invariant.told f v links ids some k)
