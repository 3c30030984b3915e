use Rattle.std.proofs.Common.{◌≤◌, List, [], ◌∷◌, length, take, Option, ap, subst, arith}
use Rattle.std.proofs.lemmas.List.{length-append, take_all}
use Rattle.udf_tree_model.specs.Frame.{setting_of, tree_of}
use Rattle.udf_held.specs.declared.held.Held.{Held}
use Rattle.udf_kept.specs.declared.keeping.Keeping.{Keeping}
use Rattle.udf_contents.specs.Stays.{AreMends}
use Rattle.udf_contents.proofs.Mending.{got, keeping_there, kept_long, mends_more}
use Rattle.udf_contents.proofs.stays.mends_by.Goals as goal

pub loop-i-preserved : goal.loop-i-preserved
loop-i-preserved c = record {
  long = let n = c.loop-i.invariant.long in let p = ap length c.in_ok-push.ensures.items in omega (arith, n, p, length-append c.loop-i.mends.items (c.mend_at-mend.result ∷ []));
  are = λ f v k.
      let hs = c.args.held.now in
      let ks = c.args.kept.now in
      let h = c.index-held-i.result in
      let at = got hs c.loop-i.i h c.loop-i-test.true c.index-held-i.is in
      let y = keeping_there (setting_of f v) (tree_of f v) hs hs ks c.loop-i.i h k.kept_are.each at in
      mends_more f v hs ks c.loop-i.mends.items c.push.new.self.items c.loop-i.i h y.0 c.mend_at-mend.result c.loop-i-test.true c.index-held-i.is y.1 c.in_ok-push.ensures.items c.loop-i.invariant.long
      (c.mend_at-mend.ensures f v k at y.0 y.1) (c.loop-i.invariant.are f v k);
}

pub returns : goal.returns
returns c f v k =
    let hs = c.args.held.now in
    let ks = c.args.kept.now in
    let over : length hs ≤ c.loop-i.i = c.loop-i-test.false in
    let long = kept_long (setting_of f v) (tree_of f v) hs hs ks k.kept_are.each in
    subst (λ (r : List Held). AreMends f v r ks c.loop-i.mends.items) (take_all c.loop-i.i hs over)
    (subst (λ (r : List (Option Keeping)). AreMends f v (take c.loop-i.i hs) r c.loop-i.mends.items) (take_all c.loop-i.i ks (omega (arith, long, over))) (c.loop-i.invariant.are f v k))
