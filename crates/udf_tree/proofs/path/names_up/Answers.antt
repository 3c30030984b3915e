use Rattle.std.proofs.Common.{◌≡◌, ◌<◌, [], ◌∷◌, arith, length, ap, ◌∙◌, subst, sym}
use Rattle.std.proofs.lemmas.List.{length-append}
use Rattle.udf_tree_model.specs.Climb.{IsDistance}
use Rattle.udf_tree.specs.Path.{texts_of}
use Rattle.udf_tree.specs.Rise.{HasCome}
use Rattle.udf_tree.proofs.Climbing.{come_begins, come_more, come_up, texts_length, texts_more}
use Rattle.udf_tree.proofs.path.names_up.Goals as goal

pub loop-init : goal.loop-init
loop-init c = record {
  many = ap length c.new-upward.ensures.items;
  come = λ f v are a there far. subst (HasCome f v c.args.nodes.now a c.args.id.0) (sym (ap texts_of c.new-upward.ensures.items)) (come_begins f v c.args.nodes.now a c.args.id.0 there);
}

pub loop-preserved : goal.loop-preserved
loop-preserved c =
    let was = c.loop.invariant.many in
    let texts = texts_length c.loop.upward.items in
    record {
      many = let p = ap length c.in_ok-push.ensures.items in omega (arith, was, p, length-append c.loop.upward.items (c.in_ok-name.name ∷ []));
      come = λ f v are a there far.
          let l = c.loop-test.true in
          let few : length (texts_of c.loop.upward.items) < c.args.steps = omega (arith, was, texts, l) in
          subst (HasCome f v c.args.nodes.now a c.above-at.result.0) (sym (texts_more c.loop.upward.items c.push.new.self.items c.in_ok-name.name c.in_ok-push.ensures.items))
          (come_more f v c.args.nodes.now a c.loop.at (texts_of c.loop.upward.items) (c.loop.invariant.come f v are a there far) c.args.names.now c.in_ok-name.name.items c.above-at.result c.args.steps
          are far few (c.in_ok-name.ensures.items ∙ c.name_of.ensures) c.above-at.ensures);
    }

pub returns-clause-rise : goal.returns-clause-rise
returns-clause-rise c f v are a there far =
    let was = c.loop.invariant.many in
    let texts = texts_length c.loop.upward.items in
    let last = c.loop-test.false in
    let end = c.loop.auto.counter-end in
    let all : c.args.steps ≡ length (texts_of c.loop.upward.items) = omega (arith, was, texts, last, end) in
    come_up f v c.args.nodes.now a c.loop.at.0 (texts_of c.loop.upward.items) (c.loop.invariant.come f v are a there far) (subst (IsDistance f v a) all far)
