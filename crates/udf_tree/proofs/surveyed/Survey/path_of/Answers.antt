use Rattle.std.proofs.Common.{◌≡◌, ℕ, List, Some, length, reverse, sym, ◌∙◌, subst}
use Rattle.std.specs.Prelude.{Vec, slice_get}
use Rattle.std.specs.declared.alloc.Global.{Global}
use Rattle.std.proofs.lemmas.List.{length-reverse, reverse-reverse}
use Rattle.udf_tree_model.specs.Climb.{IsDistance}
use Rattle.udf_tree.specs.declared.node.Node.{Node}
use Rattle.udf_tree.specs.Nodes.{node_addresses}
use Rattle.udf_tree.specs.Path.{IsRise, texts_of}
use Rattle.udf_tree.specs.Rise.{AreSteps}
use Rattle.udf_tree.specs.Survey.{IsSurvey, View}
use Rattle.udf_tree.proofs.Climbing.{texts_length}
use Rattle.udf_tree.proofs.surveyed.Survey.path_of.Goals as goal

pub returns-clause-path : goal.returns-clause-path
returns-clause-path c f v k a there =
    let inside = c.self.inside in
    let told = subst (IsSurvey f v) (sym c.self.view_is) k in
    let at : slice_get (node_addresses inside.nodes.items) c.args.id.0 ≡ Some a = subst (λ (x : View). slice_get (node_addresses x.nodes) c.args.id.0 ≡ Some a) (sym c.self.view_is) there in
    let all : AreSteps f v inside.nodes.items (texts_of inside.notes.names.items) = record { nodes_are = told.nodes_are; names_are = told.names_are } in
    let are : AreSteps f v c.deref.result.now (texts_of c.deref-2.result.now) =
    subst (λ (ns : List Node). AreSteps f v ns (texts_of c.deref-2.result.now)) (sym c.deref.ensures.value)
    (subst (λ (xs : List (Vec ℕ Global)). AreSteps f v inside.nodes.items (texts_of xs)) (sym c.deref-2.ensures.value) all) in
    record {
      rise =
          subst (IsRise f v a) (sym (reverse-reverse (texts_of c.in_ok-upward.upward.items)))
          (c.in_ok-upward.ensures.rise f v are a (subst (λ (ns : List Node). slice_get (node_addresses ns) c.args.id.0 ≡ Some a) (sym c.deref.ensures.value) at) (c.steps.ensures f v k a there));
    }

pub returns-clause-length : goal.returns-clause-length
returns-clause-length c f v k a there =
    let many = c.in_ok-upward.ensures.many in
    let same : c.steps.result ≡ length (reverse (texts_of c.in_ok-upward.upward.items)) =
    sym (length-reverse (texts_of c.in_ok-upward.upward.items) ∙ texts_length c.in_ok-upward.upward.items ∙ many) in
    subst (IsDistance f v a) same (c.steps.ensures f v k a there)
