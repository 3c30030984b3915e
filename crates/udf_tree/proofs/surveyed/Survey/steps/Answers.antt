use Rattle.std.proofs.Common.{◌≡◌, List, Some, sym, subst}
use Rattle.std.specs.Prelude.{slice_get}
use Rattle.udf_tree.specs.declared.node.Node.{Node}
use Rattle.udf_tree.specs.Nodes.{AreNodes, node_addresses}
use Rattle.udf_tree.specs.Survey.{IsSurvey, View}
use Rattle.udf_tree.proofs.surveyed.Survey.steps.Goals as goal

pub returns : goal.returns
returns c f v k a there =
    let inside = c.self.inside in
    let told = subst (IsSurvey f v) (sym c.self.view_is) k in
    let at : slice_get (node_addresses inside.nodes.items) c.args.id.0 ≡ Some a = subst (λ (x : View). slice_get (node_addresses x.nodes) c.args.id.0 ≡ Some a) (sym c.self.view_is) there in
    let same = sym c.deref.ensures.value in
    c.steps_up.ensures f v (subst (AreNodes f v) same told.nodes_are) (subst (λ (ns : List Node). slice_get (node_addresses ns) inside.root.0 ≡ Some f.root) same told.root_is) a
    (subst (λ (ns : List Node). slice_get (node_addresses ns) c.args.id.0 ≡ Some a) same at)
