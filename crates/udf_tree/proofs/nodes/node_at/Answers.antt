use Rattle.std.proofs.Common.{List, Bool, false, Option, None, get_or, refl, sym, ap, ◌∙◌, subst}
use Rattle.std.specs.BTreeMap.{get}
use Rattle.udf_tree_model.specs.Frame.{setting_of, tree_of}
use Rattle.udf_held.specs.declared.held.Held.{Held}
use Rattle.udf_kept.specs.declared.keeping.Keeping.{Keeping}
use Rattle.udf_kept.specs.Keeping.{IsKeptBy}
use Rattle.udf_found.specs.Order.{addr_cmp}
use Rattle.udf_tree.proofs.Enrolling.{kept_by, node_is}
use Rattle.udf_tree.proofs.nodes.node_at.Goals as goal

pub returns-clause-node : goal.returns-clause-node
returns-clause-node c f v k there =
    let h = c.args.entry.now in
    let keeping = ap (λ (ks : List (Option Keeping)). get_or ks c.args.i None) (sym c.deref.ensures.value) ∙ sym c.keeping_at.ensures ∙ c.in-Some.is in
    let by = kept_by f v c.args.root c.args.file_set c.args.entries.now c.args.links.now c.args.ids.now k c.args.i h c.in-Some-shape.shape c.in-Some.keeping there c.in-Some-shape.is keeping in
    let above = c.parent_of-parent.ensures f v k.root_is k.file_set_is (subst (λ (hs : List Held). IsKeptBy (setting_of f v) (tree_of f v) hs h c.in-Some.keeping) (sym c.deref-2.ensures.value) by) in
    node_is f v c.args.root c.args.file_set c.args.entries.now c.args.links.now c.args.ids.now k c.args.i h c.in-Some-shape.shape c.in-Some.keeping there c.in-Some-shape.is keeping
    (get addr_cmp c.args.numbers.now) c.requires c.parent_of-parent.result above _ refl refl refl refl c.is_whole.ensures c.links_at.ensures c.id_at.ensures c.number_of.ensures
    (c.is_ordinary.ensures ∙ ap (λ (bs : List Bool). get_or bs c.args.i false) c.deref-3.ensures.value)
