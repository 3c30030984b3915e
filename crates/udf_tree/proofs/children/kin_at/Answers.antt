use Rattle.std.proofs.Common.{List, map, ap, ◌∙◌}
use Rattle.std.specs.Prelude.{slice_get}
use Rattle.udf_tree_model.specs.Chosen.{fitted}
use Rattle.udf_tree_model.specs.Frame.{setting_of, tree_of}
use Rattle.udf_kept.specs.declared.fitted.Selected.{Selected}
use Rattle.udf_kept.specs.Fitted.{step_seen}
use Rattle.udf_contents.specs.Stays.{fitted_by}
use Rattle.udf_tree.proofs.Descending.{child_is}
use Rattle.udf_tree.proofs.Streaming.{steps_are}
use Rattle.udf_tree.proofs.children.kin_at.Goals as goal

pub returns : goal.returns
returns c f v file_set wanted ids k last a at own =
    let e = c.args.entries.now in
    let links = c.fitted_at-links.ensures ∙ ap (λ (xs : List Selected). fitted_by (slice_get xs c.args.i)) c.deref.ensures.value in
    record {
      first_is =
          c.child_in.ensures f v file_set wanted ids k last a at own (fitted (setting_of f v) (tree_of f v) a) (ap (map (step_seen e.held.items)) links ∙ steps_are f v c.args.root file_set e wanted ids k c.args.i a at own) (λ l m. m)
          ∙ child_is f v a;
      next_is = c.sibling_of.ensures f v file_set wanted ids k last a at own;
    }
