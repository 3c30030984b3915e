use Rattle.std.proofs.Common.{◌≡◌, List, Option, Some, None, map, ap, sym, ◌∙◌, get_or, nat_lt}
use Rattle.std.specs.Prelude.{option_map, slice_get}
use Rattle.udf_tree_model.specs.Chosen.{fitted}
use Rattle.udf_tree_model.specs.Frame.{setting_of, tree_of}
use Rattle.udf_tree_model.proofs.Members.{member_filter}
use Rattle.udf_tree_model.proofs.Siblings.{beyond, fitted_ascend}
use Rattle.udf_kept.specs.declared.fitted.Fitted.{Fitted}
use Rattle.udf_kept.specs.declared.fitted.Selected.{Selected}
use Rattle.udf_kept.specs.declared.keeping.Keeping.{Keeping}
use Rattle.udf_kept.specs.Fitted.{step_of, step_seen}
use Rattle.udf_contents.specs.Stays.{fitted_by}
use Rattle.udf_tree.proofs.Descending.{is_kept, sibling_none, sibling_some}
use Rattle.udf_tree.proofs.Kindred.{places_rise, steps_beyond}
use Rattle.udf_tree.proofs.Streaming.{steps_are}
use Rattle.udf_tree.proofs.children.sibling_of.Goals as goal

pub returns-in_default : goal.returns-in_default
returns-in_default c f v file_set wanted ids k last a at own =
    absurd (is_kept f v c.args.root file_set c.args.entries.now wanted ids k c.args.i a at own (ap (λ (ks : List (Option Keeping)). get_or ks c.args.i None) (sym c.deref.ensures.value) ∙ sym c.keeping_at.ensures ∙ c.in_default.is))

pub returns-in_default-by : goal.returns-in_default-by
returns-in_default-by c f v file_set wanted ids k last a at own =
    sibling_none f v c.args.root file_set c.args.entries.now wanted ids k c.args.i a at own c.in-Some.keeping
    (ap (λ (ks : List (Option Keeping)). get_or ks c.args.i None) (sym c.deref.ensures.value) ∙ sym c.keeping_at.ensures ∙ c.in-Some.is) c.in_default-by.is

pub returns : goal.returns
returns c f v file_set wanted ids k last a at own =
    let e = c.args.entries.now in
    let x =
    sibling_some f v c.args.root file_set e wanted ids k c.args.i a at own c.in-Some.keeping c.in-Some-by.link
    (ap (λ (ks : List (Option Keeping)). get_or ks c.args.i None) (sym c.deref.ensures.value) ∙ sym c.keeping_at.ensures ∙ c.in-Some.is) c.in-Some-by.is in
    let those = fitted (setting_of f v) (tree_of f v) x.holder in
    let place = c.in-Some-by.link.place in
    let links : List Fitted = c.fitted_at.result.now in
    let same : map (step_seen e.held.items) links ≡ map step_of those =
    ap (map (step_seen e.held.items)) (c.fitted_at.ensures ∙ ap (λ (xs : List Selected). fitted_by (slice_get xs c.in-Some-by.link.holder)) c.deref-2.ensures.value)
    ∙ steps_are f v c.args.root file_set e wanted ids k c.in-Some-by.link.holder x.holder x.at_is x.own in
    let after = c.links_beyond-links.ensures (places_rise e.held.items links those same (fitted_ascend f v x.holder)) in
    c.child_in.ensures f v file_set wanted ids k last x.holder x.at_is x.own (beyond place those) (ap (map (step_seen e.held.items)) after ∙ steps_beyond e.held.items place links those same)
    (λ l m. (member_filter (λ g. nat_lt place g.place) those l m).0)
    ∙ ap (option_map Some) (sym x.next_is)
