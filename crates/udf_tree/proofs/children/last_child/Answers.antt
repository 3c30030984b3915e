use Rattle.std.proofs.Common.{List, ap, sym, ◌∙◌, subst, ◌≡◌, None}
use Rattle.std.specs.Prelude.{Some, option_map, slice_get}
use Rattle.udf_field.specs.declared.address.Addr.{Addr}
use Rattle.udf_tree_model.specs.Among.{Member}
use Rattle.udf_tree_model.specs.Children.{first_in}
use Rattle.udf_tree_model.specs.Chosen.{fitted}
use Rattle.udf_tree_model.specs.Frame.{setting_of, tree_of}
use Rattle.udf_kept.specs.declared.fitted.Selected.{Selected}
use Rattle.udf_held.specs.declared.held.Held.{Held}
use Rattle.udf_kept.specs.Fitted.{step_seen}
use Rattle.udf_contents.specs.Stays.{fitted_by}
use Rattle.std.proofs.Common.{map}
use Rattle.udf_tree.proofs.Descending.{last_none, last_some}
use Rattle.udf_tree.proofs.Streaming.{steps_are}
use Rattle.udf_tree.proofs.children.last_child.Goals as goal

pub returns-in_default : goal.returns-in_default
returns-in_default c f v root file_set wanted ids k =
    last_none f v root file_set c.args.entries.now wanted ids k (subst (λ (hs : List Held). (h : Held) → Member h hs → h.shape ≡ None → ⊥) c.deref.ensures.value c.in_default.ensures)

pub returns : goal.returns
returns c f v root file_set wanted ids k =
    let e = c.args.entries.now in
    let h = c.in-Some.ensures in
    let x = last_some f v root file_set e wanted ids k c.in-Some.i h.0 (ap (λ (hs : List Held). slice_get hs c.in-Some.i) (sym c.deref.ensures.value) ∙ h.1) h.2 in
    let those = fitted (setting_of f v) (tree_of f v) f.file_set in
    let links = c.fitted_at.ensures ∙ ap (λ (xs : List Selected). fitted_by (slice_get xs c.in-Some.i)) c.deref-2.ensures.value in
    c.number_kept.ensures f v root file_set wanted ids k f.file_set x.0 x.1 those (ap (map (step_seen e.held.items)) links ∙ steps_are f v root file_set e wanted ids k c.in-Some.i f.file_set x.0 x.1) (λ l m. m)
    ∙ ap (λ (xs : List Addr). option_map Some (first_in xs)) x.2
