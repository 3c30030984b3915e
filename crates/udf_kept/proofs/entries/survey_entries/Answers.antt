use Rattle.std.proofs.Common.{List, map, sym, ap, ◌∙◌, subst}
use Rattle.udf_outside.specs.Stops.{bytes_of}
use Rattle.udf_outside.specs.declared.bench.Role.TheVariants.{Image}
use Rattle.udf_file_model.specs.Listing.{Volume, volume_of}
use Rattle.udf_tree_model.specs.Frame.{setting_of, tree_of}
use Rattle.udf_tree_model.specs.Parent.{ordinary}
use Rattle.udf_tree_model.proofs.Finding.{volume_within}
use Rattle.udf_tree_model.proofs.Stating.{accepted_starts}
use Rattle.udf_held.specs.declared.held.Held.{Held}
use Rattle.udf_kept.specs.declared.fitted.Selected.{Selected}
use Rattle.udf_tree_model.specs.Laws.{HasSoundStarts}
use Rattle.udf_tree_model.specs.Refused.{refusal}
use Rattle.udf_volume.specs.Fixed.{stretches_over}
use Rattle.udf_volume.specs.declared.stretch.Stretch.{Stretch}
use Rattle.udf_kept.specs.Entries.{HasOutline}
use Rattle.udf_held.specs.Held.{AreHeld, AreHeldOf}
use Rattle.udf_kept.specs.Fitted.{AreSelected}
use Rattle.udf_kept.specs.Keeping.{AreKept}
use Rattle.udf_kept.proofs.Rooting.{none_missing}
use Rattle.udf_kept.proofs.entries.survey_entries.Goals as goal

pub returns-clause-entries : goal.returns-clause-entries
returns-clause-entries g c tells f is set placed =
    let v : Volume = volume_of c.args.size (bytes_of Image (g.B.Bench.held c.args.bench.now)) (g.P.Parts.place c.args.parts.now) in
    let outline : HasOutline f (record { file_set = c.args.files.now.at; root = c.args.files.now.root; system = c.args.files.now.system }) c.after.result c.stretches.result.now = record {
      starts = record { file_set = is.file_set; root = is.root; system = is.system };
      after_is = is.after_is ∙ sym c.after.ensures;
      fixed_are = λ a. is.fixed_are a ∙ ap (λ (xs : List Stretch). stretches_over xs a) (sym c.stretches.ensures);
    } in
    let held : AreHeldOf f v c.in_ok-held.held.items = c.in_ok-held.ensures.held tells f outline in
    let sound : HasSoundStarts (setting_of f v) (tree_of f v) = accepted_starts f v (none_missing (refusal f v) (c.in_ok-held.ensures.refusal tells f outline set)) placed in
    let selected = c.in_ok-selected.ensures (setting_of f v) (tree_of f v) (volume_within f v) (subst (AreHeld (setting_of f v) (tree_of f v)) (sym c.deref.ensures.value) held.held) in
    let selected_of : AreSelected (setting_of f v) (tree_of f v) c.in_ok-held.held.items c.in_ok-selected.selected.items =
    subst (λ (hs : List Held). AreSelected (setting_of f v) (tree_of f v) hs c.in_ok-selected.selected.items) c.deref.ensures.value selected in
    let P : List Held → List Selected → Type 0 = λ hs xs. AreSelected (setting_of f v) (tree_of f v) hs xs in
    let kept = c.in_ok-kept.ensures (setting_of f v) (tree_of f v) (volume_within f v) sound (subst (AreHeld (setting_of f v) (tree_of f v)) (sym c.deref-2.ensures.value) held.held)
    (subst (λ (hs : List Held). P hs c.deref-3.result.now) (sym c.deref-2.ensures.value) (subst (P c.in_ok-held.held.items) (sym c.deref-3.ensures.value) selected_of)) in
    let ordinary_are = c.in_ok-ordinary.ensures f v is.root sound (subst (AreHeld (setting_of f v) (tree_of f v)) (sym c.deref-4.ensures.value) held.held)
    (subst (λ (hs : List Held). P hs c.deref-5.result.now) (sym c.deref-4.ensures.value) (subst (P c.in_ok-held.held.items) (sym c.deref-5.ensures.value) selected_of)) in
    record {
      held = held;
      selected = selected_of;
      kept = subst (λ (hs : List Held). AreKept (setting_of f v) (tree_of f v) hs c.in_ok-kept.kept.items) c.deref-2.ensures.value kept;
      ordinary_are = ordinary_are ∙ ap (map (λ (h : Held). ordinary f v h.at)) c.deref-4.ensures.value;
    }
