use Rattle.std.proofs.Common.{◌≡◌, List, Option, sym, ap, subst, refl}
use Rattle.udf_outside.specs.Stops.{bytes_of, Held as Disks}
use Rattle.udf_outside.specs.declared.bench.Role.TheVariants.{Image}
use Rattle.udf_file_model.specs.Listing.{Volume, volume_of}
use Rattle.udf_tree_model.specs.Frame.{setting_of, tree_of}
use Rattle.udf_tree_model.specs.Laws.{HasSoundStarts}
use Rattle.udf_tree_model.specs.Refused.{refusal}
use Rattle.udf_tree_model.proofs.Stating.{accepted_starts}
use Rattle.udf_kept.specs.declared.fitted.Selected.{Selected}
use Rattle.udf_held.specs.declared.held.Held.{Held}
use Rattle.udf_kept.specs.declared.keeping.Keeping.{Keeping}
use Rattle.udf_tree.specs.Accepted.{IsAccepted}
use Rattle.udf_contents.specs.Contents.{AreContents}
use Rattle.udf_kept.specs.Fitted.{AreSelected}
use Rattle.udf_held.specs.Held.{AreHeldOf}
use Rattle.udf_kept.specs.Keeping.{AreKept}
use Rattle.udf_kept.proofs.Rooting.{none_missing}
use Rattle.udf_tree.proofs.file_survey.survey.Goals as goal

pub returns-clause-survey : goal.returns-clause-survey
returns-clause-survey g c tells f is set placed =
    let vol : Disks → Volume = λ x. volume_of c.args.size (bytes_of Image x) (g.P.Parts.place c.args.parts.now) in
    let v : Volume = vol (g.B.Bench.held c.args.bench.now) in
    let same : vol (g.B.Bench.held c.survey_entries.new.bench) ≡ v = ap vol c.in_ok-entries.ensures.reads.held in
    let e = c.in_ok-entries.entries in
    let s = setting_of f v in
    let t = tree_of f v in
    let accepted : IsAccepted f v e = record {
      set = set;
      placed = placed;
      accepted = none_missing (refusal f v) (c.in_ok-entries.ensures.refusal tells f is set);
      entries = c.in_ok-entries.ensures.entries tells f is set placed;
    } in
    let starts : HasSoundStarts s t = accepted_starts f v accepted.accepted placed in
    let hs : List Held = c.deref.result.now in
    let xs : List Selected = c.deref-2.result.now in
    let ks : List (Option Keeping) = c.deref-3.result.now in
    let contents : AreContents f v hs ks c.in_ok-contents.contents.items =
    c.in_ok-contents.ensures.contents tells f is.root is.file_set v (sym same) starts
    (subst (AreHeldOf f v) (sym c.deref.ensures.value) accepted.entries.held)
    (subst (λ (y : List Held). AreSelected s t y xs) (sym c.deref.ensures.value) (subst (AreSelected s t e.held.items) (sym c.deref-2.ensures.value) accepted.entries.selected))
    (subst (λ (y : List Held). AreKept s t y ks) (sym c.deref.ensures.value) (subst (AreKept s t e.held.items) (sym c.deref-3.ensures.value) accepted.entries.kept)) in
    c.in_ok-survey.ensures f v refl refl is accepted
    (subst (λ (y : List Held). AreContents f v y e.kept.items c.in_ok-contents.contents.items) c.deref.ensures.value
    (subst (λ (y : List (Option Keeping)). AreContents f v hs y c.in_ok-contents.contents.items) c.deref-3.ensures.value contents))
