use Rattle.std.proofs.Common.{◌≡◌, ◌<◌, ℕ, List, Some, None, Ok, Err, refl, sym, ap, ◌∙◌, subst, rules}
use Rattle.std.specs.Prelude.{◌/◌}
use Rattle.udf_outside.specs.Files.{Files}
use Rattle.udf_outside.specs.Stops.{Held, bytes_of}
use Rattle.udf_outside.specs.declared.bench.Role.TheVariants.{Image}
use Rattle.udf_file_model.specs.Address.{Places, lone_places}
use Rattle.udf_file_model.specs.Listing.{Volume, volume_of}
use Rattle.udf_partitions.specs.Base.{base_place}
use Rattle.udf_volume_model.specs.Areas.{table_or_none}
use Rattle.udf_tree_model.specs.Refused.{refusal}
use Rattle.udf_tree_model.proofs.Stating.{accepted_starts}
use Rattle.udf_tree_model.specs.Stated.{IsFileSetPlaced}
use Rattle.udf_found.specs.Beyond.{HoldsFileSet, IsAnswer}
use Rattle.udf_kept.specs.Entries.{missing_of}
use Rattle.udf_tree.specs.Survey.{IsSurvey, View}
use Rattle.udf_rules_model.specs.Files.{files_in, frame_in, places_of, site_in}
use Rattle.udf_files.specs.Files.{FindsFiles}
use Rattle.udf_files.proofs.Placed.{has_set, holds_set, inside_whole, lawful_packets, low_partition, same_places, set_found, set_placed}
use Rattle.udf_files.proofs.Refusing.{chained, none_asked, not_refused, set_refused, tree_refused}
use Rattle.udf_files.proofs.files.files_of.Goals as goal

pub returns-in_err-integrity_of-clause-answers : goal.returns-in_err-integrity_of-clause-answers
returns-in_err-integrity_of-clause-answers g c tells =
    let image = bytes_of Image (g.B.Bench.held c.args.bench.now) in
    let is : c.from_residual-in_err-integrity_of.result ≡ Err c.in_err-integrity_of.field-0.0 = search rules in
    subst (FindsFiles c.args.opened.volume image) (sym is)
    (chained c.args.opened.volume image c.in_err-integrity_of.field-0.0 (c.in_err-integrity_of.ensures.answers tells) c.in_err-integrity_of.ensures.refusal)

pub file_set-requires-clause-placed : goal.file_set-requires-clause-placed
file_set-requires-clause-placed g c a s there =
    let over = c.requires.over.over in
    subst (λ (n : ℕ). s < n / c.args.opened.volume.size) (ap (λ (f : Files). f.image.size) (sym c.integrity_of.ensures.reads.files))
    (inside_whole c.args.opened.volume.blocks c.args.opened.volume.size (g.B.Bench.files c.args.bench.now).image.size s over.large over.within (c.partitions-parts.ensures.inside a s there))

pub survey-requires-clause-placed : goal.survey-requires-clause-placed
survey-requires-clause-placed g c a s there =
    let over = c.requires.over.over in
    subst (λ (n : ℕ). s < n / c.args.opened.volume.size) (ap (λ (f : Files). f.image.size) (sym (c.file_set.ensures.reads.files ∙ c.integrity_of.ensures.reads.files)))
    (inside_whole c.args.opened.volume.blocks c.args.opened.volume.size (g.B.Bench.files c.args.bench.now).image.size s over.large over.within (c.partitions-parts.ensures.inside a s there))

pub returns-in_err-set-clause-answers : goal.returns-in_err-set-clause-answers
returns-in_err-set-clause-answers g c tells =
    let volume = c.args.opened.volume in
    let image = bytes_of Image (g.B.Bench.held c.args.bench.now) in
    let place = lone_places 0 (base_place c.partitions-parts.result.layer) in
    let is : c.from_residual-in_err-set.result ≡ Err c.in_err-set.field-0.0 = search rules in
    subst (FindsFiles volume image) (sym is)
    (set_refused volume image c.in_err-set.field-0.0 (c.in_ok-integrity_of.ensures.answers tells).0
    (set_found image c.args.opened place (g.B.Bench.held c.integrity_of.new.bench) (Err c.in_err-set.field-0.0) (c.requires.opened tells) c.partitions-parts.ensures.place
    (ap (bytes_of Image) c.integrity_of.ensures.reads.held) (c.in_err-set.ensures.answers tells)))

pub returns-in_err-survey-clause-answers : goal.returns-in_err-survey-clause-answers
returns-in_err-survey-clause-answers g c tells =
    let volume = c.args.opened.volume in
    let image = bytes_of Image (g.B.Bench.held c.args.bench.now) in
    let place = lone_places 0 (base_place c.partitions-parts.result.layer) in
    let held = c.file_set.ensures.reads.held ∙ c.integrity_of.ensures.reads.held in
    let same : place ≡ places_of volume image = same_places image c.args.opened place (c.requires.opened tells) c.partitions-parts.ensures.place in
    let found = set_found image c.args.opened place (g.B.Bench.held c.integrity_of.new.bench) (Ok c.in_ok-set.set) (c.requires.opened tells) c.partitions-parts.ensures.place
    (ap (bytes_of Image) c.integrity_of.ensures.reads.held) (c.in_ok-set.ensures.answers tells) in
    let at : volume_of volume.size (bytes_of Image (g.B.Bench.held c.file_set.new.bench)) place ≡ files_in volume image =
    ap (λ (h : Held). volume_of volume.size (bytes_of Image h) place) held ∙ ap (λ (p : Places). volume_of volume.size image p) same in
    let holds = subst (HoldsFileSet (frame_in volume image)) (sym at) (holds_set volume image c.in_ok-set.set found.1) in
    let is : c.from_residual-in_err-survey.result ≡ Err c.in_err-survey.field-0.0 = search rules in
    subst (FindsFiles volume image) (sym is)
    (tree_refused volume image c.in_err-survey.field-0.0 (c.in_ok-integrity_of.ensures.answers tells).0 found.0
    (subst (λ (v : Volume). IsAnswer {T = View} (missing_of (refusal (frame_in volume image) v)) (Err c.in_err-survey.field-0.0)) at
    (c.in_err-survey.ensures.refusal tells (frame_in volume image) (has_set volume image c.in_ok-set.set found.1) holds)))

pub returns-clause-answers : goal.returns-clause-answers
returns-clause-answers g c tells =
    let volume = c.args.opened.volume in
    let image = bytes_of Image (g.B.Bench.held c.args.bench.now) in
    let place = lone_places 0 (base_place c.partitions-parts.result.layer) in
    let held = c.file_set.ensures.reads.held ∙ c.integrity_of.ensures.reads.held in
    let same : place ≡ places_of volume image = same_places image c.args.opened place (c.requires.opened tells) c.partitions-parts.ensures.place in
    let found = set_found image c.args.opened place (g.B.Bench.held c.integrity_of.new.bench) (Ok c.in_ok-set.set) (c.requires.opened tells) c.partitions-parts.ensures.place
    (ap (bytes_of Image) c.integrity_of.ensures.reads.held) (c.in_ok-set.ensures.answers tells) in
    let at : volume_of volume.size (bytes_of Image (g.B.Bench.held c.file_set.new.bench)) place ≡ files_in volume image =
    ap (λ (h : Held). volume_of volume.size (bytes_of Image h) place) held ∙ ap (λ (p : Places). volume_of volume.size image p) same in
    let f = frame_in volume image in
    let set = has_set volume image c.in_ok-set.set found.1 in
    let here = holds_set volume image c.in_ok-set.set found.1 in
    let low = low_partition volume c.requires.over.laid c.requires.over.over.bounded.few in
    let stands = set_placed volume image low found.0 in
    let holds = subst (HoldsFileSet f) (sym at) here in
    let answer = subst (λ (v : Volume). missing_of (refusal f v) ≡ None) at (c.in_ok-survey.ensures.refusal tells f set holds) in
    let fine = none_asked (refusal f (files_in volume image)) answer in (
      not_refused volume image (c.in_ok-integrity_of.ensures.answers tells).0 found.0 answer,
      record {
        places_are = same;
        set_is = found.1;
        holds_set = here;
        set_placed = stands;
        starts = accepted_starts f (files_in volume image) fine stands;
        survey_is = subst (λ (v : Volume). IsSurvey f v c.in_ok-survey.survey) at (c.in_ok-survey.ensures.survey tells f set holds (subst (IsFileSetPlaced f) (sym at) stands));
      },
    )

pub returns-clause-over : goal.returns-clause-over
returns-clause-over g c = record {
  volume_is = refl;
  inside = c.partitions-parts.ensures.inside;
  table = table_or_none c.args.opened.layout.table;
  usable = c.see_packets.ensures;
  placed = c.partitions-parts.ensures.place;
  packets = lawful_packets c.args.opened c.requires.over.taken;
}
