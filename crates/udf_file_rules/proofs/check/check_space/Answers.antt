use Rattle.std.proofs.Common.{◌≡◌, ◌++◌, List, map, refl, sym, ap, ◌∙◌, subst, append_assoc}
use Rattle.udf_model.specs.Image.{block_of}
use Rattle.udf_outside.specs.Stops.{Held, bytes_of}
use Rattle.udf_outside.specs.declared.bench.Role.TheVariants.{Image}
use Rattle.udf_file_model.specs.Address.{Places}
use Rattle.udf_file_model.specs.Listing.{Volume, volume_of}
use Rattle.udf_tree.specs.Survey.{IsSurvey}
use Rattle.udf_volume_model.specs.Rules as model
use Rattle.udf_rules.specs.declared.finding.Finding.{Finding}
use Rattle.udf_rules.specs.Findings.{finding_of}
use Rattle.udf_rules_model.specs.Bitmap.{bitmap_findings}
use Rattle.udf_rules_model.specs.Files.{files_in, frame_in, places_of}
use Rattle.udf_rules_model.specs.Findings.{of_space, of_space_by}
use Rattle.udf_rules_model.specs.Integrity.{integrity_findings}
use Rattle.udf_files.specs.Files.{places_in}
use Rattle.udf_file_rules.proofs.Freed.{free_counted, is_free_count, partition_stands}
use Rattle.udf_file_rules.proofs.Along.{map_append}
use Rattle.udf_file_rules.proofs.check.check_space.Goals as goal

pub check_bitmap-requires-clause-placed : goal.check_bitmap-requires-clause-placed
check_bitmap-requires-clause-placed g c = partition_stands c.args.files.now.volume c.args.files.now c.requires.volume

pub returns-clause-found : goal.returns-clause-found
unfolding of_space
returns-clause-found g c tells =
    let files = c.args.files.now in
    let volume = files.volume in
    let image = bytes_of Image (g.B.Bench.held c.args.bench.now) in
    let told = c.requires.files tells in
    let f = frame_in volume image in
    let v : Volume = volume_of volume.size image (places_in files) in
    let before : List Finding = c.args.findings.now in
    let at : v ≡ files_in volume image = ap (λ (p : Places). volume_of volume.size image p) told.places_are in
    let survey = subst (λ (w : Volume). IsSurvey f w files.survey) (sym at) told.survey_is in
    let stands = partition_stands volume files c.requires.volume in
    let free = c.in_ok-free.ensures.free f v survey stands in
    let held = c.in_ok-check_bitmap.ensures.reads.held in
    let bitmap = bitmap_findings f v volume.length volume.bitmap in
    let integrity = integrity_findings f v volume.length volume.bitmap volume.integrity in
    c.in_ok-check_integrity.ensures.found tells f v survey (record { size = refl; disk = ap (λ (h : Held). block_of volume.size (bytes_of Image h)) (sym held) }) (is_free_count f v volume.length c.free_count.result volume.bitmap (c.free_count.ensures ∙ free_counted f v volume.length c.in_ok-free.free free))
    ∙ ap (λ (l : List Finding). l ++ map finding_of integrity) (c.in_ok-check_bitmap.ensures.found tells f free)
    ∙ append_assoc before (map finding_of bitmap) (map finding_of integrity)
    ∙ ap (λ (l : List Finding). before ++ l) (sym (map_append finding_of bitmap integrity))
    ∙ ap (λ (w : Volume). before ++ map finding_of (of_space_by volume f w)) at
