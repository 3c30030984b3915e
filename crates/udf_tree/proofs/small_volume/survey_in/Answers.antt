use Rattle.std.proofs.Common.{rules, ◌≡◌, ◌≤◌, ◌<◌, ◌/◌, ℕ, Some, sym, ap, subst, ◌∙◌, arith}
use Rattle.udf_field.specs.declared.address.Addr.{Addr}
use Rattle.udf_outside.specs.Files.{Files, IsAttached}
use Rattle.udf_outside.specs.Memory.{files_in}
use Rattle.udf_outside.specs.declared.bench.Role.TheVariants.{Image}
use Rattle.udf_file_model.specs.Address.{lone_places}
use Rattle.udf_file_model.specs.Place.{physical_place}
use Rattle.udf_layer.specs.declared.physical.Physical.{Physical}
use Rattle.udf_tree.proofs.TestParts.{inside}
use Rattle.udf_tree.proofs.small_volume.survey_in.Goals as goal

pub file_set-requires-clause-over : goal.file_set-requires-clause-over
file_set-requires-clause-over c =
    let attached : IsAttached Image (files_in c.length.new.self) = search rules in
    let room : 524288 ≤ (files_in c.length.new.self).image.size = search rules in
    c.volume.ensures.over (files_in c.length.new.self) attached room

pub survey-requires-clause-placed : goal.survey-requires-clause-placed
survey-requires-clause-placed c a s h =
    let room : 524288 ≤ (files_in c.length.new.self).image.size = search rules in
    let here : lone_places 0 (physical_place 257 750) a ≡ Some s =
    sym (ap (λ (p : Physical). lone_places 0 (physical_place p.start p.blocks) a) c.new-parts.ensures
    ∙ ap (λ (n : ℕ). lone_places 0 (physical_place n c.new.result.blocks) a) c.new.ensures.start ∙ ap (λ (n : ℕ). lone_places 0 (physical_place 257 n) a) c.new.ensures.blocks) ∙ h in
    let same : files_in c.file_set.new.bench ≡ files_in c.length.new.self = c.in_ok-files.ensures.reads.files in
    subst (λ (f : Files). s < f.image.size / 512) (sym same) (inside a s (files_in c.length.new.self).image.size here room)
