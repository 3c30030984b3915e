use Rattle.std.proofs.Common.{rules, ◌≡◌, ◌≤◌, ◌<◌, ◌/◌, sym, subst, ap, ◌∙◌}
use Rattle.udf_outside.specs.Files.{Files, IsAttached}
use Rattle.udf_outside.specs.Memory.{files_in}
use Rattle.udf_outside.specs.declared.bench.Role.TheVariants.{Image}
use Rattle.udf_free.proofs.TestParts.{inside}
use Rattle.udf_free.proofs.tests.survey_in.Goals as goal

pub file_set-requires-clause-over : goal.file_set-requires-clause-over
file_set-requires-clause-over c =
    let attached : IsAttached Image (files_in c.length.new.self) = search rules in
    let room : 524288 ≤ (files_in c.length.new.self).image.size = search rules in
    c.volume.ensures.over (files_in c.length.new.self) attached room

pub file_set-requires-clause-placed : goal.file_set-requires-clause-placed
file_set-requires-clause-placed c a s h =
    let room : 524288 ≤ (files_in c.length.new.self).image.size = search rules in
    subst (λ n. s < (files_in c.length.new.self).image.size / n) (sym c.volume.ensures.size)
    (inside c.parts-parts.result.layer.start c.parts-parts.result.layer.blocks c.parts-parts.ensures.start c.parts-parts.ensures.blocks a s
    (files_in c.length.new.self).image.size h room)

pub survey-requires-clause-placed : goal.survey-requires-clause-placed
survey-requires-clause-placed c a s h =
    let room : 524288 ≤ (files_in c.length.new.self).image.size = search rules in
    let same : files_in c.file_set.new.bench ≡ files_in c.length.new.self = c.in_ok-files.ensures.reads.files in
    subst (λ (f : Files). s < f.image.size / 512) (sym same)
    (inside c.parts-parts.result.layer.start c.parts-parts.result.layer.blocks c.parts-parts.ensures.start c.parts-parts.ensures.blocks a s
    (files_in c.length.new.self).image.size h room)
