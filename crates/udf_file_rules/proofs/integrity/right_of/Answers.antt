use Rattle.std.proofs.Common.{◌∙◌, refl}
use Rattle.udf_file_rules.proofs.Judging.{free_known, is_tally}
use Rattle.udf_file_rules.proofs.integrity.right_of.Goals as goal

pub returns-clause-right : goal.returns-clause-right
returns-clause-right c = λ f v told known. record {
  tally = is_tally f v c.args.survey.now c.tally_of.result told c.tally_of.ensures.tally c.tally_of.ensures.few;
  named = c.files_named.ensures ∙ told.files_are;
  free = c.known_free.ensures ∙ free_known f v c.args.volume.now.length c.args.volume.now.bitmap c.args.free known;
  blocks_are = refl;
}
