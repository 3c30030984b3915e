use Rattle.udf_file_mends.proofs.Contents.{is_mended_content}
use Rattle.udf_file_mends.proofs.content_law.Goals as goal

pub returns-clause-holds : goal.returns-clause-holds
returns-clause-holds c f v a e d = (is_mended_content f v d.repairable a e d.kept d.entry d.directory).holds

pub returns-clause-kept : goal.returns-clause-kept
returns-clause-kept c f v a e d = (is_mended_content f v d.repairable a e d.kept d.entry d.directory).kept

pub returns-clause-fits : goal.returns-clause-fits
returns-clause-fits c f v a e d = (is_mended_content f v d.repairable a e d.kept d.entry d.directory).fits
