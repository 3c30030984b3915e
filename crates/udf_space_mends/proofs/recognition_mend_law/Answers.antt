use Rattle.udf_space_mends.proofs.Slots.{recognition_fits, recognition_mended, recognition_untaken}
use Rattle.udf_space_mends.proofs.recognition_mend_law.Goals as goal

pub returns-clause-holds : goal.returns-clause-holds
returns-clause-holds c = recognition_mended

pub returns-clause-edits : goal.returns-clause-edits
returns-clause-edits c = recognition_fits

pub returns-clause-untaken : goal.returns-clause-untaken
returns-clause-untaken c = recognition_untaken
