use Rattle.udf_tree_model.proofs.Keeping.{kept_least, kept_shortest, kept_sound, kept_found, kept_by}
use Rattle.udf_tree_model.proofs.Choosing.{keeps_chosen, keeps_one, keeps_no_start}
use Rattle.udf_tree_model.proofs.Offsets.{volume_differ}
use Rattle.udf_tree_model.proofs.kept_law.Goals as goal

pub returns-clause-least : goal.returns-clause-least
returns-clause-least c = kept_least

pub returns-clause-depth : goal.returns-clause-depth
returns-clause-depth c = kept_shortest

pub returns-clause-sound : goal.returns-clause-sound
returns-clause-sound c = kept_sound

pub returns-clause-found : goal.returns-clause-found
returns-clause-found c = kept_found

pub returns-clause-by : goal.returns-clause-by
returns-clause-by c = kept_by

pub returns-clause-chosen : goal.returns-clause-chosen
returns-clause-chosen c = keeps_chosen

pub returns-clause-one : goal.returns-clause-one
returns-clause-one c = keeps_one

pub returns-clause-starts : goal.returns-clause-starts
returns-clause-starts c = keeps_no_start

pub returns-clause-differ : goal.returns-clause-differ
returns-clause-differ c = volume_differ
