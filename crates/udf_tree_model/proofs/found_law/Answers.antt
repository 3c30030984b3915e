use Rattle.udf_tree_model.proofs.Finding.{found_least, found_full, found_readable, found_shortest, volume_within}
use Rattle.udf_tree_model.proofs.Places.{readable_placed}
use Rattle.udf_tree_model.proofs.found_law.Goals as goal

pub returns-clause-least : goal.returns-clause-least
returns-clause-least c = found_least

pub returns-clause-full : goal.returns-clause-full
returns-clause-full c = found_full

pub returns-clause-readable : goal.returns-clause-readable
returns-clause-readable c = found_readable

pub returns-clause-level : goal.returns-clause-level
returns-clause-level c = found_shortest

pub returns-clause-within : goal.returns-clause-within
returns-clause-within c = volume_within

pub returns-clause-placed : goal.returns-clause-placed
returns-clause-placed c = readable_placed
