use Rattle.udf_rules_model.proofs.Ruled.{allocation, bitmap, contents, counts, identifiers, integrity, names, recognition, targets}
use Rattle.udf_rules_model.proofs.Together.{all_rules}
use Rattle.udf_rules_model.proofs.rules_law.Goals as goal

pub returns-clause-recognition : goal.returns-clause-recognition
returns-clause-recognition c = recognition

pub returns-clause-targets : goal.returns-clause-targets
returns-clause-targets c = targets

pub returns-clause-allocation : goal.returns-clause-allocation
returns-clause-allocation c = allocation

pub returns-clause-contents : goal.returns-clause-contents
returns-clause-contents c = contents

pub returns-clause-names : goal.returns-clause-names
returns-clause-names c = names

pub returns-clause-counts : goal.returns-clause-counts
returns-clause-counts c = counts

pub returns-clause-identifiers : goal.returns-clause-identifiers
returns-clause-identifiers c = identifiers

pub returns-clause-bitmap : goal.returns-clause-bitmap
returns-clause-bitmap c = bitmap

pub returns-clause-integrity : goal.returns-clause-integrity
returns-clause-integrity c = integrity

pub returns-clause-all : goal.returns-clause-all
returns-clause-all c = all_rules
