use Rattle.udf_mended_rules.proofs.Accepted.{nothing_lost}
use Rattle.udf_mended_rules.proofs.Alike as alike
use Rattle.udf_mended_rules.proofs.Rules as rules
use Rattle.udf_mended_rules.proofs.unbroken_law.Goals as goal

pub returns-clause-targets : goal.returns-clause-targets
returns-clause-targets c = rules.targets

pub returns-clause-allocation : goal.returns-clause-allocation
returns-clause-allocation c = rules.allocation

pub returns-clause-contents : goal.returns-clause-contents
returns-clause-contents c = rules.whole_contents

pub returns-clause-names : goal.returns-clause-names
returns-clause-names c = rules.names

pub returns-clause-counts : goal.returns-clause-counts
returns-clause-counts c = alike.counts

pub returns-clause-identifiers : goal.returns-clause-identifiers
returns-clause-identifiers c = alike.identifiers

pub returns-clause-selected : goal.returns-clause-selected
returns-clause-selected c = nothing_lost
