-- The last byte decides.
use Rattle.udf_text.proofs.Fields.{long_law, dstring_short}
use Rattle.udf_text.proofs.law.dstring_law.Goals as goal

pub returns-clause-bad_length : goal.returns-clause-bad_length
returns-clause-bad_length c = long_law

pub returns-clause-name : goal.returns-clause-name
returns-clause-name c = dstring_short
