-- What is encoded is read back, alone and in a field.
use Rattle.udf_text.proofs.Spelling.{encoding_read}
use Rattle.udf_text.proofs.Fields.{dstring_read, length_dstring}
use Rattle.udf_text.proofs.law.encoding_law.Goals as goal

pub returns-clause-name : goal.returns-clause-name
returns-clause-name c = encoding_read

pub returns-clause-field : goal.returns-clause-field
returns-clause-field c = dstring_read

pub returns-clause-fills : goal.returns-clause-fills
returns-clause-fills c = length_dstring
