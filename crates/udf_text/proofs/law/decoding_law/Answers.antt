-- The laws of decoding follow from its one outcome.
use Rattle.udf_text.proofs.Spelling.{name_law, one_name, other_law, half_law, lone_law}
use Rattle.udf_text.proofs.law.decoding_law.Goals as goal

pub returns-clause-name : goal.returns-clause-name
returns-clause-name c = name_law

pub returns-clause-one : goal.returns-clause-one
returns-clause-one c = one_name

pub returns-clause-bad_compression : goal.returns-clause-bad_compression
returns-clause-bad_compression c = other_law

pub returns-clause-odd_length : goal.returns-clause-odd_length
returns-clause-odd_length c = half_law

pub returns-clause-lone_surrogate : goal.returns-clause-lone_surrogate
returns-clause-lone_surrogate c = lone_law
