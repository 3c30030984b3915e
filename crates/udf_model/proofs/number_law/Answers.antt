use Rattle.std.proofs.Common.{arith}
use Rattle.udf_model.proofs.Written.{number_back, number_stays, number_front, number_rest, number_length, number_is_bytes, number_fits, one_byte}
use Rattle.udf_model.proofs.number_law.Goals as goal

pub returns-clause-back : goal.returns-clause-back
returns-clause-back c n at value area room fits = number_back n at value area (omega arith) fits

pub returns-clause-apart : goal.returns-clause-apart
returns-clause-apart c n at value m from area room apart = number_stays n at value m from area (omega arith) apart

pub returns-clause-front : goal.returns-clause-front
returns-clause-front c n at value area room = number_front n at value area (omega arith)

pub returns-clause-rest : goal.returns-clause-rest
returns-clause-rest c n at value area room = number_rest n at value area (omega arith)

pub returns-clause-same_length : goal.returns-clause-same_length
returns-clause-same_length c = number_length

pub returns-clause-bytes : goal.returns-clause-bytes
returns-clause-bytes c = number_is_bytes

pub returns-clause-byte : goal.returns-clause-byte
returns-clause-byte c = one_byte

pub returns-clause-fits : goal.returns-clause-fits
returns-clause-fits c = number_fits
