use Rattle.std.proofs.Common.{arith, length, refl}
use Rattle.udf_model.proofs.Written.{number_is_written, written_back, written_front, written_length, written_rest}
use Rattle.udf_model.proofs.written_law.Goals as goal

pub returns-clause-back : goal.returns-clause-back
returns-clause-back c at bytes area room = written_back at (length bytes) bytes area refl (omega arith)

pub returns-clause-front : goal.returns-clause-front
returns-clause-front c at bytes area room = written_front at bytes area (omega arith)

pub returns-clause-rest : goal.returns-clause-rest
returns-clause-rest c at bytes area room = written_rest at (length bytes) bytes area refl (omega arith)

pub returns-clause-same_length : goal.returns-clause-same_length
returns-clause-same_length c = written_length

pub returns-clause-number : goal.returns-clause-number
returns-clause-number c = number_is_written
