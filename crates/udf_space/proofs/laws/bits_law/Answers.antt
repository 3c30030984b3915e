use Rattle.udf_space.proofs.Packing.{packed_back, packed_clear, packed_length, packed_is_bytes}
use Rattle.udf_space.proofs.Places.{own_bits}
use Rattle.udf_space.proofs.laws.bits_law.Goals as goal

pub returns-clause-own : goal.returns-clause-own
returns-clause-own c = own_bits

pub returns-clause-back : goal.returns-clause-back
returns-clause-back c = packed_back

pub returns-clause-clear : goal.returns-clause-clear
returns-clause-clear c = packed_clear

pub returns-clause-long : goal.returns-clause-long
returns-clause-long c = packed_length

pub returns-clause-bytes : goal.returns-clause-bytes
returns-clause-bytes c = packed_is_bytes
