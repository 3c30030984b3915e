use Rattle.udf_volume_laws.proofs.Difference.{mended_block, partition_kept, packets_kept, sealed_kept, past_kept}
use Rattle.udf_volume_laws.proofs.written_law.Goals as goal

pub returns-clause-blocks : goal.returns-clause-blocks
returns-clause-blocks c = mended_block

pub returns-clause-partition : goal.returns-clause-partition
returns-clause-partition c = λ size image volume n large a is. partition_kept size image volume large a is n

pub returns-clause-packets : goal.returns-clause-packets
returns-clause-packets c = λ size image volume n large a is. packets_kept size image volume large a is n

pub returns-clause-sealed : goal.returns-clause-sealed
returns-clause-sealed c = λ size image volume n large a is. sealed_kept size image volume large a is n

pub returns-clause-past : goal.returns-clause-past
returns-clause-past c = past_kept
