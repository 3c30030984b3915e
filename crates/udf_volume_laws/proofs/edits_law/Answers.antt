use Rattle.udf_volume_laws.proofs.Others.{put_length, put_block_is, look_off}
use Rattle.udf_volume_laws.proofs.edits_law.Goals as goal

pub returns-clause-same_length : goal.returns-clause-same_length
returns-clause-same_length c = put_length

pub returns-clause-blocks : goal.returns-clause-blocks
returns-clause-blocks c = put_block_is

pub returns-clause-off : goal.returns-clause-off
returns-clause-off c = look_off
