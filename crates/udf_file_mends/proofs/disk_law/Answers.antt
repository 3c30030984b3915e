use Rattle.udf_file_mends.proofs.Blockwise.{mended_bytes, mended_long}
use Rattle.udf_file_mends.proofs.Joined.{claims_free, claims_one, has_each, others_stay}
use Rattle.udf_file_mends.proofs.disk_law.Goals as goal

pub returns-clause-each : goal.returns-clause-each
returns-clause-each c = has_each

pub returns-clause-one : goal.returns-clause-one
returns-clause-one c = claims_one

pub returns-clause-free : goal.returns-clause-free
returns-clause-free c = claims_free

pub returns-clause-rest : goal.returns-clause-rest
returns-clause-rest c = others_stay

pub returns-clause-whole : goal.returns-clause-whole
returns-clause-whole c = mended_long

pub returns-clause-bytes : goal.returns-clause-bytes
returns-clause-bytes c = mended_bytes
