use Rattle.udf_file_mends.proofs.Data.{file_data}
use Rattle.udf_file_mends.proofs.Nodes.{entry_reads, holds_mended, is_mended, length_within, list_good, list_reads, takes_claims}
use Rattle.udf_file_mends.proofs.node_law.Goals as goal

pub returns-clause-entry : goal.returns-clause-entry
returns-clause-entry c = entry_reads

pub returns-clause-list : goal.returns-clause-list
returns-clause-list c f v disk a e m = (list_reads f v disk a e m, list_good f v disk a e m)

pub returns-clause-content : goal.returns-clause-content
returns-clause-content c f v disk a e m directory = (holds_mended f v disk a e m directory).reads

pub returns-clause-takes : goal.returns-clause-takes
returns-clause-takes c = takes_claims

pub returns-clause-mended : goal.returns-clause-mended
returns-clause-mended c = is_mended

pub returns-clause-length : goal.returns-clause-length
returns-clause-length c = length_within

pub returns-clause-data : goal.returns-clause-data
returns-clause-data c = file_data
