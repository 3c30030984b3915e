-- What is found begins the bytes, and the other way round.
use Rattle.udf_file_model.proofs.Fids.{found_begins, begins_found, fid_found, is_long, is_by_four, parent_not_live, found_by_bytes}
use Rattle.udf_file_model.proofs.fid_law.Goals as goal

pub returns-clause-found : goal.returns-clause-found
returns-clause-found c = λ size bytes fid. (found_begins size bytes fid, begins_found size bytes fid)

pub returns-clause-own_bytes : goal.returns-clause-own_bytes
returns-clause-own_bytes c = fid_found

pub returns-clause-long : goal.returns-clause-long
returns-clause-long c = λ size fid is. (is_long size fid is, is_by_four size fid is)

pub returns-clause-apart : goal.returns-clause-apart
returns-clause-apart c = parent_not_live

pub returns-clause-same_bytes : goal.returns-clause-same_bytes
returns-clause-same_bytes c = found_by_bytes
