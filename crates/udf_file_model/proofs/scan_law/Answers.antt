-- The scan is greedy.
use Rattle.udf_file_model.proofs.Greedy.{is_scan, only_scan}
use Rattle.udf_file_model.proofs.Listed.{ascending, few, listed_bytes, chosen_fids}
use Rattle.udf_file_model.proofs.scan_law.Goals as goal

pub returns-clause-listed : goal.returns-clause-listed
returns-clause-listed c = is_scan

pub returns-clause-one : goal.returns-clause-one
returns-clause-one c = only_scan

pub returns-clause-ascending : goal.returns-clause-ascending
returns-clause-ascending c = ascending

pub returns-clause-bytes : goal.returns-clause-bytes
returns-clause-bytes c = listed_bytes

pub returns-clause-chosen : goal.returns-clause-chosen
returns-clause-chosen c = chosen_fids

pub returns-clause-few : goal.returns-clause-few
returns-clause-few c = few
