use Rattle.std.proofs.Common.{◌≡◌}
use Rattle.udf_file_model.specs.Scan.{fids, fids_of}
use Rattle.udf_tree_model.specs.Frame.{parent_length}
use Rattle.udf_found.proofs.parents.first_bytes.Given as goal

abbrev pub invariant-loop-fid : goal.invariant-loop-fid
invariant-loop-fid l = parent_length (fids_of l.fid-iterator) ≡ parent_length (fids_of (fids l.size l.content))
