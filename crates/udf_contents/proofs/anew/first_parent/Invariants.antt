use Rattle.std.proofs.Common.{◌≡◌}
use Rattle.std.specs.Prelude.{find}
use Rattle.udf_file_model.specs.Fid.{is_parent}
use Rattle.udf_file_model.specs.Scan.{fids_of}
use Rattle.udf_contents.specs.Anew.{first_parent}
use Rattle.udf_contents.proofs.anew.first_parent.Given as goal

abbrev pub invariant-loop-fid : goal.invariant-loop-fid
invariant-loop-fid l = find is_parent (fids_of l.fid-iterator) ≡ first_parent l.size l.content
