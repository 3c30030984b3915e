use Rattle.std.proofs.Common.{◌≡◌}
use Rattle.std.specs.List.{list_all}
use Rattle.udf_file_model.specs.Scan.{fids, fids_of}
use Rattle.udf_found.specs.Parents.{is_lawful_kind}
use Rattle.udf_found.proofs.parents.are_lawful_kinds.Given as goal

abbrev pub invariant-loop-fid : goal.invariant-loop-fid
invariant-loop-fid l = list_all is_lawful_kind (fids_of l.fid-iterator) ≡ list_all is_lawful_kind (fids_of (fids l.size l.content))
