use Rattle.std.proofs.Common.{◌≡◌}
use Rattle.udf_file_model.specs.Scan.{fids, fids_of}
use Rattle.udf_found.specs.declared.parents.Named.TheVariants.{Nothing}
use Rattle.udf_found.proofs.Alone.{after}
use Rattle.udf_found.proofs.parents.alone.Given as goal

abbrev pub invariant-loop-fid : goal.invariant-loop-fid
invariant-loop-fid l = after l.named (fids_of l.fid-iterator) ≡ after Nothing (fids_of (fids l.size l.content))
