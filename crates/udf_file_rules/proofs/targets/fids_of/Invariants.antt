use Rattle.std.proofs.Common.{◌≡◌, map}
use Rattle.std.specs.Map.Iter.{deref_pair}
use Rattle.udf_file_rules.specs.SeenLinks.{targets_of}
use Rattle.udf_file_rules.proofs.targets.fids_of.Given as goal

abbrev pub invariant-loop-place : goal.invariant-loop-place
invariant-loop-place l = l.fids.items ≡ targets_of l.at (map deref_pair l.yielded)
