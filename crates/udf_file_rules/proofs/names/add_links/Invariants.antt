use Rattle.std.proofs.Common.{◌≡◌, ◌++◌, map}
use Rattle.std.specs.Map.Iter.{deref_pair}
use Rattle.udf_file_rules.specs.SeenLinks.{names_of}
use Rattle.udf_file_rules.proofs.names.add_links.Given as goal

abbrev pub invariant-loop-place : goal.invariant-loop-place
invariant-loop-place l = l.findings ≡ l.initial.findings ++ names_of l.at (map deref_pair l.yielded)
