use Rattle.std.proofs.Common.{length}
use Rattle.udf_rules.proofs.structure.+behind.Given as goal

abbrev pub decreases-behind : goal.decreases-behind
decreases-behind l = length l.structures.now
