use Rattle.std.proofs.Common.{length}
use Rattle.udf_rules.proofs.structure.+first_digit.Given as goal

abbrev pub decreases-first_digit : goal.decreases-first_digit
decreases-first_digit l = length l.structures.now
