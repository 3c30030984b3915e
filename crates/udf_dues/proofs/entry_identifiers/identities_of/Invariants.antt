use Rattle.std.proofs.Common.{take}
use Rattle.udf_dues.specs.Numbered.{Lists, passed}
use Rattle.udf_dues.proofs.entry_identifiers.identities_of.Given as goal

abbrev pub invariant-loop-position : goal.invariant-loop-position
invariant-loop-position l = Lists l.root (passed (take l.position l.held) l.are_ordinary) l.identities.entries
