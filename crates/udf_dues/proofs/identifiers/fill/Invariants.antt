use Rattle.udf_dues.proofs.Filling.{State}
use Rattle.udf_dues.proofs.identifiers.fill.Given as goal

abbrev pub invariant-loop-id : goal.invariant-loop-id
invariant-loop-id l = State l.ids l.id-index l.next l.wanted.items
