use Rattle.udf_file_model.specs.Descriptors.{descriptor_at}
use Rattle.udf_file_plan.proofs.Cutting.{CutSoFar}
use Rattle.udf_file_plan.proofs.descriptors.cut_at.Given as goal

abbrev pub invariant-loop-i : goal.invariant-loop-i
invariant-loop-i l = record {
  cut : CutSoFar (descriptor_at l.kind l.holder l.body) l.many l.bytes l.left l.i;
}
