use Rattle.udf_redo.proofs.Placed.{placed}
use Rattle.udf_redo.proofs.laws.applied_law.Goals as goal

pub returns : goal.returns
returns c = λ size edits image up blocks within. placed size 0 edits image up (λ k d lt. (blocks k d lt, within k d lt))
