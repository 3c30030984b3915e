use Rattle.std.proofs.Common.{length}
use Rattle.udf_file_model.specs.Pack.{IsWholeContent}
use Rattle.udf_dir.proofs.content.is_whole.Given as goal

-- what is left decides
abbrev pub invariant-loop-fid : goal.invariant-loop-fid
invariant-loop-fid l = record {
  forth : IsWholeContent l.size l.rest → IsWholeContent l.size l.content;
  back : IsWholeContent l.size l.content → IsWholeContent l.size l.rest;
}

abbrev pub decreases-loop-fid : goal.decreases-loop-fid
decreases-loop-fid l = length l.rest
