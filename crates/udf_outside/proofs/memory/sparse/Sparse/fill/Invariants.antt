use Rattle.std.proofs.Common.{◌≡◌, ◌-◌, ◌≤◌, length, replicate}
use Rattle.udf_outside.specs.Stops.{put}
use Rattle.udf_outside.proofs.memory.sparse.Sparse.fill.Given as goal

abbrev pub invariant-loop-place : goal.invariant-loop-place
invariant-loop-place l = record {
  begun : l.at ≤ l.place;
  within : l.place ≤ l.end;
  filled : l.self ≡ put l.initial.self l.at (replicate (l.place - l.at) l.byte);
  size : length l.self ≡ length l.initial.self;
}

abbrev pub decreases-loop-place : goal.decreases-loop-place
decreases-loop-place l = l.end - l.place
