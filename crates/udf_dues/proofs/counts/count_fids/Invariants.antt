use Rattle.std.proofs.Common.{◌++◌, List, take}
use Rattle.std.specs.List.{flat_map}
use Rattle.udf_dues.specs.Marks.{AreMarked, Mark, fid_mark}
use Rattle.udf_dues.proofs.counts.count_fids.Given as goal

abbrev pub invariant-loop-link : goal.invariant-loop-link
invariant-loop-link l = (ms : List Mark) → AreMarked ms l.initial.counts → AreMarked (ms ++ flat_map fid_mark (take l.link-index l.links)) l.counts
