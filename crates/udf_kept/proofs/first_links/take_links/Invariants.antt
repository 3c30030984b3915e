use Rattle.std.proofs.Common.{◌++◌, List, map, take}
use Rattle.udf_kept.specs.FirstLinks.{IsFirst, Told, told_by}
use Rattle.udf_kept.proofs.first_links.take_links.Given as goal

abbrev pub invariant-loop-link : goal.invariant-loop-link
invariant-loop-link l = (done : List Told) → IsFirst done l.initial.first → IsFirst (done ++ map (told_by l.holder l.depth l.at) (take l.link-index l.links)) l.first
