use Rattle.std.proofs.Common.{◌++◌, ℕ, List, Option, take}
use Rattle.std.specs.List.{flat_map}
use Rattle.udf_kept.specs.Depths.{IsReached, target_from}
use Rattle.udf_kept.proofs.depths.reach_links.Given as goal

abbrev pub invariant-loop-link : goal.invariant-loop-link
invariant-loop-link l = (old : List (Option ℕ)) (done : List ℕ) → IsReached old done l.depth l.initial.depths l.initial.layer.items
    → IsReached old (done ++ flat_map (target_from l.least) (take l.link-index l.links)) l.depth l.depths l.layer.items
