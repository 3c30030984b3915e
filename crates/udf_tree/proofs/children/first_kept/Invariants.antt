use Rattle.std.proofs.Common.{◌≡◌, drop}
use Rattle.udf_tree.specs.Kindred.{first_seen}
use Rattle.udf_tree.proofs.children.first_kept.Given as goal

abbrev pub invariant-loop-link : goal.invariant-loop-link
invariant-loop-link l = first_seen l.kept l.holder (drop l.link-index l.links) ≡ first_seen l.kept l.holder l.links
