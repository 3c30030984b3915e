use Rattle.std.proofs.Common.{◌≡◌, ◌++◌, drop}
use Rattle.udf_found.specs.Linked.{ends_of}
use Rattle.udf_found.proofs.links.ends.Given as goal

-- what is out, and what the rest will give, is the whole
abbrev pub invariant-loop-link : goal.invariant-loop-link
invariant-loop-link l = l.targets.items ++ ends_of (drop l.link-index l.links) ≡ ends_of l.links
