use Rattle.std.proofs.Common.{◌≡◌, ◌++◌, drop}
use Rattle.udf_contents.specs.Anew.{bytes_over}
use Rattle.udf_contents.proofs.anew.add_fitted.Given as goal

abbrev pub invariant-loop-link : goal.invariant-loop-link
invariant-loop-link l = l.bytes.items ++ bytes_over l.size l.content (drop l.link-index l.fitted) ≡ l.initial.bytes.items ++ bytes_over l.size l.content l.fitted
