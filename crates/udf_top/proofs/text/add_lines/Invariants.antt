use Rattle.std.proofs.Common.{◌≡◌, ◌++◌, take}
use Rattle.udf_rules.specs.Lines.{lines_of}
use Rattle.udf_top.proofs.text.add_lines.Given as goal

abbrev pub invariant-loop-i : goal.invariant-loop-i
invariant-loop-i l = l.text.items ≡ l.initial.text.items ++ lines_of (take l.i l.findings)
