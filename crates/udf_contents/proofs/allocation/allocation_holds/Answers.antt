use Rattle.std.proofs.Common.{true, false, refl, sym, ◌∙◌}
use Rattle.std.proofs.lemmas.Bool.{false≢true}
use Rattle.udf_contents.proofs.Allocating.{by_tests}
use Rattle.udf_contents.proofs.allocation.allocation_holds.Goals as goal
use Rattle.udf_contents.proofs.allocation.allocation_holds.Goals.{then-shape, else-shape}

pub returns-then-held : goal.returns-then-held
returns-then-held c f v e held shape = elim c.if-shape.branch [
  | then-shape w ↦ by_tests f v c.args.held.now e c.args.shape.now held shape true true w.if-shape.true (sym w.value-is ∙ c.if-held.true)
  | else-shape w ↦ absurd (false≢true (sym w.if-shape.false ∙ sym w.value-is ∙ c.if-held.true))
]

pub returns-else-held : goal.returns-else-held
returns-else-held c f v e held shape = elim c.if-shape.branch [
  | then-shape w ↦ c.if-held.false ∙ by_tests f v c.args.held.now e c.args.shape.now held shape true false w.if-shape.true (sym w.value-is ∙ c.if-held.false)
  | else-shape w ↦ c.if-held.false ∙ by_tests f v c.args.held.now e c.args.shape.now held shape false c.args.held.now.whole w.if-shape.false refl
]
