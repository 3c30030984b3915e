use Rattle.std.proofs.Common.{◌∙◌, ap, sym, arith}
use Rattle.udf_entry.proofs.Told.{size_bounds}
use Rattle.udf_file_model.specs.Entry.{extent_body}
use Rattle.udf_file_plan.proofs.Differing.{look_none}
use Rattle.udf_file_plan.proofs.Extended.{extent_stays}
use Rattle.udf_file_plan.proofs.extents.put_body.Goals as goal

pub returns-then-is_same-clause-put : goal.returns-then-is_same-clause-put
returns-then-is_same-clause-put c = λ kind bytes at here found is.
    look_none c.args.wanted.now _
    (extent_stays kind bytes c.args.sector at c.args.block.now c.args.body.now c.args.left.now (ap (λ n. extent_body n c.args.block.now) here ∙ found) is
    (sym c.is_same.ensures ∙ c.if-is_same.true))

pub with_body-requires-clause-small : goal.with_body-requires-clause-small
with_body-requires-clause-small c = omega (arith, c.requires.whole, (size_bounds c.args.volume.now.size c.requires.size).1)
