use Rattle.std.proofs.Common.{◌∙◌, sym}
use Rattle.udf_wanted.specs.Writable.{is_writable}
use Rattle.udf_wanted.proofs.Walking.{writable}
use Rattle.udf_file_plan.proofs.Differing.{look_as, look_none, none_differs, one_differs}
use Rattle.udf_file_plan.proofs.different.put_different.Goals as goal

pub returns-then-is_same-clause-put : goal.returns-then-is_same-clause-put
returns-then-is_same-clause-put c =
    look_none c.args.wanted.now _ (none_differs c.args.sector c.args.now.now c.args.after.now (sym c.is_same.ensures ∙ c.if-is_same.true))

pub returns-clause-put : goal.returns-clause-put
returns-clause-put c =
    look_as c.put.new.self c.args.wanted.now _ _ c.in_ok-put.ensures.put
    (one_differs c.args.sector c.args.now.now c.args.after.now (sym c.is_same.ensures ∙ c.if-is_same.false))

pub returns-clause-writable : goal.returns-clause-writable
returns-clause-writable c =
    c.in_ok-put.ensures.among (is_writable c.args.volume.now) c.requires.writable
    (writable c.args.volume.now (c.args.sector, c.args.after.now) c.requires.free c.requires.room)
