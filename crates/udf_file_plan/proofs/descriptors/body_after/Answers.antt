use Rattle.std.proofs.Common.{rules, refl, ◌∙◌, ℕ}
use Rattle.std.specs.Prelude.{Vec}
use Rattle.std.specs.declared.alloc.Global.{Global}
use Rattle.udf_file_model.specs.CutBody.{cut_body, first_of}
use Rattle.udf_file_plan.proofs.Results.{ok_as}
use Rattle.udf_file_plan.proofs.Bodies.{cut_none, cut_beyond, cut_within}
use Rattle.udf_file_plan.proofs.descriptors.body_after.Goals as goal

pub returns-then-bytes-eq0-clause-body : goal.returns-then-bytes-eq0-clause-body
returns-then-bytes-eq0-clause-body c = c.new.ensures.items ∙ cut_none c.args.kind c.args.holder c.args.bytes c.args.body.now c.if-bytes-eq0.true

pub returns-in-Beyond-clause-body : goal.returns-in-Beyond-clause-body
returns-in-Beyond-clause-body c =
    ok_as c.to_vec.result c.args.body.now (λ (v : Vec ℕ Global). v.items) (cut_body c.args.kind c.args.holder c.args.bytes c.args.body.now)
    (search rules)
    (cut_beyond c.args.kind c.args.holder c.args.bytes c.args.body.now (record { next = c.in-Beyond.next; left = c.in-Beyond.left }) c.if-bytes-eq0.false c.in-Beyond.ensures.cut)

pub returns-in-Within-clause-body : goal.returns-in-Within-clause-body
returns-in-Within-clause-body c =
    ok_as c.first_of.result (first_of c.args.kind c.in-Within.descriptors c.in-Within.last c.args.body.now) (λ (v : Vec ℕ Global). v.items) (cut_body c.args.kind c.args.holder c.args.bytes c.args.body.now)
    c.first_of.ensures.first
    (cut_within c.args.kind c.args.holder c.args.bytes c.in-Within.descriptors c.in-Within.last c.args.body.now _ c.if-bytes-eq0.false c.in-Within.ensures.cut refl)
