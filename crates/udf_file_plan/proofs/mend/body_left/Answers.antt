use Rattle.std.proofs.Common.{rules, ap, ℕ, take}
use Rattle.std.specs.Prelude.{Vec, option_map}
use Rattle.std.specs.declared.alloc.Global.{Global}
use Rattle.udf_file_model.specs.CutBody.{cut_body}
use Rattle.udf_file_plan.proofs.Leaving.{left_listed, left_content, left_front}
use Rattle.udf_file_plan.proofs.Results.{ok_as}
use Rattle.udf_file_plan.proofs.mend.body_left.Goals as goal

pub returns-then-kind-ne-EMBEDDED : goal.returns-then-kind-ne-EMBEDDED
returns-then-kind-ne-EMBEDDED c =
    ok_as c.body_after.result (cut_body c.args.kind c.args.at c.args.bytes c.args.body.now) (λ (v : Vec ℕ Global). v.items) _ c.body_after.ensures.body
    (left_listed c.args.kind c.args.at c.args.body.now c.args.bytes _ c.if-kind-ne-EMBEDDED.true)

pub returns-in-Some : goal.returns-in-Some
returns-in-Some c =
    ok_as c.to_vec.result c.in-Some.content.now (λ (v : Vec ℕ Global). v.items) _ (search rules)
    (left_content c.args.kind c.args.at c.args.body.now c.args.bytes c.in-Some.content.now _ c.if-kind-ne-EMBEDDED.false (ap (option_map (λ x. x.now)) c.in-Some.is))

pub returns-in-None : goal.returns-in-None
returns-in-None c =
    ok_as c.to_vec-in-None.result (take c.min-many.result c.args.body.now) (λ (v : Vec ℕ Global). v.items) _ (search rules)
    (left_front c.args.kind c.args.at c.args.body.now c.args.bytes c.min-many.result _ c.if-kind-ne-EMBEDDED.false (ap (option_map (λ x. x.now)) c.in-None.is) c.min-many.ensures)
