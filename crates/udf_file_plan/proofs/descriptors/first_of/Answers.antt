use Rattle.std.proofs.Common.{rules, ◌≡◌, ◌*◌, length, ◌∙◌, ap, arith, take}
use Rattle.udf_file_model.proofs.Counts.{count_fits}
use Rattle.udf_file_plan.proofs.Bodies.{first_is, written_back}
use Rattle.udf_file_plan.proofs.descriptors.first_of.Goals as goal

pub put_last-requires-clause-room : goal.put_last-requires-clause-room
put_last-requires-clause-room c =
    let same : c.in_ok-left.left.items ≡ c.args.body.now = search rules in
    omega (
      arith,
      (count_fits c.args.kind c.args.descriptors (length c.args.body.now) c.requires.many).0,
      ap (λ w. c.args.descriptors * w) c.width-wide.ensures.value,
      ap length c.deref_mut.ensures.value,
      ap length same,
    )

pub returns-clause-first : goal.returns-clause-first
returns-clause-first c =
    let same : c.in_ok-left.left.items ≡ c.args.body.now = search rules in
    let long : length c.put_last.new.body ≡ c.in_ok-left.left.len = search rules in
    first_is c.args.kind c.args.descriptors c.args.last c.width-wide.result c.args.body.now c.deref_mut.result.now c.put_last.new.body c.truncate.new.self.items
    c.width-wide.ensures.value (c.deref_mut.ensures.value ∙ same) c.put_last.ensures
    (c.truncate.ensures.items ∙ ap (take (c.args.descriptors * c.width-wide.result)) (written_back c.in_ok-left.left.len c.put_last.new.body c.in_ok-left.left.items long))
