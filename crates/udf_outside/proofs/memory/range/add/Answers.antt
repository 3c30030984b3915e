use Rattle.std.proofs.Common.{◌≡◌, ◌<◌, ◌-◌, length, get_or, arith}
use Rattle.std.proofs.lemmas.Grind.{common_steps}
use Rattle.udf_outside.proofs.Covering.{covers_push, covers_joined}
use Rattle.udf_outside.proofs.memory.range.add.Goals as goal

pub returns-in-Some-clause-covers : goal.returns-in-Some-clause-covers
returns-in-Some-clause-covers c i =
    let n = c.len-place.result in
    let size : n ≡ length c.args.ranges.now.items = grind (arith, common_steps) in
    let some : 0 < n = grind (arith, common_steps) in
    let is : get_or c.args.ranges.now.items (n - 1) c.in-Some.last ≡ c.in-Some.last = grind (arith, common_steps) in
    covers_joined c.args.ranges.now.items c.in-Some.last c.args.range c.joined.result i n size some is (c.joined.ensures i)

pub returns-in_ok-push-in_default-clause-covers : goal.returns-in_ok-push-in_default-clause-covers
returns-in_ok-push-in_default-clause-covers c i = rw c.in_ok-push-in_default.ensures.items (covers_push c.args.ranges.now.items c.args.range i)
