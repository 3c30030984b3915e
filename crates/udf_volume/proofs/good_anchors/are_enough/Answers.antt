use Rattle.std.proofs.Common.{rules, ◌≡◌, length, eqb}
use Rattle.udf_volume.proofs.Judged.{enough_good, enough_all}
use Rattle.udf_volume.proofs.good_anchors.are_enough.Goals as goal

pub returns-then-eligible-bad-ge-ENOUGH : goal.returns-then-eligible-bad-ge-ENOUGH
returns-then-eligible-bad-ge-ENOUGH c = λ anchor disk is. enough_good anchor disk c.args.eligible.now c.args.bad.now is c.if-eligible-bad-ge-ENOUGH.true

pub returns-else-eligible-bad-ge-ENOUGH : goal.returns-else-eligible-bad-ge-ENOUGH
returns-else-eligible-bad-ge-ENOUGH c = λ anchor disk is.
    let none : c.is_empty.result ≡ eqb (length c.args.bad.now) 0 = search rules in
    enough_all anchor disk c.args.eligible.now c.args.bad.now c.is_empty.result is c.if-eligible-bad-ge-ENOUGH.false none
