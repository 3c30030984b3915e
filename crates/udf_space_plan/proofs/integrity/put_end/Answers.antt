use Rattle.std.proofs.Common.{◌≡◌, ◌+◌, ◌<◌, length, arith, rules}
use Rattle.udf_volume_model.specs.Anchor.{blocks_for}
use Rattle.udf_wanted.specs.Writable.{is_writable}
use Rattle.udf_wanted.proofs.Walking.{free_inside, writable}
use Rattle.udf_space_plan.proofs.integrity.put_end.Goals as goal

pub overflow_add-sector : goal.overflow_add-sector
overflow_add-sector c =
    let v = c.args.volume.now in
    let two : 1 < blocks_for v.size v.integrity.length = search rules in
    omega (arith, c.requires.few, free_inside v (v.integrity.start + 1) (c.requires.free two))

pub returns-clause-writable : goal.returns-clause-writable
returns-clause-writable c =
    let v = c.args.volume.now in
    let two : 1 < blocks_for v.size v.integrity.length = search rules in
    let long : length c.write_terminator.new.block ≡ v.size = search rules in
    c.in_ok-put.ensures.among (is_writable v) c.requires.writable
    (writable v (v.integrity.start + 1, c.write_terminator.new.block) (c.requires.free two) long)
