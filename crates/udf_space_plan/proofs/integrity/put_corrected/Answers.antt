use Rattle.std.proofs.Common.{◌≡◌, length, rules}
use Rattle.udf_wanted.specs.Writable.{is_writable}
use Rattle.udf_wanted.proofs.Walking.{writable}
use Rattle.udf_space_plan.proofs.integrity.put_corrected.Goals as goal

pub returns-clause-writable : goal.returns-clause-writable
returns-clause-writable c =
    let v = c.args.volume.now in
    let long : length c.correct.new.block ≡ v.size = search rules in
    c.in_ok-put.ensures.among (is_writable v) c.requires.writable
    (writable v (c.args.sector, c.correct.new.block) c.requires.free long)
