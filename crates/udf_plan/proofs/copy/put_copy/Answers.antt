use Rattle.std.proofs.Common.{◌≡◌, ◌++◌, ◌∷◌, [], length, rules, ap, ◌∙◌, subst}
use Rattle.udf_model.specs.Tag.{relocated}
use Rattle.udf_wanted.specs.Wanted.{LookAlike}
use Rattle.udf_wanted.specs.Writable.{is_writable}
use Rattle.udf_wanted.proofs.Walking.{writable}
use Rattle.udf_plan.proofs.copy.put_copy.Goals as goal

pub returns-clause-put : goal.returns-clause-put
returns-clause-put g c = λ tells.
    subst (λ made. LookAlike c.put.new.self (c.args.wanted.now ++ (c.args.to, made) ∷ []))
    (c.relocate.ensures.value ∙ ap (relocated c.args.to) (c.in_ok-read_block.ensures.block tells)) c.in_ok-put.ensures.put

pub returns-clause-writable : goal.returns-clause-writable
returns-clause-writable g c =
    let long : length c.relocate.new.area ≡ c.args.volume.now.size = search rules in
    c.in_ok-put.ensures.among (is_writable c.args.volume.now) c.requires.writable
    (writable c.args.volume.now (c.args.to, c.relocate.new.area) c.requires.free long)
