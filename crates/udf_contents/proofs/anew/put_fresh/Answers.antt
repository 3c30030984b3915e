use Rattle.std.proofs.Common.{ℕ, List, arith, ap, rules, ◌∙◌}
use Rattle.udf_model.specs.Tag.{crc_length}
use Rattle.udf_model.proofs.Retagged.{retagged_covers}
use Rattle.udf_contents.proofs.anew.put_fresh.Goals as goal

pub returns-clause-covered : goal.returns-clause-covered
returns-clause-covered c = ap (λ (x : List ℕ). crc_length x) c.retag.ensures.value ∙ retagged_covers c.args.location 24 c.put_length.new.fid (search rules) (omega arith)
