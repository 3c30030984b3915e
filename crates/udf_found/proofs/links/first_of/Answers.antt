use Rattle.std.proofs.Common.{ℕ, Option, sym, ap}
use Rattle.std.specs.Prelude.{is_none}
use Rattle.std.specs.BTreeMap.{get}
use Rattle.udf_file_model.specs.Name.{canonical_cmp}
use Rattle.udf_found.proofs.Lines.{learnt_before, learnt_now}
use Rattle.udf_found.proofs.links.first_of.Goals as goal

pub returns-in-Some-clause-learns : goal.returns-in-Some-clause-learns
returns-in-Some-clause-learns c = learnt_before (get canonical_cmp c.args.seen.now) c.args.name c.args.at (ap (λ (o : Option ℕ). is_none o) (sym c.in-Some.ensures.value))

pub returns-clause-learns : goal.returns-clause-learns
returns-clause-learns c = learnt_now (get canonical_cmp c.args.seen.now) (get canonical_cmp c.insert.new.self) c.args.name c.args.at (sym c.in_default.ensures.value) c.in_ok-insert.ensures.updates.0
