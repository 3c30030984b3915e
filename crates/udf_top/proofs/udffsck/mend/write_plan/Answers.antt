use Rattle.std.proofs.Common.{◌≡◌, arith, sym, ◌∙◌, ap, subst, ℕ, List, true, not}
use Rattle.udf_model.specs.Size.{is_size}
use Rattle.udf_volume_model.specs.Areas.{Area, covers}
use Rattle.udf_blocks.specs.Planned.{are_at}
use Rattle.udf_outside.specs.Stops.{bytes_of}
use Rattle.udf_outside.specs.declared.bench.Role.TheVariants.{Image, Side}
use Rattle.udf_volume_model.specs.Plans.{ClimbsFrom}
use Rattle.udf_redo.specs.Log.{Edit}
use Rattle.udf_redo.specs.declared.head.LogHead.{LogHead}
use Rattle.udf_model.proofs.Sizes.{size_cases}
use Rattle.udf_outside.proofs.Runs.{leaves_weaker}
use Rattle.udf_redo.specs.Runs.{IsLogging}
use Rattle.udf_top.specs.Steps.{IsMending}
use Rattle.udf_top.proofs.Stepping.{logging, IsWritten, until_open, until_put, until_closed, open_applied, done_on}
use Rattle.udf_top.proofs.udffsck.mend.write_plan.Goals as goal

pub write_log-requires-clause-plan : goal.write_log-requires-clause-plan
write_log-requires-clause-plan g c =
    let plan = c.args.plan.now in
    let same = c.kept_descriptors.ensures in
    let count = ap (λ (area : Area). area.count) same in
    let start = ap (λ (area : Area). area.start) same in record {
      size = subst (λ (n : ℕ). is_size n ≡ true) (sym c.requires.lawful.size) c.requires.size;
      lawful = c.requires.lawful.lawful;
      some = c.requires.some;
      inside = c.requires.lawful.inside;
      unsealed = subst (λ (area : Area). are_at (λ n. not (covers area n)) plan.blocks ≡ true) (sym same) c.requires.lawful.unsealed;
      some_sealed = omega (arith, count, c.requires.bounded.some);
      sealed_inside = omega (arith, count, start, c.requires.bounded.descriptors_inside, c.requires.bounded.counted);
    }

pub returns-in_err-write_log-clause-moments : goal.returns-in_err-write_log-clause-moments
returns-in_err-write_log-clause-moments g c tells after rewrites is_plan =
    let start = g.B.Bench.held c.args.bench.now in
    leaves_weaker start _ (IsLogging (bytes_of Image start)) (IsMending c.args.volume.now.size (bytes_of Image start) after)
    (logging c.args.volume.now.size (bytes_of Image start) after) (c.write_log.ensures.moments tells)

pub returns-in_err-open_gate-clause-moments : goal.returns-in_err-open_gate-clause-moments
returns-in_err-open_gate-clause-moments g c tells after rewrites is_plan =
    let start = g.B.Bench.held c.args.bench.now in
    let logged = g.B.Bench.held c.write_log.new.bench in
    let records = c.in_ok-write_log.ensures.records tells in
    let is : IsWritten c.args.volume.now.size (bytes_of Image start) after (bytes_of Side logged) = record {
      some = omega (arith, (size_cases c.args.volume.now.size c.requires.size).0);
      rewrites = rewrites;
      log = c.in_ok-write_log.ensures.log tells;
      size_is = ap (λ (h : LogHead). h.size) (c.in_ok-write_log.ensures.head tells) ∙ c.requires.lawful.size;
      records = records ∙ is_plan;
      up = subst (λ (edits : List Edit). ClimbsFrom 0 edits) (sym records) c.requires.lawful.lawful.ascends;
    } in
    until_open c.args.volume.now.size after start logged is (c.write_log.ensures.image tells) (c.write_log.ensures.moments tells)
    (g.B.Bench.held c.open_gate.new.bench) (c.open_gate.ensures.moments tells)

pub returns-in_err-apply-clause-moments : goal.returns-in_err-apply-clause-moments
returns-in_err-apply-clause-moments g c tells after rewrites is_plan =
    let start = g.B.Bench.held c.args.bench.now in
    let logged = g.B.Bench.held c.write_log.new.bench in
    let records = c.in_ok-write_log.ensures.records tells in
    let is : IsWritten c.args.volume.now.size (bytes_of Image start) after (bytes_of Side logged) = record {
      some = omega (arith, (size_cases c.args.volume.now.size c.requires.size).0);
      rewrites = rewrites;
      log = c.in_ok-write_log.ensures.log tells;
      size_is = ap (λ (h : LogHead). h.size) (c.in_ok-write_log.ensures.head tells) ∙ c.requires.lawful.size;
      records = records ∙ is_plan;
      up = subst (λ (edits : List Edit). ClimbsFrom 0 edits) (sym records) c.requires.lawful.lawful.ascends;
    } in
    until_put c.args.volume.now.size after start logged is (c.write_log.ensures.image tells) (c.write_log.ensures.moments tells)
    (g.B.Bench.held c.open_gate.new.bench) (c.in_ok-open_gate.ensures.side tells) (c.open_gate.ensures.image tells) (c.open_gate.ensures.moments tells)
    (g.B.Bench.held c.apply.new.bench) (c.apply.ensures.moments tells)

pub returns-clause-moments : goal.returns-clause-moments
returns-clause-moments g c tells after rewrites is_plan =
    let start = g.B.Bench.held c.args.bench.now in
    let logged = g.B.Bench.held c.write_log.new.bench in
    let records = c.in_ok-write_log.ensures.records tells in
    let is : IsWritten c.args.volume.now.size (bytes_of Image start) after (bytes_of Side logged) = record {
      some = omega (arith, (size_cases c.args.volume.now.size c.requires.size).0);
      rewrites = rewrites;
      log = c.in_ok-write_log.ensures.log tells;
      size_is = ap (λ (h : LogHead). h.size) (c.in_ok-write_log.ensures.head tells) ∙ c.requires.lawful.size;
      records = records ∙ is_plan;
      up = subst (λ (edits : List Edit). ClimbsFrom 0 edits) (sym records) c.requires.lawful.lawful.ascends;
    } in
    until_closed c.args.volume.now.size after start logged is (c.write_log.ensures.image tells) (c.write_log.ensures.moments tells)
    (g.B.Bench.held c.open_gate.new.bench) (c.in_ok-open_gate.ensures.side tells) (c.open_gate.ensures.image tells) (c.open_gate.ensures.moments tells)
    (g.B.Bench.held c.apply.new.bench) (g.B.Bench.held c.close_gate.new.bench) (c.apply.ensures.moments tells) (c.in_ok-apply.ensures.image tells) (c.close_gate.ensures.moments tells)

pub returns-clause-done : goal.returns-clause-done
returns-clause-done g c tells after rewrites is_plan =
    let start = g.B.Bench.held c.args.bench.now in
    let logged = g.B.Bench.held c.write_log.new.bench in
    let records = c.in_ok-write_log.ensures.records tells in
    let is : IsWritten c.args.volume.now.size (bytes_of Image start) after (bytes_of Side logged) = record {
      some = omega (arith, (size_cases c.args.volume.now.size c.requires.size).0);
      rewrites = rewrites;
      log = c.in_ok-write_log.ensures.log tells;
      size_is = ap (λ (h : LogHead). h.size) (c.in_ok-write_log.ensures.head tells) ∙ c.requires.lawful.size;
      records = records ∙ is_plan;
      up = subst (λ (edits : List Edit). ClimbsFrom 0 edits) (sym records) c.requires.lawful.lawful.ascends;
    } in
    let applied = open_applied c.args.volume.now.size after start logged is (c.write_log.ensures.image tells) (c.write_log.ensures.moments tells)
    (g.B.Bench.held c.open_gate.new.bench) (c.in_ok-open_gate.ensures.side tells) (c.open_gate.ensures.image tells) (c.open_gate.ensures.moments tells) in
    done_on c.close_gate.result after (g.B.Bench.held c.close_gate.new.bench)
    (c.close_gate.ensures.image tells ∙ c.in_ok-apply.ensures.image tells ∙ applied)
    (c.close_gate.ensures.closed tells) (c.close_gate.ensures.synced tells)
