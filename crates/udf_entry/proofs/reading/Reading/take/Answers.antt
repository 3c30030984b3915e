use Rattle.std.proofs.Common.{arith, sym, ◌∙◌}
use Rattle.udf_entry.proofs.Passing.{not_come, not_come_front, hole_passes, all_pass, some_fail, no_front, some_front, may_come_small, equal_test, apart_test}
use Rattle.udf_file_model.proofs.Counts.{front_less, front_blocks}
use Rattle.udf_entry.specs.RunView.{run_seen}
use Rattle.udf_entry.specs.ReadingView.{past_of, rules_seen}
use Rattle.udf_entry.proofs.Telling.{free_blocks, fewer_blocks, new_is}
use Rattle.udf_entry.proofs.reading.Reading.take.Goals as goal

pub returns-then-not-may_come-clause-whole : goal.returns-then-not-may_come-clause-whole
returns-then-not-may_come-clause-whole g c =
    let r = rules_seen c.args.self.rules (g.P.Parts.place c.args.parts.now) in
    sym (not_come r (past_of c.args.self) (run_seen c.args.run) (sym c.may_come.ensures ∙ c.if-not-may_come.true))

pub returns-then-not-may_come-clause-front : goal.returns-then-not-may_come-clause-front
returns-then-not-may_come-clause-front g c e =
    let r = rules_seen c.args.self.rules (g.P.Parts.place c.args.parts.now) in
    not_come_front r (past_of c.args.self) (run_seen c.args.run) (sym c.may_come.ensures ∙ c.if-not-may_come.true)

pub with_hole-requires-clause-small : goal.with_hole-requires-clause-small
with_hole-requires-clause-small g c =
    may_come_small (rules_seen c.args.self.rules (g.P.Parts.place c.args.parts.now)) (past_of c.args.self) (run_seen c.args.run) (sym c.may_come.ensures ∙ c.if-not-may_come.false)

pub returns-then-run-eq-HOLE-clause-whole : goal.returns-then-run-eq-HOLE-clause-whole
returns-then-run-eq-HOLE-clause-whole g c =
    let r = rules_seen c.args.self.rules (g.P.Parts.place c.args.parts.now) in
    sym (hole_passes r (past_of c.args.self) (run_seen c.args.run) (sym c.may_come.ensures ∙ c.if-not-may_come.false) (equal_test c.args.run.kind 2 c.if-run-eq-HOLE.true))

pub with_run-requires-clause-small : goal.with_run-requires-clause-small
with_run-requires-clause-small g c =
    may_come_small (rules_seen c.args.self.rules (g.P.Parts.place c.args.parts.now)) (past_of c.args.self) (run_seen c.args.run) (sym c.may_come.ensures ∙ c.if-not-may_come.false)

pub with_run-requires-clause-free : goal.with_run-requires-clause-free
with_run-requires-clause-free g c k h =
    let r = rules_seen c.args.self.rules (g.P.Parts.place c.args.parts.now) in
    free_blocks r (past_of c.args.self) (run_seen c.args.run) c.blocks_of-blocks.result c.new_blocks-new.result c.blocks_of-blocks.ensures c.new_blocks-new.ensures k
    (omega (arith, c.if-new-blocks.true, c.blocks_of-blocks.ensures, h))

pub returns-then-new-blocks-clause-whole : goal.returns-then-new-blocks-clause-whole
returns-then-new-blocks-clause-whole g c =
    let r = rules_seen c.args.self.rules (g.P.Parts.place c.args.parts.now) in
    let new = new_is r (past_of c.args.self) (run_seen c.args.run) c.blocks_of-blocks.result c.new_blocks-new.result c.blocks_of-blocks.ensures c.new_blocks-new.ensures in
    sym (all_pass r (past_of c.args.self) (run_seen c.args.run) (sym c.may_come.ensures ∙ c.if-not-may_come.false) (apart_test c.args.run.kind 2 c.if-run-eq-HOLE.false)
    (sym new ∙ c.if-new-blocks.true ∙ c.blocks_of-blocks.ensures))

pub returns-then-new-eq0-clause-whole : goal.returns-then-new-eq0-clause-whole
returns-then-new-eq0-clause-whole g c =
    let r = rules_seen c.args.self.rules (g.P.Parts.place c.args.parts.now) in
    let new = new_is r (past_of c.args.self) (run_seen c.args.run) c.blocks_of-blocks.result c.new_blocks-new.result c.blocks_of-blocks.ensures c.new_blocks-new.ensures in
    sym (some_fail r (past_of c.args.self) (run_seen c.args.run) (apart_test c.args.run.kind 2 c.if-run-eq-HOLE.false)
    (λ e. c.if-new-blocks.false (new ∙ e ∙ sym c.blocks_of-blocks.ensures)))

pub returns-then-new-eq0-clause-front : goal.returns-then-new-eq0-clause-front
returns-then-new-eq0-clause-front g c e =
    let r = rules_seen c.args.self.rules (g.P.Parts.place c.args.parts.now) in
    let new = new_is r (past_of c.args.self) (run_seen c.args.run) c.blocks_of-blocks.result c.new_blocks-new.result c.blocks_of-blocks.ensures c.new_blocks-new.ensures in
    no_front r (past_of c.args.self) (run_seen c.args.run) (sym c.may_come.ensures ∙ c.if-not-may_come.false) (sym new ∙ c.if-new-eq0.true)

pub overflow_mul-front : goal.overflow_mul-front
overflow_mul-front g c =
    let r = rules_seen c.args.self.rules (g.P.Parts.place c.args.parts.now) in
    let fewer = fewer_blocks r (past_of c.args.self) (run_seen c.args.run) c.blocks_of-blocks.result c.new_blocks-new.result c.blocks_of-blocks.ensures c.new_blocks-new.ensures c.if-new-blocks.false in
    omega (arith, front_less c.args.self.rules.size c.new_blocks-new.result c.args.run.length c.args.self.some fewer)

pub with_run-requires-2-clause-small : goal.with_run-requires-2-clause-small
with_run-requires-2-clause-small g c =
    let r = rules_seen c.args.self.rules (g.P.Parts.place c.args.parts.now) in
    let fewer = fewer_blocks r (past_of c.args.self) (run_seen c.args.run) c.blocks_of-blocks.result c.new_blocks-new.result c.blocks_of-blocks.ensures c.new_blocks-new.ensures c.if-new-blocks.false in
    omega (
      arith,
      front_less c.args.self.rules.size c.new_blocks-new.result c.args.run.length c.args.self.some fewer,
      may_come_small r (past_of c.args.self) (run_seen c.args.run) (sym c.may_come.ensures ∙ c.if-not-may_come.false),
    )

pub with_run-requires-2-clause-free : goal.with_run-requires-2-clause-free
with_run-requires-2-clause-free g c k h =
    let r = rules_seen c.args.self.rules (g.P.Parts.place c.args.parts.now) in
    free_blocks r (past_of c.args.self) (run_seen c.args.run) c.blocks_of-blocks.result c.new_blocks-new.result c.blocks_of-blocks.ensures c.new_blocks-new.ensures k
    (omega (arith, front_blocks c.args.self.rules.size c.new_blocks-new.result c.args.self.some, h))

pub returns-clause-whole : goal.returns-clause-whole
returns-clause-whole g c =
    let r = rules_seen c.args.self.rules (g.P.Parts.place c.args.parts.now) in
    let new = new_is r (past_of c.args.self) (run_seen c.args.run) c.blocks_of-blocks.result c.new_blocks-new.result c.blocks_of-blocks.ensures c.new_blocks-new.ensures in
    sym (some_fail r (past_of c.args.self) (run_seen c.args.run) (apart_test c.args.run.kind 2 c.if-run-eq-HOLE.false)
    (λ e. c.if-new-blocks.false (new ∙ e ∙ sym c.blocks_of-blocks.ensures)))

pub returns-clause-front : goal.returns-clause-front
returns-clause-front g c e =
    let r = rules_seen c.args.self.rules (g.P.Parts.place c.args.parts.now) in
    let new = new_is r (past_of c.args.self) (run_seen c.args.run) c.blocks_of-blocks.result c.new_blocks-new.result c.blocks_of-blocks.ensures c.new_blocks-new.ensures in
    c.in_ok-reading-3.ensures.past
    ∙ some_front r (past_of c.args.self) (run_seen c.args.run) c.new_blocks-new.result (sym c.may_come.ensures ∙ c.if-not-may_come.false) new (omega (arith, c.if-new-eq0.false))
