use Rattle.std.proofs.Common.{◌≤◌, ◌≡◌, ◌∙◌, ap, inl, inr, ⊎_elim, Option, length}
use Rattle.udf_outside.specs.declared.memory.script.Spared.{Spared}
use Rattle.udf_outside.specs.Numbered.{next_number}
use Rattle.udf_outside.specs.Script.{Scripted}
use Rattle.udf_outside.specs.Stops.{bytes_of}
use Rattle.udf_outside.specs.Memory.{files_in, held_in, script_in, left_by, spared_by}
use Rattle.udf_outside.specs.Sizes.{sizes_in}
use Rattle.udf_outside.proofs.Ending.{write_ends, write_resizes, carries, both_ok, both_err, counted_spared, counted_wants}
use Rattle.udf_outside.proofs.memory.bench.MemBenchBench.write_at.Goals as goal

within : (c : goal.After-answer) → c.args.at ≤ length (bytes_of c.args.role (held_in c.args.self.now))
within c = rw (← sizes_in c.args.self.now c.args.role) c.requires.within

pub returns-clause-held : goal.returns-clause-held
unfolding held_in
returns-clause-held c = write_ends c.turn-turn.result c.args.role c.args.at c.args.from.now (held_in c.args.self.now) (held_in c.carry_out-found.new.self) _ _ c.carry_out-found.result c.answer.result
    (within c) c.answer.ensures.ends c.carry_out-found.ensures.done c.carry_out-found.ensures.failed

pub returns-clause-files : goal.returns-clause-files
unfolding files_in held_in
returns-clause-files c = write_resizes c.args.role c.args.at c.args.from.now (files_in c.args.self.now) (files_in c.carry_out-found.new.self) (held_in c.args.self.now) (held_in c.carry_out-found.new.self)
    c.answer.result (within c) (sizes_in c.args.self.now c.args.role) c.carry_out-found.ensures.files (returns-clause-held c)

pub returns-clause-left : goal.returns-clause-left
unfolding held_in script_in
returns-clause-left c =
    let turn = c.turn-turn.result in
    let old = c.args.self.now in
    let middle = c.carry_out-found.new.self in
    let counted = c.count_write.new.self in
    let spared : counted.spared ≡ old.script.spared =
    ap (λ (s : Scripted). s.spared) c.count_write.ensures ∙ counted_spared c.args.role c.turn-turn.new.self ∙ ap (λ (s : Scripted). s.spared) c.turn-turn.ensures.counted in
    let wants : middle.script.wants ≡ old.script.wants =
    ap (λ (s : Scripted). s.wants) c.carry_out-found.ensures.script ∙ ap (λ (s : Scripted). s.wants) c.count_write.ensures ∙ counted_wants c.args.role c.turn-turn.new.self
    ∙ ap (λ (s : Scripted). s.wants) c.turn-turn.ensures.counted in (
      turn,
      c.turn-turn.ensures.turn,
      ⊎_elim
          (λ done. inl (done.0.0, done.1 ∙ done.0.1 ∙ ap (λ (s : Option Spared). spared_by turn c.args.role c.args.at (length c.args.from.now) s) spared, done.2 ∙ wants))
          (λ failed. inr (failed.0.0, failed.1 ∙ ap (λ (s : Scripted). s.spared) failed.0.1 ∙ spared, failed.2 ∙ ap next_number wants))
          (carries turn middle.script c.answer.new.self c.carry_out-found.result c.answer.result
          ((held_in middle ≡ left_by turn c.args.role c.args.at c.args.from.now (held_in old)) × (middle.script.spared ≡ spared_by turn c.args.role c.args.at (length c.args.from.now) counted.spared))
          ((held_in middle ≡ held_in old) × (middle.script ≡ counted))
          c.answer.ensures.ends (both_ok c.carry_out-found.result _ _ c.carry_out-found.ensures.done c.carry_out-found.ensures.spared)
          (both_err c.carry_out-found.result _ _ c.carry_out-found.ensures.failed c.carry_out-found.ensures.kept)),
    )
