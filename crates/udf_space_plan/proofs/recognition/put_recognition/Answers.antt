use Rattle.std.proofs.Common.{◌≡◌, ◌<◌, ◌*◌, ℕ, List, arith, ap, sym, ◌∙◌, true, false}
use Rattle.udf_model.specs.Image.{block_of}
use Rattle.udf_outside.specs.Stops.{bytes_of}
use Rattle.udf_outside.specs.declared.bench.Role.TheVariants.{Image}
use Rattle.udf_rules_model.specs.Findings.{recognition_of}
use Rattle.udf_rules_model.specs.Recognition.{slot_at, slot_blocks}
use Rattle.udf_space_plan.specs.Runs.{is_run_free}
use Rattle.udf_space_plan.proofs.Broken.{broken_where, digit_is, found_of, holds_where, none_wanted, sequence_of, slots_free}
use Rattle.udf_space_plan.proofs.recognition.put_recognition.Goals as goal

pub returns-then-is_empty-clause-put : goal.returns-then-is_empty-clause-put
returns-then-is_empty-clause-put g c = λ tells.
    let volume = c.args.opened.now.volume in
    let image : List ℕ = bytes_of Image (g.B.Bench.held c.args.bench.now) in
    none_wanted (recognition_of volume image) (block_of volume.size image volume.pd)
    (holds_where (recognition_of volume image) (block_of volume.size image volume.pd) c.check_recognition.new.findings
    (found_of volume image _ c.check_recognition.new.findings c.none-findings.ensures (c.in_ok-check_recognition.ensures.found tells))
    (sym c.if-is_empty.true ∙ c.is_empty.ensures)) c.args.wanted.now

pub put_sequence-requires-clause-free : goal.put_sequence-requires-clause-free
put_sequence-requires-clause-free g c =
    let volume = c.args.opened.now.volume in
    sym (ap (λ n. is_run_free volume n (3 * c.blocks_in_slot.result)) c.first_sector.ensures.sector
    ∙ ap (λ n. is_run_free volume (slot_at volume.size 0) (3 * n)) c.blocks_in_slot.ensures.blocks)
    ∙ sym c.is_free_run.ensures ∙ c.if-not-is_free_run.false

pub returns-then-not-is_free_run-clause-put : goal.returns-then-not-is_free_run-clause-put
returns-then-not-is_free_run-clause-put g c = λ tells.
    let volume = c.args.opened.now.volume in
    let image : List ℕ = bytes_of Image (g.B.Bench.held c.args.bench.now) in
    let some : 0 < slot_blocks volume.size = omega (arith, c.blocks_in_slot.ensures.some, c.blocks_in_slot.ensures.blocks) in
    let broken = broken_where (recognition_of volume image) (block_of volume.size image volume.pd) c.check_recognition.new.findings
    (found_of volume image _ c.check_recognition.new.findings c.none-findings.ensures (c.in_ok-check_recognition.ensures.found tells))
    (sym c.if-is_empty.false ∙ c.is_empty.ensures) in
    let free : c.is_free_run.result ≡ true =
    c.is_free_run.ensures ∙ ap (λ n. is_run_free volume n (3 * c.blocks_in_slot.result)) c.first_sector.ensures.sector
    ∙ ap (λ n. is_run_free volume (slot_at volume.size 0) (3 * n)) c.blocks_in_slot.ensures.blocks ∙ slots_free volume image c.requires.over.over.bounded broken some in
    let wrong : true ≡ false = sym free ∙ c.if-not-is_free_run.true in absurd (cc)

pub returns-clause-put : goal.returns-clause-put
returns-clause-put g c = λ tells.
    let volume = c.args.opened.now.volume in
    let image : List ℕ = bytes_of Image (g.B.Bench.held c.args.bench.now) in
    let found = found_of volume image _ c.check_recognition.new.findings c.none-findings.ensures (c.in_ok-check_recognition.ensures.found tells) in
    let broken = broken_where (recognition_of volume image) (block_of volume.size image volume.pd) c.check_recognition.new.findings found
    (sym c.if-is_empty.false ∙ c.is_empty.ensures) in
    sequence_of volume image c.get.result.now.second c.args.wanted.now c.put_sequence.new.wanted broken
    (digit_is (recognition_of volume image) (block_of volume.size image volume.pd) c.check_recognition.new.findings found broken c.get.result.now c.get.ensures)
    c.in_ok-put_sequence.ensures.put
