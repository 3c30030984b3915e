use Rattle.std.proofs.Common.{◌≡◌, ◌+◌, ℕ, List, [], arith, sym, ap, ◌∙◌}
use Rattle.udf_model.specs.Tag.{retagged}
use Rattle.udf_outside.specs.Sectors.{disk_of}
use Rattle.udf_space_mends.specs.IntegrityMend.{origin_of}
use Rattle.udf_space_plan.specs.Counts.{corrected_counts, fresh_counts}
use Rattle.udf_space_plan.specs.Descriptor.{counted, made_by}
use Rattle.udf_space_plan.proofs.FreeRuns.{run_free}
use Rattle.udf_space_plan.proofs.Integrities.{corrected_is, corrected_put, fresh_is, fresh_put, right_none, use_fits}
use Rattle.udf_file_rules.proofs.Judging.{formed_same}
use Rattle.udf_wanted.specs.Writable.{is_free}
use Rattle.udf_space_plan.proofs.integrity.put_prevailing.Goals as goal

pub returns-then-is_stated-clause-put : goal.returns-then-is_stated-clause-put
returns-then-is_stated-clause-put g c = λ tells f v bitmap image is free there run whole.
    right_none f v bitmap c.args.right.now is (origin_of (v.disk c.args.volume.now.pvd) (v.disk c.args.volume.now.lvd)) c.args.block.now c.integrity_in-stated.result
    c.integrity_in-stated.ensures c.args.sector there c.args.wanted.now [] (sym c.is_stated.ensures ∙ c.if-is_stated.true)

pub put_fresh-requires-clause-free : goal.put_fresh-requires-clause-free
put_fresh-requires-clause-free g c =
    let v = c.args.volume.now in
    let zero : c.args.sector ≡ c.args.sector + 0 = omega arith in
    ap (is_free v) zero ∙ run_free v c.args.sector 1 (sym c.is_free_run.ensures ∙ c.if-not-is_free_run.false) 0 (omega arith)

pub returns-then-not-is_formed-clause-put : goal.returns-then-not-is_formed-clause-put
returns-then-not-is_formed-clause-put g c = λ tells f v bitmap image is free there run whole.
    let volume = c.args.volume.now in
    let r = c.args.right.now in
    let i = c.integrity_in-stated.result in
    let disk : ℕ → List ℕ = disk_of volume.size (g.B.Bench.held c.args.bench.now) in
    fresh_put f v bitmap r is (origin_of (v.disk volume.pvd) (v.disk volume.lvd)) c.args.block.now i c.integrity_in-stated.ensures
    c.args.sector there c.args.wanted.now c.put_fresh.new.wanted (sym c.is_stated.ensures ∙ c.if-is_stated.false)
    (sym (formed_same f v bitmap r is c.args.block.now i c.integrity_in-stated.ensures) ∙ sym c.is_formed.ensures ∙ c.if-not-is_formed.true)
    c.put_fresh.new.block
    (c.in_ok-put_fresh.ensures.made tells
    ∙ ap (λ k. made_by volume.size k (origin_of (disk volume.pvd) (disk volume.lvd)) c.args.sector) (c.counts_of-counts.ensures is.tally.room)
    ∙ ap (λ n. made_by n (fresh_counts r c.args.free) (origin_of (disk volume.pvd) (disk volume.lvd)) c.args.sector) (sym image.size)
    ∙ ap (λ (d : ℕ → List ℕ). made_by v.size (fresh_counts r c.args.free) (origin_of (d volume.pvd) (d volume.lvd)) c.args.sector) (sym image.disk)
    ∙ fresh_is f v bitmap r is (origin_of (v.disk volume.pvd) (v.disk volume.lvd)) c.args.free c.args.sector free)
    c.in_ok-put_fresh.ensures.put

pub returns-then-stated-volume-clause-put : goal.returns-then-stated-volume-clause-put
returns-then-stated-volume-clause-put g c = λ tells f v bitmap image is free there run whole.
    let r = c.args.right.now in
    let i = c.integrity_in-stated.result in
    let formed = sym (formed_same f v bitmap r is c.args.block.now i c.integrity_in-stated.ensures) ∙ sym c.is_formed.ensures ∙ c.if-not-is_formed.false in
    absurd (omega (
      arith,
      image.size,
      c.if-stated-volume.true,
      use_fits f v bitmap r is (origin_of (v.disk c.args.volume.now.pvd) (v.disk c.args.volume.now.lvd)) c.args.block.now i c.integrity_in-stated.ensures v.size c.args.sector there formed whole,
    ))

pub put_corrected-requires-clause-free : goal.put_corrected-requires-clause-free
put_corrected-requires-clause-free g c =
    let v = c.args.volume.now in
    let zero : c.args.sector ≡ c.args.sector + 0 = omega arith in
    ap (is_free v) zero ∙ run_free v c.args.sector 1 (sym c.is_free_run.ensures ∙ c.if-not-is_free_run.false) 0 (omega arith)

pub returns-clause-put : goal.returns-clause-put
returns-clause-put g c = λ tells f v bitmap image is free there run whole.
    let volume = c.args.volume.now in
    let r = c.args.right.now in
    let i = c.integrity_in-stated.result in
    let formed = sym (formed_same f v bitmap r is c.args.block.now i c.integrity_in-stated.ensures) ∙ sym c.is_formed.ensures ∙ c.if-not-is_formed.false in
    corrected_put f v bitmap r is (origin_of (v.disk volume.pvd) (v.disk volume.lvd)) c.args.block.now i c.integrity_in-stated.ensures
    c.args.sector there c.args.wanted.now c.put_corrected.new.wanted (sym c.is_stated.ensures ∙ c.if-is_stated.false) formed
    (retagged c.args.sector (72 + i.use_length) (counted (corrected_counts r i) c.args.block.now))
    (corrected_is f v bitmap r is (origin_of (v.disk volume.pvd) (v.disk volume.lvd)) c.args.block.now i c.integrity_in-stated.ensures c.args.sector there formed)
    (c.in_ok-put_corrected.ensures.put is.tally.room)
