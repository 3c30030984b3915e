use Rattle.std.proofs.Common.{◌≡◌, ◌∙◌, ◌&&◌, arith, below_more, not, ap, sym, true}
use Rattle.udf_outside.specs.Sectors.{disk_of}
use Rattle.udf_rules_model.specs.Recognition.{identifier_at, is_among, others}
use Rattle.udf_rules.specs.Slots.{recognition_by}
use Rattle.udf_rules.proofs.Recognising.{bound, is_needed, other_there, unbound}
use Rattle.udf_rules.proofs.slots.is_bound.Goals as goal

pub returns-then-not-is_clear-clause-bound : goal.returns-then-not-is_clear-clause-bound
returns-then-not-is_clear-clause-bound g c = λ tells.
    let disk = disk_of c.args.opened.now.volume.size (g.B.Bench.held c.args.bench.now) in
    let r = recognition_by c.args.opened.now disk in
    unbound r c.loop-slot.slot c.loop-slot-test.true
    (ap (λ b. b && not (is_among others (identifier_at r c.loop-slot.slot))) (sym (c.is_clear.ensures.clear disk) ∙ c.if-not-is_clear.true))

pub returns-then-holds_other-clause-bound : goal.returns-then-holds_other-clause-bound
returns-then-holds_other-clause-bound g c = λ tells.
    let size = c.args.opened.now.volume.size in
    let disk = disk_of size (g.B.Bench.held c.args.bench.now) in
    let r = recognition_by c.args.opened.now disk in
    let block = c.in_ok-read_block.ensures.block tells ∙ ap (λ h. disk_of size h c.first_sector.result) c.loop-slot.invariant.held ∙ ap disk c.first_sector.ensures.sector in
    unbound r c.loop-slot.slot c.loop-slot-test.true
    (other_there r c.loop-slot.slot c.read_block.new.into c.holds_other.result (sym (c.is_clear.ensures.clear disk) ∙ c.if-not-is_clear.false) block c.holds_other.ensures
    ∙ ap not c.if-holds_other.true)

pub loop-slot-preserved : goal.loop-slot-preserved
loop-slot-preserved g c = record {
  files = c.in_ok-read_block.ensures.reads.files ∙ c.loop-slot.invariant.files;
  held = c.in_ok-read_block.ensures.reads.held ∙ c.loop-slot.invariant.held;
  calm = c.in_ok-read_block.ensures.reads.calm ∙ c.loop-slot.invariant.calm;
  needed = λ tells.
      let size = c.args.opened.now.volume.size in
      let disk = disk_of size (g.B.Bench.held c.args.bench.now) in
      let r = recognition_by c.args.opened.now disk in
      let block = c.in_ok-read_block.ensures.block tells ∙ ap (λ h. disk_of size h c.first_sector.result) c.loop-slot.invariant.held ∙ ap disk c.first_sector.ensures.sector in
      below_more (λ k. is_needed r k ≡ true) c.loop-slot.slot (c.loop-slot.invariant.needed tells)
      (other_there r c.loop-slot.slot c.read_block.new.into c.holds_other.result (sym (c.is_clear.ensures.clear disk) ∙ c.if-not-is_clear.false) block c.holds_other.ensures
      ∙ ap not c.if-holds_other.false);
}

pub returns-clause-bound : goal.returns-clause-bound
returns-clause-bound g c = λ tells.
    bound (recognition_by c.args.opened.now (disk_of c.args.opened.now.volume.size (g.B.Bench.held c.args.bench.now)))
    (λ k h. c.loop-slot.invariant.needed tells k (omega arith))
