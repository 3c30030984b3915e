use Rattle.std.proofs.Common.{◌∙◌, ◌&&◌, arith, ap, sym}
use Rattle.udf_outside.specs.Sectors.{disk_of}
use Rattle.udf_rules_model.specs.Recognition.{identifier_at, is_among, known}
use Rattle.udf_rules.specs.Slots.{recognition_by}
use Rattle.udf_rules.proofs.Recognising.{all_read, named_there, one_more, stops_there, unknown_there}
use Rattle.udf_rules.proofs.slots.read_structures.Goals as goal

pub returns-then-not-is_clear-clause-read : goal.returns-then-not-is_clear-clause-read
returns-then-not-is_clear-clause-read g c = λ tells.
    let disk = disk_of c.args.opened.now.volume.size (g.B.Bench.held c.args.bench.now) in
    let r = recognition_by c.args.opened.now disk in
    stops_there r c.loop-slot.slot c.loop-slot.structures.items c.loop-slot-test.true (c.loop-slot.invariant.first tells)
    (ap (λ b. b && is_among known (identifier_at r c.loop-slot.slot)) (sym (c.is_clear.ensures.clear disk) ∙ c.if-not-is_clear.true))

pub returns-in_default-clause-read : goal.returns-in_default-clause-read
returns-in_default-clause-read g c = λ tells.
    let size = c.args.opened.now.volume.size in
    let disk = disk_of size (g.B.Bench.held c.args.bench.now) in
    let r = recognition_by c.args.opened.now disk in
    let block = c.in_ok-read_block.ensures.block tells ∙ ap (λ h. disk_of size h c.first_sector.result) c.loop-slot.invariant.held ∙ ap disk c.first_sector.ensures.sector in
    stops_there r c.loop-slot.slot c.loop-slot.structures.items c.loop-slot-test.true (c.loop-slot.invariant.first tells)
    (unknown_there r c.loop-slot.slot (named_there r c.loop-slot.slot c.read_block.new.into _ block c.in_default.ensures))

pub loop-slot-preserved : goal.loop-slot-preserved
loop-slot-preserved g c = record {
  files = c.in_ok-read_block.ensures.reads.files ∙ c.loop-slot.invariant.files;
  held = c.in_ok-read_block.ensures.reads.held ∙ c.loop-slot.invariant.held;
  calm = c.in_ok-read_block.ensures.reads.calm ∙ c.loop-slot.invariant.calm;
  first = λ tells.
      let size = c.args.opened.now.volume.size in
      let disk = disk_of size (g.B.Bench.held c.args.bench.now) in
      let r = recognition_by c.args.opened.now disk in
      let block = c.in_ok-read_block.ensures.block tells ∙ ap (λ h. disk_of size h c.first_sector.result) c.loop-slot.invariant.held ∙ ap disk c.first_sector.ensures.sector in
      one_more r c.loop-slot.slot c.loop-slot.structures.items _ c.in-Some.structure (c.loop-slot.invariant.first tells)
      (sym (c.is_clear.ensures.clear disk) ∙ c.if-not-is_clear.false)
      (named_there r c.loop-slot.slot c.read_block.new.into _ block c.in-Some.ensures) c.in_ok-push.ensures.items;
}

pub returns-clause-read : goal.returns-clause-read
returns-clause-read g c = λ tells.
    all_read (recognition_by c.args.opened.now (disk_of c.args.opened.now.volume.size (g.B.Bench.held c.args.bench.now)))
    c.loop-slot.slot c.loop-slot.structures.items (omega arith) (c.loop-slot.invariant.first tells)
