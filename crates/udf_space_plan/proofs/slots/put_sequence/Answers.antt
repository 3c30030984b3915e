use Rattle.std.proofs.Common.{arith}
use Rattle.udf_space_plan.proofs.SlotBlocks.{all_put, slot_free}
use Rattle.udf_space_plan.proofs.slots.put_sequence.Goals as goal

pub put_slot-requires-clause-free : goal.put_slot-requires-clause-free
put_slot-requires-clause-free c =
    slot_free c.args.volume.now 0 c.first_sector.result (omega arith) c.requires.free c.first_sector.ensures.sector

pub put_slot-requires-2-clause-free : goal.put_slot-requires-2-clause-free
put_slot-requires-2-clause-free c =
    slot_free c.args.volume.now 1 c.first_sector-2.result (omega arith) c.requires.free c.first_sector-2.ensures.sector

pub put_slot-requires-3-clause-free : goal.put_slot-requires-3-clause-free
put_slot-requires-3-clause-free c =
    slot_free c.args.volume.now 2 c.first_sector-3.result (omega arith) c.requires.free c.first_sector-3.ensures.sector

pub returns-clause-put : goal.returns-clause-put
returns-clause-put c =
    all_put c.args.volume.now.size c.args.digit c.first_sector.result c.first_sector-2.result c.first_sector-3.result
    c.as_slice.result.now c.volume_name.result.now c.as_slice-2.result.now
    c.args.wanted.now c.put_slot.new.wanted c.put_slot-2.new.wanted c.put_slot-3.new.wanted
    c.first_sector.ensures.sector c.first_sector-2.ensures.sector c.first_sector-3.ensures.sector
    c.as_slice.ensures c.volume_name.ensures c.as_slice-2.ensures
    c.in_ok-put_slot.ensures.put c.in_ok-put_slot-2.ensures.put c.in_ok-put_slot-3.ensures.put
