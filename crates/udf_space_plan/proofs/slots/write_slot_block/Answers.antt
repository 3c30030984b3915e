use Rattle.std.proofs.Common.{rules}
use Rattle.udf_space_plan.proofs.SlotBlocks.{first_written}
use Rattle.udf_space_plan.proofs.slots.write_slot_block.Goals as goal

pub returns-then-index-eq0 : goal.returns-then-index-eq0
returns-then-index-eq0 c =
    first_written _ c.args.index c.fill.new.self c.copy_from_slice.new.self c.args.name.now (search rules) (search rules) c.if-index-eq0.true c.requires.name c.requires.room
