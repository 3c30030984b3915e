use Rattle.std.proofs.Common.{◌≡◌, ◌++◌, length}
use Rattle.udf_space_plan.specs.Sequence.{slot_front}
use Rattle.udf_wanted.specs.Wanted.{LookAlike}
use Rattle.udf_wanted.specs.Writable.{AreWritable}
use Rattle.udf_space_plan.proofs.slots.put_slot.Given as goal

abbrev pub invariant-loop-index : goal.invariant-loop-index
invariant-loop-index l = record {
  room : length l.block ≡ l.volume.size;
  writable : AreWritable l.volume l.wanted;
  put : LookAlike l.wanted (l.initial.wanted ++ slot_front l.volume.size l.first l.name l.index);
}
