use Rattle.std.proofs.Common.{arith, ap}
use Rattle.udf_outside.specs.Files.{Files}
use Rattle.udf_integrity.proofs.Extent.{inside, within}
use Rattle.udf_integrity.proofs.sequence.front_length.Goals as goal

pub overflow_add-sector : goal.overflow_add-sector
overflow_add-sector g c =
    let few = c.requires.over.bounded.few in
    let count = c.blocks_of-count.ensures in
    let there = inside c.args.volume.now c.loop-i.i c.requires.laid c.requires.over.large (omega (arith, count)) in
    omega (arith, few, there)

pub read_block-requires-clause-within : goal.read_block-requires-clause-within
read_block-requires-clause-within g c =
    let count = c.blocks_of-count.ensures in
    let there = inside c.args.volume.now c.loop-i.i c.requires.laid c.requires.over.large (omega (arith, count)) in
    let same = ap (λ (f : Files). f.image.size) c.loop-i.invariant.files in
    let room = within c.args.volume.now _ _ there c.requires.over.within in
    omega (arith, room, same)
