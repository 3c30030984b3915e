use Rattle.std.proofs.Common.{◌-◌, arith, ap}
use Rattle.udf_outside.specs.Files.{Files}
use Rattle.udf_integrity.proofs.Extent.{inside, within}
use Rattle.udf_integrity.proofs.sequence.prevailing_descriptor.Goals as goal

pub overflow_add-sector : goal.overflow_add-sector
overflow_add-sector g c =
    let few = c.requires.over.bounded.few in
    let front = c.in_ok-front.ensures.few in
    let there = inside c.args.volume.now (c.in_ok-front.front - 1) c.requires.laid c.requires.over.large (omega (arith, front)) in
    omega (arith, few, there)

pub read_block-requires-clause-within : goal.read_block-requires-clause-within
read_block-requires-clause-within g c =
    let front = c.in_ok-front.ensures.few in
    let there = inside c.args.volume.now (c.in_ok-front.front - 1) c.requires.laid c.requires.over.large (omega (arith, front)) in
    let same = ap (λ (f : Files). f.image.size) c.in_ok-front.ensures.reads.files in
    let room = within c.args.volume.now _ _ there c.requires.over.within in
    omega (arith, room, same)

pub returns-clause-inside : goal.returns-clause-inside
returns-clause-inside g c =
    let front = c.in_ok-front.ensures.few in
    inside c.args.volume.now (c.in_ok-front.front - 1) c.requires.laid c.requires.over.large (omega (arith, front))
