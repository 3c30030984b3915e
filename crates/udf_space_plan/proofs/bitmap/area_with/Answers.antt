use Rattle.std.proofs.Common.{ap, arith}
use Rattle.udf_free.proofs.Reading.{holds_bits, lies_within}
use Rattle.udf_space.specs.Bits.{bytes_for}
use Rattle.udf_space_plan.proofs.Bitmaps.{inside_whole}
use Rattle.udf_space_plan.proofs.bitmap.area_with.Goals as goal

pub read_area-requires-clause-inside : goal.read_area-requires-clause-inside
read_area-requires-clause-inside g c = λ a s place.
    inside_whole c.args.volume.now (g.B.Bench.files c.args.bench.now) c.requires.over s (c.requires.free a s place)

pub read_area-requires-clause-within : goal.read_area-requires-clause-within
read_area-requires-clause-within g c =
    lies_within c.args.volume.now.size c.args.volume.now.length c.args.extent.length c.args.extent.block c.requires.extent

pub encode-requires : goal.encode-requires
encode-requires g c =
    omega (
      arith,
      holds_bits c.args.volume.now.size c.args.volume.now.length c.args.extent.length c.args.extent.block c.requires.extent,
      ap bytes_for c.requires.bits,
      c.in_ok-area.ensures.long,
    )
