use Rattle.std.proofs.Common.{[], refl}
use Rattle.udf_outside.specs.Sectors.{disk_of}
use Rattle.udf_volume.proofs.Sited.{are_fixed, taken_by}
use Rattle.udf_volume.proofs.site.fixed_addresses.Goals as goal

pub returns-clause-fixed : goal.returns-clause-fixed
returns-clause-fixed g c tells =
    are_fixed c.args.volume.now (disk_of c.args.volume.now.size (g.B.Bench.held c.args.bench.now)) (g.P.Parts.place c.args.parts.now) (g.P.Parts.inner c.args.parts.now)
    c.args.extent c.bitmap_of.result c.end_block-end.result _ c.in_ok-ended.ended c.in_ok-fixed.fixed c.requires.extent c.bitmap_of.ensures refl c.in_ok-fixed.ensures.after
    c.in_ok-fixed.ensures.fixed c.end_block-end.ensures (c.in_ok-ended.ensures.stands tells)

pub returns-clause-taken : goal.returns-clause-taken
returns-clause-taken g c =
    taken_by c.args.volume.now (λ n. []) (g.P.Parts.place c.args.parts.now) (g.P.Parts.inner c.args.parts.now)
    c.args.extent c.bitmap_of.result c.end_block-end.result _ c.in_ok-ended.ended c.in_ok-fixed.fixed c.requires.extent c.bitmap_of.ensures refl c.in_ok-fixed.ensures.after
    c.in_ok-fixed.ensures.fixed c.end_block-end.ensures
