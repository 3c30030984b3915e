use Rattle.std.proofs.Common.{arith, ◌∙◌, ap, length}
use Rattle.udf_model.specs.Tag.{location}
use Rattle.udf_outside.specs.Stops.{bytes_of}
use Rattle.udf_outside.specs.declared.bench.Role.TheVariants.{Image}
use Rattle.udf_file_model.specs.Entry.{entry_of}
use Rattle.udf_file_model.specs.Listing.{volume_of}
use Rattle.udf_entry.proofs.Told.{size_bounds}
use Rattle.udf_entry.proofs.RunBytes.{embedded_is}
use Rattle.udf_entry.proofs.content.content_of.Goals as goal

pub u32_at-requires : goal.u32_at-requires
u32_at-requires g c = omega (arith, (size_bounds (length c.args.block.now) c.requires.size).0, ap length c.over.ensures)

pub overflow_cast-block : goal.overflow_cast-block
overflow_cast-block g c = omega (arith, (size_bounds (length c.args.block.now) c.requires.size).1)

pub read_runs-requires-clause-some : goal.read_runs-requires-clause-some
read_runs-requires-clause-some g c = omega (arith, (size_bounds (length c.args.block.now) c.requires.size).0)

pub returns-then-kind-eq-EMBEDDED-clause-content : goal.returns-then-kind-eq-EMBEDDED-clause-content
returns-then-kind-eq-EMBEDDED-clause-content g c tells =
    embedded_is (volume_of (length c.args.block.now) (bytes_of Image (g.B.Bench.held c.args.bench.now)) (g.P.Parts.place c.args.parts.now)) c.args.list.now.runs c.args.limit
    (entry_of (location c.args.block.now) c.args.block.now) c.in-Some.entry c.kind.result c.info_length.result c.min-end.result c.min-many.result c.body-body.result.now c.in_ok-from_slice.field-0.items
    (c.in-Some.ensures ∙ ap (λ n. entry_of n c.args.block.now) (c.u32_at.ensures ∙ ap location c.over.ensures)) c.kind.ensures c.if-kind-eq-EMBEDDED.true c.info_length.ensures c.min-end.ensures c.body-body.ensures.body c.min-many.ensures
    c.in_ok-from_slice.ensures.items
