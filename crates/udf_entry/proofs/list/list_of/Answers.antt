use Rattle.std.proofs.Common.{◌∙◌, sym, ap, arith, refl, length}
use Rattle.udf_outside.specs.Stops.{bytes_of}
use Rattle.udf_outside.specs.declared.bench.Role.TheVariants.{Image}
use Rattle.udf_entry.proofs.Told.{size_bounds, none_is, list_is}
use Rattle.udf_entry.proofs.list.list_of.Goals as goal

pub overflow_cast-rules : goal.overflow_cast-rules
overflow_cast-rules g c = omega (arith, (size_bounds (length c.args.block.now) c.requires.size).1)

pub new-requires : goal.new-requires
new-requires g c = omega (arith, (size_bounds (length c.args.block.now) c.requires.size).0)

pub read_list-requires-clause-small : goal.read_list-requires-clause-small
read_list-requires-clause-small g c = omega (arith, (size_bounds (length c.args.block.now) c.requires.size).1, ap (λ r. r.size) c.in_ok-start.ensures.rules)

pub returns-in_default-clause-list : goal.returns-in_default-clause-list
returns-in_default-clause-list g c tells =
    none_is (bytes_of Image (g.B.Bench.held c.args.bench.now)) (g.P.Parts.place c.args.parts.now) (length c.args.block.now) c.args.at c.args.block.now
    (sym c.in_default.is ∙ c.read_entry.ensures) c.none.result c.none.ensures

pub returns-clause-list : goal.returns-clause-list
returns-clause-list g c tells =
    list_is (bytes_of Image (g.B.Bench.held c.args.bench.now)) (g.P.Parts.place c.args.parts.now) (length c.args.block.now) c.args.at c.args.block.now
    c.in-Some.entry c.is_directory.result c.info_length.result c.kind-kind.result c.body-body.result.now c.in_ok-start.start c.in_ok-reading.reading c.in_ok-reading.good c.of.result
    _ c.in-Some.ensures c.is_directory.ensures c.info_length.ensures c.kind-kind.ensures c.body-body.ensures.body refl c.in_ok-start.ensures.rules c.in_ok-start.ensures.past
    (c.in_ok-reading.ensures.outcome tells) c.of.ensures.runs c.of.ensures.extents c.of.ensures.good_length c.of.ensures.good
