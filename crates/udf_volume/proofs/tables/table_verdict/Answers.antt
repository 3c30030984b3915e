use Rattle.udf_volume.proofs.Packets.{has_map}
use Rattle.udf_volume.proofs.Deviating.{all_have}
use Rattle.udf_volume.proofs.tables.table_verdict.Goals as goal

pub table_verdict-requires-clause-map : goal.table_verdict-requires-clause-map
table_verdict-requires-clause-map g c =
    has_map c.args.volume.now c.in-Some.map c.in-Some.is (g.B.Bench.files c.args.bench.now) c.requires.over c.requires.laid

pub returns-in-Some-clause-tables : goal.returns-in-Some-clause-tables
returns-in-Some-clause-tables g c =
    all_have c.args.volume.now c.in-Some.map c.in-Some.is (g.B.Bench.files c.args.bench.now) c.requires.over
    (has_map c.args.volume.now c.in-Some.map c.in-Some.is (g.B.Bench.files c.args.bench.now) c.requires.over c.requires.laid)
    c.table_verdict.result c.table_verdict.ensures.table c.table_verdict.ensures.listed
