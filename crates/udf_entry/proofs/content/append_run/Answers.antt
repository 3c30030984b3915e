use Rattle.std.proofs.Common.{◌+◌, arith}
use Rattle.udf_outside.specs.Stops.{bytes_of}
use Rattle.udf_outside.specs.declared.bench.Role.TheVariants.{Image}
use Rattle.udf_file_model.specs.Listing.{volume_of}
use Rattle.udf_entry.specs.RunView.{run_seen}
use Rattle.udf_entry.proofs.Passing.{apart_test}
use Rattle.udf_entry.proofs.Appending.{recorded_on, resized, run_zeros}
use Rattle.udf_entry.proofs.content.append_run.Goals as goal

pub returns-then-run-eq-RECORDED-clause-bytes : goal.returns-then-run-eq-RECORDED-clause-bytes
returns-then-run-eq-RECORDED-clause-bytes g c tells =
    recorded_on (volume_of c.args.size (bytes_of Image (g.B.Bench.held c.args.bench.now)) (g.P.Parts.place c.args.parts.now)) (run_seen c.args.run.now) c.args.want
    c.min-many.result c.blocks_of.result c.args.content.now.items c.append_blocks.new.content.items c.append_blocks.result c.if-run-eq-RECORDED.true c.min-many.ensures
    c.blocks_of.ensures (c.append_blocks.ensures.bytes tells)

pub returns-in_ok-resize-clause-bytes : goal.returns-in_ok-resize-clause-bytes
returns-in_ok-resize-clause-bytes g c tells =
    run_zeros (volume_of c.args.size (bytes_of Image (g.B.Bench.held c.args.bench.now)) (g.P.Parts.place c.args.parts.now)) (run_seen c.args.run.now) c.args.want
    c.min-many.result c.args.content.now.items c.resize.new.self.items (apart_test c.args.run.now.kind 0 c.if-run-eq-RECORDED.false) c.min-many.ensures
    (resized c.args.content.now.len (c.len.result + c.min-many.result) c.min-many.result c.args.content.now.items c.resize.new.self.items (omega arith) (omega (arith, c.len.ensures)) c.in_ok-resize.ensures.items)
