use Rattle.std.proofs.Common.{◌∙◌, ◌++◌, ℕ, List, length, drop, ap}
use Rattle.udf_model.specs.Bytes.{written_at}
use Rattle.udf_outside.specs.Stops.{bytes_of}
use Rattle.udf_outside.specs.declared.bench.Role.TheVariants.{Image}
use Rattle.udf_space_plan.proofs.Spreading.{filled, laid}
use Rattle.udf_space_plan.proofs.extent.fill_block.Goals as goal

pub returns-then-bytes-block-clause-made : goal.returns-then-bytes-block-clause-made
returns-then-bytes-block-clause-made g c = λ tells.
    c.copy_from_slice.ensures.after
    ∙ filled c.args.size (bytes_of Image (g.B.Bench.held c.args.bench.now)) c.args.bytes.now c.args.sector (c.if-bytes-block.true ∙ c.requires.room)

pub returns-clause-made : goal.returns-clause-made
returns-clause-made g c = λ tells.
    ap (λ (front : List ℕ). front ++ drop (length c.args.bytes.now) c.read_block.new.into) c.copy_from_slice-2.ensures.after
    ∙ laid c.args.bytes.now c.read_block.new.into
    ∙ ap (written_at 0 c.args.bytes.now) (c.in_ok-read_block.ensures.block tells)
