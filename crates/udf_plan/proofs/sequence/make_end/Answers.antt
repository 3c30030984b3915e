use Rattle.std.proofs.Common.{◌≡◌, ℕ, List, length, rules, sym, ap, ◌∙◌}
use Rattle.udf_model.specs.Image.{block_of}
use Rattle.udf_model.specs.Tag.{whole_id, is_id, relocated}
use Rattle.udf_outside.specs.Stops.{bytes_of}
use Rattle.udf_outside.specs.declared.bench.Role.TheVariants.{Image}
use Rattle.udf_volume_model.specs.Mended.{terminator}
use Rattle.udf_plan.proofs.Terminators.{moved_end, new_end}
use Rattle.udf_plan.proofs.sequence.make_end.Goals as goal

pub returns-then-is_terminator-clause-made : goal.returns-then-is_terminator-clause-made
returns-then-is_terminator-clause-made g c = λ tells.
    let size = c.args.volume.now.size in
    let disk : ℕ → List ℕ = block_of size (bytes_of Image (g.B.Bench.held c.args.bench.now)) in
    let source : c.read_block.new.into ≡ disk c.args.source = c.in_ok-read_block.ensures.block tells in
    moved_end size c.args.target (disk c.args.source) (disk c.args.volume.now.lvd) c.relocate.new.area
    (ap (λ b. is_id 8 (whole_id b)) (sym source) ∙ sym c.if-is_terminator.ensures)
    (c.relocate.ensures.value ∙ ap (relocated c.args.target) source)

pub returns-clause-made : goal.returns-clause-made
returns-clause-made g c = λ tells.
    let size = c.args.volume.now.size in
    let disk : ℕ → List ℕ = block_of size (bytes_of Image (g.B.Bench.held c.args.bench.now)) in
    let source : c.read_block.new.into ≡ disk c.args.source = c.in_ok-read_block.ensures.block tells in
    let long : length c.read_block-2.new.into ≡ size = search rules in
    let logical : c.read_block-2.new.into ≡ disk c.args.volume.now.lvd =
    c.in_ok-read_block-2.ensures.block tells ∙ ap (λ h. block_of size (bytes_of Image h) c.args.volume.now.lvd) c.in_ok-read_block.ensures.reads.held in
    new_end size c.args.target (disk c.args.source) (disk c.args.volume.now.lvd) c.write_terminator.new.block
    (ap (λ b. is_id 8 (whole_id b)) (sym source) ∙ sym c.if-is_terminator.ensures)
    (c.write_terminator.ensures ∙ ap (λ n. terminator n c.args.target c.read_block-2.new.into) long ∙ ap (terminator size c.args.target) logical)
