use Rattle.std.proofs.Common.{◌≡◌, ◌++◌, ◌+◌, ◌*◌, List, ℕ, ◌∙◌, ap, subst}
use Rattle.sha2.specs.Hashers.{Holds256}
use Rattle.udf_model.specs.Image.{block_of}
use Rattle.udf_outside.specs.Stops.{Held, bytes_of, slice_of}
use Rattle.udf_outside.specs.declared.bench.Role.TheVariants.{Image}
use Rattle.udf_redo.proofs.Sealing.{sealed_more}
use Rattle.udf_redo.proofs.seal.digest_of.Goals as goal

pub loop-i-preserved : goal.loop-i-preserved
loop-i-preserved g c = record {
  files = c.read_block.ensures.reads.files ∙ c.loop-i.invariant.files;
  held = c.read_block.ensures.reads.held ∙ c.loop-i.invariant.held;
  faults = c.in_ok-read_block.ensures.reads.calm ∙ c.loop-i.invariant.faults;
  holds = λ tells.
      let image = bytes_of Image (g.B.Bench.held c.args.bench.now) in
      let so_far = slice_of image (c.args.first * c.args.size) (c.loop-i.i * c.args.size) in
      let read : c.read_block.new.into ≡ block_of c.args.size image (c.args.first + c.loop-i.i) =
      c.in_ok-read_block.ensures.block tells ∙ ap (λ (h : Held). block_of c.args.size (bytes_of Image h) (c.args.first + c.loop-i.i)) c.loop-i.invariant.held in
      subst (λ (m : List ℕ). Holds256 c.update.new.self m) (ap (λ (b : List ℕ). so_far ++ b) read ∙ sealed_more image c.args.size c.args.first c.loop-i.i)
      (c.update.ensures so_far (c.loop-i.invariant.holds tells));
}
