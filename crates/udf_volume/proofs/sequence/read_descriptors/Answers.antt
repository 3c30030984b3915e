use Rattle.std.proofs.Common.{rules, ◌≡◌, ◌+◌, ◌∙◌, ℕ, List, sym, ap, subst}
use Rattle.udf_model.specs.Image.{block_of}
use Rattle.udf_outside.specs.Stops.{Held, bytes_of}
use Rattle.udf_outside.specs.declared.bench.Role.TheVariants.{Image}
use Rattle.udf_volume_model.specs.Sequence.{Descriptor}
use Rattle.udf_volume.proofs.Gather.{SoFar, goes_on}
use Rattle.udf_volume.proofs.sequence.read_descriptors.Goals as goal

pub loop-i-preserved : goal.loop-i-preserved
loop-i-preserved g c = record {
  files = c.in_ok-read_block.ensures.reads.files ∙ c.loop-i.invariant.files;
  held = c.in_ok-read_block.ensures.reads.held ∙ c.loop-i.invariant.held;
  calm = c.in_ok-read_block.ensures.reads.calm ∙ c.loop-i.invariant.calm;
  short = search rules;
  so_far = λ tells.
      let disk : Held → ℕ → List ℕ = λ held. block_of c.args.size (bytes_of Image held) in
      let is : c.read_block.new.into ≡ disk (g.B.Bench.held c.args.bench.now) (c.args.start + c.loop-i.i) =
      c.in_ok-read_block.ensures.block tells ∙ ap (λ held. disk held (c.args.start + c.loop-i.i)) c.loop-i.invariant.held in
      let P : List Descriptor → Type 0 = λ l. SoFar (disk (g.B.Bench.held c.args.bench.now)) c.args.start c.args.count (c.loop-i.i + 1) l in
      subst P (sym c.in_ok-push-in-Listed.ensures.items)
      (goes_on _ _ _ _ c.loop-i.i _ _ _ _ c.loop-i-test.true (c.loop-i.invariant.so_far tells) is c.in_ok-read_view.ensures c.in-Listed.is);
}
