use Rattle.std.proofs.Common.{◌≡◌, take, not, filter}
use Rattle.udf_outside.specs.Stops.{bytes_of}
use Rattle.udf_outside.specs.declared.bench.Role.TheVariants.{Image}
use Rattle.udf_model.specs.Image.{block_of}
use Rattle.udf_volume_model.specs.Rules.{is_good}
use Rattle.udf_volume.specs.Areas.{anchor_stated}
use Rattle.udf_volume.specs.Verdicts.{IsPart}
use Rattle.udf_volume.proofs.good_anchors.bad_places.Given as goal

abbrev pub invariant-loop-place : goal.invariant-loop-place
invariant-loop-place g l = record {
  files : g.B.Bench.files l.bench ≡ g.B.Bench.files l.initial.bench;
  held : g.B.Bench.held l.bench ≡ g.B.Bench.held l.initial.bench;
  calm : g.B.Bench.faults l.bench ≡ g.B.Bench.faults l.initial.bench;
  part : IsPart l.bad.items (take l.place-index l.places);
  bad : g.B.Bench.tells → l.bad.items ≡ filter
      (λ place. not (is_good (anchor_stated l.volume) place (block_of l.volume.size (bytes_of Image (g.B.Bench.held l.initial.bench)) place)))
      (take l.place-index l.places);
}
