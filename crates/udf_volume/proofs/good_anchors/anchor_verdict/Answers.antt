use Rattle.std.proofs.Common.{◌≡◌, ◌∙◌, ℕ, List, length, filter, not, arith, sym, ap}
use Rattle.udf_model.specs.Image.{block_of}
use Rattle.udf_outside.specs.Stops.{bytes_of}
use Rattle.udf_outside.specs.declared.bench.Role.TheVariants.{Image}
use Rattle.udf_volume_model.specs.Rules.{is_good, suffice}
use Rattle.udf_volume.specs.Areas.{anchor_stated}
use Rattle.udf_volume.specs.Verdicts.{eligible_stated}
use Rattle.udf_volume.proofs.Parts.{shorter}
use Rattle.udf_volume.proofs.good_anchors.anchor_verdict.Goals as goal

pub are_enough-holds-requires : goal.are_enough-holds-requires
are_enough-holds-requires g c =
    omega (
      arith,
      shorter c.in_ok-bad.bad.items c.deref.result.now c.in_ok-bad.ensures.part,
      ap length c.deref.ensures.value,
      ap length c.deref-2.ensures.value,
      ap length c.deref-3.ensures.value,
    )

pub returns-clause-verdict : goal.returns-clause-verdict
returns-clause-verdict g c = λ tells.
    let v = c.args.volume.now in
    let image : List ℕ = bytes_of Image (g.B.Bench.held c.args.bench.now) in
    let disk : ℕ → List ℕ = block_of v.size image in
    let those : List ℕ → List ℕ = λ l. filter (λ place. not (is_good (anchor_stated v) place (disk place))) l in
    let places : c.in_ok-eligible.eligible.items ≡ eligible_stated v c.args.layout.now = c.in_ok-eligible.ensures.places in
    let read : c.in_ok-bad.bad.items ≡ those c.deref.result.now = c.in_ok-bad.ensures.bad tells in
    record {
      bad = read ∙ ap those (c.deref.ensures.value ∙ places);
      holds = c.are_enough-holds.ensures (anchor_stated v) disk (c.deref-3.ensures.value ∙ read ∙ ap those (c.deref.ensures.value ∙ sym c.deref-2.ensures.value))
          ∙ ap (suffice (anchor_stated v) disk) (c.deref-2.ensures.value ∙ places);
    }
