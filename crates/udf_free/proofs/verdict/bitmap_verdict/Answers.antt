use Rattle.std.proofs.Common.{arith, ap, ◌∙◌, List, Bool}
use Rattle.udf_outside.specs.Stops.{bytes_of}
use Rattle.udf_outside.specs.declared.bench.Role.TheVariants.{Image}
use Rattle.udf_file_model.specs.Listing.{volume_of}
use Rattle.udf_free.specs.Free.{free_bits}
use Rattle.udf_free.specs.Verdict.{verdict_on}
use Rattle.udf_free.proofs.Judging.{judged}
use Rattle.udf_free.proofs.Reading.{holds_bits, lies_within}
use Rattle.udf_free.proofs.verdict.bitmap_verdict.Goals as goal

pub read_area-requires-clause-within : goal.read_area-requires-clause-within
read_area-requires-clause-within g c = lies_within c.args.size c.args.blocks c.args.extent.length c.args.extent.block c.requires.extent

pub judge_area-requires-clause-room : goal.judge_area-requires-clause-room
judge_area-requires-clause-room g c =
    omega (
      arith,
      holds_bits c.args.size c.args.blocks c.args.extent.length c.args.extent.block c.requires.extent,
      c.deref.ensures.len,
      c.in_ok-area.ensures.long,
    )

pub returns-clause-verdict : goal.returns-clause-verdict
returns-clause-verdict g c = λ tells f free.
    let v = volume_of c.args.size (bytes_of Image (g.B.Bench.held c.args.bench.now)) (g.P.Parts.place c.args.parts.now) in
    c.in_ok-verdict.ensures
    ∙ ap (λ (bits : List Bool). verdict_on c.args.blocks c.args.extent bits c.deref.result.now) free
    ∙ ap (verdict_on c.args.blocks c.args.extent (free_bits f v c.args.blocks)) (c.deref.ensures.value ∙ c.in_ok-area.ensures.bytes tells)
    ∙ judged f v c.args.blocks c.args.extent
