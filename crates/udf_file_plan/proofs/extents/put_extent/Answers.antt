use Rattle.std.proofs.Common.{◌∙◌, sym, ap, refl, Some}
use Rattle.udf_file_model.specs.Cut.{onward}
use Rattle.udf_file_mends.specs.Mends.{mended_extent}
use Rattle.udf_file_plan.specs.Base.{listed}
use Rattle.udf_file_plan.proofs.Differing.{look_none}
use Rattle.udf_file_plan.proofs.Extended.{no_extent}
use Rattle.udf_file_plan.proofs.Placed.{inside, onward_nowhere, onward_none, descriptors_there}
use Rattle.udf_file_plan.proofs.Puts.{puts_nowhere, puts_there}
use Rattle.udf_file_plan.proofs.extents.put_extent.Goals as goal

pub returns-in_default-clause-put : goal.returns-in_default-clause-put
returns-in_default-clause-put g c tells =
    puts_nowhere (listed c.args.volume.now (g.B.Bench.held c.args.bench.now) (g.P.Parts.place c.args.parts.now)) c.args.wanted.now c.args.further.at _
    (sym c.locate.ensures ∙ c.in_default.is)

pub returns-in_default-clause-onward : goal.returns-in_default-clause-onward
returns-in_default-clause-onward g c tells =
    onward_nowhere (listed c.args.volume.now (g.B.Bench.held c.args.bench.now) (g.P.Parts.place c.args.parts.now)) c.args.kind c.args.further.at c.args.further.left
    (sym c.locate.ensures ∙ c.in_default.is)

pub read_block-requires-clause-within : goal.read_block-requires-clause-within
read_block-requires-clause-within g c =
    inside c.args.volume.now (g.P.Parts.place c.args.parts.now) (g.B.Bench.files c.args.bench.now) c.requires.over c.args.further.at c.in-Some.sector (sym c.in-Some.ensures)

pub returns-in_default-extent_in-clause-put : goal.returns-in_default-extent_in-clause-put
returns-in_default-extent_in-clause-put g c tells =
    puts_there (listed c.args.volume.now (g.B.Bench.held c.args.bench.now) (g.P.Parts.place c.args.parts.now)) c.args.wanted.now c.args.wanted.now c.args.further.at c.in-Some.sector
    c.read_block.new.into (λ b. mended_extent c.args.kind c.args.further.at b (Some c.args.further.left)) (sym c.in-Some.ensures) (c.in_ok-read_block.ensures.block tells)
    (look_none c.args.wanted.now _ (no_extent c.args.kind c.args.further.left c.in-Some.sector c.args.further.at c.read_block.new.into (sym c.in_default-extent_in.ensures.body)))

pub returns-in_default-extent_in-clause-onward : goal.returns-in_default-extent_in-clause-onward
returns-in_default-extent_in-clause-onward g c tells =
    onward_none (listed c.args.volume.now (g.B.Bench.held c.args.bench.now) (g.P.Parts.place c.args.parts.now)) c.args.kind c.args.further.at c.args.further.left c.in-Some.sector
    c.read_block.new.into (sym c.in-Some.ensures) (c.in_ok-read_block.ensures.block tells) (sym c.in_default-extent_in.ensures.body)

pub returns-clause-put : goal.returns-clause-put
returns-clause-put g c tells =
    puts_there (listed c.args.volume.now (g.B.Bench.held c.args.bench.now) (g.P.Parts.place c.args.parts.now)) c.args.wanted.now c.put_body.new.wanted c.args.further.at c.in-Some.sector
    c.read_block.new.into (λ b. mended_extent c.args.kind c.args.further.at b (Some c.args.further.left)) (sym c.in-Some.ensures) (c.in_ok-read_block.ensures.block tells)
    (c.in_ok-put_body.ensures.put c.args.kind c.args.further.left c.args.further.at refl (sym c.in-Some-extent_in.ensures.body) (c.deref.ensures.value ∙ c.in_ok-left.ensures.body))

pub returns-clause-onward : goal.returns-clause-onward
returns-clause-onward g c tells =
    c.further_at-next.ensures ∙ ap (onward c.args.further.left) (sym
    (descriptors_there (listed c.args.volume.now (g.B.Bench.held c.args.bench.now) (g.P.Parts.place c.args.parts.now)) c.args.kind c.args.further.at c.in-Some.sector
    c.read_block.new.into (Some c.in-Some-extent_in.body.now) (sym c.in-Some.ensures) (c.in_ok-read_block.ensures.block tells) (sym c.in-Some-extent_in.ensures.body)))
