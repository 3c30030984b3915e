use Rattle.std.proofs.Common.{ℕ, sym, ◌∙◌, ap, List, None, Option}
use Rattle.std.specs.Prelude.{is_some, option_map}
use Rattle.udf_outside.specs.Stops.{bytes_of}
use Rattle.udf_outside.specs.declared.bench.Role.TheVariants.{Image}
use Rattle.udf_entry.specs.ReadingView.{past_of, rules_seen}
use Rattle.udf_file_model.specs.Listing.{volume_of}
use Rattle.udf_entry.proofs.Extents.{not_new, not_placed, not_whole, whole_extent, in_image}
use Rattle.udf_file_model.proofs.Standing.{new_means}
use Rattle.udf_entry.proofs.extent.read_extent.Goals as goal

pub returns-then-not-is_new-clause-outcome : goal.returns-then-not-is_new-clause-outcome
returns-then-not-is_new-clause-outcome g c tells k rest left =
    let place = g.P.Parts.place c.args.parts.now in
    not_new (rules_seen c.args.reading.rules place) (volume_of c.args.reading.rules.size (bytes_of Image (g.B.Bench.held c.args.bench.now)) place) (past_of c.args.reading) c.args.x rest
    (sym c.is_new.ensures ∙ c.if-not-is_new.true)

pub returns-in_default-clause-outcome : goal.returns-in_default-clause-outcome
returns-in_default-clause-outcome g c tells k rest left =
    let place = g.P.Parts.place c.args.parts.now in
    not_placed (rules_seen c.args.reading.rules place) (volume_of c.args.reading.rules.size (bytes_of Image (g.B.Bench.held c.args.bench.now)) place) (past_of c.args.reading) c.args.x rest
    (ap is_some (sym c.locate.ensures ∙ c.in_default.is))

pub read_block-requires-clause-within : goal.read_block-requires-clause-within
read_block-requires-clause-within g c =
    in_image (g.B.Bench.files c.args.bench.now).image.size c.args.reading.rules.size c.in-Some.sector (c.requires.placed c.args.x c.in-Some.sector (sym c.in-Some.ensures))

pub returns-in_default-extent_in-clause-outcome : goal.returns-in_default-extent_in-clause-outcome
returns-in_default-extent_in-clause-outcome g c tells k rest left =
    let place = g.P.Parts.place c.args.parts.now in
    let seen : Option (List ℕ) = None in
    not_whole (rules_seen c.args.reading.rules place) (volume_of c.args.reading.rules.size (bytes_of Image (g.B.Bench.held c.args.bench.now)) place) (past_of c.args.reading) c.args.x rest
    c.in-Some.sector c.read_block.new.into (sym c.in-Some.ensures) (c.in_ok-read_block.ensures.block tells)
    (sym (ap (option_map (λ body. body.now)) c.in_default-extent_in.is) ∙ c.extent_in.ensures.body)

pub with_extent-requires : goal.with_extent-requires
with_extent-requires g c =
    (new_means (rules_seen c.args.reading.rules (g.P.Parts.place c.args.parts.now)) (past_of c.args.reading) c.args.x (sym c.is_new.ensures ∙ c.if-not-is_new.false)).1

pub returns-clause-outcome : goal.returns-clause-outcome
returns-clause-outcome g c tells k rest left =
    let place = g.P.Parts.place c.args.parts.now in
    whole_extent (rules_seen c.args.reading.rules place) (volume_of c.args.reading.rules.size (bytes_of Image (g.B.Bench.held c.args.bench.now)) place) (past_of c.args.reading) c.args.x rest
    c.in-Some.sector c.read_block.new.into c.in-Some-extent_in.body.now c.args.kind (rules_seen c.in_ok-longer.longer.rules place) (past_of c.in_ok-longer.longer) (past_of c.in_ok-read.read.0) k c.in_ok-read.read.1
    (sym c.is_new.ensures ∙ c.if-not-is_new.false) (sym c.in-Some.ensures) (c.in_ok-read_block.ensures.block tells) c.in-Some-extent_in.ensures.body
    (ap (λ z. rules_seen z place) c.in_ok-longer.ensures.rules) c.in_ok-longer.ensures.past
    (left (c.in_ok-read.ensures.extents ∙ ap (λ p. p.extents) c.in_ok-longer.ensures.past))
    (c.in_ok-read.ensures.outcome k _)
