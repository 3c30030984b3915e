use Rattle.std.proofs.Common.{Option, sym, ap, ◌∙◌}
use Rattle.std.specs.Prelude.{option_map}
use Rattle.udf_layer.specs.declared.missing.ProfileItem.{ProfileItem}
use Rattle.udf_layer.specs.declared.missing.Missing.TheVariants as missing
use Rattle.udf_outside.specs.Stops.{bytes_of}
use Rattle.udf_outside.specs.declared.bench.Role.TheVariants.{Image}
use Rattle.udf_file_model.specs.Listing.{Volume, volume_of}
use Rattle.udf_found.specs.Seen.{spots}
use Rattle.udf_found.proofs.Seeing.{refusal_is}
use Rattle.udf_found.proofs.find.find_entries.Goals as goal

pub returns-in-Some-clause-refusal : goal.returns-in-Some-clause-refusal
returns-in-Some-clause-refusal g c tells f s set =
    let v : Volume = volume_of c.args.size (bytes_of Image (g.B.Bench.held c.args.bench.now)) (g.P.Parts.place c.args.parts.now) in
    refusal_is f v (spots c.in_ok-arena.arena) (c.in_ok-arena.ensures.found tells f s) c.in_ok-arena.seen (c.in_ok-arena.ensures.seen tells f s set)
    ∙ ap (λ (o : Option ProfileItem). option_map (λ i. missing.Profile i) o) (sym c.item.ensures.first ∙ c.in-Some.is)

pub returns-in-None-clause-refusal : goal.returns-in-None-clause-refusal
returns-in-None-clause-refusal g c tells f s set =
    let v : Volume = volume_of c.args.size (bytes_of Image (g.B.Bench.held c.args.bench.now)) (g.P.Parts.place c.args.parts.now) in
    refusal_is f v (spots c.in_ok-arena.arena) (c.in_ok-arena.ensures.found tells f s) c.in_ok-arena.seen (c.in_ok-arena.ensures.seen tells f s set)
    ∙ ap (λ (o : Option ProfileItem). option_map (λ i. missing.Profile i) o) (sym c.item.ensures.first ∙ c.in-None.is)
