use Rattle.std.proofs.Common.{sym, ◌∙◌}
use Rattle.udf_outside.specs.Stops.{bytes_of}
use Rattle.udf_outside.specs.declared.bench.Role.TheVariants.{Image}
use Rattle.udf_file_model.specs.Listing.{Volume, volume_of}
use Rattle.udf_held.proofs.Holdings.{told_whole, whole_kept}
use Rattle.udf_held.proofs.holding.kept_told.Goals as goal

pub returns-clause-told : goal.returns-clause-told
returns-clause-told g c tells e there shape links low =
    let v : Volume = volume_of c.args.size (bytes_of Image (g.B.Bench.held c.args.bench.now)) (g.P.Parts.place c.args.parts.now) in
    told_whole v c.args.at e c.args.shape.now c.args.kept c.args.links.items shape links (whole_kept v c.args.at e c.args.shape.now c.args.kept shape (sym c.is_cut.ensures ∙ c.if-is_cut.false) low)
