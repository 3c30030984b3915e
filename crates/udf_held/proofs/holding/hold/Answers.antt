use Rattle.std.proofs.Common.{◌<◌, arith, subst}
use Rattle.udf_outside.specs.Stops.{bytes_of}
use Rattle.udf_outside.specs.declared.bench.Role.TheVariants.{Image}
use Rattle.udf_file_model.specs.Listing.{Volume, volume_of}
use Rattle.udf_entry.proofs.Told.{size_bounds}
use Rattle.udf_found.specs.Shape.{IsShaped}
use Rattle.udf_held.proofs.Holdings.{shaped_entry}
use Rattle.udf_held.proofs.holding.hold.Goals as goal

pub returns-in-Some-clause-held : goal.returns-in-Some-clause-held
returns-in-Some-clause-held g c tells f root shaped links standing =
    let v : Volume = volume_of c.args.size (bytes_of Image (g.B.Bench.held c.args.bench.now)) (g.P.Parts.place c.args.parts.now) in
    let low = (size_bounds c.args.size c.requires.size).0 in
    let some : 0 < c.args.size = omega (arith, low) in
    let x = subst (IsShaped f v c.args.node.at) c.in-Some.is shaped in
    c.hold_entry.ensures.held tells f x.1 root (shaped_entry f v c.args.node.at x.1 c.in-Some.shape c.args.node.links.items c.args.standing some x.2 x.0 x.3 links standing)
