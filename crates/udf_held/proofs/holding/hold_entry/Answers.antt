use Rattle.std.proofs.Common.{◌≡◌, ◌<◌, Some, refl, sym, ap, ◌∙◌, arith}
use Rattle.std.specs.Prelude.{◌-◌, min}
use Rattle.udf_outside.specs.Stops.{bytes_of}
use Rattle.udf_outside.specs.declared.bench.Role.TheVariants.{Image}
use Rattle.udf_file_model.specs.Listing.{Volume, volume_of}
use Rattle.udf_file_model.specs.Address.{same_addr}
use Rattle.udf_entry.proofs.Told.{size_bounds}
use Rattle.udf_held.specs.declared.held.Held.{Held}
use Rattle.udf_held.proofs.Holdings.{entry_held, kept_low}
use Rattle.udf_held.proofs.holding.hold_entry.Goals as goal

pub capacity-requires : goal.capacity-requires
capacity-requires g c = let low = (size_bounds c.args.size c.requires.size).0 in omega (arith, low)

pub returns-clause-held : goal.returns-clause-held
returns-clause-held g c tells f e root h =
    let v : Volume = volume_of c.args.size (bytes_of Image (g.B.Bench.held c.args.bench.now)) (g.P.Parts.place c.args.parts.now) in
    let low = (size_bounds c.args.size c.requires.size).0 in
    let some : 0 < c.args.size = omega (arith, low) in
    let told = c.in_ok-told.ensures.told tells e h.entry h.shape_is h.links (kept_low f v c.args.at e c.args.shape c.args.links.items c.args.standing h some) in
    let y : Held = record {
      at = c.args.at;
      level = c.args.level;
      is_start = c.eq.result;
      directory = c.args.shape.directory;
      sound = c.args.standing.sound;
      kept = c.args.standing.kept;
      whole = c.args.standing.whole;
      space = c.saturating_sub.result;
      links = c.in_ok-told.told.links;
      parents = c.in_ok-told.told.parents;
      shape = Some c.args.shape;
    } in
    let fit = c.min-room_for_fids.ensures in
    let less = c.saturating_sub.ensures in
    let room : c.saturating_sub.result ≡ min c.capacity.result c.args.standing.kept - c.in_ok-told.told.parents.bytes = omega (arith, fit, less) in
    entry_held f v c.args.at e c.args.shape c.args.links.items c.args.standing h c.args.level c.capacity.result c.eq.result c.in_ok-told.told.links.items c.in_ok-told.told.parents y
    (c.eq.ensures ∙ ap (same_addr c.args.at) (sym root)) (c.capacity.ensures v c.args.at e refl h.shape_is) told refl refl refl refl refl refl refl room refl refl refl
