use Rattle.std.proofs.Common.{None, refl, true}
use Rattle.udf_held.specs.declared.held.Held.{Held}
use Rattle.udf_held.proofs.Holdings.{holder_held}
use Rattle.udf_held.proofs.holding.hold_pointer.Goals as goal

pub returns : goal.returns
returns c f v h links standing =
    let y : Held = record {
      at = c.args.at;
      level = c.args.level;
      is_start = true;
      directory = true;
      sound = c.args.standing.sound;
      kept = c.args.standing.kept;
      whole = c.args.standing.whole;
      space = 0;
      links = c.args.links;
      parents = record { bytes = 0; only = None };
      shape = None;
    } in
    holder_held f v c.args.at c.args.links.items c.args.standing y h links standing refl refl refl refl refl refl refl refl refl
