use Rattle.std.proofs.Common.{◌≡◌, sym, ap, subst}
use Rattle.udf_outside.specs.Stops.{bytes_of, Held as Kept}
use Rattle.udf_outside.specs.declared.bench.Role.TheVariants.{Image}
use Rattle.udf_file_model.specs.Listing.{Volume, volume_of}
use Rattle.udf_tree_model.specs.Frame.{setting_of, tree_of}
use Rattle.udf_held.specs.Held.{AreHeldOf}
use Rattle.udf_found.specs.Seen.{AreRead, spots}
use Rattle.udf_found.specs.Spot.{IsFoundList}
use Rattle.udf_held.specs.Standing.{AreStanding}
use Rattle.udf_held.specs.declared.standing.Standing.{Standing}
use Rattle.std.specs.Prelude.{List}
use Rattle.udf_kept.proofs.entries.held_entries.Goals as goal

pub returns-clause-held : goal.returns-clause-held
returns-clause-held g c tells f o =
    let vol : Kept → Volume = λ x. volume_of c.args.size (bytes_of Image x) (g.P.Parts.place c.args.parts.now) in
    let v : Volume = vol (g.B.Bench.held c.args.bench.now) in
    let same : vol (g.B.Bench.held c.standing_entries.new.bench) ≡ v = ap vol c.in_ok-arena.ensures.reads.held in
    let stand = subst (λ (xs : List Standing). AreStanding (setting_of f v) (tree_of f v) c.in_ok-arena.arena xs) (sym c.deref.ensures.value) (c.in_ok-arena.ensures.standings tells f o) in
    subst (λ (w : Volume). AreHeldOf f w c.in_ok-held.held.items) same
    (c.in_ok-held.ensures.held tells f o.starts.root (subst (λ (w : Volume). AreRead f w c.in_ok-arena.arena) (sym same) (c.in_ok-arena.ensures.read tells f o))
    (subst (λ (w : Volume). IsFoundList (setting_of f w) (tree_of f w) (spots c.in_ok-arena.arena)) (sym same) (c.in_ok-arena.ensures.found tells f o))
    (subst (λ (w : Volume). AreStanding (setting_of f w) (tree_of f w) c.in_ok-arena.arena c.deref.result.now) (sym same) stand))
