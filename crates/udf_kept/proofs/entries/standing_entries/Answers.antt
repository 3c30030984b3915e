use Rattle.std.proofs.Common.{◌≡◌, Bool, None, Some, cond, refl, sym, ap, ◌∙◌, subst, arith}
use Rattle.udf_outside.specs.Stops.{bytes_of}
use Rattle.udf_outside.specs.declared.bench.Role.TheVariants.{Image}
use Rattle.udf_entry.proofs.Told.{size_bounds}
use Rattle.udf_file_model.specs.Listing.{Volume, volume_of}
use Rattle.udf_layer.specs.declared.missing.Missing.TheVariants as missing
use Rattle.udf_tree_model.specs.Frame.{setting_of, tree_of}
use Rattle.udf_tree_model.specs.Refused.{has_root}
use Rattle.udf_held.specs.Standing.{AreStanding}
use Rattle.udf_kept.proofs.Rooting.{root_last}
use Rattle.udf_kept.proofs.entries.standing_entries.Goals as goal

pub claims_of-requires : goal.claims_of-requires
claims_of-requires g c = let low = (size_bounds c.args.size c.requires.size).0 in omega (arith, low)

pub standings_of-requires : goal.standings_of-requires
standings_of-requires g c = let low = (size_bounds c.args.size c.requires.size).0 in omega (arith, low)

pub returns-then-root_stands-clause-found : goal.returns-then-root_stands-clause-found
returns-then-root_stands-clause-found g c tells f o = c.in_ok-arena.ensures.found tells f o.starts

pub returns-then-root_stands-clause-standings : goal.returns-then-root_stands-clause-standings
returns-then-root_stands-clause-standings g c tells f o =
    let v : Volume = volume_of c.args.size (bytes_of Image (g.B.Bench.held c.args.bench.now)) (g.P.Parts.place c.args.parts.now) in
    let found = c.in_ok-arena.ensures.found tells f o.starts in
    let read = c.in_ok-arena.ensures.read tells f o.starts in
    c.in_ok-standings.ensures.standings f v o.after_is refl refl read found
    (c.in_ok-claims.ensures.winners f v (record { root_is = o.starts.root; fixed_are = o.fixed_are }) refl refl read found)

pub returns-then-root_stands-clause-refusal : goal.returns-then-root_stands-clause-refusal
returns-then-root_stands-clause-refusal g c tells f o set =
    let v : Volume = volume_of c.args.size (bytes_of Image (g.B.Bench.held c.args.bench.now)) (g.P.Parts.place c.args.parts.now) in
    let found = c.in_ok-arena.ensures.found tells f o.starts in
    let read = c.in_ok-arena.ensures.read tells f o.starts in
    let stand : AreStanding (setting_of f v) (tree_of f v) c.in_ok-arena.arena c.in_ok-standings.standings.items =
    c.in_ok-standings.ensures.standings f v o.after_is refl refl read found
    (c.in_ok-claims.ensures.winners f v (record { root_is = o.starts.root; fixed_are = o.fixed_are }) refl refl read found) in
    let root : c.root_stands.result ≡ has_root f v =
    c.root_stands.ensures f v o.starts.root set read found (subst (AreStanding (setting_of f v) (tree_of f v) c.in_ok-arena.arena) (sym c.deref.ensures.value) stand) in
    root_last f v c.root_stands.result (c.in_ok-arena.ensures.refusal tells f o.starts set) root
    ∙ ap (λ (b : Bool). cond b None (Some missing.RootDirectory)) c.if-root_stands.true

pub returns-else-root_stands-clause-refusal : goal.returns-else-root_stands-clause-refusal
returns-else-root_stands-clause-refusal g c tells f o set =
    let v : Volume = volume_of c.args.size (bytes_of Image (g.B.Bench.held c.args.bench.now)) (g.P.Parts.place c.args.parts.now) in
    let found = c.in_ok-arena.ensures.found tells f o.starts in
    let read = c.in_ok-arena.ensures.read tells f o.starts in
    let stand : AreStanding (setting_of f v) (tree_of f v) c.in_ok-arena.arena c.in_ok-standings.standings.items =
    c.in_ok-standings.ensures.standings f v o.after_is refl refl read found
    (c.in_ok-claims.ensures.winners f v (record { root_is = o.starts.root; fixed_are = o.fixed_are }) refl refl read found) in
    let root : c.root_stands.result ≡ has_root f v =
    c.root_stands.ensures f v o.starts.root set read found (subst (AreStanding (setting_of f v) (tree_of f v) c.in_ok-arena.arena) (sym c.deref.ensures.value) stand) in
    root_last f v c.root_stands.result (c.in_ok-arena.ensures.refusal tells f o.starts set) root
    ∙ ap (λ (b : Bool). cond b None (Some missing.RootDirectory)) c.if-root_stands.false
