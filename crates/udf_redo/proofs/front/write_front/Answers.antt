use Rattle.std.proofs.Common.{◌≤◌, ◌∷◌, ◌∙◌, ap, List, ℕ, length, arith, Ok, ◌++◌}
use Rattle.std.proofs.lemmas.List.{drop_all}
use Rattle.udf_outside.specs.declared.bench.Role.TheVariants.{Image, Side}
use Rattle.udf_outside.specs.Stops.{Pair, bytes_of}
use Rattle.udf_outside.proofs.Runs.{runs_sync, write_other_durable}
use Rattle.udf_outside.proofs.Moments.{synced_durable}
use Rattle.udf_redo.specs.Log.{name}
use Rattle.udf_redo.specs.Front.{IsShort}
use Rattle.udf_redo.proofs.Calls.{write_other, write_puts, on_ok, sync_same, side_syncs}
use Rattle.udf_redo.proofs.Fronts.{short_runs}
use Rattle.udf_redo.proofs.front.write_front.Goals as goal

pub returns-in_err-write_at-clause-moments : goal.returns-in_err-write_at-clause-moments
returns-in_err-write_at-clause-moments g c tells =
    let old = g.B.Bench.held c.args.bench.now in
    let short : length (bytes_of Side old) ≤ 9 = omega (arith, g.met.B.Bench.sizes c.args.bench.now Side tells c.requires.writable.0, c.requires.short) in
    (short_runs old (c.requires.synced tells) _ (0 ∷ name) _ short (c.write_at.ensures.held tells)).leaves

pub returns-in_err-write_at-clause-image : goal.returns-in_err-write_at-clause-image
returns-in_err-write_at-clause-image g c tells =
    write_other Side 0 (0 ∷ name) _ _ _ (c.write_at.ensures.held tells)

pub returns-clause-moments : goal.returns-clause-moments
returns-clause-moments g c tells =
    let old = g.B.Bench.held c.args.bench.now in
    let P : Pair → Type 0 = IsShort (bytes_of Image old) 9 in
    let short : length (bytes_of Side old) ≤ 9 = omega (arith, g.met.B.Bench.sizes c.args.bench.now Side tells c.requires.writable.0, c.requires.short) in
    (runs_sync old _ _ P P Side _ (short_runs old (c.requires.synced tells) _ (0 ∷ name) _ short (c.write_at.ensures.held tells)) (c.sync.ensures.held tells) (λ pair is. is)).leaves

pub returns-clause-side : goal.returns-clause-side
returns-clause-side g c tells =
    let old = g.B.Bench.held c.args.bench.now in
    let short : length (bytes_of Side old) ≤ 9 = omega (arith, g.met.B.Bench.sizes c.args.bench.now Side tells c.requires.writable.0, c.requires.short) in
    on_ok c.sync.result _ (sync_same Side Side _ _ _ (c.sync.ensures.held tells)
    ∙ write_puts Side 0 (0 ∷ name) _ _ (Ok c.in_ok-write_at.field-0) (c.in_ok-write_at.ensures.held tells)
    ∙ ap (λ (l : List ℕ). (0 ∷ name) ++ l) (drop_all 9 (bytes_of Side old) short))

pub returns-clause-image : goal.returns-clause-image
returns-clause-image g c tells =
    sync_same Side Image _ _ _ (c.sync.ensures.held tells) ∙ write_other Side 0 (0 ∷ name) _ _ _ (c.write_at.ensures.held tells)

pub returns-clause-synced : goal.returns-clause-synced
returns-clause-synced g c tells =
    let old = g.B.Bench.held c.args.bench.now in
    side_syncs _ _ _ (c.sync.ensures.held tells) (write_other_durable Side 0 (0 ∷ name) old _ _ (c.write_at.ensures.held tells) (synced_durable old Image (c.requires.synced tells)))
