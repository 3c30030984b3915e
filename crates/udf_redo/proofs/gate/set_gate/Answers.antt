use Rattle.std.proofs.Common.{◌∷◌, [], ◌∙◌, drop, Ok}
use Rattle.udf_outside.specs.declared.bench.Role.TheVariants.{Image, Side}
use Rattle.udf_outside.specs.Stops.{Pair, bytes_of}
use Rattle.udf_outside.proofs.Runs.{runs_sync, write_other_durable}
use Rattle.udf_outside.proofs.Moments.{synced_durable}
use Rattle.udf_redo.specs.Front.{IsGated}
use Rattle.udf_redo.proofs.Calls.{write_other, write_puts, on_ok, sync_same, side_syncs, side_kept}
use Rattle.udf_redo.proofs.Fronts.{gate_runs}
use Rattle.udf_redo.proofs.gate.set_gate.Goals as goal

pub returns-in_err-write_at-clause-moments : goal.returns-in_err-write_at-clause-moments
returns-in_err-write_at-clause-moments g c tells =
    let old = g.B.Bench.held c.args.bench.now in
    (gate_runs old (c.requires.synced tells) _ c.args.gate _ (c.requires.some tells) (c.write_at.ensures.held tells)).leaves

pub returns-in_err-write_at-clause-image : goal.returns-in_err-write_at-clause-image
returns-in_err-write_at-clause-image g c tells =
    write_other Side 0 (c.args.gate ∷ []) _ _ _ (c.write_at.ensures.held tells)

pub returns-clause-moments : goal.returns-clause-moments
returns-clause-moments g c tells =
    let old = g.B.Bench.held c.args.bench.now in
    let P : Pair → Type 0 = IsGated (bytes_of Image old) (drop 1 (bytes_of Side old)) in
    (runs_sync old _ _ P P Side _ (gate_runs old (c.requires.synced tells) _ c.args.gate _ (c.requires.some tells) (c.write_at.ensures.held tells)) (c.sync.ensures.held tells) (λ pair is. is)).leaves

pub returns-clause-side : goal.returns-clause-side
returns-clause-side g c tells =
    on_ok c.sync.result _ (sync_same Side Side _ _ _ (c.sync.ensures.held tells)
    ∙ write_puts Side 0 (c.args.gate ∷ []) _ _ (Ok c.in_ok-write_at.field-0) (c.in_ok-write_at.ensures.held tells))

pub returns-clause-image : goal.returns-clause-image
returns-clause-image g c tells =
    sync_same Side Image _ _ _ (c.sync.ensures.held tells) ∙ write_other Side 0 (c.args.gate ∷ []) _ _ _ (c.write_at.ensures.held tells)

pub returns-clause-synced : goal.returns-clause-synced
returns-clause-synced g c tells =
    let old = g.B.Bench.held c.args.bench.now in
    side_syncs _ _ _ (c.sync.ensures.held tells) (write_other_durable Side 0 (c.args.gate ∷ []) old _ _ (c.write_at.ensures.held tells) (synced_durable old Image (c.requires.synced tells)))

pub returns-in_err-write_at-clause-same_files : goal.returns-in_err-write_at-clause-same_files
returns-in_err-write_at-clause-same_files g c some = side_kept 1 _ _ c.write_at.result c.write_at.ensures.files some

pub returns-clause-same_files : goal.returns-clause-same_files
returns-clause-same_files g c some = c.sync.ensures.files ∙ side_kept 1 _ _ c.write_at.result c.write_at.ensures.files some
