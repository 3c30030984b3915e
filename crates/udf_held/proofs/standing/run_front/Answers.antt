use Rattle.std.proofs.Common.{◌≡◌, ℕ, false, arith, refl, ap}
use Rattle.std.specs.Prelude.{◌==◌}
use Rattle.udf_file_model.specs.Descriptors.{Descriptor}
use Rattle.udf_file_model.specs.Front.{is_hole}
use Rattle.udf_entry.specs.RunView.{run_seen}
use Rattle.udf_held.proofs.Standings.{blocks_within, hole_front, is_equal, is_other, run_front}
use Rattle.udf_held.proofs.standing.run_front.Goals as goal

pub returns-then-run-eq-HOLE : goal.returns-then-run-eq-HOLE
returns-then-run-eq-HOLE g c class w =
    hole_front c.args.size class c.args.claims.now c.args.owner c.args.bar (run_seen c.args.run) _ (is_equal c.args.run.kind 2 c.if-run-eq-HOLE.true) refl refl

pub returns : goal.returns
returns g c class w =
    let d : Descriptor = run_seen c.args.run in
    let hole : is_hole d ≡ false = is_other c.args.run.kind 2 c.if-run-eq-HOLE.false in
    let within = blocks_within (g.P.Parts.blocks c.args.parts.now) c.args.size d hole w in
    let bar = c.before_bar-many.ensures in
    let won = c.won_blocks-won.ensures in
    run_front c.args.size class c.requires c.args.claims.now c.args.owner c.args.bar d hole c.before_bar-many.result c.won_blocks-won.result
    won.within won.won won.lost
    (omega (arith, bar.within, c.min.ensures, c.blocks_of-blocks.ensures)) bar.free
    (λ l. bar.bar (omega (arith, l, within, c.min.ensures, c.blocks_of-blocks.ensures, c.saturating_sub-left.ensures, c.blocks-2.ensures)))
    _ c.min-2.ensures (ap (λ (n : ℕ). c.won_blocks-won.result == n) c.blocks_of-blocks.ensures)
