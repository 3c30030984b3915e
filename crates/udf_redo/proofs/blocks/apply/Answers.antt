use Rattle.std.proofs.Common.{◌≡◌, ◌≤◌, ◌+◌, ◌*◌, List, ℕ, length, arith, refl, sym, ◌∙◌, ap, subst, Ok}
use Rattle.udf_outside.specs.declared.bench.Role.TheVariants.{Image, Side}
use Rattle.udf_outside.specs.Files.{Files, IsAttached}
use Rattle.udf_outside.specs.Stops.{bytes_of}
use Rattle.udf_outside.proofs.Moments.{synced_durable}
use Rattle.udf_outside.proofs.Runs.{write_other_durable}
use Rattle.udf_redo.specs.Log.{Edit}
use Rattle.udf_redo.specs.Log.{head_in}
use Rattle.udf_redo.specs.Settled.{applied}
use Rattle.udf_redo.proofs.Calls.{write_other, write_puts, sync_same, image_syncs, image_kept}
use Rattle.udf_redo.proofs.Writing.{edit_at}
use Rattle.udf_redo.proofs.Applying.{written, all_written, none_written}
use Rattle.udf_redo.proofs.Turns.{begin, block_turn, synced, applying, keeps_side, near_now, log_now}
use Rattle.udf_redo.proofs.Planning.{plan_blocks, plan_within}
use Rattle.udf_redo.proofs.blocks.apply.Goals as goal

pub loop-i-init : goal.loop-i-init
loop-i-init g c =
    let start = g.B.Bench.held c.args.bench.now in record {
      files = refl;
      faults = omega arith;
      image = λ tells. none_written (bytes_of Image start) c.args.size c.args.plan.now.blocks;
      side = λ tells. refl;
      durable = λ tells. synced_durable start Side (c.requires.synced tells);
      runs = λ tells. begin start (c.requires.log tells) (c.requires.synced tells);
    }

pub write_at-requires-clause-within : goal.write_at-requires-clause-within
write_at-requires-clause-within g c =
    let start = g.B.Bench.held c.args.bench.now in
    let size = c.args.size in
    let edits = c.args.plan.now.blocks in
    let edit : Edit = (c.block-sector.result.0, c.block-sector.result.1.now) in
    let fits = edit_at (λ e. e.0 * size + size ≤ (g.B.Bench.files c.args.bench.now).image.size) edits c.loop-i.i edit (plan_within (g.B.Bench.files c.args.bench.now).image.size size edits c.requires.within) c.block-sector.ensures in
    let same : (g.B.Bench.files c.loop-i.bench).image.size ≡ (g.B.Bench.files c.args.bench.now).image.size = ap (λ (f : Files). f.image.size) c.loop-i.invariant.files in
    omega (arith, fits, same)

pub returns-in_err-write_at-clause-moments : goal.returns-in_err-write_at-clause-moments
returns-in_err-write_at-clause-moments g c tells =
    let start = g.B.Bench.held c.args.bench.now in
    let size = c.args.size in
    let edits = c.args.plan.now.blocks in
    let edit : Edit = (c.block-sector.result.0, c.block-sector.result.1.now) in
    let fits = edit_at (λ e. e.0 * size + size ≤ (g.B.Bench.files c.args.bench.now).image.size) edits c.loop-i.i edit (plan_within (g.B.Bench.files c.args.bench.now).image.size size edits c.requires.within) c.block-sector.ensures in
    let same : (g.B.Bench.files c.loop-i.bench).image.size ≡ (g.B.Bench.files c.args.bench.now).image.size = ap (λ (f : Files). f.image.size) c.loop-i.invariant.files in
    let attached : IsAttached Image (g.B.Bench.files c.loop-i.bench) = subst (λ (f : Files). IsAttached Image f) (sym c.loop-i.invariant.files) c.requires.writable.0 in
    let within : edit.0 * size ≤ length (bytes_of Image (g.B.Bench.held c.loop-i.bench)) = omega (arith, fits, same, g.met.B.Bench.sizes c.loop-i.bench Image tells attached) in
    let log = c.requires.log tells in
    let run = block_turn start log (g.B.Bench.held c.loop-i.bench) (g.B.Bench.held c.write_at.new.self) size edits c.loop-i.i edit c.write_at.result (c.requires.size tells) (c.requires.records tells) c.block-sector.ensures
    (c.loop-i.invariant.runs tells) within (c.write_at.ensures.held tells) in
    applying start log (g.B.Bench.held c.write_at.new.self) run

pub returns-in_err-write_at-clause-same_side : goal.returns-in_err-write_at-clause-same_side
returns-in_err-write_at-clause-same_side g c tells =
    let start = g.B.Bench.held c.args.bench.now in
    let size = c.args.size in
    let edits = c.args.plan.now.blocks in
    let edit : Edit = (c.block-sector.result.0, c.block-sector.result.1.now) in
    let fits = edit_at (λ e. e.0 * size + size ≤ (g.B.Bench.files c.args.bench.now).image.size) edits c.loop-i.i edit (plan_within (g.B.Bench.files c.args.bench.now).image.size size edits c.requires.within) c.block-sector.ensures in
    let same : (g.B.Bench.files c.loop-i.bench).image.size ≡ (g.B.Bench.files c.args.bench.now).image.size = ap (λ (f : Files). f.image.size) c.loop-i.invariant.files in
    let attached : IsAttached Image (g.B.Bench.files c.loop-i.bench) = subst (λ (f : Files). IsAttached Image f) (sym c.loop-i.invariant.files) c.requires.writable.0 in
    let within : edit.0 * size ≤ length (bytes_of Image (g.B.Bench.held c.loop-i.bench)) = omega (arith, fits, same, g.met.B.Bench.sizes c.loop-i.bench Image tells attached) in
    let log = c.requires.log tells in
    let run = block_turn start log (g.B.Bench.held c.loop-i.bench) (g.B.Bench.held c.write_at.new.self) size edits c.loop-i.i edit c.write_at.result (c.requires.size tells) (c.requires.records tells) c.block-sector.ensures
    (c.loop-i.invariant.runs tells) within (c.write_at.ensures.held tells) in
    keeps_side start log (g.B.Bench.held c.write_at.new.self) run

pub returns-in_err-write_at-clause-again : goal.returns-in_err-write_at-clause-again
returns-in_err-write_at-clause-again g c tells =
    let start = g.B.Bench.held c.args.bench.now in
    let size = c.args.size in
    let edits = c.args.plan.now.blocks in
    let edit : Edit = (c.block-sector.result.0, c.block-sector.result.1.now) in
    let fits = edit_at (λ e. e.0 * size + size ≤ (g.B.Bench.files c.args.bench.now).image.size) edits c.loop-i.i edit (plan_within (g.B.Bench.files c.args.bench.now).image.size size edits c.requires.within) c.block-sector.ensures in
    let same : (g.B.Bench.files c.loop-i.bench).image.size ≡ (g.B.Bench.files c.args.bench.now).image.size = ap (λ (f : Files). f.image.size) c.loop-i.invariant.files in
    let attached : IsAttached Image (g.B.Bench.files c.loop-i.bench) = subst (λ (f : Files). IsAttached Image f) (sym c.loop-i.invariant.files) c.requires.writable.0 in
    let within : edit.0 * size ≤ length (bytes_of Image (g.B.Bench.held c.loop-i.bench)) = omega (arith, fits, same, g.met.B.Bench.sizes c.loop-i.bench Image tells attached) in
    let log = c.requires.log tells in
    let run = block_turn start log (g.B.Bench.held c.loop-i.bench) (g.B.Bench.held c.write_at.new.self) size edits c.loop-i.i edit c.write_at.result (c.requires.size tells) (c.requires.records tells) c.block-sector.ensures
    (c.loop-i.invariant.runs tells) within (c.write_at.ensures.held tells) in
    (near_now start log (g.B.Bench.held c.write_at.new.self) run).same_applied

pub returns-in_err-write_at-clause-side : goal.returns-in_err-write_at-clause-side
returns-in_err-write_at-clause-side g c tells =
    let start = g.B.Bench.held c.args.bench.now in
    let size = c.args.size in
    let edits = c.args.plan.now.blocks in
    let edit : Edit = (c.block-sector.result.0, c.block-sector.result.1.now) in
    let fits = edit_at (λ e. e.0 * size + size ≤ (g.B.Bench.files c.args.bench.now).image.size) edits c.loop-i.i edit (plan_within (g.B.Bench.files c.args.bench.now).image.size size edits c.requires.within) c.block-sector.ensures in
    let same : (g.B.Bench.files c.loop-i.bench).image.size ≡ (g.B.Bench.files c.args.bench.now).image.size = ap (λ (f : Files). f.image.size) c.loop-i.invariant.files in
    let attached : IsAttached Image (g.B.Bench.files c.loop-i.bench) = subst (λ (f : Files). IsAttached Image f) (sym c.loop-i.invariant.files) c.requires.writable.0 in
    let within : edit.0 * size ≤ length (bytes_of Image (g.B.Bench.held c.loop-i.bench)) = omega (arith, fits, same, g.met.B.Bench.sizes c.loop-i.bench Image tells attached) in
    let log = c.requires.log tells in
    let run = block_turn start log (g.B.Bench.held c.loop-i.bench) (g.B.Bench.held c.write_at.new.self) size edits c.loop-i.i edit c.write_at.result (c.requires.size tells) (c.requires.records tells) c.block-sector.ensures
    (c.loop-i.invariant.runs tells) within (c.write_at.ensures.held tells) in
    (near_now start log (g.B.Bench.held c.write_at.new.self) run).same_side

pub returns-in_err-write_at-clause-log : goal.returns-in_err-write_at-clause-log
returns-in_err-write_at-clause-log g c tells =
    let start = g.B.Bench.held c.args.bench.now in
    let size = c.args.size in
    let edits = c.args.plan.now.blocks in
    let edit : Edit = (c.block-sector.result.0, c.block-sector.result.1.now) in
    let fits = edit_at (λ e. e.0 * size + size ≤ (g.B.Bench.files c.args.bench.now).image.size) edits c.loop-i.i edit (plan_within (g.B.Bench.files c.args.bench.now).image.size size edits c.requires.within) c.block-sector.ensures in
    let same : (g.B.Bench.files c.loop-i.bench).image.size ≡ (g.B.Bench.files c.args.bench.now).image.size = ap (λ (f : Files). f.image.size) c.loop-i.invariant.files in
    let attached : IsAttached Image (g.B.Bench.files c.loop-i.bench) = subst (λ (f : Files). IsAttached Image f) (sym c.loop-i.invariant.files) c.requires.writable.0 in
    let within : edit.0 * size ≤ length (bytes_of Image (g.B.Bench.held c.loop-i.bench)) = omega (arith, fits, same, g.met.B.Bench.sizes c.loop-i.bench Image tells attached) in
    let log = c.requires.log tells in
    let run = block_turn start log (g.B.Bench.held c.loop-i.bench) (g.B.Bench.held c.write_at.new.self) size edits c.loop-i.i edit c.write_at.result (c.requires.size tells) (c.requires.records tells) c.block-sector.ensures
    (c.loop-i.invariant.runs tells) within (c.write_at.ensures.held tells) in
    log_now start log (g.B.Bench.held c.write_at.new.self) run

pub returns-in_err-write_at-clause-files : goal.returns-in_err-write_at-clause-files
returns-in_err-write_at-clause-files g c =
    let start = g.B.Bench.held c.args.bench.now in
    let size = c.args.size in
    let edits = c.args.plan.now.blocks in
    let edit : Edit = (c.block-sector.result.0, c.block-sector.result.1.now) in
    let fits = edit_at (λ e. e.0 * size + size ≤ (g.B.Bench.files c.args.bench.now).image.size) edits c.loop-i.i edit (plan_within (g.B.Bench.files c.args.bench.now).image.size size edits c.requires.within) c.block-sector.ensures in
    let same : (g.B.Bench.files c.loop-i.bench).image.size ≡ (g.B.Bench.files c.args.bench.now).image.size = ap (λ (f : Files). f.image.size) c.loop-i.invariant.files in
    let block : length edit.1 ≡ size = edit_at (λ e. length e.1 ≡ size) edits c.loop-i.i edit (plan_blocks c.args.plan.now size c.requires.blocks c.len-i-end.ensures.lawful) c.block-sector.ensures in
    image_kept (edit.0 * size + length edit.1) (g.B.Bench.files c.loop-i.bench) (g.B.Bench.files c.write_at.new.self) c.write_at.result c.write_at.ensures.files (omega (arith, fits, same, block)) ∙ c.loop-i.invariant.files

pub loop-i-preserved : goal.loop-i-preserved
loop-i-preserved g c =
    let start = g.B.Bench.held c.args.bench.now in
    let size = c.args.size in
    let edits = c.args.plan.now.blocks in
    let edit : Edit = (c.block-sector.result.0, c.block-sector.result.1.now) in
    let fits = edit_at (λ e. e.0 * size + size ≤ (g.B.Bench.files c.args.bench.now).image.size) edits c.loop-i.i edit (plan_within (g.B.Bench.files c.args.bench.now).image.size size edits c.requires.within) c.block-sector.ensures in
    let same : (g.B.Bench.files c.loop-i.bench).image.size ≡ (g.B.Bench.files c.args.bench.now).image.size = ap (λ (f : Files). f.image.size) c.loop-i.invariant.files in
    let block : length edit.1 ≡ size = edit_at (λ e. length e.1 ≡ size) edits c.loop-i.i edit (plan_blocks c.args.plan.now size c.requires.blocks c.len-i-end.ensures.lawful) c.block-sector.ensures in
    record {
      files = image_kept (edit.0 * size + length edit.1) (g.B.Bench.files c.loop-i.bench) (g.B.Bench.files c.write_at.new.self) c.write_at.result c.write_at.ensures.files (omega (arith, fits, same, block)) ∙ c.loop-i.invariant.files;
      faults = omega (arith, c.loop-i.invariant.faults, c.write_at.ensures.cause.later);
      image = λ tells. written (bytes_of Image start) size edits c.loop-i.i edit _ _ c.block-sector.ensures (c.loop-i.invariant.image tells)
          (write_puts Image _ _ _ _ (Ok c.in_ok-write_at.field-0) (c.in_ok-write_at.ensures.held tells));
      side = λ tells. write_other Image _ _ _ _ _ (c.write_at.ensures.held tells) ∙ c.loop-i.invariant.side tells;
      durable = λ tells. write_other_durable Image _ _ _ _ _ (c.write_at.ensures.held tells) (c.loop-i.invariant.durable tells);
      runs = λ tells.
          let attached : IsAttached Image (g.B.Bench.files c.loop-i.bench) = subst (λ (f : Files). IsAttached Image f) (sym c.loop-i.invariant.files) c.requires.writable.0 in
          let within : edit.0 * size ≤ length (bytes_of Image (g.B.Bench.held c.loop-i.bench)) = omega (arith, fits, same, g.met.B.Bench.sizes c.loop-i.bench Image tells attached) in
          block_turn start (c.requires.log tells) (g.B.Bench.held c.loop-i.bench) (g.B.Bench.held c.write_at.new.self) size edits c.loop-i.i edit c.write_at.result (c.requires.size tells) (c.requires.records tells) c.block-sector.ensures
          (c.loop-i.invariant.runs tells) within (c.write_at.ensures.held tells);
    }

pub returns-in_err-sync-clause-moments : goal.returns-in_err-sync-clause-moments
returns-in_err-sync-clause-moments g c tells =
    let start = g.B.Bench.held c.args.bench.now in
    let log = c.requires.log tells in
    let run = synced start log (g.B.Bench.held c.loop-i.bench) (g.B.Bench.held c.sync.new.self) c.sync.result (c.loop-i.invariant.runs tells) (c.sync.ensures.held tells) in
    applying start log (g.B.Bench.held c.sync.new.self) run

pub returns-in_err-sync-clause-same_side : goal.returns-in_err-sync-clause-same_side
returns-in_err-sync-clause-same_side g c tells =
    let start = g.B.Bench.held c.args.bench.now in
    let log = c.requires.log tells in
    let run = synced start log (g.B.Bench.held c.loop-i.bench) (g.B.Bench.held c.sync.new.self) c.sync.result (c.loop-i.invariant.runs tells) (c.sync.ensures.held tells) in
    keeps_side start log (g.B.Bench.held c.sync.new.self) run

pub returns-in_err-sync-clause-again : goal.returns-in_err-sync-clause-again
returns-in_err-sync-clause-again g c tells =
    let start = g.B.Bench.held c.args.bench.now in
    let log = c.requires.log tells in
    let run = synced start log (g.B.Bench.held c.loop-i.bench) (g.B.Bench.held c.sync.new.self) c.sync.result (c.loop-i.invariant.runs tells) (c.sync.ensures.held tells) in
    (near_now start log (g.B.Bench.held c.sync.new.self) run).same_applied

pub returns-in_err-sync-clause-side : goal.returns-in_err-sync-clause-side
returns-in_err-sync-clause-side g c tells =
    let start = g.B.Bench.held c.args.bench.now in
    let log = c.requires.log tells in
    let run = synced start log (g.B.Bench.held c.loop-i.bench) (g.B.Bench.held c.sync.new.self) c.sync.result (c.loop-i.invariant.runs tells) (c.sync.ensures.held tells) in
    (near_now start log (g.B.Bench.held c.sync.new.self) run).same_side

pub returns-in_err-sync-clause-log : goal.returns-in_err-sync-clause-log
returns-in_err-sync-clause-log g c tells =
    let start = g.B.Bench.held c.args.bench.now in
    let log = c.requires.log tells in
    let run = synced start log (g.B.Bench.held c.loop-i.bench) (g.B.Bench.held c.sync.new.self) c.sync.result (c.loop-i.invariant.runs tells) (c.sync.ensures.held tells) in
    log_now start log (g.B.Bench.held c.sync.new.self) run

pub returns-clause-moments : goal.returns-clause-moments
returns-clause-moments g c tells =
    let start = g.B.Bench.held c.args.bench.now in
    let log = c.requires.log tells in
    let run = synced start log (g.B.Bench.held c.loop-i.bench) (g.B.Bench.held c.sync.new.self) c.sync.result (c.loop-i.invariant.runs tells) (c.sync.ensures.held tells) in
    applying start log (g.B.Bench.held c.sync.new.self) run

pub returns-clause-same_side : goal.returns-clause-same_side
returns-clause-same_side g c tells =
    let start = g.B.Bench.held c.args.bench.now in
    let log = c.requires.log tells in
    let run = synced start log (g.B.Bench.held c.loop-i.bench) (g.B.Bench.held c.sync.new.self) c.sync.result (c.loop-i.invariant.runs tells) (c.sync.ensures.held tells) in
    keeps_side start log (g.B.Bench.held c.sync.new.self) run

pub returns-clause-again : goal.returns-clause-again
returns-clause-again g c tells =
    let start = g.B.Bench.held c.args.bench.now in
    let log = c.requires.log tells in
    let run = synced start log (g.B.Bench.held c.loop-i.bench) (g.B.Bench.held c.sync.new.self) c.sync.result (c.loop-i.invariant.runs tells) (c.sync.ensures.held tells) in
    (near_now start log (g.B.Bench.held c.sync.new.self) run).same_applied

pub returns-clause-side : goal.returns-clause-side
returns-clause-side g c tells =
    let start = g.B.Bench.held c.args.bench.now in
    let log = c.requires.log tells in
    let run = synced start log (g.B.Bench.held c.loop-i.bench) (g.B.Bench.held c.sync.new.self) c.sync.result (c.loop-i.invariant.runs tells) (c.sync.ensures.held tells) in
    (near_now start log (g.B.Bench.held c.sync.new.self) run).same_side

pub returns-clause-log : goal.returns-clause-log
returns-clause-log g c tells =
    let start = g.B.Bench.held c.args.bench.now in
    let log = c.requires.log tells in
    let run = synced start log (g.B.Bench.held c.loop-i.bench) (g.B.Bench.held c.sync.new.self) c.sync.result (c.loop-i.invariant.runs tells) (c.sync.ensures.held tells) in
    log_now start log (g.B.Bench.held c.sync.new.self) run

pub returns-clause-image : goal.returns-clause-image
returns-clause-image g c tells =
    let start = g.B.Bench.held c.args.bench.now in
    let side = bytes_of Side start in
    let image = bytes_of Image start in
    sync_same Image Image _ _ _ (c.sync.ensures.held tells)
    ∙ all_written image c.args.size c.args.plan.now.blocks c.loop-i.i (bytes_of Image (g.B.Bench.held c.loop-i.bench)) (omega arith) (c.loop-i.invariant.image tells)
    ∙ ap (λ (n : ℕ). applied n c.args.plan.now.blocks image) (sym (c.requires.size tells)) ∙ ap (λ (q : List Edit). applied (head_in side).size q image) (sym (c.requires.records tells))

pub returns-clause-synced : goal.returns-clause-synced
returns-clause-synced g c tells = image_syncs _ _ (Ok c.in_ok-sync.field-0) (c.in_ok-sync.ensures.held tells) (c.loop-i.invariant.durable tells)
