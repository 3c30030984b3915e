use Rattle.std.proofs.Common.{rules, ◌≡◌, ◌≤◌, ◌+◌, ◌*◌, ◌++◌, List, ℕ, take, length, arith, add-one, sym, ◌∙◌, ap, Ok}
use Rattle.std.proofs.Math.Nat.{suc-mul}
use Rattle.std.specs.List.{flat_map}
use Rattle.std.proofs.lemmas.List.{take_all}
use Rattle.udf_outside.specs.Stops.{Pair, bytes_of, put}
use Rattle.udf_outside.specs.declared.bench.Role.TheVariants.{Image, Side}
use Rattle.udf_outside.proofs.Runs.{runs_sync, write_other_durable}
use Rattle.udf_outside.proofs.Moments.{synced_durable}
use Rattle.udf_redo.specs.Log.{Edit}
use Rattle.udf_redo.specs.Log.{head_bytes, record_bytes}
use Rattle.udf_redo.specs.Front.{BeginsWith}
use Rattle.udf_redo.proofs.Calls.{write_other, write_puts, on_ok, sync_same, side_syncs}
use Rattle.udf_redo.proofs.Fronts.{behind_begins, behind_turn}
use Rattle.udf_redo.proofs.Writing.{body_turn, body_length, body_begins, body_starts, edit_at, still_writable}
use Rattle.udf_redo.proofs.body.write_body.Goals as goal

pub returns-in_err-write_at-clause-moments : goal.returns-in_err-write_at-clause-moments
returns-in_err-write_at-clause-moments g c tells =
    let start = g.B.Bench.held c.args.bench.now in
    let settled = c.requires.synced tells in
    let long : 9 ≤ length (bytes_of Side start) = omega (arith, g.met.B.Bench.sizes c.args.bench.now Side tells c.requires.writable.0, c.requires.long) in
    (behind_turn start settled 9 long start _ 9 _ _ (behind_begins start settled 9 long) (omega arith) long (c.write_at.ensures.held tells)).leaves

pub returns-in_err-write_at-clause-image : goal.returns-in_err-write_at-clause-image
returns-in_err-write_at-clause-image g c tells = write_other Side 9 _ _ _ _ (c.write_at.ensures.held tells)

pub loop-i-init : goal.loop-i-init
loop-i-init g c =
    let start = g.B.Bench.held c.args.bench.now in
    let size : length c.bytes.result ≡ 52 = search rules in
    let head : length (head_bytes c.args.head.now) ≡ 52 = ap length (sym c.bytes.ensures) ∙ size in
    let begins = body_begins (head_bytes c.args.head.now) c.args.plan.now.blocks head in record {
      files = c.write_at.ensures.files.only;
      long = omega (arith, begins);
      within = omega (arith, c.in_ok-write_at.ensures.files.done, size);
      faults = c.write_at.ensures.cause.later;
      image = λ tells. write_other Side 9 _ _ _ _ (c.write_at.ensures.held tells);
      side = λ tells. write_puts Side 9 _ _ _ (Ok c.in_ok-write_at.field-0) (c.in_ok-write_at.ensures.held tells)
          ∙ ap (λ (l : List ℕ). put (bytes_of Side start) 9 l) c.bytes.ensures ∙ body_starts (bytes_of Side start) (head_bytes c.args.head.now) c.args.plan.now.blocks;
      durable = λ tells. write_other_durable Side 9 _ start _ _ (c.write_at.ensures.held tells) (synced_durable start Image (c.requires.synced tells));
      runs = λ tells.
          let settled = c.requires.synced tells in
          let long : 9 ≤ length (bytes_of Side start) = omega (arith, g.met.B.Bench.sizes c.args.bench.now Side tells c.requires.writable.0, c.requires.long) in
          behind_turn start settled 9 long start _ 9 _ _ (behind_begins start settled 9 long) (omega arith) long (c.write_at.ensures.held tells);
    }

pub returns-in_err-write_at-2-clause-moments : goal.returns-in_err-write_at-2-clause-moments
returns-in_err-write_at-2-clause-moments g c tells =
    let start = g.B.Bench.held c.args.bench.now in
    let settled = c.requires.synced tells in
    let long : 9 ≤ length (bytes_of Side start) = omega (arith, g.met.B.Bench.sizes c.args.bench.now Side tells c.requires.writable.0, c.requires.long) in
    let writable = still_writable (g.B.Bench.files c.loop-i.bench) (g.B.Bench.files c.args.bench.now) c.loop-i.invariant.files c.requires.writable in
    let place : c.place-at.result ≤ length (bytes_of Side (g.B.Bench.held c.loop-i.bench)) = omega (arith, g.met.B.Bench.sizes c.loop-i.bench Side tells writable.0, c.loop-i.invariant.within, c.place-at.ensures) in
    (behind_turn start settled 9 long _ _ c.place-at.result _ _ (c.loop-i.invariant.runs tells) (omega (arith, c.place-at.ensures)) place (c.write_at-in-loop-i.ensures.held tells)).leaves

pub returns-in_err-write_at-2-clause-image : goal.returns-in_err-write_at-2-clause-image
returns-in_err-write_at-2-clause-image g c tells = write_other Side _ _ _ _ _ (c.write_at-in-loop-i.ensures.held tells) ∙ c.loop-i.invariant.image tells

pub returns-in_err-write_at-3-clause-moments : goal.returns-in_err-write_at-3-clause-moments
returns-in_err-write_at-3-clause-moments g c tells =
    let start = g.B.Bench.held c.args.bench.now in
    let settled = c.requires.synced tells in
    let long : 9 ≤ length (bytes_of Side start) = omega (arith, g.met.B.Bench.sizes c.args.bench.now Side tells c.requires.writable.0, c.requires.long) in
    let writable = still_writable (g.B.Bench.files c.loop-i.bench) (g.B.Bench.files c.args.bench.now) c.loop-i.invariant.files c.requires.writable in
    let place : c.place-at.result ≤ length (bytes_of Side (g.B.Bench.held c.loop-i.bench)) = omega (arith, g.met.B.Bench.sizes c.loop-i.bench Side tells writable.0, c.loop-i.invariant.within, c.place-at.ensures) in
    let one = behind_turn start settled 9 long _ _ c.place-at.result _ _ (c.loop-i.invariant.runs tells) (omega (arith, c.place-at.ensures)) place (c.write_at-in-loop-i.ensures.held tells) in
    let then_writable = still_writable (g.B.Bench.files c.write_at-in-loop-i.new.self) (g.B.Bench.files c.loop-i.bench) c.write_at-in-loop-i.ensures.files.only writable in
    let four : length c.to_le_bytes.result ≡ 4 = search rules in
    let then_place : c.place-at.result + 4 ≤ length (bytes_of Side (g.B.Bench.held c.write_at-in-loop-i.new.self)) =
    omega (arith, g.met.B.Bench.sizes c.write_at-in-loop-i.new.self Side tells then_writable.0, c.in_ok-write_at-2.ensures.files.done, four) in
    (behind_turn start settled 9 long _ _ (c.place-at.result + 4) _ _ one (omega (arith, c.place-at.ensures)) then_place (c.write_at-in-loop-i-2.ensures.held tells)).leaves

pub returns-in_err-write_at-3-clause-image : goal.returns-in_err-write_at-3-clause-image
returns-in_err-write_at-3-clause-image g c tells =
    write_other Side _ _ _ _ _ (c.write_at-in-loop-i-2.ensures.held tells) ∙ write_other Side _ _ _ _ _ (c.write_at-in-loop-i.ensures.held tells) ∙ c.loop-i.invariant.image tells

pub loop-i-preserved : goal.loop-i-preserved
loop-i-preserved g c =
    let start = g.B.Bench.held c.args.bench.now in
    let size = c.args.head.now.size in
    let edits = c.args.plan.now.blocks in
    let edit : Edit = (c.block-sector.result.0, c.block-sector.result.1.now) in
    let step : (c.loop-i.i + 1) * (4 + size) ≡ c.loop-i.i * (4 + size) + (4 + size) = rw add-one (suc-mul c.loop-i.i (4 + size)) in
    let block : length edit.1 ≡ size = edit_at (λ e. length e.1 ≡ size) edits c.loop-i.i edit c.requires.blocks c.block-sector.ensures in
    let four : length c.to_le_bytes.result ≡ 4 = search rules in
    let more = body_length (head_bytes c.args.head.now) edits c.loop-i.i edit (61 + c.loop-i.i * (4 + size)) c.block-sector.ensures c.loop-i.invariant.long in
    let writable = still_writable (g.B.Bench.files c.loop-i.bench) (g.B.Bench.files c.args.bench.now) c.loop-i.invariant.files c.requires.writable in
    let then_writable = still_writable (g.B.Bench.files c.write_at-in-loop-i.new.self) (g.B.Bench.files c.loop-i.bench) c.write_at-in-loop-i.ensures.files.only writable in record {
      files = search rules;
      long = omega (arith, more, step, block);
      within = omega (arith, c.in_ok-write_at-3.ensures.files.done, step, block, c.place-at.ensures);
      faults = omega (arith, c.loop-i.invariant.faults, c.write_at-in-loop-i.ensures.cause.later, c.write_at-in-loop-i-2.ensures.cause.later);
      image = λ tells. write_other Side _ _ _ _ _ (c.write_at-in-loop-i-2.ensures.held tells) ∙ write_other Side _ _ _ _ _ (c.write_at-in-loop-i.ensures.held tells) ∙ c.loop-i.invariant.image tells;
      side = λ tells.
          let long : 9 ≤ length (bytes_of Side start) = omega (arith, g.met.B.Bench.sizes c.args.bench.now Side tells c.requires.writable.0, c.requires.long) in
          body_turn (bytes_of Side start) (head_bytes c.args.head.now) edits c.loop-i.i edit c.place-at.result _ _ _ c.block-sector.ensures (c.loop-i.invariant.side tells)
          (c.loop-i.invariant.long ∙ sym c.place-at.ensures) long
          (write_puts Side _ _ _ _ (Ok c.in_ok-write_at-2.field-0) (c.in_ok-write_at-2.ensures.held tells)
          ∙ ap (λ (l : List ℕ). put (bytes_of Side (g.B.Bench.held c.loop-i.bench)) c.place-at.result l) c.to_le_bytes.ensures)
          (write_puts Side _ _ _ _ (Ok c.in_ok-write_at-3.field-0) (c.in_ok-write_at-3.ensures.held tells));
      durable = λ tells. write_other_durable Side _ _ _ _ _ (c.write_at-in-loop-i-2.ensures.held tells) (write_other_durable Side _ _ _ _ _ (c.write_at-in-loop-i.ensures.held tells) (c.loop-i.invariant.durable tells));
      runs = λ tells.
          let settled = c.requires.synced tells in
          let long : 9 ≤ length (bytes_of Side start) = omega (arith, g.met.B.Bench.sizes c.args.bench.now Side tells c.requires.writable.0, c.requires.long) in
          let place : c.place-at.result ≤ length (bytes_of Side (g.B.Bench.held c.loop-i.bench)) = omega (arith, g.met.B.Bench.sizes c.loop-i.bench Side tells writable.0, c.loop-i.invariant.within, c.place-at.ensures) in
          let one = behind_turn start settled 9 long _ _ c.place-at.result _ _ (c.loop-i.invariant.runs tells) (omega (arith, c.place-at.ensures)) place (c.write_at-in-loop-i.ensures.held tells) in
          let then_place : c.place-at.result + 4 ≤ length (bytes_of Side (g.B.Bench.held c.write_at-in-loop-i.new.self)) =
          omega (arith, g.met.B.Bench.sizes c.write_at-in-loop-i.new.self Side tells then_writable.0, c.in_ok-write_at-2.ensures.files.done, four) in
          behind_turn start settled 9 long _ _ (c.place-at.result + 4) _ _ one (omega (arith, c.place-at.ensures)) then_place (c.write_at-in-loop-i-2.ensures.held tells);
    }

pub returns-clause-moments : goal.returns-clause-moments
returns-clause-moments g c tells =
    let start = g.B.Bench.held c.args.bench.now in
    let P : Pair → Type 0 = BeginsWith (bytes_of Image start) (take 9 (bytes_of Side start)) in
    (runs_sync start _ _ P P Side _ (c.loop-i.invariant.runs tells) (c.sync.ensures.held tells) (λ pair is. is)).leaves

pub returns-clause-side : goal.returns-clause-side
returns-clause-side g c tells =
    let start = g.B.Bench.held c.args.bench.now in
    let all = take_all c.loop-i.i c.args.plan.now.blocks (omega arith) in
    on_ok c.sync.result _ (sync_same Side Side _ _ _ (c.sync.ensures.held tells) ∙ c.loop-i.invariant.side tells
    ∙ ap (λ (edits : List Edit). put (bytes_of Side start) 9 (head_bytes c.args.head.now ++ flat_map record_bytes edits)) all)

pub returns-clause-image : goal.returns-clause-image
returns-clause-image g c tells = sync_same Side Image _ _ _ (c.sync.ensures.held tells) ∙ c.loop-i.invariant.image tells

pub returns-clause-synced : goal.returns-clause-synced
returns-clause-synced g c tells = side_syncs _ _ _ (c.sync.ensures.held tells) (c.loop-i.invariant.durable tells)
