use Rattle.std.proofs.Common.{◌≡◌, ◌≤◌, ◌*◌, length, arith, refl, sym, ◌∙◌, ap, subst, Ok}
use Rattle.udf_outside.specs.declared.bench.Role.TheVariants.{Image, Side}
use Rattle.udf_outside.specs.Stops.{Held, bytes_of, IsDurable}
use Rattle.udf_outside.proofs.Moments.{synced_durable}
use Rattle.udf_outside.proofs.Runs.{write_other_durable}
use Rattle.udf_redo.specs.Log.{Edit}
use Rattle.udf_redo.specs.declared.head.LogHead.{LogHead}
use Rattle.udf_redo.specs.Log.{records_of}
use Rattle.udf_redo.specs.Settled.{applied}
use Rattle.udf_redo.proofs.Calls.{write_puts, on_ok, sync_same, image_syncs}
use Rattle.udf_redo.proofs.Applying.{written, all_written, none_written}
use Rattle.udf_redo.proofs.Lawful.{length-records}
use Rattle.udf_redo.proofs.Turns.{begin, block_turn, quiet, synced, applying, near_now, log_now, record_is, record_inside}
use Rattle.udf_redo.proofs.replaying.replay_records.Goals as goal

pub loop-k-init : goal.loop-k-init
loop-k-init g c =
    let start = g.B.Bench.held c.args.bench.now in record {
      files = refl;
      faults = omega arith;
      image = λ tells. none_written (bytes_of Image start) c.args.head.now.size (records_of (bytes_of Side start));
      side = λ tells. refl;
      durable = λ tells. synced_durable start Side (c.requires.synced tells);
      runs = λ tells. begin start (c.requires.log tells) (c.requires.synced tells);
    }

pub returns-in_err-sector-clause-moments : goal.returns-in_err-sector-clause-moments
returns-in_err-sector-clause-moments g c tells =
    let start = g.B.Bench.held c.args.bench.now in
    let log = c.requires.log tells in
    let middle = g.B.Bench.held c.read_record.new.bench in
    let read = quiet start log (g.B.Bench.held c.loop-k.bench) middle (c.loop-k.invariant.runs tells) c.read_record.ensures.reads.held in
    applying start log middle read

pub returns-in_err-sector-clause-again : goal.returns-in_err-sector-clause-again
returns-in_err-sector-clause-again g c tells =
    let start = g.B.Bench.held c.args.bench.now in
    let log = c.requires.log tells in
    let middle = g.B.Bench.held c.read_record.new.bench in
    let read = quiet start log (g.B.Bench.held c.loop-k.bench) middle (c.loop-k.invariant.runs tells) c.read_record.ensures.reads.held in
    (near_now start log middle read).same_applied

pub returns-in_err-sector-clause-side : goal.returns-in_err-sector-clause-side
returns-in_err-sector-clause-side g c tells =
    let start = g.B.Bench.held c.args.bench.now in
    let log = c.requires.log tells in
    let middle = g.B.Bench.held c.read_record.new.bench in
    let read = quiet start log (g.B.Bench.held c.loop-k.bench) middle (c.loop-k.invariant.runs tells) c.read_record.ensures.reads.held in
    (near_now start log middle read).same_side

pub returns-in_err-sector-clause-log : goal.returns-in_err-sector-clause-log
returns-in_err-sector-clause-log g c tells =
    let start = g.B.Bench.held c.args.bench.now in
    let log = c.requires.log tells in
    let middle = g.B.Bench.held c.read_record.new.bench in
    let read = quiet start log (g.B.Bench.held c.loop-k.bench) middle (c.loop-k.invariant.runs tells) c.read_record.ensures.reads.held in
    log_now start log middle read

pub returns-in_err-write_inside-clause-moments : goal.returns-in_err-write_inside-clause-moments
returns-in_err-write_inside-clause-moments g c tells =
    let start = g.B.Bench.held c.args.bench.now in
    let log = c.requires.log tells in
    let middle = g.B.Bench.held c.read_record.new.bench in
    let read = quiet start log (g.B.Bench.held c.loop-k.bench) middle (c.loop-k.invariant.runs tells) c.read_record.ensures.reads.held in
    let new = g.B.Bench.held c.write_inside.new.bench in
    let head = c.args.head.now in
    let same = c.requires.head tells in
    let edit : Edit = (c.in_ok-sector.sector, c.read_record.new.block) in
    let got = record_is start log head same (g.B.Bench.held c.loop-k.bench) c.loop-k.k edit (c.loop-k.invariant.side tells) (c.in_ok-sector.ensures.record tells) in
    let inside = record_inside start log head same c.loop-k.k edit got in
    let long = g.met.B.Bench.sizes c.args.bench.now Image tells c.requires.writable.0 in
    let writes = c.write_inside.ensures.writes tells (omega (arith, inside, long, c.requires.image)) in
    let within : edit.0 * head.size ≤ length (bytes_of Image middle) = omega (arith, inside, (near_now start log middle read).same_length) in
    let run = block_turn start log middle new head.size (records_of (bytes_of Side start)) c.loop-k.k edit c.write_inside.result (ap (λ (h : LogHead). h.size) same) refl got read within writes in
    applying start log new run

pub returns-in_err-write_inside-clause-again : goal.returns-in_err-write_inside-clause-again
returns-in_err-write_inside-clause-again g c tells =
    let start = g.B.Bench.held c.args.bench.now in
    let log = c.requires.log tells in
    let middle = g.B.Bench.held c.read_record.new.bench in
    let read = quiet start log (g.B.Bench.held c.loop-k.bench) middle (c.loop-k.invariant.runs tells) c.read_record.ensures.reads.held in
    let new = g.B.Bench.held c.write_inside.new.bench in
    let head = c.args.head.now in
    let same = c.requires.head tells in
    let edit : Edit = (c.in_ok-sector.sector, c.read_record.new.block) in
    let got = record_is start log head same (g.B.Bench.held c.loop-k.bench) c.loop-k.k edit (c.loop-k.invariant.side tells) (c.in_ok-sector.ensures.record tells) in
    let inside = record_inside start log head same c.loop-k.k edit got in
    let long = g.met.B.Bench.sizes c.args.bench.now Image tells c.requires.writable.0 in
    let writes = c.write_inside.ensures.writes tells (omega (arith, inside, long, c.requires.image)) in
    let within : edit.0 * head.size ≤ length (bytes_of Image middle) = omega (arith, inside, (near_now start log middle read).same_length) in
    let run = block_turn start log middle new head.size (records_of (bytes_of Side start)) c.loop-k.k edit c.write_inside.result (ap (λ (h : LogHead). h.size) same) refl got read within writes in
    (near_now start log new run).same_applied

pub returns-in_err-write_inside-clause-side : goal.returns-in_err-write_inside-clause-side
returns-in_err-write_inside-clause-side g c tells =
    let start = g.B.Bench.held c.args.bench.now in
    let log = c.requires.log tells in
    let middle = g.B.Bench.held c.read_record.new.bench in
    let read = quiet start log (g.B.Bench.held c.loop-k.bench) middle (c.loop-k.invariant.runs tells) c.read_record.ensures.reads.held in
    let new = g.B.Bench.held c.write_inside.new.bench in
    let head = c.args.head.now in
    let same = c.requires.head tells in
    let edit : Edit = (c.in_ok-sector.sector, c.read_record.new.block) in
    let got = record_is start log head same (g.B.Bench.held c.loop-k.bench) c.loop-k.k edit (c.loop-k.invariant.side tells) (c.in_ok-sector.ensures.record tells) in
    let inside = record_inside start log head same c.loop-k.k edit got in
    let long = g.met.B.Bench.sizes c.args.bench.now Image tells c.requires.writable.0 in
    let writes = c.write_inside.ensures.writes tells (omega (arith, inside, long, c.requires.image)) in
    let within : edit.0 * head.size ≤ length (bytes_of Image middle) = omega (arith, inside, (near_now start log middle read).same_length) in
    let run = block_turn start log middle new head.size (records_of (bytes_of Side start)) c.loop-k.k edit c.write_inside.result (ap (λ (h : LogHead). h.size) same) refl got read within writes in
    (near_now start log new run).same_side

pub returns-in_err-write_inside-clause-log : goal.returns-in_err-write_inside-clause-log
returns-in_err-write_inside-clause-log g c tells =
    let start = g.B.Bench.held c.args.bench.now in
    let log = c.requires.log tells in
    let middle = g.B.Bench.held c.read_record.new.bench in
    let read = quiet start log (g.B.Bench.held c.loop-k.bench) middle (c.loop-k.invariant.runs tells) c.read_record.ensures.reads.held in
    let new = g.B.Bench.held c.write_inside.new.bench in
    let head = c.args.head.now in
    let same = c.requires.head tells in
    let edit : Edit = (c.in_ok-sector.sector, c.read_record.new.block) in
    let got = record_is start log head same (g.B.Bench.held c.loop-k.bench) c.loop-k.k edit (c.loop-k.invariant.side tells) (c.in_ok-sector.ensures.record tells) in
    let inside = record_inside start log head same c.loop-k.k edit got in
    let long = g.met.B.Bench.sizes c.args.bench.now Image tells c.requires.writable.0 in
    let writes = c.write_inside.ensures.writes tells (omega (arith, inside, long, c.requires.image)) in
    let within : edit.0 * head.size ≤ length (bytes_of Image middle) = omega (arith, inside, (near_now start log middle read).same_length) in
    let run = block_turn start log middle new head.size (records_of (bytes_of Side start)) c.loop-k.k edit c.write_inside.result (ap (λ (h : LogHead). h.size) same) refl got read within writes in
    log_now start log new run

pub loop-k-preserved : goal.loop-k-preserved
loop-k-preserved g c = record {
  files = c.write_inside.ensures.files ∙ c.read_record.ensures.reads.files ∙ c.loop-k.invariant.files;
  faults = omega (arith, c.loop-k.invariant.faults, c.read_record.ensures.reads.later, c.write_inside.ensures.cause.later);
  image = λ tells.
      let start = g.B.Bench.held c.args.bench.now in
      let log = c.requires.log tells in
      let middle = g.B.Bench.held c.read_record.new.bench in
      let read = quiet start log (g.B.Bench.held c.loop-k.bench) middle (c.loop-k.invariant.runs tells) c.read_record.ensures.reads.held in
      let new = g.B.Bench.held c.write_inside.new.bench in
      let head = c.args.head.now in
      let same = c.requires.head tells in
      let edit : Edit = (c.in_ok-sector.sector, c.read_record.new.block) in
      let got = record_is start log head same (g.B.Bench.held c.loop-k.bench) c.loop-k.k edit (c.loop-k.invariant.side tells) (c.in_ok-sector.ensures.record tells) in
      let inside = record_inside start log head same c.loop-k.k edit got in
      let long = g.met.B.Bench.sizes c.args.bench.now Image tells c.requires.writable.0 in
      let done = c.in_ok-write_inside.ensures.writes tells (omega (arith, inside, long, c.requires.image)) in
      written (bytes_of Image start) head.size (records_of (bytes_of Side start)) c.loop-k.k edit (bytes_of Image middle) (bytes_of Image new) got
      (ap (λ (h : Held). bytes_of Image h) c.read_record.ensures.reads.held ∙ c.loop-k.invariant.image tells) (write_puts Image _ _ _ _ (Ok c.in_ok-write_inside.field-0) done);
  side = λ tells.
      let start = g.B.Bench.held c.args.bench.now in
      let log = c.requires.log tells in
      let middle = g.B.Bench.held c.read_record.new.bench in
      let read = quiet start log (g.B.Bench.held c.loop-k.bench) middle (c.loop-k.invariant.runs tells) c.read_record.ensures.reads.held in
      let new = g.B.Bench.held c.write_inside.new.bench in
      let head = c.args.head.now in
      let same = c.requires.head tells in
      let edit : Edit = (c.in_ok-sector.sector, c.read_record.new.block) in
      let got = record_is start log head same (g.B.Bench.held c.loop-k.bench) c.loop-k.k edit (c.loop-k.invariant.side tells) (c.in_ok-sector.ensures.record tells) in
      let inside = record_inside start log head same c.loop-k.k edit got in
      let long = g.met.B.Bench.sizes c.args.bench.now Image tells c.requires.writable.0 in
      let writes = c.write_inside.ensures.writes tells (omega (arith, inside, long, c.requires.image)) in
      let within : edit.0 * head.size ≤ length (bytes_of Image middle) = omega (arith, inside, (near_now start log middle read).same_length) in
      let run = block_turn start log middle new head.size (records_of (bytes_of Side start)) c.loop-k.k edit c.write_inside.result (ap (λ (h : LogHead). h.size) same) refl got read within writes in
      (near_now start log new run).same_side;
  durable = λ tells.
      let start = g.B.Bench.held c.args.bench.now in
      let log = c.requires.log tells in
      let middle = g.B.Bench.held c.read_record.new.bench in
      let read = quiet start log (g.B.Bench.held c.loop-k.bench) middle (c.loop-k.invariant.runs tells) c.read_record.ensures.reads.held in
      let new = g.B.Bench.held c.write_inside.new.bench in
      let head = c.args.head.now in
      let same = c.requires.head tells in
      let edit : Edit = (c.in_ok-sector.sector, c.read_record.new.block) in
      let got = record_is start log head same (g.B.Bench.held c.loop-k.bench) c.loop-k.k edit (c.loop-k.invariant.side tells) (c.in_ok-sector.ensures.record tells) in
      let inside = record_inside start log head same c.loop-k.k edit got in
      let long = g.met.B.Bench.sizes c.args.bench.now Image tells c.requires.writable.0 in
      let writes = c.write_inside.ensures.writes tells (omega (arith, inside, long, c.requires.image)) in
      write_other_durable Image _ _ middle new _ writes (subst (λ (h : Held). IsDurable Side h) (sym c.read_record.ensures.reads.held) (c.loop-k.invariant.durable tells));
  runs = λ tells.
      let start = g.B.Bench.held c.args.bench.now in
      let log = c.requires.log tells in
      let middle = g.B.Bench.held c.read_record.new.bench in
      let read = quiet start log (g.B.Bench.held c.loop-k.bench) middle (c.loop-k.invariant.runs tells) c.read_record.ensures.reads.held in
      let new = g.B.Bench.held c.write_inside.new.bench in
      let head = c.args.head.now in
      let same = c.requires.head tells in
      let edit : Edit = (c.in_ok-sector.sector, c.read_record.new.block) in
      let got = record_is start log head same (g.B.Bench.held c.loop-k.bench) c.loop-k.k edit (c.loop-k.invariant.side tells) (c.in_ok-sector.ensures.record tells) in
      let inside = record_inside start log head same c.loop-k.k edit got in
      let long = g.met.B.Bench.sizes c.args.bench.now Image tells c.requires.writable.0 in
      let writes = c.write_inside.ensures.writes tells (omega (arith, inside, long, c.requires.image)) in
      let within : edit.0 * head.size ≤ length (bytes_of Image middle) = omega (arith, inside, (near_now start log middle read).same_length) in
      let run = block_turn start log middle new head.size (records_of (bytes_of Side start)) c.loop-k.k edit c.write_inside.result (ap (λ (h : LogHead). h.size) same) refl got read within writes in
      run;
}

pub returns-clause-moments : goal.returns-clause-moments
returns-clause-moments g c tells =
    let start = g.B.Bench.held c.args.bench.now in
    let log = c.requires.log tells in
    let new = g.B.Bench.held c.sync.new.self in
    let run = synced start log (g.B.Bench.held c.loop-k.bench) new c.sync.result (c.loop-k.invariant.runs tells) (c.sync.ensures.held tells) in
    applying start log new run

pub returns-clause-again : goal.returns-clause-again
returns-clause-again g c tells =
    let start = g.B.Bench.held c.args.bench.now in
    let log = c.requires.log tells in
    let new = g.B.Bench.held c.sync.new.self in
    let run = synced start log (g.B.Bench.held c.loop-k.bench) new c.sync.result (c.loop-k.invariant.runs tells) (c.sync.ensures.held tells) in
    (near_now start log new run).same_applied

pub returns-clause-side : goal.returns-clause-side
returns-clause-side g c tells =
    let start = g.B.Bench.held c.args.bench.now in
    let log = c.requires.log tells in
    let new = g.B.Bench.held c.sync.new.self in
    let run = synced start log (g.B.Bench.held c.loop-k.bench) new c.sync.result (c.loop-k.invariant.runs tells) (c.sync.ensures.held tells) in
    (near_now start log new run).same_side

pub returns-clause-log : goal.returns-clause-log
returns-clause-log g c tells =
    let start = g.B.Bench.held c.args.bench.now in
    let log = c.requires.log tells in
    let new = g.B.Bench.held c.sync.new.self in
    let run = synced start log (g.B.Bench.held c.loop-k.bench) new c.sync.result (c.loop-k.invariant.runs tells) (c.sync.ensures.held tells) in
    log_now start log new run

pub returns-clause-image : goal.returns-clause-image
returns-clause-image g c tells =
    let start = g.B.Bench.held c.args.bench.now in
    let side = bytes_of Side start in
    let head = c.args.head.now in
    let same = c.requires.head tells in
    let count : length (records_of side) ≡ head.records = length-records _ _ _ ∙ ap (λ (h : LogHead). h.records) same in
    on_ok c.sync.result _ (sync_same Image Image _ _ _ (c.sync.ensures.held tells)
    ∙ all_written (bytes_of Image start) head.size (records_of side) c.loop-k.k (bytes_of Image (g.B.Bench.held c.loop-k.bench)) (omega (arith, count)) (c.loop-k.invariant.image tells)
    ∙ ap (λ (h : LogHead). applied h.size (records_of side) (bytes_of Image start)) (sym same))

pub returns-clause-synced : goal.returns-clause-synced
returns-clause-synced g c tells = image_syncs _ _ c.sync.result (c.sync.ensures.held tells) (c.loop-k.invariant.durable tells)
