use Rattle.std.proofs.Common.{arith, ℕ, ◌/◌, ◌∙◌, ap, refl}
use Rattle.udf_outside.specs.Stops.{bytes_of, Held}
use Rattle.udf_outside.specs.declared.bench.Role.TheVariants.{Image}
use Rattle.udf_entry.proofs.Few.{Spread}
use Rattle.udf_file_model.specs.Listing.{Volume, volume_of}
use Rattle.udf_entry.specs.ReadingView.{past_of, rules_seen}
use Rattle.udf_entry.proofs.Lists.{begins, steps, stays_spread, falls, grown_few, spread_empty}
use Rattle.udf_entry.proofs.chain.read_list.Goals as goal

pub list-init : goal.list-init
list-init g c =
    let place = g.P.Parts.place c.args.parts.now in
    let e = c.in_ok-reading.ensures.extents ∙ c.requires.fresh in
    record {
      left = λ tells. begins (rules_seen c.args.start.rules place) (volume_of c.args.start.rules.size (bytes_of Image (g.B.Bench.held c.args.bench.now)) place) c.args.kind c.args.body.now (past_of c.args.start)
          (past_of c.in_ok-reading.reading) c.in_ok-reading.next e c.in_ok-reading.ensures.outcome;
      spread = spread_empty place ((g.B.Bench.files c.args.bench.now).image.size / c.args.start.rules.size) c.in_ok-reading.reading.extents.items e;
      rules = c.in_ok-reading.ensures.rules;
      room = c.requires.room;
      files = refl;
      held = refl;
      calm = refl;
    }

-- the extents stay spread
spread_after : (g : _) (c : goal.In_ok-read g)
    → Spread (g.P.Parts.place c.args.parts.now) ((g.B.Bench.files c.args.bench.now).image.size / c.args.start.rules.size) c.in_ok-read.read.extents.items
spread_after g c =
    let place = g.P.Parts.place c.args.parts.now in
    stays_spread place ((g.B.Bench.files c.args.bench.now).image.size / c.args.start.rules.size) (rules_seen c.list.reading.rules place) (past_of c.list.reading) c.in-Onward.x
    c.in_ok-read.read.extents.items c.in_ok-read.end (λ a. refl) (g.met.P.Parts.apart_in_part c.args.parts.now)
    (λ s h. (c.requires.placed c.in-Onward.x s h, omega (arith, g.met.P.Parts.within_count c.args.parts.now c.in-Onward.x s h, g.met.P.Parts.few c.args.parts.now)))
    c.list.invariant.spread c.in_ok-read.ensures.grows

pub list-smaller : goal.list-smaller
list-smaller g c =
    falls (g.P.Parts.place c.args.parts.now) ((g.B.Bench.files c.args.bench.now).image.size / c.args.start.rules.size) (rules_seen c.list.reading.rules (g.P.Parts.place c.args.parts.now))
    (past_of c.list.reading) c.in-Onward.x c.in_ok-read.read.extents.items c.in_ok-read.end c.list.next c.in-Onward.is (spread_after g c) c.in_ok-read.ensures.grows

pub list-preserved : goal.list-preserved
list-preserved g c =
    let place = g.P.Parts.place c.args.parts.now in
    let volume : ℕ → Held → Volume = λ s h. volume_of s (bytes_of Image h) place in
    let spread = spread_after g c in
    record {
      left = λ tells.
          let sizes = g.met.B.Bench.sizes c.args.bench.now Image tells c.requires.attached in
          steps (rules_seen c.args.start.rules place) (volume c.args.start.rules.size (g.B.Bench.held c.args.bench.now)) c.args.kind c.args.body.now (past_of c.args.start)
          (rules_seen c.list.reading.rules place) (volume c.list.reading.rules.size (g.B.Bench.held c.list.bench)) (past_of c.list.reading) (past_of c.in_ok-read.read) c.in-Onward.x
          c.list.next c.in_ok-read.end (c.list.invariant.left tells) c.in-Onward.is (ap (λ z. rules_seen z place) c.list.invariant.rules)
          (ap (λ z. volume z.size (g.B.Bench.held c.list.bench)) c.list.invariant.rules ∙ ap (volume c.args.start.rules.size) c.list.invariant.held)
          (c.in_ok-read.ensures.outcome tells)
          (λ e. omega (
            arith,
            ap (λ n. n / c.args.start.rules.size) sizes,
            grown_few place ((g.B.Bench.files c.args.bench.now).image.size / c.args.start.rules.size) (rules_seen c.list.reading.rules place) (past_of c.list.reading) c.in-Onward.x
                c.in_ok-read.read.extents.items c.in_ok-read.end spread e,
          ));
      spread = spread;
      rules = c.in_ok-read.ensures.rules ∙ c.list.invariant.rules;
      room = omega (arith, c.list.invariant.room);
      files = c.in_ok-read.ensures.reads.files ∙ c.list.invariant.files;
      held = c.in_ok-read.ensures.reads.held ∙ c.list.invariant.held;
      calm = c.in_ok-read.ensures.reads.calm ∙ c.list.invariant.calm;
    }
