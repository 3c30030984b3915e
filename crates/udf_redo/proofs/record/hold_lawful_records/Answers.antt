use Rattle.std.proofs.Common.{rules, ◌≡◌, ◌+◌, ◌*◌, true, false, ℕ, length, arith, sym, ◌∙◌, ap}
use Rattle.udf_outside.specs.Stops.{Held, bytes_of, slice_of}
use Rattle.udf_outside.specs.declared.bench.Role.TheVariants.{Side}
use Rattle.udf_redo.specs.Log.{may_stand, are_lawful}
use Rattle.udf_redo.proofs.Finding.{head_parts, left_first, lawful_turn, lawful_end, lawful_stops, lawful_goes_on}
use Rattle.udf_redo.proofs.record.hold_lawful_records.Goals as goal

pub place-requires : goal.place-requires
place-requires g c = omega (arith, (head_parts c.args.head.now c.requires.lawful).small)

pub loop-k-init : goal.loop-k-init
loop-k-init g c =
    let side = bytes_of Side (g.B.Bench.held c.args.bench.now) in record {
      files = search rules;
      held = search rules;
      faults = search rules;
      rest = λ tells. ap (λ q. are_lawful c.args.head.now 0 q) (left_first side c.args.head.now);
    }

pub returns-then-not-may_hold-clause-lawful : goal.returns-then-not-may_hold-clause-lawful
returns-then-not-may_hold-clause-lawful g c tells =
    let start = g.B.Bench.held c.args.bench.now in
    let side = bytes_of Side start in
    let at = 61 + c.loop-k.k * (4 + c.args.head.now.size) in
    let long : length c.loop-k.number ≡ 4 = search rules in
    let four : c.read_at.new.into ≡ slice_of side at 4 =
    c.in_ok-read_at.ensures.bytes tells ∙ ap (λ (n : ℕ). slice_of (bytes_of Side (g.B.Bench.held c.loop-k.bench)) c.place.result n) long
    ∙ ap (λ (h : Held). slice_of (bytes_of Side h) c.place.result 4) c.loop-k.invariant.held ∙ ap (λ (n : ℕ). slice_of side n 4) c.place.ensures in
    let wrong : may_stand c.args.head.now c.loop-k.least c.read_u32-sector.result ≡ false = sym c.if-not-may_hold.ensures.value in
    sym (c.loop-k.invariant.rest tells ∙ lawful_turn side c.args.head.now c.loop-k.least c.loop-k.k c.read_u32-sector.result c.read_at.new.into c.loop-k-test.true four c.read_u32-sector.ensures ∙ lawful_stops _ _ wrong)

pub loop-k-preserved : goal.loop-k-preserved
loop-k-preserved g c =
    let start = g.B.Bench.held c.args.bench.now in
    let side = bytes_of Side start in
    let at = 61 + c.loop-k.k * (4 + c.args.head.now.size) in record {
      files = c.read_at.ensures.files ∙ c.loop-k.invariant.files;
      held = c.read_at.ensures.held ∙ c.loop-k.invariant.held;
      faults = c.in_ok-read_at.ensures.calm ∙ c.loop-k.invariant.faults;
      rest = λ tells.
          let long : length c.loop-k.number ≡ 4 = search rules in
          let four : c.read_at.new.into ≡ slice_of side at 4 =
          c.in_ok-read_at.ensures.bytes tells ∙ ap (λ (n : ℕ). slice_of (bytes_of Side (g.B.Bench.held c.loop-k.bench)) c.place.result n) long
          ∙ ap (λ (h : Held). slice_of (bytes_of Side h) c.place.result 4) c.loop-k.invariant.held ∙ ap (λ (n : ℕ). slice_of side n 4) c.place.ensures in
          let right : may_stand c.args.head.now c.loop-k.least c.read_u32-sector.result ≡ true = sym c.if-not-may_hold.ensures.value in
          c.loop-k.invariant.rest tells ∙ lawful_turn side c.args.head.now c.loop-k.least c.loop-k.k c.read_u32-sector.result c.read_at.new.into c.loop-k-test.true four c.read_u32-sector.ensures ∙ lawful_goes_on _ _ right;
    }

pub returns-clause-lawful : goal.returns-clause-lawful
returns-clause-lawful g c tells =
    let side = bytes_of Side (g.B.Bench.held c.args.bench.now) in
    sym (c.loop-k.invariant.rest tells ∙ lawful_end side c.args.head.now c.loop-k.least c.loop-k.k (omega arith))
