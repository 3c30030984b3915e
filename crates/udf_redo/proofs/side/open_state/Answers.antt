use Rattle.std.proofs.Common.{◌≡◌, ◌<◌, ◌≤◌, Bool, true, false, List, ℕ, length, drop, arith, sym, ◌∙◌, ap, subst, Ok, Result}
use Rattle.udf_outside.specs.Stops.{Held, bytes_of}
use Rattle.udf_outside.specs.declared.bench.Role.TheVariants.{Side}
use Rattle.udf_redo.specs.declared.head.LogHead.{LogHead}
use Rattle.udf_redo.specs.declared.side.SideState.{SideState}
use Rattle.udf_redo.specs.declared.side.SideState.TheVariants.{Open}
use Rattle.udf_redo.specs.declared.stop.RedoStop.{RedoStop}
use Rattle.udf_redo.specs.Log.{head_in, records_in, is_head, are_lawful, log_length}
use Rattle.udf_redo.proofs.Finding.{head_parts, head_front, short_log, unlawful_head, cut_log, unlawful_records, lawful_log}
use Rattle.udf_redo.proofs.side.open_state.Goals as goal

-- whether the records of this head in this file are lawful
abbrev are_in : List ℕ → LogHead → Bool
are_in side head = are_lawful head 0 (records_in head.size head.records (drop 61 side))

pub returns-then-length-clause-state : goal.returns-then-length-clause-state
returns-then-length-clause-state g c tells =
    let side = bytes_of Side (g.B.Bench.held c.args.bench.now) in
    let short : length side < 61 = omega (arith, g.met.B.Bench.sizes c.args.bench.now Side tells c.requires.attached, c.requires.length, c.if-length.true) in
    short_log side short

pub returns-then-not-is_lawful-clause-state : goal.returns-then-not-is_lawful-clause-state
returns-then-not-is_lawful-clause-state g c tells =
    let side = bytes_of Side (g.B.Bench.held c.args.bench.now) in
    let same : c.read-head.result ≡ head_in side = c.read-head.ensures ∙ ap (λ (l : List ℕ). head_in l) (c.in_ok-read_at.ensures.bytes tells) ∙ head_front side in
    unlawful_head side (ap (λ (h : LogHead). is_head h) (sym same) ∙ sym c.if-not-is_lawful.ensures)

pub length-requires : goal.length-requires
length-requires g c = (head_parts c.read-head.result (sym c.if-not-is_lawful.ensures)).small

pub returns-then-length-2-clause-state : goal.returns-then-length-2-clause-state
returns-then-length-2-clause-state g c tells =
    let side = bytes_of Side (g.B.Bench.held c.args.bench.now) in
    let same : c.read-head.result ≡ head_in side = c.read-head.ensures ∙ ap (λ (l : List ℕ). head_in l) (c.in_ok-read_at.ensures.bytes tells) ∙ head_front side in
    let short : length side < log_length c.read-head.result = omega (arith, g.met.B.Bench.sizes c.args.bench.now Side tells c.requires.attached, c.requires.length, c.if-length-2.true, c.length.ensures) in
    cut_log side (subst (λ (h : LogHead). length side < log_length h) same short)

pub returns-then-not-branch-clause-state : goal.returns-then-not-branch-clause-state
returns-then-not-branch-clause-state g c tells =
    let side = bytes_of Side (g.B.Bench.held c.args.bench.now) in
    let same : c.read-head.result ≡ head_in side = c.read-head.ensures ∙ ap (λ (l : List ℕ). head_in l) (c.in_ok-read_at.ensures.bytes tells) ∙ head_front side in
    let wrong : are_in side c.read-head.result ≡ false =
    ap (λ (h : Held). are_in (bytes_of Side h) c.read-head.result) (sym c.read_at.ensures.held) ∙ sym (c.in_ok-hold_lawful_records.ensures.lawful tells) ∙ c.if-not-branch.true in
    unlawful_records side (ap (λ (h : LogHead). are_in side h) (sym same) ∙ wrong)

pub returns-clause-state : goal.returns-clause-state
returns-clause-state g c tells =
    let side = bytes_of Side (g.B.Bench.held c.args.bench.now) in
    let same : c.read-head.result ≡ head_in side = c.read-head.ensures ∙ ap (λ (l : List ℕ). head_in l) (c.in_ok-read_at.ensures.bytes tells) ∙ head_front side in
    let right : are_in side c.read-head.result ≡ true =
    ap (λ (h : Held). are_in (bytes_of Side h) c.read-head.result) (sym c.read_at.ensures.held) ∙ sym (c.in_ok-hold_lawful_records.ensures.lawful tells) ∙ c.if-not-branch.false in
    let enough : log_length c.read-head.result ≤ length side = omega (arith, g.met.B.Bench.sizes c.args.bench.now Side tells c.requires.attached, c.requires.length, c.if-length-2.false, c.length.ensures) in
    lawful_log side (ap (λ (h : LogHead). is_head h) (sym same) ∙ sym c.if-not-is_lawful.ensures) (subst (λ (h : LogHead). log_length h ≤ length side) same enough) (ap (λ (h : LogHead). are_in side h) (sym same) ∙ right)
    ∙ ap (λ (h : LogHead). let state : Result SideState RedoStop = Ok (Open h) in state) (sym same)
