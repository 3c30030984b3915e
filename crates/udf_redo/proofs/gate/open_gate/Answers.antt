use Rattle.std.proofs.Common.{drop, List, ℕ, sym, ◌∙◌, ap, subst}
use Rattle.udf_outside.specs.declared.bench.Role.TheVariants.{Image, Side}
use Rattle.udf_outside.specs.Stops.{bytes_of}
use Rattle.udf_outside.proofs.Runs.{leaves_weaker}
use Rattle.udf_redo.proofs.Gates.{opening, some_opened}
use Rattle.udf_redo.specs.Front.{IsGated}
use Rattle.udf_redo.specs.Runs.{IsOpening}
use Rattle.udf_redo.specs.Log.{opened, head_in, records_of}
use Rattle.udf_redo.specs.Settled.{IsOpenLog}
use Rattle.udf_redo.proofs.States.{same_head, same_records}
use Rattle.udf_redo.proofs.gate.open_gate.Goals as goal

pub set_gate-requires-clause-some : goal.set_gate-requires-clause-some
set_gate-requires-clause-some g c tells = some_opened _ _ (c.requires.log tells)

pub returns-in_err-set_gate-clause-moments : goal.returns-in_err-set_gate-clause-moments
returns-in_err-set_gate-clause-moments g c tells =
    let old = g.B.Bench.held c.args.bench.now in
    leaves_weaker old _ (IsGated (bytes_of Image old) (drop 1 (bytes_of Side old))) (IsOpening (bytes_of Side old) (bytes_of Image old)) (opening _ _ (c.requires.log tells)) (c.set_gate.ensures.moments tells)

pub returns-clause-moments : goal.returns-clause-moments
returns-clause-moments g c tells =
    let old = g.B.Bench.held c.args.bench.now in
    leaves_weaker old _ (IsGated (bytes_of Image old) (drop 1 (bytes_of Side old))) (IsOpening (bytes_of Side old) (bytes_of Image old)) (opening _ _ (c.requires.log tells)) (c.set_gate.ensures.moments tells)

pub returns-clause-log : goal.returns-clause-log
returns-clause-log g c tells =
    let old = g.B.Bench.held c.args.bench.now in
    let new = g.B.Bench.held c.set_gate.new.bench in
    subst (λ (s : List ℕ). IsOpenLog s (bytes_of Image new)) (sym (c.in_ok-set_gate.ensures.side tells))
    (subst (λ (v : List ℕ). IsOpenLog (opened (bytes_of Side old)) v) (sym (c.set_gate.ensures.image tells)) (c.requires.log tells))

pub returns-clause-head : goal.returns-clause-head
returns-clause-head g c tells =
    let side = bytes_of Side (g.B.Bench.held c.args.bench.now) in
    ap (λ (s : List ℕ). head_in s) (c.in_ok-set_gate.ensures.side tells) ∙ same_head side 0x4F (some_opened side _ (c.requires.log tells))

pub returns-clause-records : goal.returns-clause-records
returns-clause-records g c tells =
    let side = bytes_of Side (g.B.Bench.held c.args.bench.now) in
    ap (λ (s : List ℕ). records_of s) (c.in_ok-set_gate.ensures.side tells) ∙ same_records side 0x4F (some_opened side _ (c.requires.log tells))
