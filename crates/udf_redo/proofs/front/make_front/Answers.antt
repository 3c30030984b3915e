use Rattle.std.proofs.Common.{◌<◌, List, ℕ, length, arith, sym, subst}
use Rattle.std.proofs.lemmas.Result.{on_ok_weaker}
use Rattle.udf_outside.specs.declared.bench.Role.TheVariants.{Image, Side}
use Rattle.udf_outside.specs.Stops.{Held, bytes_of, LeavesOnly}
use Rattle.udf_outside.proofs.Runs.{leaves_weaker}
use Rattle.udf_redo.specs.Front.{IsShort, IsShut}
use Rattle.udf_redo.specs.Runs.{IsLogging}
use Rattle.udf_redo.proofs.Logging.{short_logging, quiet_logging, named_shut, long_shut}
use Rattle.udf_redo.proofs.front.make_front.Goals as goal

pub returns-in_err-length-clause-moments : goal.returns-in_err-length-clause-moments
returns-in_err-length-clause-moments g c tells =
    quiet_logging (g.B.Bench.held c.args.bench.now) _ c.length.ensures.held (c.requires.synced tells) (c.requires.free tells)

pub returns-then-length-clause-moments : goal.returns-then-length-clause-moments
returns-then-length-clause-moments g c tells =
    let old = g.B.Bench.held c.args.bench.now in
    let moments : LeavesOnly old (g.B.Bench.held c.write_front.new.bench) (IsShort (bytes_of Image old) 9) =
    subst (λ (h : Held). LeavesOnly h (g.B.Bench.held c.write_front.new.bench) (IsShort (bytes_of Image h) 9)) c.length.ensures.held (c.write_front.ensures.moments tells) in
    leaves_weaker old _ (IsShort (bytes_of Image old) 9) (IsLogging (bytes_of Image old)) (short_logging (bytes_of Image old)) moments

pub returns-then-length-clause-shut : goal.returns-then-length-clause-shut
returns-then-length-clause-shut g c tells =
    on_ok_weaker c.write_front.result (λ is. subst (λ (s : List ℕ). IsShut s) (sym is) named_shut) (c.write_front.ensures.side tells)

pub returns-clause-moments : goal.returns-clause-moments
returns-clause-moments g c tells =
    quiet_logging (g.B.Bench.held c.args.bench.now) _ c.length.ensures.held (c.requires.synced tells) (c.requires.free tells)

pub returns-clause-shut : goal.returns-clause-shut
returns-clause-shut g c tells =
    let old = g.B.Bench.held c.args.bench.now in
    let long : 9 < length (bytes_of Side old) = omega (arith, g.met.B.Bench.sizes c.args.bench.now Side tells c.requires.writable.0, c.if-length.false, c.in_ok-length.ensures.size) in
    subst (λ (h : Held). IsShut (bytes_of Side h)) (sym c.length.ensures.held) (long_shut (bytes_of Side old) (c.requires.free tells) long)
