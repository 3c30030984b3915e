use Rattle.std.proofs.Common.{◌≡◌, Err, sym, subst, rules}
use Rattle.udf_model.proofs.Sizes.{large}
use Rattle.udf_outside.specs.Stops.{Held, bytes_of}
use Rattle.udf_outside.specs.declared.bench.Role.TheVariants.{Image}
use Rattle.udf_top.specs.Udffsck.{ExaminesAt, ExaminesVolume}
use Rattle.udf_top.proofs.Examining.{not_opened, of_opened}
use Rattle.udf_top.proofs.udffsck.check.examine_at.Goals as goal

pub open_layout-requires-clause-large : goal.open_layout-requires-clause-large
open_layout-requires-clause-large g c = large c.args.size c.requires.size

pub returns-in_err-opened-clause-answers : goal.returns-in_err-opened-clause-answers
returns-in_err-opened-clause-answers g c tells =
    let image = bytes_of Image (g.B.Bench.held c.args.bench.now) in
    let is : c.from_residual.result ≡ Err c.in_err-opened.field-0.0 = search rules in
    subst (ExaminesAt c.args.size image) (sym is) (not_opened c.args.size image c.in_err-opened.field-0.0 (c.in_err-opened.ensures.answers tells))

pub returns-clause-answers : goal.returns-clause-answers
returns-clause-answers g c tells =
    let image = bytes_of Image (g.B.Bench.held c.args.bench.now) in
    of_opened c.args.size image c.in_ok-opened.opened.volume c.examine_opened.result (c.in_ok-opened.ensures.answers tells).0
    (subst (λ (h : Held). ExaminesVolume c.in_ok-opened.opened.volume (bytes_of Image h) c.examine_opened.result) c.open_layout.ensures.reads.held (c.examine_opened.ensures.answers tells))
