use Rattle.std.proofs.Common.{◌≡◌, ◌∙◌, sym, ap, subst, Some}
use Rattle.udf_outside.specs.Stops.{Held, bytes_of}
use Rattle.udf_outside.specs.declared.bench.Role.TheVariants.{Image}
use Rattle.udf_volume_model.specs.Size.{size_of}
use Rattle.udf_top.specs.Udffsck.{ExaminesAt}
use Rattle.udf_top.proofs.Outcomes.{examined_sized}
use Rattle.udf_top.proofs.udffsck.check.examine.Goals as goal

pub returns-clause-answers : goal.returns-clause-answers
returns-clause-answers g c tells =
    let start = g.B.Bench.held c.args.bench.now in
    let before = c.length.ensures.held ∙ c.attach.ensures.held in
    let sized : size_of c.args.given (bytes_of Image start) ≡ Some c.in_ok-size.size =
    ap (λ (h : Held). size_of c.args.given (bytes_of Image h)) (sym before) ∙ c.in_ok-size.ensures.answers tells in
    examined_sized c.args.given (bytes_of Image start) c.in_ok-size.size sized c.examine_at.result
    (subst (λ (h : Held). ExaminesAt c.in_ok-size.size (bytes_of Image h) c.examine_at.result) (c.size_for.ensures.reads.held ∙ before) (c.examine_at.ensures.answers tells))
