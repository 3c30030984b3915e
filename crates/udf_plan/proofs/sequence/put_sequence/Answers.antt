use Rattle.std.proofs.Common.{ap, sym, ◌∙◌}
use Rattle.udf_outside.specs.Stops.{Held, bytes_of}
use Rattle.udf_outside.specs.declared.bench.Role.TheVariants.{Image}
use Rattle.udf_plan.proofs.Stating.{no_sequence, sequence_put}
use Rattle.udf_plan.proofs.sequence.put_sequence.Goals as goal

pub returns-then-verdict-clause-put : goal.returns-then-verdict-clause-put
returns-then-verdict-clause-put g c = λ tells.
    no_sequence c.args.volume.now (bytes_of Image (g.B.Bench.held c.args.bench.now)) c.args.wanted.now
    (sym c.if-verdict.true ∙ (c.in_ok-verdict.ensures.verdict tells).holds)

pub returns-clause-put : goal.returns-clause-put
returns-clause-put g c = λ tells.
    sequence_put c.args.volume.now c.args.wanted.now c.put_copied.new.wanted
    (bytes_of Image (g.B.Bench.held c.args.bench.now)) (bytes_of Image (g.B.Bench.held c.sequence_verdict.new.bench))
    (sym c.if-verdict.false ∙ (c.in_ok-verdict.ensures.verdict tells).holds) (ap (λ (h : Held). bytes_of Image h) c.in_ok-verdict.ensures.reads.held)
    (c.in_ok-put_copied.ensures.put tells)
