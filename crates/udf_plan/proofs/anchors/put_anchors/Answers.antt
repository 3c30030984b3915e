use Rattle.std.proofs.Common.{ℕ, List, sym, ap, subst, ◌∙◌}
use Rattle.udf_outside.specs.Stops.{Held, bytes_of}
use Rattle.udf_outside.specs.declared.bench.Role.TheVariants.{Image}
use Rattle.udf_wanted.specs.Writable.{AreFree}
use Rattle.udf_plan.proofs.Free.{bad_free}
use Rattle.udf_plan.proofs.Stating.{no_anchors, anchors_put}
use Rattle.udf_plan.proofs.anchors.put_anchors.Goals as goal

pub returns-then-verdict-clause-put : goal.returns-then-verdict-clause-put
returns-then-verdict-clause-put g c = λ tells.
    no_anchors c.args.opened.now (bytes_of Image (g.B.Bench.held c.args.bench.now)) c.args.wanted.now
    (sym c.if-verdict.true ∙ (c.in_ok-verdict.ensures.verdict tells).holds)

pub put_at_places-requires-clause-free : goal.put_at_places-requires-clause-free
put_at_places-requires-clause-free g c =
    subst (λ (places : List ℕ). AreFree c.args.opened.now.volume places) (sym c.deref.ensures.value)
    (bad_free c.args.opened.now.volume c.requires.over.over.bounded c.args.opened.now.layout c.requires.over.taken c.in_ok-verdict.verdict c.in_ok-verdict.ensures.places)

pub returns-clause-put : goal.returns-clause-put
returns-clause-put g c = λ tells.
    let judged = c.in_ok-verdict.ensures.verdict tells in
    anchors_put c.args.opened.now c.args.wanted.now c.put_at_places.new.wanted
    (bytes_of Image (g.B.Bench.held c.args.bench.now)) (bytes_of Image (g.B.Bench.held c.anchor_verdict.new.bench)) c.deref.result.now
    (sym c.if-verdict.false ∙ judged.holds) (ap (λ (h : Held). bytes_of Image h) c.in_ok-verdict.ensures.reads.held)
    (c.deref.ensures.value ∙ judged.bad) (c.in_ok-put_at_places.ensures.put tells)
