use Rattle.std.proofs.Common.{inl, refl, sym}
use Rattle.udf_top.specs.declared.outcome.Outcome.TheVariants as outcome
use Rattle.udf_top.proofs.Safe.{unbegun}
use Rattle.udf_top.proofs.Said.{says_same}
use Rattle.udf_top.proofs.Ends.{repairs_failed, said_as}
use Rattle.udf_top.proofs.udffsck.repair_beside.Goals as goal

pub returns-in_default-clause-repairs : goal.returns-in_default-clause-repairs
returns-in_default-clause-repairs g c tells repair is =
    let old = g.B.Bench.held c.args.bench.now in
    repairs_failed repair.size old old (unbegun repair.size old old (c.requires.synced tells) refl) outcome.Memory (λ ended. ended) (λ none. inl refl)

pub returns-clause-said : goal.returns-clause-said
returns-clause-said g c tells before told =
    says_same _ before _ _ c.repair.result
    (said_as _ c.args.given c.args.medium.now _ c.as_str-side.result.now _ c.in-Ok.ensures c.as_str-side.ensures.value (sym c.if-eq.ensures))
    (c.repair.ensures.said tells before told)
