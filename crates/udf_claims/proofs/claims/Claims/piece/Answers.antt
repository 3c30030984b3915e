use Rattle.std.proofs.Common.{arith, sym, ap, ◌∙◌, ◌<◌}
use Rattle.udf_claims.specs.Best.{best_at}
use Rattle.udf_claims.specs.Winner.{claimed}
use Rattle.udf_claims.proofs.Telling.{edges, piece_best}
use Rattle.udf_claims.specs.Winner.{number}
use Rattle.udf_claims.proofs.claims.Claims.piece.Goals as goal

pub piece_at-requires-clause-edges : goal.piece_at-requires-clause-edges
piece_at-requires-clause-edges c = edges c.self.inside.latest c.self.inside.sole c.self.inside.added.items c.self.invariant

pub returns-clause-best : goal.returns-clause-best
returns-clause-best c = λ a k l h. let part : a.part < 65536 = omega (arith, c.piece_at.ensures.end) in
    sym (ap (best_at a) c.self.view_is) ∙ piece_best c.self.inside.latest c.self.inside.sole c.self.inside.added.items c.piece_at.result.best a c.self.invariant part k (c.piece_at.ensures.top (number a) l h)

pub returns-clause-bounded : goal.returns-clause-bounded
returns-clause-bounded c = record { last = λ p. sym (ap (λ rs. claimed rs (record { part = p; block = 4294967295 })) c.self.view_is) ∙ c.self.invariant.last p }
