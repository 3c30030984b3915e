use Rattle.std.proofs.Common.{◌≡◌, ap, ℕ, max, List, length, get_or, arith}
use Rattle.std.proofs.lemmas.Grind.{common_steps}
use Rattle.udf_outside.proofs.SameBytes.{same_views}
use Rattle.udf_outside.proofs.memory.sparse.Sparse.same.Goals as goal

pub returns : goal.returns
returns c =
    let front = c.self.inside.front.items in
    let front' = c.other.inside.front.items in
    let close : c.max-near.result ≡ max (length front) (length front') = grind (arith, common_steps) in
    let size : length c.args.self.now ≡ length c.args.other.now = omega arith in (
      (λ yes. same_views front front' c.self.inside.len c.other.inside.len c.self.inside.blocks c.other.inside.blocks c.args.self.now c.args.other.now c.self.invariant.0 c.other.invariant.0
          c.self.view_is c.other.view_is size
          (λ i lt. c.agrees.ensures.0 c.if-not-agrees.false i (omega arith) (omega arith))
          (c.agrees_where.ensures.0 c.if-not-agrees_where.false) (c.agrees_where-2.ensures.0 yes)),
      (λ same. c.agrees_where-2.ensures.1 (λ k d lt i is. ap (λ (l : List ℕ). get_or l i 0) same)),
    )
