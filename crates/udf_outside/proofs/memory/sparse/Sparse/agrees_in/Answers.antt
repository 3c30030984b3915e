use Rattle.std.proofs.Common.{◌≡◌, ⊎_elim, ◌<◌, ◌≤◌, ◌∙◌, ◌/◌, length, sym, arith}
use Rattle.std.proofs.lemmas.List.{get_or_past}
use Rattle.std.proofs.lemmas.Bool.{cases_lt}
use Rattle.udf_outside.proofs.memory.sparse.Sparse.agrees_in.Goals as goal

pub returns : goal.returns
returns c = (
  (λ yes i is. ⊎_elim
      (λ (lt : i < length c.args.self.now). c.agrees.ensures.0 yes i (omega arith) (omega arith))
      (λ (past : length c.args.self.now ≤ i). get_or_past c.args.self.now i 0 past ∙ sym (get_or_past c.args.other.now i 0 (omega arith)))
      (cases_lt i (length c.args.self.now))),
  (λ agree. c.agrees.ensures.1 (λ i le lt. let is : i / 4096 ≡ c.args.number = omega arith in agree i is)),
)
