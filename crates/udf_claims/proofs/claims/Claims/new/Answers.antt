use Rattle.std.proofs.Common.{ap, sym, subst}
use Rattle.std.specs.Map.{lookup}
use Rattle.std.specs.BTreeMap.{is_at}
use Rattle.std.specs.Ordering.{nat_cmp}
use Rattle.udf_claims.specs.Telling.{Tells}
use Rattle.udf_claims.proofs.Telling.{tells_none}
use Rattle.udf_claims.proofs.claims.Claims.new.Goals as goal

pub invariant_of-result : goal.invariant_of-result
invariant_of-result c = subst (Tells c.new-2.result c.new-3.result) (sym c.new.ensures.items) (tells_none c.new-2.result c.new-3.result (λ q. ap (lookup (is_at (nat_cmp q))) c.new-2.ensures.empty))
