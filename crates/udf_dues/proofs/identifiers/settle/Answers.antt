use Rattle.std.proofs.Common.{◌≡◌, ◌+◌, ◌++◌, ℕ, List, Bool, false, not, nat_eq, get_or, drop, sym, ap, ◌∙◌, subst, Option}
use Rattle.std.specs.List.{list_any}
use Rattle.std.specs.Ordering.{nat_cmp}
use Rattle.std.specs.BTreeSet.{contains}
use Rattle.udf_dues.specs.declared.identifiers.Identity.{Identity}
use Rattle.udf_dues.specs.Identifiers.{settled, settled_from}
use Rattle.udf_dues.proofs.Settling.{ids_before, before_more, seen_more, settling_more}
use Rattle.udf_dues.proofs.identifiers.settle.Goals as goal

pub loop-identity-preserved : goal.loop-identity-preserved
loop-identity-preserved c =
    let xs : List Identity = c.args.identities.now in
    let i : ℕ = c.loop-identity.identity-index in
    let d : Identity = record { id = 0; is_root = false } in
    let seen : ℕ → Bool = contains nat_cmp c.loop-identity.seen in
    let new : ℕ → Bool = contains nat_cmp c.insert.new.self in
    let inv = c.loop-identity.invariant in
    record {
      seen = λ q. seen_more (ids_before i xs) seen new (get_or xs i d).id inv.seen c.in_ok-is_first.ensures.updates.0 q ∙ sym (ap (list_any (nat_eq q)) (before_more xs i d c.loop-identity-test.true));
      rest = subst (λ (out : List (Option ℕ)). out ++ settled_from (ids_before (i + 1) xs) (drop (i + 1) xs) ≡ settled xs) (sym c.in_ok-push.ensures.items)
          (settling_more xs i d c.in_ok-is_first.is_first c.stays.result c.loop-identity.ids.items (settled xs) c.loop-identity-test.true
          (c.in_ok-is_first.ensures.added ∙ ap not (inv.seen (get_or xs i d).id)) c.stays.ensures inv.rest);
    }
