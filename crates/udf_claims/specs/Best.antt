-- The strongest want of an address, run by run.
use Rattle.std.specs.Prelude.{Bool, false, ℕ, not, ◌&&◌, cond, List, Option, Some, None, nat_eq, nat_lt}
use Rattle.std.specs.List.{fold}
use Rattle.udf_field.specs.declared.address.Addr.{Addr}
use Rattle.udf_claims.specs.declared.best.Best.{Best}
use Rattle.udf_claims.specs.declared.run.Run.{Run}
use Rattle.udf_claims.specs.Winner.{covers}

-- whether this is the owner
unfoldable pub is_owner : Option ℕ → ℕ → Bool
is_owner None owner = false
is_owner (Some o) owner = nat_eq o owner

-- the least class on an address, with its owner where one alone has it, after one run more that holds the address
unfoldable pub join : Option Best → Run → Best
join None r = record { class = r.class; owner = Some r.owner }
join (Some b) r = cond (nat_lt r.class b.class) (record { class = r.class; owner = Some r.owner }) (cond (nat_eq r.class b.class && not (is_owner b.owner r.owner)) (record { class = b.class; owner = None }) b)

unfoldable pub best_step : Addr → Option Best → Run → Option Best
best_step a b r = cond (covers r a) (Some (join b r)) b

unfoldable pub best_at : Addr → List Run → Option Best
best_at a rs = fold (best_step a) None rs

-- the owner of the best, where it is the only one
unfoldable pub champion : Option Best → Option ℕ
champion None = None
champion (Some b) = b.owner

-- whether the best is this owner's alone
unfoldable pub won : Option Best → ℕ → Bool
won b owner = is_owner (champion b) owner
