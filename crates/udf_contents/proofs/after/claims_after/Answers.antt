use Rattle.std.proofs.Common.{◌≡◌, ◌<◌, ◌++◌, ℕ, List, Option, Some, sym, ap, ◌∙◌, subst}
use Rattle.udf_field.specs.declared.address.Addr.{Addr}
use Rattle.udf_claims.specs.declared.run.Run.{Run}
use Rattle.udf_found.specs.Wanted.{fixed_wants}
use Rattle.udf_contents.proofs.Taking.{taken_is}
use Rattle.udf_found.proofs.Wanting.{placed_low}
use Rattle.udf_contents.proofs.after.claims_after.Goals as goal

pub returns : goal.returns
returns g c f v fixed_are z p set starts held kept contents =
    let blocks : ℕ → ℕ = g.P.Parts.blocks c.args.parts.now in
    let within : (a : Addr) (n : ℕ) → v.place a ≡ Some n → a.block < blocks a.part =
    subst (λ (k : Addr → Option ℕ). (a : Addr) (n : ℕ) → k a ≡ Some n → a.block < blocks a.part) (sym p) (g.met.P.Parts.within_blocks c.args.parts.now) in
    taken_is blocks f v c.args.fixed.now c.args.held.now c.add_fixed.new.claims c.add_all.new.claims (placed_low blocks v.place within) fixed_are starts held
    (c.in_ok-add_fixed.ensures ∙ ap (λ (l : List Run). l ++ fixed_wants blocks c.args.fixed.now) c.new-claims.ensures)
    (c.in_ok-add_all.ensures f v z set held kept contents)
