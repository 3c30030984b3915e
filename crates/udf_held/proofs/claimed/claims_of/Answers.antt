use Rattle.std.proofs.Common.{◌≡◌, ◌<◌, ℕ, ◌++◌, List, Option, Some, arith, sym, ap, ◌∙◌, subst}
use Rattle.udf_field.specs.declared.address.Addr.{Addr}
use Rattle.udf_claims.specs.declared.run.Run.{Run}
use Rattle.udf_tree_model.specs.Frame.{setting_of, tree_of}
use Rattle.udf_found.specs.Wanted.{fixed_wants, wants_over}
use Rattle.udf_held.specs.Winners.{TellsWinners}
use Rattle.udf_held.proofs.Deciding.{tells}
use Rattle.udf_found.proofs.Wanting.{placed_low}
use Rattle.udf_held.proofs.claimed.claims_of.Goals as goal

pub returns : goal.returns
returns g c = record {
  winners = λ f v framed s p read list.
      let blocks : ℕ → ℕ = g.P.Parts.blocks c.args.parts.now in
      let all : c.add_all.new.claims ≡ fixed_wants blocks c.args.fixed.now ++ wants_over blocks f v c.args.arena.now =
      c.in_ok-add_all.ensures f v framed.root_is s read
      ∙ ap (λ (l : List Run). l ++ wants_over blocks f v c.args.arena.now) (c.in_ok-add_fixed.ensures ∙ ap (λ (l : List Run). l ++ fixed_wants blocks c.args.fixed.now) c.new-claims.ensures) in
      let within : (a : Addr) (n : ℕ) → v.place a ≡ Some n → a.block < blocks a.part =
      subst (λ (k : Addr → Option ℕ). (a : Addr) (n : ℕ) → k a ≡ Some n → a.block < blocks a.part) (sym p) (g.met.P.Parts.within_blocks c.args.parts.now) in
      subst (TellsWinners (setting_of f v) (tree_of f v)) (sym all)
      (tells blocks f v (omega (arith, s, c.requires)) (placed_low blocks v.place within) c.args.fixed.now framed.fixed_are c.args.arena.now list);
}
