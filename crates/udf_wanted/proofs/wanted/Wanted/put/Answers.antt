use Rattle.std.proofs.Common.{◌≡◌, ◌++◌, ◌∷◌, [], ℕ, List, rules, sym, ◌∙◌, ap, subst}
use Rattle.std.specs.List.{list_all}
use Rattle.udf_wanted.specs.Kept.{kept}
use Rattle.udf_wanted.specs.Wanted.{LookAlike}
use Rattle.udf_wanted.proofs.Keeping.{stays, comes, among}
use Rattle.udf_wanted.proofs.wanted.Wanted.put.Goals as goal

pub returns-then-contains_key-clause-put : goal.returns-then-contains_key-clause-put
returns-then-contains_key-clause-put c =
    subst (λ (edits : List (ℕ × List ℕ)). LookAlike edits (edits ++ (c.args.sector, c.args.block.now) ∷ [])) c.self.view_is
    (stays c.self.inside.blocks c.args.sector c.args.block.now (sym c.contains_key.ensures ∙ c.if-contains_key.true))

pub returns-clause-put : goal.returns-clause-put
returns-clause-put c =
    let same : c.in_ok-block.block.items ≡ c.args.block.now = search rules in
    subst (λ (edits : List (ℕ × List ℕ)). LookAlike (kept c.insert.new.self.entries) (edits ++ (c.args.sector, c.args.block.now) ∷ [])) c.self.view_is
    (comes c.self.inside.blocks c.insert.new.self c.args.sector c.in_ok-block.block c.args.block.now
    (sym c.contains_key.ensures ∙ c.if-contains_key.false) same c.in_ok-insert.ensures.updates)

pub returns-clause-among : goal.returns-clause-among
returns-clause-among c = λ test all this.
    let same : c.in_ok-block.block.items ≡ c.args.block.now = search rules in
    among test c.self.inside.blocks c.insert.new.self c.args.sector c.in_ok-block.block c.args.block.now same c.in_ok-insert.ensures.entries
    (ap (list_all test) c.self.view_is ∙ all) this
