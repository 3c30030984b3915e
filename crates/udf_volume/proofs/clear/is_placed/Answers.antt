-- An extent that ends past its partition is not placed whole, and another where its front is all of it.
use Rattle.std.proofs.Common.{ℕ, ◌<◌, ◌==◌, arith, sym, ap, ◌∙◌, subst}
use Rattle.udf_volume.proofs.Cleared.{past_end, placed_whole}
use Rattle.udf_volume.proofs.clear.is_placed.Goals as goal

pub returns-then-extent-limit-clause-placed : goal.returns-then-extent-limit-clause-placed
returns-then-extent-limit-clause-placed g c =
    sym (past_end (g.P.Parts.place c.args.parts.now) c.args.extent.at c.args.extent.blocks (g.P.Parts.blocks c.args.parts.now c.args.extent.at.part)
    (λ a s h e.
    let P : ℕ → Type 0 = λ n. a.block < g.P.Parts.blocks c.args.parts.now n in
    subst P e (g.met.P.Parts.within_blocks c.args.parts.now a s h))
    (omega arith) (omega arith))

pub returns-clause-placed : goal.returns-clause-placed
returns-clause-placed g c =
    ap (λ (n : ℕ). n == c.args.extent.blocks) c.placed.ensures ∙ placed_whole (g.P.Parts.place c.args.parts.now) c.args.extent.at c.args.extent.blocks
