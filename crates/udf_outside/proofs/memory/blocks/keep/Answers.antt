use Rattle.std.proofs.Common.{◌≡◌, ◌∙◌, ap, sym, ℕ, ◌/◌, None}
use Rattle.udf_outside.specs.Blocks.{kept}
use Rattle.udf_outside.proofs.Sparsely.{block_comes, same_key, none_there}
use Rattle.udf_outside.proofs.memory.blocks.keep.Goals as goal

pub returns-clause-same : goal.returns-clause-same
returns-clause-same c i =
    let none : kept c.args.blocks.now c.args.number ≡ None = none_there _ (sym c.contains_key.ensures ∙ c.if-contains_key.false) in
    block_comes c.args.blocks.now c.insert.new.self c.args.number i c.in_ok-block.block c.in_ok-block.ensures (c.in_ok-insert.ensures.updates.0 (i / 4096))
    (λ is. ap (λ (n : ℕ). kept c.args.blocks.now n) (sym (same_key c.args.number (i / 4096) is)) ∙ none)
