use Rattle.std.proofs.Common.{◌≡◌, ◌∙◌, ap, sym, ℕ, ◌/◌, true, false, Some, IsTrue, List}
use Rattle.udf_outside.specs.Blocks.{kept}
use Rattle.udf_outside.proofs.Sparsely.{block_goes, same_key}
use Rattle.udf_outside.proofs.memory.blocks.drop_zeros.Goals as goal
use Rattle.udf_outside.proofs.memory.blocks.drop_zeros.Goals.{in-Some, in-None}

pub returns-then-is_zeros : goal.returns-then-is_zeros
returns-then-is_zeros c i = elim c.match-get.branch [
  | in-Some w ↦
      let block : List ℕ = w.in-Some.block.now in
      let there : kept c.args.blocks.now c.args.number ≡ Some block = sym w.in-Some.ensures.value in
      let zeros : IsTrue w.is_zeros-is_zeros.result = sym w.is_zeros-is ∙ c.if-is_zeros.true in
      block_goes c.args.blocks.now c.remove.new.self c.args.number i block (w.is_zeros-is_zeros.ensures.0 zeros) (c.remove.ensures.updates.0 (i / 4096))
      (λ is. ap (λ (n : ℕ). kept c.args.blocks.now n) (sym (same_key c.args.number (i / 4096) is)) ∙ there)
  | in-None w ↦ absurd (let no : false ≡ true = sym w.is_zeros-is ∙ c.if-is_zeros.true in cc)
]
