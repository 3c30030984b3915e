-- Two tables of a block each, in an image of four blocks.
use Rattle.std.proofs.Common.{◌≡◌, ℕ, ◌+◌, ◌*◌, ◌<◌, ◌≤◌, ◌∷◌, [], zero, suc, arith, ap}
use Rattle.std.specs.Prelude.{slice_index}
use Rattle.udf_outside.specs.Files.{Files}
use Rattle.udf_layer.specs.Tables.{area_bytes}
use Rattle.udf_layer.proofs.tests.used.Goals as goal

one_block : area_bytes 512 512 ≡ 512
unfolding area_bytes
one_block = omega arith

lies_within : (size i : ℕ) → 2048 ≤ size → i < 2 → slice_index (1 ∷ 2 ∷ 0 ∷ 0 ∷ []) i * 512 + area_bytes 512 512 ≤ size
lies_within size zero room h = omega (arith, one_block)
lies_within size (suc zero) room h = omega (arith, one_block)
lies_within size (suc (suc i)) room h = absurd (omega arith)

pub sparing_table-requires-clause-map : goal.sparing_table-requires-clause-map
sparing_table-requires-clause-map c = record {
  packet = omega arith;
  few = omega arith;
  some = omega arith;
  within = λ i h. lies_within _ i (omega (arith, c.if-branch-lt2048.false, c.in_ok-length.ensures.size, ap (λ (f : Files). f.image.size) c.in_ok-length.ensures.files)) h;
}

pub table_verdict-requires-clause-map : goal.table_verdict-requires-clause-map
table_verdict-requires-clause-map c = record {
  packet = omega arith;
  few = omega arith;
  some = omega arith;
  within = λ i h. lies_within _ i (omega (
    arith,
    c.if-branch-lt2048.false,
    c.in_ok-length.ensures.size,
    ap (λ (f : Files). f.image.size) c.in_ok-length.ensures.files,
    ap (λ (f : Files). f.image.size) c.in_ok-table.ensures.reads.files,
  )) h;
}
