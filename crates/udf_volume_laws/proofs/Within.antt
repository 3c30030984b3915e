-- The edits lie in the image.
use Rattle.std.proofs.Common.{◌≡◌, ℕ, zero, suc, ◌+◌, ◌*◌, ◌/◌, ◌%◌, ◌<◌, ◌≤◌, arith, ◌∙◌, List, [], ◌∷◌, ◌++◌, length, Bool, true, false, cond}
use Rattle.std.proofs.Math.Nat.{mul-le-mul_right}
use Rattle.std.proofs.lemmas.Nat.{div-add-mod'}
use Rattle.udf_model.specs.Tag.{whole_id, is_id, relocated}
use Rattle.udf_model.proofs.Relocated.{relocated_length}
use Rattle.udf_volume_model.specs.Mended.{terminator, copies, end_block}
use Rattle.udf_volume_laws.proofs.Copies.{terminator_length}
use Rattle.udf_volume_laws.proofs.Puts.{AreWithin}

-- a block below the count of whole blocks ends in the image
pub block_ends : (size whole n : ℕ) → n < whole / size → n * size + size ≤ whole
block_ends size whole n h =
    let e : whole / size * size + whole % size ≡ whole = div-add-mod' whole size in
    let order : (n + 1) * size ≤ whole / size * size = mul-le-mul_right size (let l : n + 1 ≤ whole / size = omega arith in l) in
    omega arith

pub both_within : (size whole : ℕ) (edits more : List (ℕ × List ℕ)) → AreWithin size whole edits → AreWithin size whole more → AreWithin size whole (edits ++ more)
both_within size whole [] more h k = k
both_within size whole (edit ∷ edits) more h k = (h.0, h.1, both_within size whole edits more h.2 k)

end_length : (size at : ℕ) (block like : List ℕ) → 512 ≤ size → length block ≡ size → length (end_block size at block like) ≡ size
unfolding end_block
end_length size at block like h long = by_test (is_id 8 (whole_id block)) where
  by_test : (b : Bool) → length (cond b (relocated at block) (terminator size at like)) ≡ size
  by_test true = relocated_length at block (omega arith) ∙ long
  by_test false = terminator_length size at like h

pub copies_within : (size whole : ℕ) (disk : ℕ → List ℕ) (like : List ℕ) (count from to : ℕ) → 512 ≤ size
    → ((n : ℕ) → from ≤ n → n ≤ from + count → length (disk n) ≡ size) → ((n : ℕ) → n ≤ to + count → n * size + size ≤ whole)
    → AreWithin size whole (copies size disk like from to count)
unfolding copies
copies_within size whole disk like zero from to h long room = (end_length size to (disk from) like h (long from (omega arith) (omega arith)), room to (omega arith), tt)
copies_within size whole disk like (suc count) from to h long room = (
  relocated_length to (disk from) (omega (arith, long from (omega arith) (omega arith))) ∙ long from (omega arith) (omega arith),
  room to (omega arith),
  copies_within size whole disk like count (from + 1) (to + 1) h (λ n l k. long n (omega arith) (omega arith)) (λ n l. room n (omega arith)),
)
