-- The sealed sectors, block by block.
use Rattle.std.proofs.Common.{◌≡◌, ℕ, ◌+◌, ◌*◌, List, [], ◌++◌, drop, take, sym, ◌∙◌, ap, arith, add-one}
use Rattle.std.proofs.Math.Nat.{add-mul, suc-mul}
use Rattle.std.proofs.lemmas.List.{same_lists, places, drop-drop}
use Rattle.udf_model.specs.Image.{block_of}
use Rattle.udf_outside.specs.Stops.{slice_of}

take_then : (m n : ℕ) (l : List ℕ) → take (m + n) l ≡ take m l ++ take n (drop m l)
take_then m n l = same_lists _ _ (grind (arith, places)) (λ k d h. grind (arith, places))

pub sealed_more : (image : List ℕ) (size first i : ℕ) → slice_of image (first * size) (i * size) ++ block_of size image (first + i) ≡ slice_of image (first * size) ((i + 1) * size)
unfolding block_of
sealed_more image size first i =
    let front = drop (first * size) image in
    let step : (i + 1) * size ≡ i * size + size = rw add-one (suc-mul i size) in
    let place : (first + i) * size ≡ first * size + i * size = add-mul first i size in
    ap (λ (n : ℕ). take (i * size) front ++ take size (drop n image)) place ∙ ap (λ (l : List ℕ). take (i * size) front ++ take size l) (sym (drop-drop (i * size) (first * size) image))
    ∙ sym (take_then (i * size) size front) ∙ ap (λ (n : ℕ). take n front) (sym step)

pub sealed_none : (image : List ℕ) (size first : ℕ) → [] ≡ slice_of image (first * size) (0 * size)
sealed_none image size first = grind arith
