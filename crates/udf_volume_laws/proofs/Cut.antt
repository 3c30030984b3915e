-- The bytes of some blocks, and blocks that are cut from bytes.
use Rattle.std.proofs.Common.{◌≡◌, ℕ, zero, suc, ◌+◌, ◌-◌, ◌*◌, ◌/◌, ◌%◌, ◌<◌, ◌≤◌, arith, refl, sym, ◌∙◌, ap, inl, inr, ◌⊎◌, List, [], ◌∷◌, ◌++◌, take, drop, length, length-append, length-drop, append_assoc}
use Rattle.std.proofs.Math.Nat.{div-mul-le_self}
use Rattle.std.proofs.lemmas.Nat.{div-add-mod', le-div}
use Rattle.std.proofs.lemmas.List.{length-take-le, take-append-drop}
use Rattle.udf_volume_model.specs.Anchor.{blocks_for}
use Rattle.udf_volume_model.specs.Edits.{look}
use Rattle.udf_volume_model.specs.SparingTable.{bytes_from}
use Rattle.udf_volume_model.specs.SparingRule.{blocks_cut}
use Rattle.udf_volume_laws.proofs.Puts.{IsOff, AreWithin, look_here, look_past}

-- some bytes lie in the blocks that they take, and fewer bytes take no more blocks
pub blocks_hold : (size bytes : ℕ) → 0 < size → bytes ≤ blocks_for size bytes * size
unfolding blocks_for
blocks_hold size bytes some =
    let all : (bytes + (size - 1)) / size * size + (bytes + (size - 1)) % size ≡ bytes + (size - 1) = div-add-mod' (bytes + (size - 1)) size in
    let rest : (bytes + (size - 1)) % size < size = omega arith in
    omega arith

pub fewer_blocks : (size fewer bytes : ℕ) → 0 < size → fewer ≤ bytes → blocks_for size fewer ≤ blocks_for size bytes
unfolding blocks_for
fewer_blocks size fewer bytes some h =
    le-div ((fewer + (size - 1)) / size) (bytes + (size - 1)) size some (omega (arith, div-mul-le_self (fewer + (size - 1)) size))

pub same_from : (f g : ℕ → List ℕ) (at count : ℕ) → ((n : ℕ) → at ≤ n → n < at + count → f n ≡ g n) → bytes_from f at count ≡ bytes_from g at count
unfolding bytes_from
same_from f g at zero h = refl
same_from f g at (suc count) h =
    ap (λ b. b ++ bytes_from f (at + 1) count) (h at (omega arith) (omega arith))
    ∙ ap (λ b. g at ++ b) (same_from f g (at + 1) count (λ n l k. h n (omega arith) (omega arith)))

pub from_length : (size : ℕ) (disk : ℕ → List ℕ) (at count : ℕ) → ((n : ℕ) → at ≤ n → n < at + count → length (disk n) ≡ size) → length (bytes_from disk at count) ≡ count * size
unfolding bytes_from
from_length size disk at zero h = omega arith
from_length size disk at (suc count) h =
    length-append (disk at) (bytes_from disk (at + 1) count)
    ∙ (let e : length (disk at) + length (bytes_from disk (at + 1) count) ≡ suc count * size =
    omega (arith, h at (omega arith) (omega arith), from_length size disk (at + 1) count (λ n l k. h n (omega arith) (omega arith))) in e)

-- first some blocks, then the further ones
pub from_both : (disk : ℕ → List ℕ) (at first more : ℕ) → bytes_from disk at (first + more) ≡ bytes_from disk at first ++ bytes_from disk (at + first) more
unfolding bytes_from
from_both disk at zero more =
    (let e : zero + more ≡ more = omega arith in ap (bytes_from disk at) e)
    ∙ (let e : at ≡ at + zero = omega arith in ap (λ n. bytes_from disk n more) e)
from_both disk at (suc first) more =
    (let e : suc first + more ≡ suc (first + more) = omega arith in ap (bytes_from disk at) e)
    ∙ ap (λ l. disk at ++ l) (from_both disk (at + 1) first more)
    ∙ sym (append_assoc (disk at) (bytes_from disk (at + 1) first) (bytes_from disk (at + 1 + first) more))
    ∙ (let e : at + 1 + first ≡ at + suc first = omega arith in ap (λ n. (disk at ++ bytes_from disk (at + 1) first) ++ bytes_from disk n more) e)

-- what is cut stands at its sectors alone
pub cut_off : (size at count : ℕ) (bytes : List ℕ) (n : ℕ) → (n < at) ⊎ (at + count ≤ n) → IsOff n (blocks_cut size at count bytes)
unfolding blocks_cut
cut_off size at zero bytes n h = tt
cut_off size at (suc count) bytes n (inl l) = ((λ e. omega arith), cut_off size (at + 1) count (drop size bytes) n (inl (omega arith)))
cut_off size at (suc count) bytes n (inr l) = ((λ e. omega arith), cut_off size (at + 1) count (drop size bytes) n (inr (omega arith)))

pub cut_within : (size whole at count : ℕ) (bytes : List ℕ) → length bytes ≡ count * size → ((n : ℕ) → n < at + count → n * size + size ≤ whole)
    → AreWithin size whole (blocks_cut size at count bytes)
unfolding blocks_cut
cut_within size whole at zero bytes long h = tt
cut_within size whole at (suc count) bytes long h = (
  length-take-le size bytes (omega arith),
  h at (omega arith),
  cut_within size whole (at + 1) count (drop size bytes) (omega (arith, length-drop size bytes)) (λ n l. h n (omega arith)),
)

-- blocks that are cut from bytes, put at their sectors, are those bytes
pub cut_back : (size at count : ℕ) (bytes : List ℕ) (disk : ℕ → List ℕ) → length bytes ≡ count * size
    → bytes_from (λ n. look n (blocks_cut size at count bytes) (disk n)) at count ≡ bytes
unfolding blocks_cut bytes_from
cut_back size at zero [] disk long = refl
cut_back size at zero (byte ∷ bytes) disk long = absurd (omega arith)
cut_back size at (suc count) bytes disk long =
    let rest : List (ℕ × List ℕ) = blocks_cut size (at + 1) count (drop size bytes) in
    ap (λ b. b ++ bytes_from (λ n. look n ((at, take size bytes) ∷ rest) (disk n)) (at + 1) count) (look_here at at (take size bytes) rest (disk at) refl)
    ∙ ap (λ b. take size bytes ++ b)
    (same_from (λ n. look n ((at, take size bytes) ∷ rest) (disk n)) (λ n. look n rest (disk n)) (at + 1) count
    (λ n l k. look_past n at (take size bytes) rest (disk n) (λ e. omega arith))
    ∙ cut_back size (at + 1) count (drop size bytes) disk (omega (arith, length-drop size bytes)))
    ∙ take-append-drop size bytes
