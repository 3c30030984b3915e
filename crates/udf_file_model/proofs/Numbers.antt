-- Numbers of a block that gets a new tag.
use Rattle.std.proofs.Common.{◌≡◌, ℕ, ◌+◌, ◌-◌, ◌≤◌, List, length, drop, arith, sym, ◌∙◌, ap}
use Rattle.std.proofs.lemmas.List.{drop-drop}
use Rattle.udf_model.specs.Bytes.{number_at}
use Rattle.udf_model.specs.Tag.{retagged}
use Rattle.udf_model.proofs.Retagged.{retagged_body}
use Rattle.byteorder.specs.Endian.{little_number}

-- what is behind a place behind the tag is not touched by a new tag
pub behind_tag : (at location many : ℕ) (area : List ℕ) → 16 ≤ length area → 16 ≤ at → drop at (retagged location many area) ≡ drop at area
behind_tag at location many area room h =
    split (retagged location many area) ∙ ap (drop (at - 16)) (retagged_body location many area room) ∙ sym (split area)
  where
    split : (xs : List ℕ) → drop at xs ≡ drop (at - 16) (drop 16 xs)
    split xs =
        let e : 16 + (at - 16) ≡ at = omega arith in
        sym (ap (λ k. drop k xs) e) ∙ sym (drop-drop (at - 16) 16 xs)

-- nor is a number there
pub number_retagged : (n at location many : ℕ) (area : List ℕ) → 16 ≤ length area → 16 ≤ at → number_at n (retagged location many area) at ≡ number_at n area at
unfolding number_at
number_retagged n at location many area room h = ap (little_number n) (behind_tag at location many area room h)
