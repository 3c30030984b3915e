-- The front of some blocks that are placed.
use Rattle.std.proofs.Common.{◌≡◌, ℕ, ◌+◌, ◌<◌, ◌≤◌, true, false, Option, Some, None, is_some, get_or, arith, refl, sym, ap, ◌∙◌, subst}
use Rattle.std.specs.List.{prefix_len, range_with_len}
use Rattle.std.proofs.lemmas.List.Sums.{prefix_len-le-length, prefix_len_is, prefix_len_passes, prefix_len_stops}
use Rattle.std.proofs.lemmas.List.FromFn.{length-range_with_len, get_or-range_with_len}
use Rattle.udf_file_model.specs.Place.{Place, IsPlacedFront, placed_front}

none_of : (o : Option ℕ) → is_some o ≡ false → o ≡ None
none_of None h = refl
none_of (Some x) h = absurd (cc)

pub front_at_most : (place : Place) (block blocks : ℕ) → placed_front place block blocks ≤ blocks
unfolding placed_front
front_at_most place block blocks =
    omega (arith, prefix_len-le-length (λ n. is_some (place n)) (range_with_len block blocks), length-range_with_len block blocks)

pub front_placed : (place : Place) (block blocks i : ℕ) → i < placed_front place block blocks → is_some (place (block + i)) ≡ true
unfolding placed_front
front_placed place block blocks i h =
    let most = front_at_most place block blocks in
    let inside : i < blocks = omega (arith, prefix_len-le-length (λ n. is_some (place n)) (range_with_len block blocks), length-range_with_len block blocks) in
    ap (λ n. is_some (place n)) (sym (get_or-range_with_len block blocks i 0 inside))
    ∙ prefix_len_passes (λ n. is_some (place n)) (range_with_len block blocks) i 0 h

pub front_ends : (place : Place) (block blocks : ℕ) → placed_front place block blocks < blocks → place (block + placed_front place block blocks) ≡ None
unfolding placed_front
front_ends place block blocks h =
    let P : ℕ → Type 0 = λ n. place n ≡ None in
    subst P (get_or-range_with_len block blocks (placed_front place block blocks) 0 h)
    (none_of (place (get_or (range_with_len block blocks) (prefix_len (λ n. is_some (place n)) (range_with_len block blocks)) 0))
    (prefix_len_stops (λ n. is_some (place n)) (range_with_len block blocks) 0 (omega (arith, length-range_with_len block blocks))))

-- what is placed up to there and not there is the front
pub front_is : (place : Place) (block blocks n : ℕ) → n ≤ blocks → ((i : ℕ) → i < n → is_some (place (block + i)) ≡ true)
    → (n < blocks → place (block + n) ≡ None) → placed_front place block blocks ≡ n
unfolding placed_front
front_is place block blocks n most passes stops =
    prefix_len_is (λ m. is_some (place m)) (range_with_len block blocks) n 0 (omega (arith, length-range_with_len block blocks))
    (λ k h. ap (λ m. is_some (place m)) (get_or-range_with_len block blocks k 0 (omega arith)) ∙ passes k h)
    (λ h. let inside : n < blocks = omega (arith, length-range_with_len block blocks) in
    ap (λ m. is_some (place m)) (get_or-range_with_len block blocks n 0 inside) ∙ ap (λ o. is_some o) (stops inside))

pub front_means : (place : Place) (block blocks n : ℕ) → placed_front place block blocks ≡ n → IsPlacedFront place block blocks n
front_means place block blocks n e =
    let P : ℕ → Type 0 = λ m. IsPlacedFront place block blocks m in
    subst P e (record {
      within = front_at_most place block blocks;
      placed = front_placed place block blocks;
      ends = front_ends place block blocks;
    })

pub front_only : (place : Place) (block blocks n : ℕ) → IsPlacedFront place block blocks n → placed_front place block blocks ≡ n
front_only place block blocks n h = front_is place block blocks n h.within h.placed h.ends
