-- What a repair makes of an image.
use Rattle.std.proofs.Common.{◌≡◌, ◌⊎◌, inl, inr, ℕ, ◌<◌, ◌≤◌, ◌&&◌, arith, refl, sym, ◌∙◌, ap, subst, List, [], ◌∷◌, length, map, Bool, true, false, not, cond, Option, Some, None, Result, Ok, Err, is_ok}
use Rattle.std.proofs.lemmas.Bool.{cases_Bool, false≢true}
use Rattle.udf_model.specs.Bytes.{IsBytes}
use Rattle.std.specs.List.{filter, range_with_len}
use Rattle.std.specs.Str.{bytes_eq}
use Rattle.udf_model.specs.Image.{block_of, blocks_in}
use Rattle.udf_model.specs.Size.{is_size}
use Rattle.udf_model.proofs.Sizes.{large as large_size}
use Rattle.udf_volume_model.specs.Edits.{put_blocks}
use Rattle.udf_volume_model.specs.Opened.{difference, plan_of}
use Rattle.udf_volume_model.specs.Plans.{IsRewrite}
use Rattle.udf_volume_model.specs.Size.{found_size, size_of}
use Rattle.udf_volume_laws.proofs.Applied.{plan_gives}
use Rattle.udf_volume_laws.proofs.Same.{bytes_same}
use Rattle.udf_layer.specs.declared.missing.Missing.{Missing}
use Rattle.udf_volume.specs.declared.volume.Volume.{Volume}
use Rattle.udf_rules_model.specs.Places.{place_of}
use Rattle.udf_mended_image.specs.Accepted.{is_accepted, is_unbroken, mend, mended, repairing}
use Rattle.udf_mended_image.proofs.Accepting.{sized_by, stands}
use Rattle.udf_mended_image.proofs.Unbroken.{Accepts, accepts}
use Rattle.udf_mended_image.proofs.Stands.{Stands}
use Rattle.udf_mended_image.proofs.Whole.{IsWhole, whole}

volume_there : (size : ℕ) (image : List ℕ) → is_accepted size image ≡ true → (volume : Volume) × (repairing size image ≡ Ok volume)
unfolding is_accepted
volume_there size image = by (repairing size image) refl
  where
    by : (r : Result Volume Missing) → repairing size image ≡ r → is_ok r ≡ true → (volume : Volume) × (repairing size image ≡ Ok volume)
    by (Ok volume) e h = (volume, e)
    by (Err reason) e h = absurd (cc)

module _ (size : ℕ) (image : List ℕ) (sized : is_size size ≡ true) (bytes : IsBytes image) where
  -- the mended image of an accepted one
  pub mended_whole : is_accepted size image ≡ true → IsWhole size image (mended size image)
  mended_whole a =
      let r = volume_there size image a in
      let k = accepts size image r.0 r.1 in
      let same : r.0.size ≡ size = sized_by size image r.0 k.opens in
      let P : ℕ → Type 0 = λ n. is_size n ≡ true → Accepts n image r.0 → Stands n image (mended size image) r.0 → IsWhole n image (mended size image) in
      subst P same (λ s c st. whole image (mended size image) r.0 s bytes c st) sized k (stands size image r.0 sized bytes r.1)

module _ (size : ℕ) (image : List ℕ) where
  -- by whether it is accepted and breaks a rule
  pub by_mend : (P : List ℕ → Type 0) → (is_accepted size image ≡ true → is_unbroken size image ≡ false → P (mended size image))
      → ((is_accepted size image ≡ false) ⊎ (is_unbroken size image ≡ true) → P image) → P (mend size image)
  unfolding mend
  by_mend P broken stays = by (is_accepted size image) (is_unbroken size image) refl refl
    where
      by : (a b : Bool) → is_accepted size image ≡ a → is_unbroken size image ≡ b → P (cond (a && not b) (mended size image) image)
      by true false p q = broken p q
      by true true p q = stays (inr q)
      by false b p q = stays (inl p)

  pub still : is_unbroken size image ≡ true → mend size image ≡ image
  still u = by_mend (λ after. after ≡ image) (λ a n. absurd (false≢true (sym n ∙ u))) (λ s. refl)

  pub refused : is_accepted size image ≡ false → mend size image ≡ image
  refused r = by_mend (λ after. after ≡ image) (λ a n. absurd (false≢true (sym r ∙ a))) (λ s. refl)

-- no sector differs where the images are the same
none_differs : (size : ℕ) (image : List ℕ) → difference size image image ≡ []
unfolding difference
none_differs size image = none (range_with_len 0 (blocks_in size image))
  where
    none : (ns : List ℕ) → filter (λ n. not (bytes_eq (block_of size image n) (block_of size image n))) ns ≡ []
    none [] = refl
    none (n ∷ ns) = ap (λ b. cond (not b) (n ∷ filter (λ n. not (bytes_eq (block_of size image n) (block_of size image n))) ns) (filter (λ n. not (bytes_eq (block_of size image n) (block_of size image n))) ns)) (bytes_same (block_of size image n)) ∙ none ns

pub alike : (size : ℕ) (image : List ℕ) → is_unbroken size image ≡ true → difference size image (mend size image) ≡ []
alike size image u = ap (difference size image) (still size image u) ∙ none_differs size image

-- where none differs the images are the same
all_same : (size : ℕ) (image after : List ℕ) → 0 < size → IsRewrite size image after → difference size image after ≡ [] → image ≡ after
unfolding plan_of put_blocks
all_same size image after some rewrites none = sym nothing ∙ plan_gives size image after some rewrites
  where
    nothing : put_blocks size (map (λ n. (n, block_of size after n)) (difference size image after)) image ≡ image
    nothing = ap (λ d. put_blocks size (map (λ n. (n, block_of size after n)) d) image) none

module _ (size : ℕ) (image : List ℕ) (sized : is_size size ≡ true) (bytes : IsBytes image) where
  pub accepted_after : is_accepted size image ≡ true → is_accepted size (mend size image) ≡ true
  accepted_after a = by_mend size image (λ after. is_accepted size after ≡ true) (λ k n. (mended_whole size image sized bytes k).accepted) (λ s. a)

  pub unbroken_after : is_accepted size image ≡ true → is_unbroken size (mend size image) ≡ true
  unbroken_after a = by_mend size image (λ after. is_unbroken size after ≡ true) (λ k n. (mended_whole size image sized bytes k).unbroken) stays
    where
      stays : (is_accepted size image ≡ false) ⊎ (is_unbroken size image ≡ true) → is_unbroken size image ≡ true
      stays (inl r) = absurd (false≢true (sym r ∙ a))
      stays (inr u) = u

  pub twice : mend size (mend size image) ≡ mend size image
  twice = by (cases_Bool (is_accepted size image))
    where
      by : (is_accepted size image ≡ true) ⊎ (is_accepted size image ≡ false) → mend size (mend size image) ≡ mend size image
      by (inl a) = still size (mend size image) (unbroken_after a)
      by (inr r) = ap (mend size) (refused size image r)

  pub rewrites_it : IsRewrite size image (mend size image)
  rewrites_it = by_mend size image (IsRewrite size image) (λ k n. (mended_whole size image sized bytes k).rewrites) (λ s. record { same_length = refl; same_past = λ n past. refl })

  pub places_stay : place_of size (mend size image) ≡ place_of size image
  places_stay = by_mend size image (λ after. place_of size after ≡ place_of size image) (λ k n. (mended_whole size image sized bytes k).places) (λ s. refl)

  pub size_stays : (given : Option ℕ) → size_of given image ≡ Some size → size_of given (mend size image) ≡ Some size
  size_stays (Some wanted) e = e
  size_stays None e = by_mend size image (λ after. found_size after ≡ Some size) (λ k n. (mended_whole size image sized bytes k).found e) (λ s. e)

  pub differs : is_accepted size image ≡ true → is_unbroken size image ≡ false → 1 ≤ length (difference size image (mend size image))
  differs a broken = by (difference size image (mend size image)) refl
    where
      by : (d : List ℕ) → difference size image (mend size image) ≡ d → 1 ≤ length d
      by (n ∷ ns) e = omega arith
      by [] e =
          let same = all_same size image (mend size image) (let l = large_size size sized in omega (arith, l)) rewrites_it e in
          absurd (false≢true (sym broken ∙ ap (is_unbroken size) same ∙ unbroken_after a))
