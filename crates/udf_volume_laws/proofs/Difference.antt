-- The difference of an image and the mended one.
use Rattle.std.proofs.Common.{◌≡◌, ℕ, zero, suc, ◌+◌, ◌*◌, ◌/◌, ◌%◌, ◌<◌, ◌≤◌, arith, refl, sym, ◌∙◌, ap, List, [], ◌∷◌, length, drop, get_or, Bool, true, false, cond, not, Some, inl, inr, ◌⊎◌}
use mathlib.Core.Path.{fun_ext}
use Rattle.std.specs.List.{filter, list_any, range_with_len}
use Rattle.std.specs.Str.{bytes_eq}
use Rattle.std.proofs.lemmas.Bool.{cases_Bool, cases_lt}
use Rattle.std.proofs.lemmas.List.{get_or-take, get_or-drop, ext_get_or}
use Rattle.std.proofs.lemmas.Nat.{div-add-mod'}
use Rattle.udf_model.specs.Image.{block_of, blocks_in}
use Rattle.udf_volume_model.specs.Kept.{KeptSequence, kept_sequence_of}
use Rattle.udf_volume_model.specs.Areas.{partition_area, covers, packets_of, layout_of}
use Rattle.udf_volume_model.specs.AllRules.{layout_in}
use Rattle.udf_volume_model.specs.Edits.{look}
use Rattle.udf_volume_model.specs.Mended.{edits}
use Rattle.udf_volume_model.specs.Opened.{is_opened, volume_mended, is_volume_unbroken, difference, is_sealed}
use Rattle.udf_volume_laws.proofs.Taken.{IsOpened}
use Rattle.udf_volume_laws.proofs.Unwritten.{partition_stays, packets_stay, sealed_stays, past_stays}
use Rattle.udf_volume_laws.proofs.Final.{opened_parts, held_of, put_disk, mended_is, mended_image}
use Rattle.udf_volume_laws.proofs.Twice.{unopened, stays}
use Rattle.udf_volume_laws.proofs.Same.{bytes_same, same_bytes}
use Rattle.udf_volume_laws.proofs.Members.{none_kept}

-- a byte is that of its block
byte_of : (size : ℕ) (image : List ℕ) (i : ℕ) → 0 < size → get_or (block_of size image (i / size)) (i % size) 0 ≡ get_or image i 0
unfolding block_of
byte_of size image i some =
    let e : i / size * size + i % size ≡ i = div-add-mod' i size in
    let low : i % size < size = omega arith in
    get_or-take size (drop (i / size * size) image) (i % size) 0 low
    ∙ get_or-drop (i / size * size) image (i % size) 0
    ∙ ap (λ k. get_or image k 0) e

-- an image is its blocks and its length
pub same_image : (size : ℕ) (image other : List ℕ) → 0 < size → length image ≡ length other → block_of size image ≡ block_of size other → image ≡ other
same_image size image other some long same =
    ext_get_or 0 image other long (λ i l. sym (byte_of size image i some) ∙ ap (λ f. get_or (f (i / size)) (i % size) 0) same ∙ byte_of size other i some)

none_left : (test : ℕ → Bool) (count start n : ℕ) → filter (λ m. not (test m)) (range_with_len start count) ≡ [] → start ≤ n → n < start + count → test n ≡ true
none_left test zero start n e l h = absurd (omega arith)
none_left test (suc count) start n e l h = by_test (none_left test count (start + 1) n) (test start) refl e where
  by_test : (filter (λ m. not (test m)) (range_with_len (start + 1) count) ≡ [] → start + 1 ≤ n → n < start + 1 + count → test n ≡ true)
      → (b : Bool) → test start ≡ b
      → cond (not b) (start ∷ filter (λ m. not (test m)) (range_with_len (start + 1) count)) (filter (λ m. not (test m)) (range_with_len (start + 1) count)) ≡ []
      → test n ≡ true
  by_test rest false t f = absurd (cc)
  by_test rest true t f = by_order (cases_lt start n) where
    by_order : (start < n) ⊎ (n ≤ start) → test n ≡ true
    by_order (inl k) = rest f (omega arith) (omega arith)
    by_order (inr k) = let is : n ≡ start = omega arith in ap test is ∙ t

no_difference_block : (size : ℕ) (image after : List ℕ) (n : ℕ) → difference size image after ≡ [] → n < blocks_in size image → block_of size image n ≡ block_of size after n
unfolding difference
no_difference_block size image after n none below =
    same_bytes _ _ (none_left (λ m. bytes_eq (block_of size image m) (block_of size after m)) (blocks_in size image) 0 n none (omega arith) (omega arith))

-- a block of the mended image is the edit's, or the image's
pub mended_block : (size : ℕ) (image : List ℕ) (volume : KeptSequence) (n : ℕ) → 512 ≤ size → is_opened size image ≡ true → kept_sequence_of size image ≡ Some volume
    → block_of size (volume_mended size image) n ≡ look n (edits size (blocks_in size image) (block_of size image) volume) (block_of size image n)
mended_block size image volume n large a is =
    let held = held_of size image volume large a is in
    ap (λ m. block_of size m n) (mended_is size image volume a is) ∙ ap (λ disk. disk n) (put_disk size image volume held)

module _ (size : ℕ) (image : List ℕ) (volume : KeptSequence) (large : 512 ≤ size) (a : is_opened size image ≡ true) (is : kept_sequence_of size image ≡ Some volume) where
  held : IsOpened size (blocks_in size image) (block_of size image) volume
  held = held_of size image volume large a is

  pub partition_kept : (n : ℕ) → covers (partition_area volume.list) n ≡ true → block_of size (volume_mended size image) n ≡ block_of size image n
  partition_kept n c = mended_block size image volume n large a is ∙ partition_stays size (blocks_in size image) (block_of size image) volume held n c

  pub packets_kept : (n : ℕ) → list_any (λ area. covers area n) (packets_of (layout_in size (block_of size image) volume).table) ≡ true → block_of size (volume_mended size image) n ≡ block_of size image n
  unfolding layout_of
  packets_kept n c = mended_block size image volume n large a is ∙ packets_stay size (blocks_in size image) (block_of size image) volume held n c

  pub sealed_kept : (n : ℕ) → is_sealed volume n ≡ true → block_of size (volume_mended size image) n ≡ block_of size image n
  sealed_kept n c = mended_block size image volume n large a is ∙ sealed_stays size (blocks_in size image) (block_of size image) volume held n c

  pub past_kept_by : (n : ℕ) → blocks_in size image ≤ n → block_of size (volume_mended size image) n ≡ block_of size image n
  past_kept_by n past = mended_block size image volume n large a is ∙ past_stays size (blocks_in size image) (block_of size image) volume held n past

pub past_kept : (size : ℕ) (image : List ℕ) (n : ℕ) → 512 ≤ size → blocks_in size image ≤ n → block_of size (volume_mended size image) n ≡ block_of size image n
past_kept size image n large past = by_opening (cases_Bool (is_opened size image)) where
  by_opening : (is_opened size image ≡ true) ⊎ (is_opened size image ≡ false) → block_of size (volume_mended size image) n ≡ block_of size image n
  by_opening (inl a) = let parts = opened_parts size image a in past_kept_by size image parts.1.0 large a parts.1.1 n past
  by_opening (inr e) = ap (λ m. block_of size m n) (unopened size image e)

pub length_kept : (size : ℕ) (image : List ℕ) → 512 ≤ size → length (volume_mended size image) ≡ length image
length_kept size image large = by_opening (cases_Bool (is_opened size image)) where
  by_opening : (is_opened size image ≡ true) ⊎ (is_opened size image ≡ false) → length (volume_mended size image) ≡ length image
  by_opening (inl a) = (mended_image size image large a).length_stays
  by_opening (inr e) = ap length (unopened size image e)

-- no difference, no broken rule
pub no_difference : (size : ℕ) (image : List ℕ) → 512 ≤ size → is_opened size image ≡ true → difference size image (volume_mended size image) ≡ [] → is_volume_unbroken size image ≡ true
no_difference size image large a none =
    let m = mended_image size image large a in
    let same : volume_mended size image ≡ image = same_image size (volume_mended size image) image (omega arith) m.length_stays
    (fun_ext (λ n. by_order n (cases_lt n (blocks_in size image)))) in
    ap (is_volume_unbroken size) (sym same) ∙ m.rules where
      by_order : (n : ℕ) → (n < blocks_in size image) ⊎ (blocks_in size image ≤ n) → block_of size (volume_mended size image) n ≡ block_of size image n
      by_order n (inl below) = sym (no_difference_block size image (volume_mended size image) n none below)
      by_order n (inr past) = past_kept size image n large past

pub no_broken_rule : (size : ℕ) (image : List ℕ) → is_volume_unbroken size image ≡ true → difference size image (volume_mended size image) ≡ []
unfolding difference
no_broken_rule size image e =
    none_kept (λ n. bytes_eq (block_of size image n) (block_of size (volume_mended size image) n)) (range_with_len 0 (blocks_in size image))
    (λ n i. ap (λ m. bytes_eq (block_of size image n) (block_of size m n)) (stays size image e) ∙ bytes_same (block_of size image n))

some_left : (xs : List ℕ) → (xs ≡ [] → ⊥) → 1 ≤ length xs
some_left [] h = absurd (h refl)
some_left (x ∷ xs) h = omega arith

pub broken_differs : (size : ℕ) (image : List ℕ) → 512 ≤ size → is_opened size image ≡ true → is_volume_unbroken size image ≡ false → 1 ≤ length (difference size image (volume_mended size image))
broken_differs size image large a broken =
    some_left _ (λ none. let f : true ≡ false = sym (no_difference size image large a none) ∙ broken in cc)
