-- A plan, applied, gives the image afterwards.
use Rattle.std.proofs.Common.{◌≡◌, ℕ, ◌/◌, ◌<◌, ◌≤◌, arith, sym, ◌∙◌, ap, List, length, Bool, true, false, not, inl, inr, ◌⊎◌}
use mathlib.Core.Path.{fun_ext}
use Rattle.std.specs.List.{filter, range_with_len}
use Rattle.std.specs.Str.{bytes_eq}
use Rattle.std.proofs.lemmas.Bool.{cases_Bool, cases_lt, not-false}
use Rattle.udf_model.specs.Image.{block_of, blocks_in}
use Rattle.udf_volume_model.specs.Edits.{look, put_blocks}
use Rattle.udf_volume_model.specs.Plans.{IsRewrite}
use Rattle.udf_volume_model.specs.Opened.{volume_mended, difference, plan_of}
use Rattle.udf_volume_laws.proofs.Puts.{AreWithin, off, chosen, chosen_off, chosen_put, chosen_within, all_length, block_after}
use Rattle.udf_volume_laws.proofs.Members.{in_range, range_in, kept_in, in_kept}
use Rattle.udf_volume_laws.proofs.Within.{block_ends}
use Rattle.udf_volume_laws.proofs.Final.{block_length}
use Rattle.udf_volume_laws.proofs.Difference.{same_image, length_kept, past_kept}
use Rattle.udf_volume_laws.proofs.Same.{same_bytes}

module _ (size : ℕ) (image after : List ℕ) (some : 0 < size) (long : length after ≡ length image) where
  abbrev differs : ℕ → Bool
  differs n = not (bytes_eq (block_of size image n) (block_of size after n))

  abbrev sectors : List ℕ
  sectors = filter differs (range_with_len 0 (blocks_in size image))

  fits : AreWithin size (length image) (chosen (block_of size after) sectors)
  fits = chosen_within size (length image) (block_of size after) sectors
      (λ n i. let r = range_in (blocks_in size image) 0 n (kept_in differs (range_with_len 0 (blocks_in size image)) n i).0 in
      (block_length size after n (omega (arith, r.1, ap (λ k. k / size) long)), block_ends size (length image) n (omega (arith, r.1))))

  by_test : (n : ℕ) → n < blocks_in size image → (differs n ≡ true) ⊎ (differs n ≡ false) → look n (chosen (block_of size after) sectors) (block_of size image n) ≡ block_of size after n
  by_test n below (inl t) = chosen_put (block_of size after) sectors n (block_of size image n)
      (in_kept differs (range_with_len 0 (blocks_in size image)) n (in_range (blocks_in size image) 0 n (omega arith) (omega arith)) t)
  by_test n below (inr t) =
      off n (chosen (block_of size after) sectors) (block_of size image n)
      (chosen_off (block_of size after) sectors n (λ i. let u = (kept_in differs (range_with_len 0 (blocks_in size image)) n i).1 in let f : true ≡ false = sym u ∙ t in absurd (cc)))
      ∙ same_bytes _ _ (not-false _ t)

  by_order : ((n : ℕ) → blocks_in size image ≤ n → block_of size image n ≡ block_of size after n) → (n : ℕ)
      → (n < blocks_in size image) ⊎ (blocks_in size image ≤ n) → look n (chosen (block_of size after) sectors) (block_of size image n) ≡ block_of size after n
  by_order tail n (inl below) = by_test n below (cases_Bool (differs n))
  by_order tail n (inr past) =
      off n (chosen (block_of size after) sectors) (block_of size image n)
      (chosen_off (block_of size after) sectors n (λ i.
      let r = range_in (blocks_in size image) 0 n (kept_in differs (range_with_len 0 (blocks_in size image)) n i).0 in absurd (omega (arith, r.1))))
      ∙ tail n past

  pub applied : ((n : ℕ) → blocks_in size image ≤ n → block_of size image n ≡ block_of size after n) → put_blocks size (plan_of size image after) image ≡ after
  unfolding plan_of difference
  applied tail =
      same_image size _ after some (all_length size (chosen (block_of size after) sectors) image fits ∙ sym long)
      (fun_ext (λ n. block_after size (chosen (block_of size after) sectors) image n fits ∙ by_order tail n (cases_lt n (blocks_in size image))))

pub plan_gives : (size : ℕ) (image after : List ℕ) → 0 < size → IsRewrite size image after → put_blocks size (plan_of size image after) image ≡ after
plan_gives size image after some is = applied size image after some is.same_length (λ n past. sym (is.same_past n past))

pub mended_rewrites : (size : ℕ) (image : List ℕ) → 512 ≤ size → IsRewrite size image (volume_mended size image)
mended_rewrites size image large = record {
  same_length = length_kept size image large;
  same_past = λ n past. past_kept size image n large past;
}
