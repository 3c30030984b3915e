-- The block size of an image.
use Rattle.std.proofs.Common.{◌≡◌, ◌≤◌, ◌<◌, ◌/◌, ◌&&◌, ℕ, length, sym, ◌∙◌, ap, subst, List, Bool, true, false, Result, Ok, Err, is_err}
use Rattle.std.specs.Prelude.{OnOk}
use Rattle.std.proofs.lemmas.Bool.{le-ltb, lt-ltb}
use Rattle.udf_model.specs.Image.{block_of}
use Rattle.udf_model.specs.Tag.{id_at, is_id}
use Rattle.udf_volume_model.specs.Size.{has_size}

-- an error has no value to be told of
pub no_value : {T E : Type 0} (result : Result T E) (P : Type 0) → is_err result ≡ true → OnOk result P
no_value (Ok value) P err = absurd (cc)
no_value (Err error) P err = tt

module _ (image : List ℕ) (size bytes : ℕ) (sized : bytes ≡ length image) where
  pub too_short : bytes / size ≤ 256 → has_size image size ≡ false
  unfolding has_size
  too_short short =
      ap (λ (b : Bool). b && is_id 2 (id_at 256 (block_of size image 256)))
      (le-ltb 256 (length image / size) (subst (λ (n : ℕ). n / size ≤ 256) sized short))

  pub by_block : (block : List ℕ) → 256 < bytes / size → block ≡ block_of size image 256 → has_size image size ≡ is_id 2 (id_at 256 block)
  unfolding has_size
  by_block block inside is =
      ap (λ (b : Bool). b && is_id 2 (id_at 256 (block_of size image 256)))
      (lt-ltb 256 (length image / size) (subst (λ (n : ℕ). 256 < n / size) sized inside))
      ∙ ap (λ (read : List ℕ). is_id 2 (id_at 256 read)) (sym is)
