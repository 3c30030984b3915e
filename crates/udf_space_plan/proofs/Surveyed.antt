-- The extent of integrity descriptors, and the sizes of blocks.
use Rattle.std.proofs.Common.{◌≡◌, ℕ, zero, suc, ◌+◌, ◌-◌, ◌*◌, ◌<◌, ◌≤◌, ◌==◌, ◌||◌, arith, sym, subst, List, true, inl, inr, ◌⊎◌, Some}
use Rattle.std.proofs.lemmas.Bool.{eqb-true, or_cases}
use Rattle.udf_field.specs.declared.address.Span.{Span}
use Rattle.udf_model.specs.Size.{is_size}
use Rattle.udf_rules_model.specs.Integrity.{integrity_front, is_integrity, prevailing_integrity}
use Rattle.udf_space_mends.proofs.Prevailing as prevailing
use Rattle.udf_space_plan.specs.Runs.{is_run_free}
use Rattle.udf_space_plan.proofs.FreeRuns.{extent_run}
use Rattle.udf_volume.specs.Laid.{IsLaidOut}
use Rattle.udf_volume.specs.Opened.{IsBounded}
use Rattle.udf_volume.specs.declared.volume.Volume.{Volume}
use Rattle.udf_volume_laws.proofs.Cut.{blocks_hold}
use Rattle.udf_volume_model.specs.Anchor.{blocks_for}

pub small : (size : ℕ) → is_size size ≡ true → size ≤ 4096
unfolding is_size
small size e = first (or_cases _ _ e) where
  third : (size == 2048 ≡ true) ⊎ (size == 4096 ≡ true) → size ≤ 4096
  third (inl h) = omega (arith, eqb-true _ _ h)
  third (inr h) = omega (arith, eqb-true _ _ h)

  second : (size == 1024 ≡ true) ⊎ (((size == 2048) || (size == 4096)) ≡ true) → size ≤ 4096
  second (inl h) = omega (arith, eqb-true _ _ h)
  second (inr h) = third (or_cases _ _ h)

  first : (size == 512 ≡ true) ⊎ (((size == 1024) || ((size == 2048) || (size == 4096))) ≡ true) → size ≤ 4096
  first (inl h) = omega (arith, eqb-true _ _ h)
  first (inr h) = second (or_cases _ _ h)

pub some_blocks : (size bytes : ℕ) → 512 ≤ size → (bytes ≡ 0 → ⊥) → 0 < blocks_for size bytes
some_blocks size bytes large some = by_count (blocks_for size bytes) (blocks_hold size bytes (omega arith)) where
  by_count : (count : ℕ) → bytes ≤ count * size → 0 < count
  by_count zero h = absurd (some (omega arith))
  by_count (suc n) h = omega arith

-- what prevails lies in the extent and is whole
module _ (size : ℕ) (disk : ℕ → List ℕ) (extent : Span) (sector : ℕ) (e : Some sector ≡ prevailing_integrity size disk extent) where
  found : prevailing.IsIn (λ n. is_integrity size n (disk n)) extent.start (blocks_for size extent.length) sector
  unfolding prevailing_integrity integrity_front
  found = prevailing.last_in (λ n. is_integrity size n (disk n)) extent.start (blocks_for size extent.length) sector (sym e)

  pub whole : is_integrity size sector (disk sector) ≡ true
  whole = found.passes

pub prevailing_free : (volume : Volume) (disk : ℕ → List ℕ) (sector : ℕ) → IsBounded volume.size volume.blocks volume → IsLaidOut volume → 512 ≤ volume.size
    → Some sector ≡ prevailing_integrity volume.size disk volume.integrity → is_run_free volume sector 1 ≡ true
prevailing_free volume disk sector bounded laid large e =
    let i = found volume.size disk volume.integrity sector e in
    let k : ℕ = sector - volume.integrity.start in
    let same : volume.integrity.start + k ≡ sector = omega (arith, i.from) in
    subst (λ n. is_run_free volume n 1 ≡ true) same (extent_run volume bounded laid large k (omega (arith, i.from, i.below)))
