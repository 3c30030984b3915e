-- What one write or sync does to what reads give, and to what is pending.
use Rattle.std.proofs.Common.{◌≡◌, ⊎_elim, ℕ, ◌≤◌, List, length, refl, ◌∙◌, ap, arith, Result, Ok, Err, OnOk}
use Rattle.udf_outside.specs.declared.bench.Role.{Role}
use Rattle.udf_outside.specs.declared.bench.Role.TheVariants.{Image, Side}
use Rattle.udf_outside.specs.Files.{Files, other, resized, Resizes}
use Rattle.udf_outside.specs.Stops.{Held, bytes_of, put, IsDurable, IsSynced, after_write, after_sync, moved_on, Writes, Syncs}
use Rattle.udf_outside.proofs.Moments.{synced_from}
use Rattle.udf_outside.proofs.Runs.{sync_other_durable, synced_durable}

after_other : (role : Role) (at n : ℕ) (bytes : List ℕ) (held : Held) → bytes_of (other role) (after_write role at n bytes held) ≡ bytes_of (other role) held
unfolding after_write moved_on
after_other Image at n bytes held = refl
after_other Side at n bytes held = refl

after_same : (role : Role) (at n : ℕ) (bytes : List ℕ) (held : Held) → bytes_of role (after_write role at n bytes held) ≡ bytes
unfolding after_write moved_on
after_same Image at n bytes held = refl
after_same Side at n bytes held = refl

synced_same : (role which : Role) (held : Held) → bytes_of which (after_sync role held) ≡ bytes_of which held
unfolding after_sync moved_on
synced_same Image Image held = refl
synced_same Image Side held = refl
synced_same Side Image held = refl
synced_same Side Side held = refl

module _ (role : Role) (at : ℕ) (bytes : List ℕ) (old new : Held) {T E : Type 0} where
  -- a write leaves the other file as it is
  pub write_other : (result : Result T E) → Writes role at bytes old new result → bytes_of (other role) new ≡ bytes_of (other role) old
  write_other (Ok x) writes = ap (λ (held : Held). bytes_of (other role) held) writes.done ∙ after_other role at (length bytes) (put (bytes_of role old) at bytes) old
  write_other (Err e) writes =
      ⊎_elim (λ same. ap (λ (held : Held). bytes_of (other role) held) same)
      (λ left. ap (λ (held : Held). bytes_of (other role) held) left.2 ∙ after_other role at (length bytes) left.0 old) writes.failed

  -- a write that is done puts its bytes
  pub write_puts : (result : Result T E) → Writes role at bytes old new result → OnOk result (bytes_of role new ≡ put (bytes_of role old) at bytes)
  write_puts (Ok x) writes = ap (λ (held : Held). bytes_of role held) writes.done ∙ after_same role at (length bytes) (put (bytes_of role old) at bytes) old
  write_puts (Err e) writes = tt

-- a sync changes nothing that reads give
pub sync_same : (role which : Role) (old new : Held) {T E : Type 0} (result : Result T E) → Syncs role old new result → bytes_of which new ≡ bytes_of which old
sync_same role which old new (Ok x) syncs = ap (λ (held : Held). bytes_of which held) syncs.done ∙ synced_same role which old
sync_same role which old new (Err e) syncs = ap (λ (held : Held). bytes_of which held) syncs.failed

-- a sync of the one file that was written
pub side_syncs : (old new : Held) {T E : Type 0} (result : Result T E) → Syncs Side old new result → IsDurable Image old → OnOk result (IsSynced new)
side_syncs old new (Ok x) syncs durable = synced_from new (sync_other_durable Side old new (Ok x) syncs durable) (synced_durable Side old new (Ok x) syncs)
side_syncs old new (Err e) syncs durable = tt

pub image_syncs : (old new : Held) {T E : Type 0} (result : Result T E) → Syncs Image old new result → IsDurable Side old → OnOk result (IsSynced new)
image_syncs old new (Ok x) syncs durable = synced_from new (synced_durable Image old new (Ok x) syncs) (sync_other_durable Image old new (Ok x) syncs durable)
image_syncs old new (Err e) syncs durable = tt

pub on_ok : {T E : Type 0} (result : Result T E) (P : Type 0) → P → OnOk result P
on_ok (Ok x) P is = is
on_ok (Err e) P is = tt

-- a write that ends within the image leaves its size
pub image_kept : (end : ℕ) (old new : Files) {T E : Type 0} (result : Result T E) → Resizes Image end old new result → end ≤ old.image.size → new ≡ old
image_kept end old new result resizes within =
    let same : new.image.size ≡ old.image.size = omega (arith, resizes.no_smaller, resizes.no_larger) in
    resizes.only ∙ ap (λ (n : ℕ). resized Image n old) same

-- a write that ends within the side file leaves its size
pub side_kept : (end : ℕ) (old new : Files) {T E : Type 0} (result : Result T E) → Resizes Side end old new result → end ≤ old.side.size → new ≡ old
side_kept end old new result resizes within =
    let same : new.side.size ≡ old.side.size = omega (arith, resizes.no_smaller, resizes.no_larger) in
    resizes.only ∙ ap (λ (n : ℕ). resized Side n old) same
