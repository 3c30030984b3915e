-- The steps of a run: a clause about all moments of a function follows from those of its calls.
use Rattle.std.proofs.Common.{◌≡◌, ◌⊎◌, inl, inr, ⊎_elim, ◌≤◌, ℕ, List, length, refl, sym, subst, arith, Result, Ok, Err, OnOk}
use Rattle.udf_outside.specs.declared.bench.Role.{Role}
use Rattle.udf_outside.specs.Files.{other}
use Rattle.udf_outside.specs.Stops.{Held, Pair, part_of, bytes_of, Now, moment, Since, IsDurable, Torn, put, after_write, after_sync, Writes, Syncs, LeavesOnly}
use Rattle.udf_outside.specs.Run.{Runs}
use Rattle.udf_outside.proofs.Torn.{torn_self}
use Rattle.udf_outside.proofs.Ending.{put_torn}
use Rattle.udf_outside.proofs.Moments.{only_now, moved_keeps, moved_adds, moved_moment, torn_from, sync_durable, sync_adds_none, write_keeps_other, sync_keeps_other}

-- nothing happened
pub leaves_start : (held : Held) (P : Pair → Type 0) → ((pair : Pair) → Now held pair → P pair) → LeavesOnly held held P
leaves_start held P each = record {
  later = omega arith;
  each = λ pair since. each pair (only_now held pair since);
  before = λ z pair since. inl since;
  keeps = λ z pair since. since;
}

-- what is held stayed the same
pub leaves_same : (old new : Held) (P : Pair → Type 0) → new ≡ old → ((pair : Pair) → Now old pair → P pair) → LeavesOnly old new P
leaves_same old new P same each = subst (λ (held : Held). LeavesOnly old held P) (sym same) (leaves_start old P each)

pub leaves_weaker : (old new : Held) (P Q : Pair → Type 0) → ((pair : Pair) → P pair → Q pair) → LeavesOnly old new P → LeavesOnly old new Q
leaves_weaker old new P Q weaker leaves = record {
  later = leaves.later;
  each = λ pair since. weaker pair (leaves.each pair since);
  before = λ z pair since. ⊎_elim (λ was. inl was) (λ is. inr (weaker pair is)) (leaves.before z pair since);
  keeps = leaves.keeps;
}

-- one run after another
pub leaves_then : (start middle end : Held) (P : Pair → Type 0) → LeavesOnly start middle P → LeavesOnly middle end P → LeavesOnly start end P
leaves_then start middle end P first second = record {
  later = omega (arith, first.later, second.later);
  each = λ pair since. ⊎_elim (λ was. first.each pair was) (λ is. is) (second.before (moment start) pair since);
  before = λ z pair since. ⊎_elim (λ was. first.before z pair was) (λ is. inr is) (second.before z pair since);
  keeps = λ z pair since. second.keeps z pair (first.keeps z pair since);
}

-- Each pair after a write comes from one before it, torn in its range, the other content the same.
pub write_comes_from : (role : Role) (at : ℕ) (bytes : List ℕ) (old new : Held) {T E : Type 0} (result : Result T E) → at ≤ length (bytes_of role old) → Writes role at bytes old new result
    → (pair : Pair) → Now new pair
    → (before : Pair) × Now old before × Torn at (length bytes) (part_of role before) (part_of role pair) × (part_of (other role) before ≡ part_of (other role) pair)
write_comes_from role at bytes old new (Ok x) within writes pair now =
    torn_from role at (length bytes) (put (bytes_of role old) at bytes) old within (put_torn (bytes_of role old) bytes at (length bytes) within (omega arith)) pair
    (subst (λ (held : Held). Now held pair) writes.done now)
write_comes_from role at bytes old new (Err e) within writes pair now =
    ⊎_elim (λ same. (pair, subst (λ (held : Held). Now held pair) same now, torn_self at (length bytes) (part_of role pair), refl))
    (λ left. torn_from role at (length bytes) left.0 old within left.1 pair (subst (λ (held : Held). Now held pair) left.2 now)) writes.failed

pub write_keeps : (role : Role) (at : ℕ) (bytes : List ℕ) (old new : Held) {T E : Type 0} (result : Result T E) → Writes role at bytes old new result → (z : ℕ) (pair : Pair) → Since z old pair → Since z new pair
unfolding after_write
write_keeps role at bytes old new (Ok x) writes z pair since = subst (λ (held : Held). Since z held pair) (sym writes.done) (moved_keeps role _ old z pair since)
write_keeps role at bytes old new (Err e) writes z pair since =
    ⊎_elim (λ same. subst (λ (held : Held). Since z held pair) (sym same) since)
    (λ left. subst (λ (held : Held). Since z held pair) (sym left.2) (moved_keeps role _ old z pair since)) writes.failed

pub write_adds : (role : Role) (at : ℕ) (bytes : List ℕ) (old new : Held) {T E : Type 0} (result : Result T E) → Writes role at bytes old new result → (z : ℕ) (pair : Pair) → Since z new pair → Since z old pair ⊎ Now new pair
unfolding after_write
write_adds role at bytes old new (Ok x) writes z pair since =
    ⊎_elim (λ was. inl was) (λ now. inr (subst (λ (held : Held). Now held pair) (sym writes.done) now)) (moved_adds role _ old z pair (subst (λ (held : Held). Since z held pair) writes.done since))
write_adds role at bytes old new (Err e) writes z pair since =
    ⊎_elim (λ same. inl (subst (λ (held : Held). Since z held pair) same since))
    (λ left. ⊎_elim (λ was. inl was) (λ now. inr (subst (λ (held : Held). Now held pair) (sym left.2) now)) (moved_adds role _ old z pair (subst (λ (held : Held). Since z held pair) left.2 since))) writes.failed

write_moment : (role : Role) (at : ℕ) (bytes : List ℕ) (old new : Held) {T E : Type 0} (result : Result T E) → Writes role at bytes old new result → moment old ≤ moment new
unfolding after_write
write_moment role at bytes old new (Ok x) writes = subst (λ (held : Held). moment old ≤ moment held) (sym writes.done) (moved_moment role _ old)
write_moment role at bytes old new (Err e) writes =
    ⊎_elim (λ same. subst (λ (held : Held). moment old ≤ moment held) (sym same) (omega arith))
    (λ left. subst (λ (held : Held). moment old ≤ moment held) (sym left.2) (moved_moment role _ old)) writes.failed

sync_moment : (role : Role) (old new : Held) {T E : Type 0} (result : Result T E) → Syncs role old new result → moment old ≤ moment new
unfolding after_sync
sync_moment role old new (Ok x) syncs = subst (λ (held : Held). moment old ≤ moment held) (sym syncs.done) (moved_moment role _ old)
sync_moment role old new (Err e) syncs = subst (λ (held : Held). moment old ≤ moment held) (sym syncs.failed) (omega arith)

-- the pairs after a sync were pairs before it
pub sync_comes_from : (role : Role) (old new : Held) {T E : Type 0} (result : Result T E) → Syncs role old new result → (pair : Pair) → Now new pair → Now old pair
sync_comes_from role old new (Ok x) syncs pair now = sync_adds_none role old pair (subst (λ (held : Held). Now held pair) syncs.done now)
sync_comes_from role old new (Err e) syncs pair now = subst (λ (held : Held). Now held pair) syncs.failed now

pub sync_keeps : (role : Role) (old new : Held) {T E : Type 0} (result : Result T E) → Syncs role old new result → (z : ℕ) (pair : Pair) → Since z old pair → Since z new pair
unfolding after_sync
sync_keeps role old new (Ok x) syncs z pair since = subst (λ (held : Held). Since z held pair) (sym syncs.done) (moved_keeps role _ old z pair since)
sync_keeps role old new (Err e) syncs z pair since = subst (λ (held : Held). Since z held pair) (sym syncs.failed) since

pub sync_adds : (role : Role) (old new : Held) {T E : Type 0} (result : Result T E) → Syncs role old new result → (z : ℕ) (pair : Pair) → Since z new pair → Since z old pair ⊎ Now new pair
unfolding after_sync
sync_adds role old new (Ok x) syncs z pair since =
    ⊎_elim (λ was. inl was) (λ now. inr (subst (λ (held : Held). Now held pair) (sym syncs.done) now)) (moved_adds role _ old z pair (subst (λ (held : Held). Since z held pair) syncs.done since))
sync_adds role old new (Err e) syncs z pair since = inl (subst (λ (held : Held). Since z held pair) syncs.failed since)

-- a write or a sync of one role leaves the other durable
pub write_other_durable : (role : Role) (at : ℕ) (bytes : List ℕ) (old new : Held) {T E : Type 0} (result : Result T E) → Writes role at bytes old new result → IsDurable (other role) old → IsDurable (other role) new
write_other_durable role at bytes old new (Ok x) writes durable = subst (λ (held : Held). IsDurable (other role) held) (sym writes.done) (write_keeps_other role at _ _ old durable)
write_other_durable role at bytes old new (Err e) writes durable =
    ⊎_elim (λ same. subst (λ (held : Held). IsDurable (other role) held) (sym same) durable)
    (λ left. subst (λ (held : Held). IsDurable (other role) held) (sym left.2) (write_keeps_other role at _ _ old durable)) writes.failed

pub sync_other_durable : (role : Role) (old new : Held) {T E : Type 0} (result : Result T E) → Syncs role old new result → IsDurable (other role) old → IsDurable (other role) new
sync_other_durable role old new (Ok x) syncs durable = subst (λ (held : Held). IsDurable (other role) held) (sym syncs.done) (sync_keeps_other role old durable)
sync_other_durable role old new (Err e) syncs durable = subst (λ (held : Held). IsDurable (other role) held) (sym syncs.failed) durable

pub synced_durable : (role : Role) (old new : Held) {T E : Type 0} (result : Result T E) → Syncs role old new result → OnOk result (IsDurable role new)
synced_durable role old new (Ok x) syncs = subst (λ (held : Held). IsDurable role held) (sym syncs.done) (sync_durable role old)
synced_durable role old new (Err e) syncs = tt

-- one step, of which the moments and the pairs are known
step : (start now new : Held) (P Q : Pair → Type 0) → Runs start now P Q → moment now ≤ moment new → ((z : ℕ) (pair : Pair) → Since z new pair → Since z now pair ⊎ Now new pair)
    → ((z : ℕ) (pair : Pair) → Since z now pair → Since z new pair) → (R : Pair → Type 0) → ((pair : Pair) → Now new pair → R pair) → ((pair : Pair) → R pair → P pair) → Runs start new P R
step start now new P Q runs later adds keeps R ends weaker = record {
  leaves = record {
    later = omega (arith, runs.leaves.later, later);
    each = λ pair since. ⊎_elim (λ was. runs.leaves.each pair was) (λ is. weaker pair (ends pair is)) (adds (moment start) pair since);
    before = λ z pair since. ⊎_elim (λ was. runs.leaves.before z pair was) (λ is. inr (weaker pair (ends pair is))) (adds z pair since);
    keeps = λ z pair since. keeps z pair (runs.leaves.keeps z pair since);
  };
  ends = ends;
}

pub runs_start : (held : Held) (P Q : Pair → Type 0) → ((pair : Pair) → Now held pair → Q pair) → ((pair : Pair) → Q pair → P pair) → Runs held held P Q
runs_start held P Q ends weaker = record { leaves = leaves_start held P (λ pair now. weaker pair (ends pair now)); ends = ends }

-- a call that leaves what is held
pub runs_quiet : (start now new : Held) (P Q : Pair → Type 0) → Runs start now P Q → new ≡ now → Runs start new P Q
runs_quiet start now new P Q runs same = subst (λ (held : Held). Runs start held P Q) (sym same) runs

-- other words for what runs
pub runs_weaker : (start now : Held) (P Q P' Q' : Pair → Type 0) → ((pair : Pair) → P pair → P' pair) → ((pair : Pair) → Q pair → Q' pair) → Runs start now P Q → Runs start now P' Q'
runs_weaker start now P Q P' Q' all ends runs = record { leaves = leaves_weaker start now P P' all runs.leaves; ends = λ pair is. ends pair (runs.ends pair is) }

-- A write, done or failed: each torn pair has to have R.
pub runs_write : (start now new : Held) (P Q R : Pair → Type 0) (role : Role) (at : ℕ) (bytes : List ℕ) {T E : Type 0} (result : Result T E) → Runs start now P Q → at ≤ length (bytes_of role now)
    → Writes role at bytes now new result
    → ((before pair : Pair) → Q before → Torn at (length bytes) (part_of role before) (part_of role pair) → part_of (other role) before ≡ part_of (other role) pair → R pair)
    → ((pair : Pair) → R pair → P pair) → Runs start new P R
runs_write start now new P Q R role at bytes result runs within writes torn weaker =
    step start now new P Q runs (write_moment role at bytes now new result writes) (write_adds role at bytes now new result writes) (write_keeps role at bytes now new result writes) R
    (λ pair is. let from = write_comes_from role at bytes now new result within writes pair is in torn from.0 pair (runs.ends from.0 from.1) from.2 from.3) weaker

-- A sync, done or failed: nothing is new.
pub runs_sync : (start now new : Held) (P Q : Pair → Type 0) (role : Role) {T E : Type 0} (result : Result T E) → Runs start now P Q → Syncs role now new result
    → ((pair : Pair) → Q pair → P pair) → Runs start new P Q
runs_sync start now new P Q role result runs syncs weaker =
    step start now new P Q runs (sync_moment role now new result syncs) (sync_adds role now new result syncs) (sync_keeps role now new result syncs) Q
    (λ pair is. runs.ends pair (sync_comes_from role now new result syncs pair is)) weaker

-- A sync that succeeded: each pair holds the role as a read gives it.
pub runs_synced : (start now new : Held) (P Q : Pair → Type 0) (role : Role) {T E : Type 0} (result : Result T E) → Runs start now P Q → Syncs role now new result
    → ((pair : Pair) → Q pair → P pair) → OnOk result (Runs start new P (λ pair. Q pair × (part_of role pair ≡ bytes_of role new)))
runs_synced start now new P Q role (Ok x) runs syncs weaker =
    step start now new P Q runs (sync_moment role now new (Ok x) syncs) (sync_adds role now new (Ok x) syncs) (sync_keeps role now new (Ok x) syncs) (λ pair. Q pair × (part_of role pair ≡ bytes_of role new))
    (λ pair is. (
      runs.ends pair (sync_comes_from role now new (Ok x) syncs pair is),
      subst (λ (held : Held). Now held pair → part_of role pair ≡ bytes_of role held) (sym syncs.done) (sync_durable role now pair) is,
    ))
    (λ pair both. weaker pair both.0)
runs_synced start now new P Q role (Err e) runs syncs weaker = tt

-- a call with a clause of its own about its moments
pub then_leaves : (start now end : Held) (P Q R : Pair → Type 0) → Runs start now P Q → LeavesOnly now end R → ((pair : Pair) → R pair → P pair) → LeavesOnly start end P
then_leaves start now end P Q R runs leaves weaker = leaves_then start now end P runs.leaves (leaves_weaker now end R P weaker leaves)

pub then_runs : (start now end : Held) (P Q R S : Pair → Type 0) → Runs start now P Q → Runs now end R S → ((pair : Pair) → R pair → P pair) → Runs start end P S
then_runs start now end P Q R S first second weaker = record { leaves = then_leaves start now end P Q R first second.leaves weaker; ends = second.ends }

-- a single write, a single sync
pub leaves_write : (role : Role) (at : ℕ) (bytes : List ℕ) (old new : Held) (P : Pair → Type 0) {T E : Type 0} (result : Result T E) → at ≤ length (bytes_of role old) → Writes role at bytes old new result
    → ((before pair : Pair) → Now old before → Torn at (length bytes) (part_of role before) (part_of role pair) → part_of (other role) before ≡ part_of (other role) pair → P pair)
    → LeavesOnly old new P
leaves_write role at bytes old new P result within writes torn =
    let start : Runs old old P (λ pair. Now old pair × P pair) =
    runs_start old P (λ pair. Now old pair × P pair) (λ pair now. (now, torn pair pair now (torn_self at (length bytes) (part_of role pair)) refl)) (λ pair both. both.1) in
    let end : Runs old new P P = runs_write old old new P (λ pair. Now old pair × P pair) P role at bytes result start within writes (λ before pair both. torn before pair both.0) (λ pair is. is) in
    end.leaves

pub leaves_sync : (role : Role) (old new : Held) (P : Pair → Type 0) {T E : Type 0} (result : Result T E) → Syncs role old new result → ((pair : Pair) → Now old pair → P pair) → LeavesOnly old new P
leaves_sync role old new P result syncs each =
    let end : Runs old new P P = runs_sync old old new P P role result (runs_start old P P each (λ pair is. is)) syncs (λ pair is. is) in
    end.leaves
