-- What the two files of a bench hold, and what a stop may leave of them.
use Rattle.std.specs.Prelude.{◌≡◌, ◌⊎◌, ℕ, Bool, false, ◌+◌, ◌<◌, ◌≤◌, min, max, nat_le, nat_lt, ◌&&◌, ◌||◌, List, [], ◌∷◌, ◌++◌, length, take, drop, slice_index, Result, OnOk, OnErr}
use Rattle.udf_outside.specs.declared.bench.Role.{Role}
use Rattle.udf_outside.specs.declared.bench.Role.TheVariants.{Image, Side}

-- One file: the bytes that a read gives, its length at its last sync that succeeded (at the start where none came), and
-- which offsets lie in a range that was written since.
pub record Content : Type 0 where
  pub bytes : List ℕ
  pub base : ℕ
  pub pending : ℕ → Bool

pub record Disk : Type 0 where
  pub image : Content
  pub side : Content

-- the files as they are, and as they were at each earlier moment, the latest first
pub record Held : Type 0 where
  pub now : Disk
  pub past : List Disk

-- the contents of the image and of the side file
abbrev pub Pair : Type 0
Pair = List ℕ × List ℕ

abbrev pub part_of : Role → Pair → List ℕ
part_of Image pair = pair.0
part_of Side pair = pair.1

abbrev pub content_of : Role → Disk → Content
content_of Image disk = disk.image
content_of Side disk = disk.side

abbrev pub with_content : Role → Content → Disk → Disk
with_content Image content disk = record { image = content; side = disk.side }
with_content Side content disk = record { image = disk.image; side = content }

-- what a read of a role gives
abbrev pub bytes_of : Role → Held → List ℕ
bytes_of role held = (content_of role held.now).bytes

abbrev pub pair_of : Held → Pair
pair_of held = (bytes_of Image held, bytes_of Side held)

-- A stop leaves any byte at a pending offset and else the byte that a read gives, and any length from the one at the
-- last sync to the present one.
pub record Leaves (content : Content) (left : List ℕ) : Type 0 where
  pub no_shorter : min content.base (length content.bytes) ≤ length left
  pub no_longer : length left ≤ length content.bytes
  pub same : (i : ℕ) → i < length left → content.pending i ≡ false → slice_index left i ≡ slice_index content.bytes i

abbrev pub LeavesPair : Disk → Pair → Type 0
LeavesPair disk pair = Leaves disk.image pair.0 × Leaves disk.side pair.1

-- a stop now may leave this pair
abbrev pub Now : Held → Pair → Type 0
Now held pair = LeavesPair held.now pair

-- moments are numbered from the first; the disk before which so many stood is of that moment
abbrev pub moment : Held → ℕ
moment held = length held.past

abbrev pub LeftSince : ℕ → List Disk → Pair → Type 0
LeftSince z [] pair = ⊥
LeftSince z (disk ∷ past) pair = ((z ≤ length past) × LeavesPair disk pair) ⊎ LeftSince z past pair

-- a stop at some moment from z on might have left this pair
abbrev pub Since : ℕ → Held → Pair → Type 0
Since z held pair = LeftSince z (held.now ∷ held.past) pair

-- a stop now leaves what a read gives: in one role, in both
abbrev pub IsDurable : Role → Held → Type 0
IsDurable role held = (pair : Pair) → Now held pair → part_of role pair ≡ bytes_of role held

abbrev pub IsSynced : Held → Type 0
IsSynced held = (pair : Pair) → Now held pair → pair ≡ pair_of held

-- n bytes from an offset
abbrev pub slice_of : List ℕ → ℕ → ℕ → List ℕ
slice_of bytes at n = take n (drop at bytes)

-- these bytes put at this offset
abbrev pub put : List ℕ → ℕ → List ℕ → List ℕ
put old at bytes = take at old ++ (bytes ++ drop (at + length bytes) old)

-- any bytes in the range, the same elsewhere, and a length between the old one and the one after the whole write
pub record Torn (at n : ℕ) (old new : List ℕ) : Type 0 where
  pub before : take at new ≡ take at old
  pub after : drop (at + n) new ≡ drop (at + n) old
  pub no_shorter : length old ≤ length new
  pub no_longer : length new ≤ max (length old) (at + n)

abbrev pub is_within : ℕ → ℕ → ℕ → Bool
is_within at n i = nat_le at i && nat_lt i (at + n)

-- the moment after: the role has this content, and what stood before has been
unfoldable pub moved_on : Role → Content → Held → Held
moved_on role content held = record { now = with_content role content held.now; past = held.now ∷ held.past }

-- the files after a write of n bytes at an offset that left these bytes; its range is pending
unfoldable pub after_write : Role → ℕ → ℕ → List ℕ → Held → Held
after_write role at n bytes held = moved_on role (record {
  bytes = bytes;
  base = (content_of role held.now).base;
  pending = λ i. (content_of role held.now).pending i || is_within at n i;
}) held

-- the files after a sync of a role that succeeded: nothing of it is pending
unfoldable pub after_sync : Role → Held → Held
after_sync role held = moved_on role (record {
  bytes = bytes_of role held;
  base = length (bytes_of role held);
  pending = λ i. false;
}) held

-- A write: done, the bytes stand in the range. Failed, it has touched nothing, or left its range torn and pending.
pub record Writes {T E : Type 0} (role : Role) (at : ℕ) (bytes : List ℕ) (old new : Held) (result : Result T E) : Type 0 where
  pub done : OnOk result (new ≡ after_write role at (length bytes) (put (bytes_of role old) at bytes) old)
  pub failed : OnErr result ((new ≡ old)
      ⊎ ((left : List ℕ) × Torn at (length bytes) (bytes_of role old) left × (new ≡ after_write role at (length bytes) left old)))

pub record Syncs {T E : Type 0} (role : Role) (old new : Held) (result : Result T E) : Type 0 where
  pub done : OnOk result (new ≡ after_sync role old)
  pub failed : OnErr result (new ≡ old)

-- Each pair that a stop might have left since the old moment has P, and for a run that began earlier nothing else is new
-- and nothing is forgotten.
pub record LeavesOnly (old new : Held) (P : Pair → Type 0) : Type 0 where
  pub later : moment old ≤ moment new
  pub each : (pair : Pair) → Since (moment old) new pair → P pair
  pub before : (z : ℕ) (pair : Pair) → Since z new pair → Since z old pair ⊎ P pair
  pub keeps : (z : ℕ) (pair : Pair) → Since z old pair → Since z new pair
