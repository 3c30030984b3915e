-- What a stop may leave, now and since earlier moments, and how calls change it.
use Rattle.std.proofs.Common.{◌≡◌, ◌⊎◌, inl, inr, ◌≤◌, ℕ, ◌||◌, List, [], ◌∷◌, length, refl, sym, ◌∙◌, ap, subst, arith}
use Rattle.udf_outside.specs.declared.bench.Role.{Role}
use Rattle.udf_outside.specs.declared.bench.Role.TheVariants.{Image, Side}
use Rattle.udf_outside.specs.Files.{other}
use Rattle.udf_outside.specs.Stops.{Content, Disk, Held, Pair, part_of, content_of, bytes_of, pair_of, Leaves, Now, moment, LeftSince, Since, IsDurable, IsSynced, Torn, is_within, moved_on, after_write, after_sync}
use Rattle.udf_outside.specs.Memory.{synced_at}
use Rattle.udf_outside.proofs.Torn.{leaves_torn, leaves_self, leaves_synced}

-- what reads give is a pair that a stop now may leave
pub seen_now : (held : Held) → Now held (pair_of held)
seen_now held = (leaves_self held.now.image, leaves_self held.now.side)

-- what a stop now may leave counts since each earlier moment
pub now_counts : (held : Held) (z : ℕ) (pair : Pair) → z ≤ moment held → Now held pair → Since z held pair
now_counts held z pair le now = inl (le, now)

none_since : (past : List Disk) (z : ℕ) (pair : Pair) → length past ≤ z → LeftSince z past pair → ⊥
none_since [] z pair le since = since
none_since (disk ∷ past) z pair le (inl now) = absurd (let h : z ≤ length past = now.0 in omega arith)
none_since (disk ∷ past) z pair le (inr since) = none_since past z pair (omega arith) since

-- since the present moment there is nothing else
pub only_now : (held : Held) (pair : Pair) → Since (moment held) held pair → Now held pair
only_now held pair (inl now) = now.1
only_now held pair (inr since) = absurd (none_since held.past (moment held) pair (omega arith) since)

-- a moment later: nothing is forgotten, and what is new is what a stop may then leave
pub moved_keeps : (role : Role) (content : Content) (held : Held) (z : ℕ) (pair : Pair) → Since z held pair → Since z (moved_on role content held) pair
unfolding moved_on
moved_keeps role content held z pair since = inr since

pub moved_adds : (role : Role) (content : Content) (held : Held) (z : ℕ) (pair : Pair) → Since z (moved_on role content held) pair → Since z held pair ⊎ Now (moved_on role content held) pair
unfolding moved_on
moved_adds role content held z pair (inl now) = inr now.1
moved_adds role content held z pair (inr since) = inl since

pub moved_moment : (role : Role) (content : Content) (held : Held) → moment held ≤ moment (moved_on role content held)
unfolding moved_on
moved_moment role content held = omega arith

-- this pair with that content of the role
abbrev pub with_part : Role → List ℕ → Pair → Pair
with_part Image bytes pair = (bytes, pair.1)
with_part Side bytes pair = (pair.0, bytes)

pub moved_other : (role : Role) (content : Content) (held : Held) (bytes : List ℕ) (pair : Pair) → Leaves (content_of role held.now) bytes → Now (moved_on role content held) pair
    → Now held (with_part role bytes pair)
unfolding moved_on
moved_other Image content held bytes pair left now = (left, now.1)
moved_other Side content held bytes pair left now = (now.0, left)

pub part_with : (role : Role) (bytes : List ℕ) (pair : Pair) → part_of role (with_part role bytes pair) ≡ bytes
part_with Image bytes pair = refl
part_with Side bytes pair = refl

pub other_with : (role : Role) (bytes : List ℕ) (pair : Pair) → part_of (other role) (with_part role bytes pair) ≡ part_of (other role) pair
other_with Image bytes pair = refl
other_with Side bytes pair = refl

pub moved_part : (role : Role) (content : Content) (held : Held) (pair : Pair) → Now (moved_on role content held) pair → Leaves content (part_of role pair)
unfolding moved_on
moved_part Image content held pair now = now.0
moved_part Side content held pair now = now.1

-- Each pair after a write comes from one before it, torn in the range.
pub torn_from : (role : Role) (at n : ℕ) (bytes : List ℕ) (held : Held) → at ≤ length (bytes_of role held) → Torn at n (bytes_of role held) bytes
    → (pair : Pair) → Now (after_write role at n bytes held) pair
    → (before : Pair) × Now held before × Torn at n (part_of role before) (part_of role pair) × (part_of (other role) before ≡ part_of (other role) pair)
unfolding after_write
torn_from role at n bytes held within torn pair now =
    let old = content_of role held.now in
    let new : Content = record { bytes = bytes; base = old.base; pending = λ i. old.pending i || is_within at n i } in
    let from = leaves_torn old new at n within torn refl (λ i. refl) (part_of role pair) (moved_part role new held pair now) in
    (with_part role from.0 pair, moved_other role new held from.0 pair from.1 now, subst (λ (l : List ℕ). Torn at n l (part_of role pair)) (sym (part_with role from.0 pair)) from.2, other_with role from.0 pair)

-- after a sync each pair holds the role as a read gives it, and was a pair before
pub sync_durable : (role : Role) (held : Held) → IsDurable role (after_sync role held)
unfolding after_sync moved_on
sync_durable Image held pair now = leaves_synced _ refl (λ i. refl) pair.0 now.0
sync_durable Side held pair now = leaves_synced _ refl (λ i. refl) pair.1 now.1

pub sync_adds_none : (role : Role) (held : Held) (pair : Pair) → Now (after_sync role held) pair → Now held pair
unfolding after_sync moved_on
sync_adds_none Image held pair now =
    (subst (λ (l : List ℕ). Leaves held.now.image l) (sym (leaves_synced _ refl (λ i. refl) pair.0 now.0)) (leaves_self held.now.image), now.1)
sync_adds_none Side held pair now =
    (now.0, subst (λ (l : List ℕ). Leaves held.now.side l) (sym (leaves_synced _ refl (λ i. refl) pair.1 now.1)) (leaves_self held.now.side))

-- a write or a sync of one role keeps the other durable
other_durable : (role : Role) (content : Content) (held : Held) → IsDurable (other role) held → IsDurable (other role) (moved_on role content held)
unfolding moved_on
other_durable Image content held durable pair now = durable ((bytes_of Image held), pair.1) (leaves_self held.now.image, now.1)
other_durable Side content held durable pair now = durable (pair.0, (bytes_of Side held)) (now.0, leaves_self held.now.side)

pub write_keeps_other : (role : Role) (at n : ℕ) (bytes : List ℕ) (held : Held) → IsDurable (other role) held → IsDurable (other role) (after_write role at n bytes held)
unfolding after_write
write_keeps_other role at n bytes held durable = other_durable role _ held durable

pub sync_keeps_other : (role : Role) (held : Held) → IsDurable (other role) held → IsDurable (other role) (after_sync role held)
unfolding after_sync
sync_keeps_other role held durable = other_durable role _ held durable

-- synced is durable in both roles
pub synced_from : (held : Held) → IsDurable Image held → IsDurable Side held → IsSynced held
synced_from held image side pair now =
    ap (λ (l : List ℕ). let made : Pair = (l, pair.1) in made) (image pair now) ∙ ap (λ (l : List ℕ). let made : Pair = (bytes_of Image held, l) in made) (side pair now)

pub synced_durable : (held : Held) (role : Role) → IsSynced held → IsDurable role held
synced_durable held Image synced pair now = ap (λ (p : Pair). p.0) (synced pair now)
synced_durable held Side synced pair now = ap (λ (p : Pair). p.1) (synced pair now)

pub begun_synced : (image side : List ℕ) → IsSynced (synced_at image side)
begun_synced image side = synced_from (synced_at image side) (λ pair now. leaves_synced _ refl (λ i. refl) pair.0 now.0) (λ pair now. leaves_synced _ refl (λ i. refl) pair.1 now.1)
