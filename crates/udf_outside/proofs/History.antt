-- A change of the files in memory is one more moment.
use Rattle.std.proofs.Common.{◌≡◌, ℕ, Bool, ◌||◌, List, [], ◌∷◌, ◌++◌, length, reverse, refl, ◌∙◌, ap}
use mathlib.Core.Path.{fun_ext}
use Rattle.std.proofs.lemmas.List.{reverse-append}
use Rattle.udf_outside.specs.declared.bench.Role.{Role}
use Rattle.udf_outside.specs.declared.bench.Role.TheVariants.{Image, Side}
use Rattle.udf_outside.specs.declared.memory.change.Change.{Change}
use Rattle.udf_outside.specs.declared.memory.change.Undo.{Undo}
use Rattle.udf_outside.specs.Files.{other}
use Rattle.udf_outside.specs.Stops.{Content, Disk, Held, bytes_of, is_within, moved_on, after_write, after_sync}
use Rattle.udf_outside.specs.Ranges.{covers}
use Rattle.udf_outside.specs.Tracked.{Tracked}
use Rattle.udf_outside.specs.Undo.{one_of, undone_in, content_in, disk_in, past_of, held_of}

pub held_moves : (changes : List Change) (change : Change) (image side image' side' : Tracked)
    → undone_in Image change.role change.undo image' ≡ image → undone_in Side change.role change.undo side' ≡ side
    → held_of (changes ++ change ∷ []) image' side' ≡ record { now = disk_in image' side'; past = (held_of changes image side).now ∷ (held_of changes image side).past }
unfolding held_of
held_moves changes change image side image' side' was_image was_side =
    let held : List Disk → Held = λ past. record { now = disk_in image' side'; past = past } in
    ap held (ap (λ (l : List Change). past_of l image' side') (reverse-append changes (change ∷ [])))
    ∙ ap (λ (i : Tracked). held (disk_in i (undone_in Side change.role change.undo side') ∷ past_of (reverse changes) i (undone_in Side change.role change.undo side'))) was_image
    ∙ ap (λ (s : Tracked). held (disk_in image s ∷ past_of (reverse changes) image s)) was_side

content_wrote : (old new : Tracked) (at n : ℕ) → new.base ≡ old.base → ((i : ℕ) → covers new.ranges i ≡ (covers old.ranges i || is_within at n i))
    → content_in new ≡ record { bytes = new.bytes; base = (content_in old).base; pending = λ i. (content_in old).pending i || is_within at n i }
unfolding content_in
content_wrote old new at n base pending =
    ap (λ (b : ℕ). let content : Content = record { bytes = new.bytes; base = b; pending = λ i. covers new.ranges i } in content) base
    ∙ ap (λ (p : ℕ → Bool). let content : Content = record { bytes = new.bytes; base = old.base; pending = p } in content) (fun_ext pending)

pub held_wrote : (role : Role) (changes changes' : List Change) (undo : Undo) (image side image' side' : Tracked) (at n : ℕ) (bytes : List ℕ)
    → changes' ≡ changes ++ record { role = role; undo = undo } ∷ []
    → undone_in Image role undo image' ≡ image → undone_in Side role undo side' ≡ side
    → (one_of role image' side').bytes ≡ bytes → (one_of role image' side').base ≡ (one_of role image side).base
    → ((i : ℕ) → covers (one_of role image' side').ranges i ≡ (covers (one_of role image side).ranges i || is_within at n i))
    → one_of (other role) image' side' ≡ one_of (other role) image side
    → held_of changes' image' side' ≡ after_write role at n bytes (held_of changes image side)
unfolding after_write moved_on held_of
held_wrote Image changes changes' undo image side image' side' at n bytes grown was_image was_side wrote base pending rest =
    let past = (held_of changes image side).now ∷ (held_of changes image side).past in
    ap (λ (l : List Change). held_of l image' side') grown ∙ held_moves changes (record { role = Image; undo = undo }) image side image' side' was_image was_side
    ∙ ap (λ (s : Tracked). let held : Held = record { now = disk_in image' s; past = past } in held) rest
    ∙ ap (λ (c : Content). let held : Held = record { now = record { image = c; side = content_in side }; past = past } in held) (content_wrote image image' at n base pending)
    ∙ ap (λ (b : List ℕ). let held : Held = record { now = record { image = record { bytes = b; base = (content_in image).base; pending = λ i. (content_in image).pending i || is_within at n i }; side = content_in side }; past = past } in held) wrote
held_wrote Side changes changes' undo image side image' side' at n bytes grown was_image was_side wrote base pending rest =
    let past = (held_of changes image side).now ∷ (held_of changes image side).past in
    ap (λ (l : List Change). held_of l image' side') grown ∙ held_moves changes (record { role = Side; undo = undo }) image side image' side' was_image was_side
    ∙ ap (λ (i : Tracked). let held : Held = record { now = disk_in i side'; past = past } in held) rest
    ∙ ap (λ (c : Content). let held : Held = record { now = record { image = content_in image; side = c }; past = past } in held) (content_wrote side side' at n base pending)
    ∙ ap (λ (b : List ℕ). let held : Held = record { now = record { image = content_in image; side = record { bytes = b; base = (content_in side).base; pending = λ i. (content_in side).pending i || is_within at n i } }; past = past } in held) wrote

pub held_synced : (role : Role) (changes changes' : List Change) (undo : Undo) (image side image' side' : Tracked)
    → changes' ≡ changes ++ record { role = role; undo = undo } ∷ []
    → undone_in Image role undo image' ≡ image → undone_in Side role undo side' ≡ side
    → one_of role image' side' ≡ record { bytes = (one_of role image side).bytes; base = length (one_of role image side).bytes; ranges = [] }
    → one_of (other role) image' side' ≡ one_of (other role) image side
    → held_of changes' image' side' ≡ after_sync role (held_of changes image side)
unfolding after_sync moved_on held_of content_in
held_synced Image changes changes' undo image side image' side' grown was_image was_side synced rest =
    let past = (held_of changes image side).now ∷ (held_of changes image side).past in
    ap (λ (l : List Change). held_of l image' side') grown ∙ held_moves changes (record { role = Image; undo = undo }) image side image' side' was_image was_side
    ∙ ap (λ (s : Tracked). let held : Held = record { now = disk_in image' s; past = past } in held) rest
    ∙ ap (λ (i : Tracked). let held : Held = record { now = disk_in i side; past = past } in held) synced
held_synced Side changes changes' undo image side image' side' grown was_image was_side synced rest =
    let past = (held_of changes image side).now ∷ (held_of changes image side).past in
    ap (λ (l : List Change). held_of l image' side') grown ∙ held_moves changes (record { role = Side; undo = undo }) image side image' side' was_image was_side
    ∙ ap (λ (i : Tracked). let held : Held = record { now = disk_in i side'; past = past } in held) rest
    ∙ ap (λ (s : Tracked). let held : Held = record { now = disk_in image s; past = past } in held) synced

pub bytes_are : (role : Role) (changes : List Change) (image side : Tracked) → bytes_of role (held_of changes image side) ≡ (one_of role image side).bytes
unfolding held_of content_in
bytes_are Image changes image side = refl
bytes_are Side changes image side = refl
