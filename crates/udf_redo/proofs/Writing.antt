-- One write behind another.
use Rattle.std.proofs.Common.{◌≡◌, ◌≤◌, ℕ, ◌+◌, List, [], ◌∷◌, ◌++◌, length, take, sym, ◌∙◌, ap, subst, arith, length-append, append_assoc, append-nil, Some, slice_get}
use Rattle.std.specs.List.{flat_map, All}
use Rattle.std.proofs.lemmas.List.{same_lists, places, take_more, flat_map_more}
use Rattle.std.proofs.lemmas.Option.{get_or_from_slice_get, slice_get_within}
use Rattle.byteorder.specs.Endian.{little_bytes}
use Rattle.udf_outside.specs.declared.bench.Role.TheVariants.{Side}
use Rattle.udf_outside.specs.Files.{Files, IsWritable, resized}
use Rattle.udf_outside.specs.Stops.{put}
use Rattle.udf_redo.specs.Log.{Edit}
use Rattle.udf_redo.specs.Log.{record_bytes}

put_put : (v a b : List ℕ) (at : ℕ) → at ≤ length v → put (put v at a) (at + length a) b ≡ put v at (a ++ b)
put_put v a b at le = same_lists _ _ (grind (arith, places)) (λ k d h. grind (arith, places))

-- what stands in the file so far, and one record more
record_more : (head : List ℕ) (edits : List Edit) (k : ℕ) (edit : Edit) → slice_get edits k ≡ Some edit
    → head ++ flat_map record_bytes (take (k + 1) edits) ≡ (head ++ flat_map record_bytes (take k edits)) ++ record_bytes edit
record_more head edits k edit got =
    let more : take (k + 1) edits ≡ take k edits ++ edit ∷ [] = take_more edits k edit (slice_get_within edits k edit got) ∙ ap (λ (q : Edit). take k edits ++ q ∷ []) (get_or_from_slice_get edits k edit edit got) in
    ap (λ (q : List Edit). head ++ flat_map record_bytes q) more ∙ sym (flat_map_more record_bytes head (take k edits) edit)

length_record : (edit : Edit) → length (record_bytes edit) ≡ 4 + length edit.1
unfolding record_bytes
length_record edit = omega (arith, length-append (little_bytes 4 edit.0) edit.1)

-- its two parts, one after the other
record_parts : (so_far : List ℕ) (edit : Edit) → (so_far ++ little_bytes 4 edit.0) ++ edit.1 ≡ so_far ++ record_bytes edit
unfolding record_bytes
record_parts so_far edit = append_assoc so_far (little_bytes 4 edit.0) edit.1

pub body_turn : (side head : List ℕ) (edits : List Edit) (k : ℕ) (edit : Edit) (at : ℕ) (was one two : List ℕ) → slice_get edits k ≡ Some edit
    → was ≡ put side 9 (head ++ flat_map record_bytes (take k edits)) → 9 + length (head ++ flat_map record_bytes (take k edits)) ≡ at → 9 ≤ length side
    → one ≡ put was at (little_bytes 4 edit.0) → two ≡ put one (at + 4) edit.1 → two ≡ put side 9 (head ++ flat_map record_bytes (take (k + 1) edits))
body_turn side head edits k edit at was one two got is long le first second =
    let so_far = head ++ flat_map record_bytes (take k edits) in
    let sector = little_bytes 4 edit.0 in
    let one_is : one ≡ put side 9 (so_far ++ sector) =
    first ∙ ap (λ (v : List ℕ). put v at sector) is ∙ ap (λ (n : ℕ). put (put side 9 so_far) n sector) (sym long) ∙ put_put side so_far sector 9 le in
    let place : at + 4 ≡ 9 + length (so_far ++ sector) = omega (arith, long, length-append so_far sector) in
    second ∙ ap (λ (v : List ℕ). put v (at + 4) edit.1) one_is ∙ ap (λ (n : ℕ). put (put side 9 (so_far ++ sector)) n edit.1) place ∙ put_put side (so_far ++ sector) edit.1 9 le
    ∙ ap (λ (v : List ℕ). put side 9 v) (record_parts so_far edit ∙ sym (record_more head edits k edit got))

pub body_length : (head : List ℕ) (edits : List Edit) (k : ℕ) (edit : Edit) (at : ℕ) → slice_get edits k ≡ Some edit → 9 + length (head ++ flat_map record_bytes (take k edits)) ≡ at
    → 9 + length (head ++ flat_map record_bytes (take (k + 1) edits)) ≡ at + (4 + length edit.1)
body_length head edits k edit at got long =
    omega (arith, long, ap length (record_more head edits k edit got), length-append (head ++ flat_map record_bytes (take k edits)) (record_bytes edit), length_record edit)

-- what holds of each edit holds of the one at a place
pub edit_at : (P : Edit → Type 0) (edits : List Edit) (k : ℕ) (edit : Edit) → All P edits → slice_get edits k ≡ Some edit → P edit
edit_at P edits k edit all got = subst P (get_or_from_slice_get edits k edit edit got) (all k edit (slice_get_within edits k edit got))

pub still_writable : (new old : Files) → new ≡ resized Side new.side.size old → IsWritable Side old → IsWritable Side new
still_writable new old is writable = subst (λ (files : Files). IsWritable Side files) (sym is) writable

-- before the first record
pub body_begins : (head : List ℕ) (edits : List Edit) → length head ≡ 52 → 9 + length (head ++ flat_map record_bytes (take 0 edits)) ≡ 61
body_begins head edits long = omega (arith, long, length-append head [])

pub body_starts : (side head : List ℕ) (edits : List Edit) → put side 9 head ≡ put side 9 (head ++ flat_map record_bytes (take 0 edits))
body_starts side head edits = ap (λ (l : List ℕ). put side 9 l) (sym (append-nil head))
