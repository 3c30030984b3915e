-- A copy of a sequence is read as the sequence is.
use Rattle.std.proofs.Common.{◌≡◌, ℕ, zero, suc, ◌+◌, ◌-◌, ◌<◌, ◌≤◌, arith, refl, sym, ◌∙◌, ap, List, [], ◌∷◌, length, Bool, true, false, cond, take, drop, get_or, replicate, lit<}
use Rattle.std.proofs.lemmas.List.{length-replicate, take-replicate}
use Rattle.udf_model.specs.Bytes.{number_at}
use Rattle.udf_model.proofs.Retagged.{retagged_length, retagged_identifier, whole_by_crc}
use Rattle.udf_model.specs.Crc.{crc_of, times_x, times_x8}
use Rattle.udf_model.specs.Tag.{whole_id, is_id, relocated}
use Rattle.udf_volume_model.specs.Sequence.{Descriptor, End, view_of}
use Rattle.udf_volume_model.specs.Edits.{look}
use Rattle.udf_volume_model.specs.Mended.{terminator, copies, end_block}
use Rattle.udf_volume_laws.proofs.Walk.{Walks, same_walk}
use Rattle.udf_volume_laws.proofs.Moved.{IsTagged, moved_tagged, moved_view, tagged_id, id_tagged, eight_ends}
use Rattle.udf_volume_laws.proofs.Puts.{IsOff, look_here, look_past}

crc_zeros : (n : ℕ) → crc_of (replicate n 0) ≡ 0
unfolding crc_of times_x8 times_x
crc_zeros zero = refl
crc_zeros (suc n) = crc_zeros n

-- the area of a terminator before its tag is made
abbrev blank : ℕ → List ℕ → List ℕ
blank size like = 8 ∷ 0 ∷ get_or like 2 0 ∷ get_or like 3 0 ∷ 0 ∷ 0 ∷ get_or like 6 0 ∷ get_or like 7 0 ∷ replicate (size - 8) 0

blank_length : (size : ℕ) (like : List ℕ) → 512 ≤ size → length (blank size like) ≡ size
blank_length size like room = omega (arith, length-replicate {A = ℕ} (size - 8) 0)

eight_more : (size : ℕ) → 512 ≤ size → replicate {A = ℕ} (size - 8) 0 ≡ 0 ∷ 0 ∷ 0 ∷ 0 ∷ 0 ∷ 0 ∷ 0 ∷ 0 ∷ replicate (size - 16) 0
eight_more size room = ap (λ n. replicate {A = ℕ} n 0) (let e : size - 8 ≡ suc (suc (suc (suc (suc (suc (suc (suc (size - 16)))))))) = omega arith in e)

blank_crc : (size : ℕ) (like : List ℕ) → 512 ≤ size → crc_of (take 496 (drop 16 (blank size like))) ≡ 0
blank_crc size like room =
    ap (λ rest. crc_of (take 496 (drop 8 rest))) (eight_more size room)
    ∙ ap crc_of (take-replicate 496 (size - 16) 0 (omega arith)) ∙ crc_zeros 496

terminator_tagged : (size at : ℕ) (like : List ℕ) → 512 ≤ size → IsTagged 8 (terminator size at like)
unfolding terminator number_at
terminator_tagged size at like room =
    let long = blank_length size like room in
    let crc = blank_crc size like room in
    record {
      whole = whole_by_crc at 496 (blank size like) (omega arith) (lit< tt) (omega arith);
      same = retagged_identifier at 496 (blank size like) (omega arith);
    }

pub terminator_length : (size at : ℕ) (like : List ℕ) → 512 ≤ size → length (terminator size at like) ≡ size
unfolding terminator
terminator_length size at like room =
    let long = blank_length size like room in retagged_length at 496 (blank size like) (omega arith) ∙ long

-- the block that ends a copy is a terminator
pub end_tagged : (size at : ℕ) (block like : List ℕ) → 512 ≤ size → 16 ≤ length block → IsTagged 8 (end_block size at block like)
unfolding end_block
end_tagged size at block like large room = by_eight (is_id 8 (whole_id block)) refl where
  by_eight : (b : Bool) → is_id 8 (whole_id block) ≡ b → IsTagged 8 (cond b (relocated at block) (terminator size at like))
  by_eight true e = moved_tagged at 8 block room (id_tagged 8 block e)
  by_eight false e = terminator_tagged size at like large

pub end_ends : (size at : ℕ) (block like : List ℕ) → 512 ≤ size → 16 ≤ length block → view_of (end_block size at block like) ≡ End
end_ends size at block like large room = eight_ends _ (tagged_id 8 _ (end_tagged size at block like large room))

pub copies_below : (size : ℕ) (disk : ℕ → List ℕ) (like : List ℕ) (count from to n : ℕ) → n < to → IsOff n (copies size disk like from to count)
unfolding copies
copies_below size disk like zero from to n h = ((λ e. omega arith), tt)
copies_below size disk like (suc count) from to n h = ((λ e. omega arith), copies_below size disk like count (from + 1) (to + 1) n (omega arith))

pub copies_above : (size : ℕ) (disk : ℕ → List ℕ) (like : List ℕ) (count from to n : ℕ) → to + count < n → IsOff n (copies size disk like from to count)
unfolding copies
copies_above size disk like zero from to n h = ((λ e. omega arith), tt)
copies_above size disk like (suc count) from to n h = ((λ e. omega arith), copies_above size disk like count (from + 1) (to + 1) n (omega arith))

-- the copy says what the original says
pub copied : (size : ℕ) (disk base : ℕ → List ℕ) (like : List ℕ) (list : List Descriptor) (count from to : ℕ) → 512 ≤ size → length list ≡ count
    → ((n : ℕ) → from ≤ n → n ≤ from + count → 16 ≤ length (disk n))
    → Walks (λ n. view_of (disk n)) from list
    → Walks (λ n. view_of (look n (copies size disk like from to count) (base n))) to list
unfolding copies
copied size disk base like [] zero from to large many room w =
    ap view_of (look_here to to (end_block size to (disk from) like) [] (base to) refl)
    ∙ end_ends size to (disk from) like large (room from (omega arith) (omega arith))
copied size disk base like [] (suc count) from to large many room w = absurd (omega arith)
copied size disk base like (descriptor ∷ list) zero from to large many room w = absurd (omega arith)
copied size disk base like (descriptor ∷ list) (suc count) from to large many room w = (
  ap view_of (look_here to to (relocated to (disk from)) (copies size disk like (from + 1) (to + 1) count) (base to) refl)
      ∙ moved_view to (disk from) descriptor (room from (omega arith) (omega arith)) w.0,
  same_walk _ _ (to + 1) list
      (λ n l. ap view_of (sym (look_past n to (relocated to (disk from)) (copies size disk like (from + 1) (to + 1) count) (base n) (λ e. omega arith))))
      (copied size disk base like list count (from + 1) (to + 1) large (omega arith) (λ n l k. room n (omega arith) (omega arith)) w.1),
)
