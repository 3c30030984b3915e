-- Nothing is put for an entry whose own values are wanted: they stand in its block as it is.
use Rattle.std.proofs.Common.{◌≡◌, ◌⊎◌, ℕ, zero, suc, ◌+◌, ◌-◌, ◌*◌, ◌/◌, ◌%◌, ◌^◌, ◌<◌, ◌≤◌, ◌==◌, nat_lt, nat_le, ◌&&◌, Bool, true, false, not, cond, Option, Some, List, [], ◌∷◌, ◌++◌, length, take, drop, inl, inr, arith, refl, sym, ap, ◌∙◌}
use Rattle.std.proofs.Math.Nat.{div-div-eq-div-mul, pow-succ'}
use Rattle.std.proofs.lemmas.Bool.{and_parts}
use Rattle.std.proofs.lemmas.Bool.Decides.{nat_tests}
use Rattle.std.proofs.lemmas.List.{length-drop, length-take-le}
use Rattle.std.specs.Prelude.{is_some}
use Rattle.std.specs.Int.{byte_at, bytes_low_first}
use Rattle.std.specs.Str.{bytes_eq}
use Rattle.byteorder.specs.Endian.{little_bytes, little_from, little_number}
use Rattle.byteorder.specs.Numbers.{length-bytes_low_first, little_from-cons}
use Rattle.udf_field.specs.declared.address.Addr.{Addr}
use Rattle.udf_model.specs.Bytes.{IsBytes, number_at, with_number, written_at}
use Rattle.udf_model.proofs.Parts.{drop_is_bytes}
use Rattle.udf_model.proofs.Written.{number_is_written}
use Rattle.udf_file_model.specs.Content.{block_at, block_by}
use Rattle.udf_file_model.specs.Entry.{Entry, attribute_bytes, body_of, descriptor_bytes, entry_in, fits, kind_at}
use Rattle.udf_file_model.specs.Listing.{Volume}
use Rattle.udf_file_model.specs.Wanted.{Field, HasEntry, base_of, body_with, cleared, entry_with, field, fields_of, own, with_fields}
use Rattle.udf_file_model.proofs.Back.{opened}
use Rattle.udf_file_model.proofs.Written.{same_written}
use Rattle.udf_volume_laws.proofs.Same.{bytes_same}
use Rattle.udf_tree_model.specs.Claimed.{list_stays, mended_length}
use Rattle.udf_tree_model.specs.Counts.{wanted_id, wanted_links}
use Rattle.udf_tree_model.specs.Frame.{Frame, entry_at}
use Rattle.udf_tree_model.specs.Ordinary.{is_kept_entry}
use Rattle.udf_tree.specs.declared.node.Node.{Node}
use Rattle.udf_tree.specs.declared.node.NodeId.{NodeId}
use Rattle.udf_tree.specs.declared.stated.Stated.{Stated}
use Rattle.udf_tree.specs.Stated.{stated_at, stated_by}
use Rattle.udf_file_mends.specs.Mends.{edit_by, edits_of, mend_of, mended_entry}
use Rattle.udf_file_mends.specs.Repairable.{IsRepairable}
use Rattle.udf_file_mends.specs.Wanted.{cut_wanted, loses_pointer, wanted}
use Rattle.udf_file_mends.proofs.Held as held
use Rattle.udf_wanted.specs.Wanted.{differing}
use Rattle.udf_file_plan.specs.Base.{PutsOf}
use Rattle.udf_file_plan.specs.Node.{own_by}
use Rattle.udf_file_plan.proofs.Differing.{look_none}
use Rattle.udf_file_plan.proofs.Mended.{made_same, mend_stays}

-- ---- numbers
next_byte : (j x : ℕ) → byte_at (suc j) x ≡ byte_at j (x / 256)
next_byte zero x = omega arith
next_byte (suc j) x = ap (λ y. y % 256) (ap (λ p. x / p) (pow-succ' 256 (suc j)) ∙ sym (div-div-eq-div-mul x 256 (256 ^ suc j)))

-- the bytes above the lowest are those of the number above it
higher : (j k x : ℕ) → bytes_low_first (suc j) k x ≡ bytes_low_first j k (x / 256)
higher j zero x = refl
higher j (suc k) x =
    ap (λ b. b ∷ bytes_low_first (suc (suc j)) k x) (next_byte j x) ∙ ap (λ bs. byte_at j (x / 256) ∷ bs) (higher (suc j) k x)

-- the bytes of the number that bytes make are these bytes
bytes_back : (n : ℕ) (xs : List ℕ) → IsBytes xs → n ≤ length xs → bytes_low_first 0 n (little_from 0 n xs) ≡ take n xs
bytes_back zero xs all room = refl
bytes_back (suc n) [] all room = absurd (omega arith)
bytes_back (suc n) (x ∷ xs) all room =
    let low : x < 256 = all 0 in
    let number : little_from 0 (suc n) (x ∷ xs) ≡ x + 256 * little_from 0 n xs = ap (λ m. x + 256 * m) (little_from-cons 0 n x xs) in
    let m = little_from 0 n xs in
    let byte : (x + 256 * m) % 256 ≡ x = omega arith in
    let rest : (x + 256 * m) / 256 ≡ m = omega arith in
    ap (bytes_low_first 0 (suc n)) number
    ∙ ap (λ b. b ∷ bytes_low_first 1 n (x + 256 * m)) byte
    ∙ ap (λ bs. x ∷ bs) (higher 0 n (x + 256 * m) ∙ ap (bytes_low_first 0 n) rest ∙ bytes_back n xs (λ i. all (suc i)) (omega arith))

number_stands : (n at : ℕ) (block : List ℕ) → IsBytes block → at + n ≤ length block → with_number n at (number_at n block at) block ≡ block
unfolding number_at
number_stands n at block all room =
    let front : little_bytes n (little_number n (drop at block)) ≡ take n (drop at block) =
    bytes_back n (drop at block) (drop_is_bytes at block all) (omega (arith, length-drop at block)) in
    number_is_written n at (little_number n (drop at block)) block
    ∙ same_written at (little_bytes n (little_number n (drop at block))) block
    (front ∙ ap (λ k. take k (drop at block)) (sym (length-bytes_low_first 0 n (little_number n (drop at block)))))

-- ---- fields
abbrev Stand : List ℕ → List Field → Type 0
Stand block [] = Unit {0}
Stand block (f ∷ fs) = (with_number f.width f.at f.value block ≡ block) × Stand block fs

fields_stand : (fs : List Field) (block : List ℕ) → Stand block fs → with_fields fs block ≡ block
unfolding with_fields
fields_stand [] block h = refl
fields_stand (f ∷ fs) block h = ap (with_number f.width f.at f.value) (fields_stand fs block h.1) ∙ h.0

module _ (at header : ℕ) (block : List ℕ) (has : HasEntry at header block) where
  small : header ≤ 216
  small = by (opened at header block has.readable).known
    where
      by : (header ≡ 176) ⊎ (header ≡ 216) → header ≤ 216
      by (inl e) = omega arith
      by (inr e) = omega arith

  least : 16 ≤ header
  least = by (opened at header block has.readable).known
    where
      by : (header ≡ 176) ⊎ (header ≡ 216) → 16 ≤ header
      by (inl e) = omega arith
      by (inr e) = omega arith

  body_room : base_of header block + descriptor_bytes header block ≤ length block
  unfolding fits
  body_room = room (and_parts (nat_lt (kind_at block) 4) _ (opened at header block has.readable).fitting).1
    where
      room : nat_le (header + attribute_bytes header block + descriptor_bytes header block) (length block) ≡ true → base_of header block + descriptor_bytes header block ≤ length block
      room t = grind (arith, nat_tests)

  body_long : length (body_of header block) ≡ descriptor_bytes header block
  unfolding body_of
  body_long =
      length-take-le (descriptor_bytes header block) (drop (base_of header block) block) (omega (arith, body_room, length-drop (base_of header block) block))

  stands : (width from : ℕ) → from + width ≤ 216 → with_number width from (number_at width block from) block ≡ block
  stands width from h = number_stands width from block has.bytes (omega (arith, h, has.least))

  all_stand : with_fields (fields_of header (own header block)) block ≡ block
  unfolding fields_of
  all_stand =
      fields_stand _ block (
        ap (λ n. with_number 4 (header - 4) n block) body_long ∙ stands 4 (header - 4) (omega (arith, small, least)),
        (stands 2 48 (omega arith), (stands 8 56 (omega arith), (stands 8 (header - 16) (omega (arith, small, least)), extended (header == 216)))),
      )
    where
      extended : (b : Bool) → Stand block (cond b (field 8 64 (number_at 8 block 64) ∷ cleared false) [])
      extended true = (stands 8 64 (omega arith), tt)
      extended false = tt

  -- with its own values a block is as it was
  own_body : body_with header (own header block) block ≡ block
  unfolding body_with body_of
  own_body =
      ap (λ b. written_at (base_of header block) (body_of header block) b) all_stand
      ∙ same_written (base_of header block) (body_of header block) block (ap (λ k. take k (drop (base_of header block) block)) (sym body_long))

  pub own_stays : (location : ℕ) → mended_entry location header (own header block) block ≡ block
  unfolding mended_entry
  own_stays location =
      ap (λ (b : Bool). cond b block (entry_with location header (own header block) block))
      (ap (λ z. bytes_eq (drop 16 z) (drop 16 block)) own_body ∙ bytes_same (drop 16 block))

-- a block that is put where it stands differs nowhere
same_block : (v : Volume) (x : Addr) (s : ℕ) → v.place x ≡ Some s → differing v.disk (edits_of v ((x, block_at v x) ∷ [])) ≡ []
unfolding edits_of differing
same_block v x s place =
    ap (λ o. differing v.disk (edit_by (block_by v.disk o) o ++ [])) place
    ∙ ap (λ b. cond (not b) ((s, v.disk s) ∷ []) []) (bytes_same (v.disk s))

-- of a kept entry whose list stays, which states the link count and the identifier that are wanted and loses no pointer, no block differs
module _ (f : Frame) (v : Volume) (ok : IsRepairable f v) (a : Addr) (e : Entry) (kept : is_kept_entry f v a ≡ true) (reads : entry_at v a ≡ Some e)
    (links : e.links ≡ wanted_links f v a) (id : e.id ≡ wanted_id f v a) (lost : loses_pointer f v a ≡ false) (stays : list_stays f v a e ≡ true) where
  abbrev now : List ℕ
  now = block_at v a

  abbrev is : entry_in e.header now ≡ e
  is = held.is_entry f v ok a e kept reads

  own_wanted : own e.header now ≡ wanted f v a e now
  unfolding wanted
  own_wanted =
      made_same _ _ _ _ _ _ _ _ _ _ _ _ (ap (λ (z : Entry). z.information) is ∙ sym (ap (λ t. cond t e.information (mended_length f v a e)) stays))
      (sym (ap (λ t. cond t (number_at 8 now 64) (mended_length f v a e)) stays)) (ap (λ (z : Entry). z.links) is ∙ links) (ap (λ (z : Entry). z.id) is ∙ id) (sym lost)
      (ap (λ (z : Entry). z.body) is ∙ sym (ap (λ t. cond t e.body (cut_wanted f v a e)) stays))

  mend_same : (a, now) ∷ [] ≡ mend_of f v a
  mend_same =
      ap (λ b. (a, b) ∷ []) (sym (own_stays a.block e.header now (held.has_entry f v ok a e kept reads) a.block))
      ∙ mend_stays f v ok a e kept reads (own e.header now) e.header stays refl own_wanted

  pub none_differ : differing v.disk (edits_of v (mend_of f v a)) ≡ []
  none_differ =
      let at = held.block f v ok a e kept reads in
      ap (λ z. differing v.disk (edits_of v z)) (sym mend_same) ∙ same_block v a at.sector at.place

-- ---- what the survey tells of such an entry
number_is : (m n : ℕ) → (m == n) ≡ true → m ≡ n
number_is m n t = grind (arith, nat_tests)

not_true : (b : Bool) → not b ≡ true → b ≡ false
not_true true h = absurd (cc)
not_true false h = refl

states : (v : Volume) (a : Addr) (e : Entry) (s : Stated) → entry_at v a ≡ Some e → s ≡ stated_at v a → s ≡ stated_by (Some e)
unfolding stated_at
states v a e s reads is = is ∙ ap stated_by reads

module _ (f : Frame) (v : Volume) (ok : IsRepairable f v) (a : Addr) (e : Entry) (kept : is_kept_entry f v a ≡ true) (reads : entry_at v a ≡ Some e) where
  pub own_puts_nothing : (n : Node) (s : Stated) (p : Option NodeId) → s ≡ stated_at v a → own_by n s p ≡ true → n.links ≡ wanted_links f v a → n.id ≡ wanted_id f v a
      → (is_some s.pointer && not (is_some p)) ≡ loses_pointer f v a → list_stays f v a e ≡ true → (old : List (ℕ × List ℕ)) → PutsOf v old old (mend_of f v a)
  own_puts_nothing n s p is own links id clear stays old =
      let same = states v a e s reads is in
      let first = and_parts (s.links == n.links) ((s.id == n.id) && not (is_some s.pointer && not (is_some p))) own in
      let second = and_parts (s.id == n.id) (not (is_some s.pointer && not (is_some p))) first.1 in
      look_none old (differing v.disk (edits_of v (mend_of f v a)))
      (sym (none_differ f v ok a e kept reads
      (sym (ap (λ (z : Stated). z.links) same) ∙ number_is s.links n.links first.0 ∙ links)
      (sym (ap (λ (z : Stated). z.id) same) ∙ number_is s.id n.id second.0 ∙ id)
      (sym clear ∙ not_true (is_some s.pointer && not (is_some p)) second.1) stays))
