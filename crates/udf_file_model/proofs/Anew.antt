-- A FID that is made to name another address.
use Rattle.std.proofs.Common.{◌≡◌, ℕ, Bool, true, false, cond, ◌+◌, ◌-◌, ◌*◌, ◌/◌, ◌%◌, ◌^◌, ◌<◌, ◌≤◌, ◌&&◌, ◌⊎◌, inl, inr, Some, None, List, length, drop, get_or, arith, sym, ◌∙◌, ap, refl}
use Rattle.std.specs.Prelude.{nat_le, nat_lt, not, ◌==◌}
use Rattle.std.proofs.lemmas.Bool.Decides.{nat_tests}
use Rattle.std.proofs.lemmas.Bool.{and_parts}
use Rattle.std.proofs.lemmas.List.{drop-drop}
use Rattle.byteorder.specs.Endian.{little_number}
use Rattle.udf_model.specs.Bytes.{IsBytes, number_at, with_number}
use Rattle.udf_model.specs.Tag.{whole_id, is_whole, identifier, crc_length, location, retagged}
use Rattle.udf_model.proofs.Retagged.{retagged_whole, retagged_identifier, retagged_length, retagged_body}
use Rattle.udf_model.proofs.Written.{number_back, number_length, number_stays, number_is_bytes, number_fits, one_byte}
use Rattle.udf_field.specs.FieldView.{length_bits}
use Rattle.udf_field.specs.declared.address.Addr.{Addr}
use Rattle.udf_file_model.specs.Fid.{IsFid, fid_length, name_length, characteristics, is_deleted, is_parent, is_live, target}
use Rattle.udf_file_model.specs.Anew.{readdressed, named_anew}
use Rattle.udf_file_model.proofs.Fids.{is_long}

-- a number behind the tag is not touched by a new tag
number_retagged : (n from location many : ℕ) (area : List ℕ) → 16 ≤ length area → 16 ≤ from → number_at n (retagged location many area) from ≡ number_at n area from
unfolding number_at
number_retagged n from location many area room h =
    ap (little_number n) (split (retagged location many area) ∙ ap (drop (from - 16)) (retagged_body location many area room) ∙ sym (split area))
  where
    split : (xs : List ℕ) → drop from xs ≡ drop (from - 16) (drop 16 xs)
    split xs =
        let e : 16 + (from - 16) ≡ from = omega arith in
        sym (ap (λ k. drop k xs) e) ∙ sym (drop-drop (from - 16) 16 xs)

-- what a whole tag shows
crc_room : (area : List ℕ) → is_whole area ≡ true → 16 + crc_length area ≤ length area
unfolding is_whole
crc_room area h = below (and_parts (nat_le (16 + crc_length area) (length area)) _ h).0
  where
    below : {m n : ℕ} → nat_le m n ≡ true → m ≤ n
    below t = grind (arith, nat_tests)

whole_by_id : (area : List ℕ) (id : ℕ) → whole_id area ≡ Some id → is_whole area ≡ true
unfolding whole_id
whole_by_id area id h = by (is_whole area) h
  where
    by : (t : Bool) → cond t (Some (identifier area)) None ≡ Some id → t ≡ true
    by true e = refl
    by false e = cc

id_by_whole : (area : List ℕ) (id : ℕ) → whole_id area ≡ Some id → identifier area ≡ id
unfolding whole_id
id_by_whole area id h = by (is_whole area) h
  where
    by : (t : Bool) → cond t (Some (identifier area)) None ≡ Some id → identifier area ≡ id
    by true e = cc
    by false e = cc

whole_from : (area : List ℕ) (id : ℕ) → is_whole area ≡ true → identifier area ≡ id → whole_id area ≡ Some id
unfolding whole_id
whole_from area id h e = ap (λ t. cond t (Some (identifier area)) None) h ∙ ap Some e

module _ (size : ℕ) (fid : List ℕ) (bytes : IsBytes fid) (is : IsFid size fid) (at : Addr) (block : at.block < 2 ^ 32) (part : at.part < 2 ^ 16) where
  room : 40 ≤ length fid
  room = is_long size fid is

  first_length : length (with_number 4 24 at.block fid) ≡ length fid
  first_length = number_length 4 24 at.block fid (omega (arith, room))

  same_length : length (readdressed at fid) ≡ length fid
  same_length = number_length 2 28 at.part (with_number 4 24 at.block fid) (omega (arith, first_length, room)) ∙ first_length

  new_length : length (named_anew at fid) ≡ length fid
  unfolding named_anew
  new_length = retagged_length (location fid) (crc_length fid) (readdressed at fid) (omega (arith, same_length, room)) ∙ same_length

  stays : (m from : ℕ) → (from + m ≤ 24) ⊎ (30 ≤ from) → number_at m (readdressed at fid) from ≡ number_at m fid from
  stays m from o =
      number_stays 2 28 at.part m from (with_number 4 24 at.block fid) (omega (arith, first_length, room)) (late o)
      ∙ number_stays 4 24 at.block m from fid (omega (arith, room)) (early o)
    where
      late : (from + m ≤ 24) ⊎ (30 ≤ from) → (from + m ≤ 28) ⊎ (28 + 2 ≤ from)
      late (inl h) = inl (omega arith)
      late (inr h) = inr h

      early : (from + m ≤ 24) ⊎ (30 ≤ from) → (from + m ≤ 24) ⊎ (24 + 4 ≤ from)
      early (inl h) = inl h
      early (inr h) = inr (omega arith)

  -- a number that is no part of the address
  new_number : (m from : ℕ) → 16 ≤ from → (from + m ≤ 24) ⊎ (30 ≤ from) → number_at m (named_anew at fid) from ≡ number_at m fid from
  unfolding named_anew
  new_number m from b o = number_retagged m from (location fid) (crc_length fid) (readdressed at fid) (omega (arith, same_length, room)) b ∙ stays m from o

  pub new_byte : (k : ℕ) → 16 ≤ k → (k < 24) ⊎ (30 ≤ k) → get_or (named_anew at fid) k 0 ≡ get_or fid k 0
  new_byte k b o = sym (one_byte (named_anew at fid) k) ∙ new_number 1 k b (by o) ∙ one_byte fid k
    where
      by : (k < 24) ⊎ (30 ≤ k) → (k + 1 ≤ 24) ⊎ (30 ≤ k)
      by (inl h) = inl (omega arith)
      by (inr h) = inr h

  new_part : number_at 2 (named_anew at fid) 28 ≡ at.part
  unfolding named_anew
  new_part =
      number_retagged 2 28 (location fid) (crc_length fid) (readdressed at fid) (omega (arith, same_length, room)) (omega arith)
      ∙ number_back 2 28 at.part (with_number 4 24 at.block fid) (omega (arith, first_length, room)) (omega (arith, part))

  new_block : number_at 4 (named_anew at fid) 24 ≡ at.block
  unfolding named_anew
  new_block =
      number_retagged 4 24 (location fid) (crc_length fid) (readdressed at fid) (omega (arith, same_length, room)) (omega arith)
      ∙ number_stays 2 28 at.part 4 24 (with_number 4 24 at.block fid) (omega (arith, first_length, room)) (inl (omega arith))
      ∙ number_back 4 24 at.block fid (omega (arith, room)) (omega (arith, block))

  pub new_address : (target (named_anew at fid)).at ≡ at
  new_address =
      ap (λ n. let a : Addr = record { part = n; block = number_at 4 (named_anew at fid) 24 } in a) new_part
      ∙ ap (λ n. let a : Addr = record { part = at.part; block = n } in a) new_block

  same_fid_length : fid_length (named_anew at fid) ≡ fid_length fid
  unfolding fid_length
  same_fid_length =
      ap (λ n. (38 + n + get_or (named_anew at fid) 19 0 + 3) / 4 * 4) (new_number 2 36 (omega arith) (inr (omega arith)))
      ∙ ap (λ n. (38 + number_at 2 fid 36 + n + 3) / 4 * 4) (new_byte 19 (omega arith) (inl (omega arith)))

  new_whole : whole_id (named_anew at fid) ≡ Some 257
  unfolding named_anew
  new_whole =
      let was : is_whole fid ≡ true = whole_by_id fid 257 is.whole in
      let edited : IsBytes (readdressed at fid) = number_is_bytes 2 28 at.part (with_number 4 24 at.block fid) (number_is_bytes 4 24 at.block fid bytes) in
      let fits : crc_length fid < 2 ^ 16 = omega (arith, number_fits 2 10 fid bytes) in
      whole_from (retagged (location fid) (crc_length fid) (readdressed at fid)) 257
      (retagged_whole (location fid) (crc_length fid) (readdressed at fid) edited (omega (arith, same_length, crc_room fid was)) fits)
      (retagged_identifier (location fid) (crc_length fid) (readdressed at fid) (omega (arith, same_length, room)) ∙ stays 2 0 (inl (omega arith)) ∙ id_by_whole fid 257 is.whole)

  pub named_is_fid : IsFid size (named_anew at fid)
  named_is_fid = record {
    long = new_length ∙ is.long ∙ sym same_fid_length;
    small = omega (arith, new_length, is.small);
    whole = new_whole;
  }

  same_marks : characteristics (named_anew at fid) ≡ characteristics fid
  same_marks = new_byte 18 (omega arith) (inl (omega arith))

  pub same_parent : is_parent (named_anew at fid) ≡ is_parent fid
  unfolding is_parent
  same_parent = ap (λ n. (n / 8 % 2 == 1) && not (n / 4 % 2 == 1)) same_marks

  same_stored : number_at 4 (named_anew at fid) 20 ≡ number_at 4 fid 20
  same_stored = new_number 4 20 (omega arith) (inl (omega arith))

  pub same_live : is_live (named_anew at fid) ≡ is_live fid
  unfolding is_live
  same_live =
      ap (λ n. not (n / 4 % 2 == 1) && (not (is_parent (named_anew at fid)) && (nat_lt 0 (name_length (named_anew at fid)) && not (length_bits (number_at 4 (named_anew at fid) 20) == 0)))) same_marks
      ∙ ap (λ p. not (is_deleted fid) && (not p && (nat_lt 0 (name_length (named_anew at fid)) && not (length_bits (number_at 4 (named_anew at fid) 20) == 0)))) same_parent
      ∙ ap (λ n. not (is_deleted fid) && (not (is_parent fid) && (nat_lt 0 n && not (length_bits (number_at 4 (named_anew at fid) 20) == 0)))) (new_byte 19 (omega arith) (inl (omega arith)))
      ∙ ap (λ n. not (is_deleted fid) && (not (is_parent fid) && (nat_lt 0 (name_length fid) && not (length_bits n == 0)))) same_stored
