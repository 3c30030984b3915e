-- A file set without its pointer to the system stream directory states what it stated, but for that pointer.
use Rattle.byteorder.specs.Endian.{little_number}
use Rattle.std.proofs.Common.{◌≡◌, ℕ, ◌+◌, ◌-◌, ◌%◌, ◌==◌, not, cond, ◌≤◌, ◌<◌, ◌^◌, arith, refl, sym, ◌∙◌, ap, List, length, drop, get_or, zero, suc, replicate, Bool, true, false, ◌&&◌, Some, None, inl}
use Rattle.std.proofs.lemmas.Bool.{and_parts, false≢true, leb-true}
use Rattle.std.proofs.lemmas.List.{get_or-drop, length-replicate}
use Rattle.udf_field.specs.FieldView.{address_at, length_bits}
use Rattle.udf_model.specs.Bytes.{IsBytes, number_at, written_at}
use Rattle.udf_model.specs.Tag.{crc_length, id_at, identifier, is_id, is_whole, location as location_of}
use Rattle.udf_model.proofs.Retagged.{retagged_body, retagged_id}
use Rattle.udf_model.proofs.Written.{byte_stays, number_apart, number_fits, same_number, written_is_bytes, written_from, written_length}
use Rattle.udf_volume_model.specs.FileSet.{is_guarded_in, names_further, root_in, system_in}
use Rattle.udf_file_mends.specs.FileSet.{cleared_set}

zero_bytes : (n : ℕ) → IsBytes (replicate n 0)
zero_bytes zero i = omega arith
zero_bytes (suc n) zero = omega arith
zero_bytes (suc n) (suc i) = zero_bytes n i

-- a whole tag covers bytes of its block
whole_room : (block : List ℕ) → is_whole block ≡ true → 16 + crc_length block ≤ length block
unfolding is_whole
whole_room block e = leb-true _ _ (and_parts _ _ e).0

module _ (location : ℕ) (block : List ℕ) (room : 512 ≤ length block) where
  abbrev written : List ℕ
  written = written_at 464 (replicate 16 0) block

  abbrev now : List ℕ
  now = cleared_set location block

  many : ℕ
  many = number_at 2 block 10

  written_long : length (written_at 464 (replicate 16 0) block) ≡ length block
  written_long = written_length 464 (replicate 16 0) block (omega (arith, room))

  body_same : drop 16 (cleared_set location block) ≡ drop 16 (written_at 464 (replicate 16 0) block)
  unfolding cleared_set
  body_same = retagged_body location (number_at 2 block 10) (written_at 464 (replicate 16 0) block) (omega (arith, room, written_long))

  byte_behind : (k : ℕ) → get_or (cleared_set location block) (16 + k) 0 ≡ get_or (written_at 464 (replicate 16 0) block) (16 + k) 0
  byte_behind k =
      sym (get_or-drop 16 (cleared_set location block) k 0) ∙ ap (λ l. get_or l k 0) body_same
      ∙ get_or-drop 16 (written_at 464 (replicate 16 0) block) k 0

  number_behind : (n at : ℕ) → 16 ≤ at → number_at n (cleared_set location block) at ≡ number_at n (written_at 464 (replicate 16 0) block) at
  number_behind n at low = same_number n at (cleared_set location block) (written_at 464 (replicate 16 0) block) each
    where
      each : (k : ℕ) → at ≤ k → k < at + n → get_or (cleared_set location block) k 0 ≡ get_or (written_at 464 (replicate 16 0) block) k 0
      each k h l = let e : 16 + (k - 16) ≡ k = omega (arith, low, h) in
          ap (λ i. get_or (cleared_set location block) i 0) (sym e) ∙ byte_behind (k - 16)
          ∙ ap (λ i. get_or (written_at 464 (replicate 16 0) block) i 0) e

  -- what stands behind the tag and before the pointer stays
  pub number_before : (n at : ℕ) → 16 ≤ at → at + n ≤ 464 → number_at n (cleared_set location block) at ≡ number_at n block at
  number_before n at low high =
      number_behind n at low
      ∙ number_apart 464 16 n at (replicate 16 0) block (length-replicate {A = ℕ} 16 0) (omega (arith, room)) (inl high)

  pub byte_before : (k : ℕ) → 16 + k < 464 → get_or (cleared_set location block) (16 + k) 0 ≡ get_or block (16 + k) 0
  byte_before k h =
      byte_behind k ∙ byte_stays 464 16 (16 + k) (replicate 16 0) block (length-replicate {A = ℕ} 16 0) (omega (arith, room)) (inl h)

  pub root_same : root_in (cleared_set location block) ≡ root_in block
  unfolding root_in
  root_same =
      ap (λ n. record { part = number_at 2 (cleared_set location block) 408; block = n }) (number_before 4 404 (omega arith) (omega arith))
      ∙ ap (λ n. record { part = n; block = number_at 4 block 404 }) (number_before 2 408 (omega arith) (omega arith))

  pub further_same : names_further (cleared_set location block) ≡ names_further block
  unfolding names_further
  further_same = ap (λ n. not (length_bits n == 0)) (number_before 4 448 (omega arith) (omega arith))

  pub guarded_same : is_guarded_in (cleared_set location block) ≡ is_guarded_in block
  unfolding is_guarded_in
  guarded_same = ap (λ n. not (n % 4 == 0)) (byte_before 426 (omega arith))

  zero_there : number_at 4 (cleared_set location block) 464 ≡ 0
  zero_there = number_behind 4 464 (omega arith) ∙ zeros
    where
      zeros : number_at 4 (written_at 464 (replicate 16 0) block) 464 ≡ 0
      zeros = unfold number_at in ap (little_number 4) (written_from 464 (replicate 16 0) block (omega (arith, room)))

  pub no_system : system_in (cleared_set location block) ≡ None
  unfolding system_in
  no_system = ap (λ n. cond (length_bits n == 0) None (Some (address_at (cleared_set location block) 468))) zero_there

  -- its tag has the identifier that it had
  module _ (bytes : IsBytes block) (low : location < 2 ^ 32) where
    fits : number_at 2 block 10 < 2 ^ 16
    fits = let h : number_at 2 block 10 < 256 ^ 2 = number_fits 2 10 block bytes in omega (arith, h)

    written_bytes : IsBytes (written_at 464 (replicate 16 0) block)
    written_bytes = written_is_bytes 464 (replicate 16 0) block (zero_bytes 16) bytes

    identifier_same : identifier (written_at 464 (replicate 16 0) block) ≡ identifier block
    identifier_same = number_apart 464 16 2 0 (replicate 16 0) block (length-replicate {A = ℕ} 16 0) (omega (arith, room)) (inl (omega arith))

    pub still_set : is_id 256 (id_at location block) ≡ true → is_id 256 (id_at location (cleared_set location block)) ≡ true
    unfolding cleared_set id_at
    still_set e = by (is_whole block) (location_of block == location) refl e
      where
        found : is_whole block ≡ true → (identifier block == 256) ≡ true → is_id 256 (id_at location (cleared_set location block)) ≡ true
        found w k =
            let r : 16 + crc_length block ≤ length block = whole_room block w in
            ap (is_id 256) (retagged_id location (number_at 2 block 10) (written_at 464 (replicate 16 0) block) written_bytes (omega (arith, r, written_long)) fits low)
            ∙ ap (λ n. n == 256) identifier_same ∙ k

        by : (b c : Bool) → is_whole block ≡ b → is_id 256 (cond (b && c) (Some (identifier block)) None) ≡ true
            → is_id 256 (id_at location (cleared_set location block)) ≡ true
        by true true w k = found w k
        by true false w k = absurd (false≢true k)
        by false c w k = absurd (false≢true k)
