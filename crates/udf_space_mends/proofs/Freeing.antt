-- The space bitmap after its mend.
use Rattle.std.proofs.Common.{◌≡◌, ◌⊎◌, inl, inr, ℕ, zero, suc, ◌+◌, ◌-◌, ◌*◌, ◌/◌, ◌<◌, ◌≤◌, arith, refl, sym, ◌∙◌, ap, subst, List, [], ◌++◌, length, take, drop, get_or, Bool, true, false, not, cond, ◌&&◌, ◌==◌, Option, Some, None, length-append}
use Rattle.std.specs.Prelude.{count_by}
use Rattle.std.specs.List.{range_with_len}
use Rattle.std.proofs.lemmas.Bool.{and_from, eq-eqb, cases_lt}
use Rattle.std.proofs.lemmas.List.{length-take-le}
use Rattle.std.proofs.lemmas.List.FromFn.{length-map-range_with_len, get_or-map-range_with_len}
use Rattle.std.proofs.lemmas.List.Sums.{sum_by-cons}
use Rattle.std.proofs.lemmas.Nat.{le-div}
use Rattle.udf_field.specs.declared.address.Addr.{Addr}
use Rattle.udf_field.specs.declared.address.Short.{Short}
use Rattle.udf_model.specs.Bytes.{number_at}
use Rattle.udf_model.specs.Tag.{id_at, is_id}
use Rattle.udf_file_model.specs.Address.{addr}
use Rattle.udf_file_model.specs.Content.{block_at, block_by, blocks_from}
use Rattle.udf_file_model.specs.Front.{blocks_for}
use Rattle.udf_file_model.specs.Listing.{Volume, is_placed, with_disk}
use Rattle.udf_space.specs.Area.{bitmap_in, is_bitmap}
use Rattle.udf_space.specs.Bits.{bit_of, bits_of, bytes_for}
use Rattle.udf_space.proofs.Encoding.{encoded_back, encoded_length, encoded_placed}
use Rattle.udf_space.proofs.Packing.{bits_get}
use Rattle.udf_tree_model.specs.Claimed.{is_free}
use Rattle.udf_tree_model.specs.Frame.{Frame}
use Rattle.udf_volume_model.specs.Edits.{look}
use Rattle.udf_rules_model.specs.Bitmap.{area_of, bitmap_holds, is_headed, same_bit, wrong_bits}
use Rattle.udf_file_mends.specs.Mends.{edits_of}
use Rattle.udf_file_mends.specs.Spread.{spread_from}
use Rattle.udf_space_mends.specs.Spread.{HasEdits}
use Rattle.udf_space_mends.specs.BitmapMend.{IsBitmapPlaced, bitmap_edits, free_bits, mended_area}
use Rattle.udf_space_mends.proofs.Spreading.{sector_of, spread_read}

-- so many bytes fit their blocks
blocks_enough : (size bytes : ℕ) → 0 < size → bytes ≤ blocks_for size bytes * size
blocks_enough size bytes some =
    by (cases_lt ((bytes + (size - 1)) / size * size) bytes)
  where
    too_few : (bytes + (size - 1)) / size * size < bytes → ⊥
    too_few l =
        let q : (bytes + (size - 1)) / size + 1 ≤ (bytes + (size - 1)) / size = le-div ((bytes + (size - 1)) / size + 1) (bytes + (size - 1)) size some (omega (arith, l)) in
        omega (arith, q)

    by : ((bytes + (size - 1)) / size * size < bytes) ⊎ (bytes ≤ (bytes + (size - 1)) / size * size) → bytes ≤ blocks_for size bytes * size
    by (inl l) = absurd (too_few l)
    by (inr l) = l

-- counts over a range by tests that agree there
pub count_same : (p q : ℕ → Bool) (a n : ℕ) → ((k : ℕ) → k < n → q (a + k) ≡ p (a + k)) → count_by q (range_with_len a n) ≡ count_by p (range_with_len a n)
count_same p q a zero same = refl
count_same p q a (suc n) same =
    let z : a + 0 ≡ a = omega arith in
    let first : q a ≡ p a = sym (ap q z) ∙ same 0 (omega arith) ∙ ap p z in
    sum_by-cons (λ y. cond (q y) 1 0) a (range_with_len (a + 1) n)
    ∙ ap (λ b. cond b 1 0 + count_by q (range_with_len (a + 1) n)) first
    ∙ ap (λ m. cond (p a) 1 0 + m) (count_same p q (a + 1) n (λ k l. let e : a + 1 + k ≡ a + suc k = omega arith in ap q e ∙ same (suc k) (omega arith) ∙ sym (ap p e)))
    ∙ sym (sum_by-cons (λ y. cond (p y) 1 0) a (range_with_len (a + 1) n))

count_none : (p : ℕ → Bool) (a n : ℕ) → ((k : ℕ) → k < n → p (a + k) ≡ false) → count_by p (range_with_len a n) ≡ 0
count_none p a zero none = refl
count_none p a (suc n) none =
    let z : a + 0 ≡ a = omega arith in
    sum_by-cons (λ y. cond (p y) 1 0) a (range_with_len (a + 1) n)
    ∙ ap (λ b. cond b 1 0 + count_by p (range_with_len (a + 1) n)) (sym (ap p z) ∙ none 0 (omega arith))
    ∙ ap (λ m. 0 + m) (count_none p (a + 1) n (λ k l. let e : a + 1 + k ≡ a + suc k = omega arith in ap p e ∙ none (suc k) (omega arith)))

same_bits_agree : (a b : Bool) → a ≡ b → not (same_bit a b) ≡ false
same_bits_agree true true e = refl
same_bits_agree false false e = refl
same_bits_agree true false e = e
same_bits_agree false true e = sym e

-- blocks that stand as they did are the same bytes
blocks_same : (v : Volume) (disk : ℕ → List ℕ) (block n : ℕ)
    → ((k sector : ℕ) → k < n → v.place (addr 0 (block + k)) ≡ Some sector → disk sector ≡ v.disk sector)
    → blocks_from (with_disk v disk) 0 block n ≡ blocks_from v 0 block n
unfolding blocks_from
blocks_same v disk block zero same = refl
blocks_same v disk block (suc n) same =
    let z : block ≡ block + 0 = omega arith in
    ap (λ b. b ++ blocks_from (with_disk v disk) 0 (block + 1) n) (at (v.place (addr 0 block)) refl)
    ∙ ap (λ b. block_at v (addr 0 block) ++ b) (blocks_same v disk (block + 1) n further)
  where
    at : (o : Option ℕ) → v.place (addr 0 block) ≡ o → block_by disk o ≡ block_by v.disk o
    at None e = refl
    at (Some s) e = same 0 s (omega arith) (let z : block + 0 ≡ block = omega arith in ap (λ m. v.place (addr 0 m)) z ∙ e)

    further : (k sector : ℕ) → k < n → v.place (addr 0 (block + 1 + k)) ≡ Some sector → disk sector ≡ v.disk sector
    further k sector l e = same (suc k) sector (omega arith) (let z : block + suc k ≡ block + 1 + k = omega arith in ap (λ m. v.place (addr 0 m)) z ∙ e)

-- the bytes of placed blocks
blocks_long : (v : Volume) (block n : ℕ) → ((k : ℕ) → k < n → is_placed v (addr 0 (block + k)) ≡ true)
    → ((a : Addr) (sector : ℕ) → v.place a ≡ Some sector → length (v.disk sector) ≡ v.size) → length (blocks_from v 0 block n) ≡ n * v.size
unfolding blocks_from
blocks_long v block zero placed whole = let e : 0 ≡ 0 * v.size = omega arith in e
blocks_long v block (suc n) placed whole =
    let z : block + 0 ≡ block = omega arith in
    let s : (s : ℕ) × (v.place (addr 0 block) ≡ Some s) = sector_of (v.place (addr 0 block)) (subst (λ m. is_placed v (addr 0 m) ≡ true) z (placed 0 (omega arith))) in
    let here : length (block_at v (addr 0 block)) ≡ v.size = ap (λ o. length (block_by v.disk o)) s.1 ∙ whole (addr 0 block) s.0 s.1 in
    let rest : length (blocks_from v 0 (block + 1) n) ≡ n * v.size =
    blocks_long v (block + 1) n (λ k l. subst (λ m. is_placed v (addr 0 m) ≡ true) (let e : block + suc k ≡ block + 1 + k = omega arith in e) (placed (suc k) (omega arith))) whole in
    let all : length (block_at v (addr 0 block) ++ blocks_from v 0 (block + 1) n) ≡ length (block_at v (addr 0 block)) + length (blocks_from v 0 (block + 1) n)
    = length-append (block_at v (addr 0 block)) (blocks_from v 0 (block + 1) n) in
    omega (arith, here, rest, all)

module _ (f g : Frame) (v : Volume) (logical : List ℕ) (blocks : ℕ) (extent : Short) (disk : ℕ → List ℕ) (is : IsBitmapPlaced v blocks extent)
    (free : (n : ℕ) → n < blocks → is_free g (with_disk v disk) (addr 0 n) ≡ is_free f v (addr 0 n)) where
  abbrev row : ℕ
  row = blocks_for v.size extent.length

  abbrev bits : List Bool
  bits = free_bits f v blocks

  bits_many : length bits ≡ blocks
  unfolding free_bits
  bits_many = length-map-range_with_len (λ n. is_free f v (addr 0 n)) 0 blocks

  old_long : length (area_of v extent) ≡ extent.length
  unfolding area_of
  old_long =
      let all : length (blocks_from v 0 extent.block row) ≡ row * v.size = blocks_long v extent.block row is.placed is.whole in
      length-take-le extent.length (blocks_from v 0 extent.block row) (omega (arith, all, blocks_enough v.size extent.length is.size))

  room : 24 + bytes_for (length bits) ≤ length (area_of v extent)
  room = let l : bytes_for (length bits) ≡ bytes_for blocks = ap bytes_for bits_many in omega (arith, l, old_long, is.room)

  new_long : length (mended_area f v logical blocks extent) ≡ extent.length
  unfolding mended_area
  new_long = encoded_length (number_at 2 logical 2) (number_at 2 logical 6) extent.block bits (area_of v extent) room ∙ old_long

  -- the extent has what was spread over it
  area_is : HasEdits v (addr 0 extent.block) row (edits_of v (spread_from v 0 extent.block row (mended_area f v logical blocks extent))) disk
      → area_of (with_disk v disk) extent ≡ mended_area f v logical blocks extent
  unfolding area_of
  area_is edits =
      ap (λ n. take n (blocks_from (with_disk v disk) 0 extent.block row)) (sym new_long)
      ∙ spread_read v disk is.whole is.apart extent.block row (mended_area f v logical blocks extent)
      (omega (arith, new_long, blocks_enough v.size extent.length is.size)) is.placed edits.each

  abbrev new : List ℕ
  new = mended_area f v logical blocks extent

  read_back : bitmap_in blocks new ≡ Some bits
  unfolding mended_area
  read_back =
      subst (λ n. bitmap_in n new ≡ Some bits) bits_many
      (encoded_back (number_at 2 logical 2) (number_at 2 logical 6) extent.block bits (area_of v extent) (let l : length bits ≡ blocks = bits_many in omega (arith, l, is.few)) room)

  read_parts : (is_bitmap blocks new ≡ true) × (bits_of blocks (drop 24 new) ≡ bits)
  unfolding bitmap_in
  read_parts = by (is_bitmap blocks new) refl read_back
    where
      by : (b : Bool) → is_bitmap blocks new ≡ b → cond b (Some (bits_of blocks (drop 24 new))) None ≡ Some bits
          → (is_bitmap blocks new ≡ true) × (bits_of blocks (drop 24 new) ≡ bits)
      by true e h = (e, (let k : bits_of blocks (drop 24 new) ≡ bits = cc in k))
      by false e h = absurd (no_some h)
        where
          no_some : None ≡ Some bits → ⊥
          no_some h = cc

  headed : is_headed blocks extent new ≡ true
  unfolding mended_area is_headed
  headed =
      and_from (is_id 264 (id_at extent.block new)) (is_bitmap blocks new)
      (ap (is_id 264) (encoded_placed (number_at 2 logical 2) (number_at 2 logical 6) extent.block bits (area_of v extent) is.low room))
      read_parts.0

  -- each bit is that of its block
  bit_is : (n : ℕ) → n < blocks → bit_of (drop 24 new) n ≡ is_free f v (addr 0 n)
  unfolding free_bits
  bit_is n l =
      sym (bits_get blocks (drop 24 new) n false l)
      ∙ ap (λ bs. get_or bs n false) read_parts.1
      ∙ get_or-map-range_with_len (λ n. is_free f v (addr 0 n)) 0 blocks n n false l (omega arith)

  none_wrong : wrong_bits g (with_disk v disk) blocks new ≡ 0
  unfolding wrong_bits
  none_wrong =
      count_none (λ n. not (same_bit (bit_of (drop 24 new) n) (is_free g (with_disk v disk) (addr 0 n)))) 0 blocks
      (λ k l. let z : 0 + k ≡ k = omega arith in
      ap (λ m. not (same_bit (bit_of (drop 24 new) m) (is_free g (with_disk v disk) (addr 0 m)))) z
      ∙ same_bits_agree (bit_of (drop 24 new) k) (is_free g (with_disk v disk) (addr 0 k)) (bit_is k l ∙ sym (free k l)))

  mended_bitmap : HasEdits v (addr 0 extent.block) row (edits_of v (spread_from v 0 extent.block row new)) disk
      → bitmap_holds g (with_disk v disk) blocks extent ≡ true
  unfolding bitmap_holds
  mended_bitmap edits =
      ap (λ a. is_headed blocks extent a && (wrong_bits g (with_disk v disk) blocks a == 0)) (area_is edits)
      ∙ and_from (is_headed blocks extent new) (wrong_bits g (with_disk v disk) blocks new == 0) headed (eq-eqb _ _ none_wrong)

  -- an extent that stands as it did
  same_wrong : (area : List ℕ) → wrong_bits g (with_disk v disk) blocks area ≡ wrong_bits f v blocks area
  unfolding wrong_bits
  same_wrong area =
      count_same (λ n. not (same_bit (bit_of (drop 24 area) n) (is_free f v (addr 0 n))))
      (λ n. not (same_bit (bit_of (drop 24 area) n) (is_free g (with_disk v disk) (addr 0 n)))) 0 blocks
      (λ k l. ap (λ b. not (same_bit (bit_of (drop 24 area) (0 + k)) b)) (free (0 + k) (omega arith)))

  same_bitmap : ((k sector : ℕ) → k < row → v.place (addr 0 (extent.block + k)) ≡ Some sector → disk sector ≡ v.disk sector)
      → bitmap_holds g (with_disk v disk) blocks extent ≡ bitmap_holds f v blocks extent
  unfolding bitmap_holds area_of
  same_bitmap same =
      let area : take extent.length (blocks_from (with_disk v disk) 0 extent.block row) ≡ take extent.length (blocks_from v 0 extent.block row)
      = ap (take extent.length) (blocks_same v disk extent.block row same) in
      ap (λ a. is_headed blocks extent a && (wrong_bits g (with_disk v disk) blocks a == 0)) area
      ∙ ap (λ n. is_headed blocks extent (take extent.length (blocks_from v 0 extent.block row)) && (n == 0)) (same_wrong (take extent.length (blocks_from v 0 extent.block row)))

  pub bitmap_mended : HasEdits v (addr 0 extent.block) row (bitmap_edits f v logical blocks (Some extent)) disk
      → bitmap_holds g (with_disk v disk) blocks extent ≡ true
  unfolding bitmap_edits look
  bitmap_mended edits = by (bitmap_holds f v blocks extent) refl
    where
      by : (b : Bool) → bitmap_holds f v blocks extent ≡ b → bitmap_holds g (with_disk v disk) blocks extent ≡ true
      by true h =
          same_bitmap (λ k sector l e. edits.each k sector l e ∙ ap (λ c. look sector (cond c [] (edits_of v (spread_from v 0 extent.block row new))) (v.disk sector)) h) ∙ h
      by false h =
          mended_bitmap (record { each = λ k sector l e. edits.each k sector l e ∙ ap (λ c. look sector (cond c [] (edits_of v (spread_from v 0 extent.block row new))) (v.disk sector)) h })
