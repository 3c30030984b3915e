-- The rule on integrity after its mend.
use Rattle.std.proofs.Common.{◌≡◌, ◌⊎◌, inl, inr, ℕ, zero, suc, ◌+◌, ◌-◌, ◌*◌, ◌<◌, ◌≤◌, ◌^◌, arith, refl, sym, ◌∙◌, ap, subst, List, [], ◌∷◌, length, replicate, get_or, Bool, true, false, cond, not, ◌&&◌, ◌||◌, ◌==◌, nat_le, nat_lt, max, Option, Some, None}
use Rattle.std.specs.Prelude.{count_by}
use Rattle.std.specs.List.{range_with_len}
use Rattle.std.proofs.lemmas.Bool.{and_from, and_parts, eq-eqb, eqb-true, cases_eq, le-leb, leb-true, lt-ltb}
use Rattle.std.proofs.lemmas.List.{length-replicate}
use Rattle.std.proofs.lemmas.List.FromFn.{length-range_with_len}
use Rattle.std.proofs.lemmas.List.Sums.{count_by-le-length}
use Rattle.std.proofs.lemmas.Nat.{le-div}
use Rattle.udf_field.specs.declared.address.Short.{Short}
use Rattle.udf_field.specs.declared.address.Span.{Span}
use Rattle.udf_model.specs.Bytes.{IsBytes, number_at}
use Rattle.udf_model.specs.Tag.{id_at, identifier, is_id, is_whole, location}
use Rattle.udf_model.proofs.Written.{number_fits}
use Rattle.udf_model.proofs.Retagged.{retagged_identifier}
use Rattle.udf_file_model.specs.Listing.{Volume, with_disk}
use Rattle.udf_file_model.proofs.Fields.{AllFit}
use Rattle.udf_volume_model.specs.Anchor.{blocks_for}
use Rattle.udf_volume_model.specs.Edits.{look}
use Rattle.udf_volume_model.specs.Mended.{terminator}
use Rattle.udf_volume_laws.proofs.Puts.{look_here, look_past}
use Rattle.udf_tree_model.specs.Claimed.{is_free}
use Rattle.udf_tree_model.specs.Frame.{Frame}
use Rattle.udf_file_model.specs.Address.{addr}
use Rattle.udf_tree_model.specs.Ordinary.{files_named, ordinary_directories, ordinary_files}
use Rattle.udf_rules_model.specs.Bitmap.{free_blocks}
use Rattle.udf_rules_model.specs.Integrity.{files_in, free_is_stated, greatest_id, integrity_front, integrity_holds, is_formed, is_integrity, is_next_id, is_stated, is_stated_by, last_of, chains_by, mended_id, names_chain, next_extent_in, next_id_in, partitions_in, prevailing_integrity, use_length_in}
use Rattle.udf_space_mends.specs.IntegrityMend.{CountsFit, HasExtentEdits, IsExtentPlaced, Origin, SameCounts, corrected, files_left, free_left, fresh, fresh_end, integrity_edits, integrity_edits_by, stated_fields}
use Rattle.udf_space_mends.proofs.Fresh.{base, base_is_bytes, base_long, base_next, base_nine, base_one, base_use}
use Rattle.udf_space_mends.proofs.Prevailing.{IsIn, front, front_ends, front_same, front_starts, last_in}
use Rattle.udf_space_mends.proofs.Stating.{new_is_integrity, new_is_stated, next_stays}

-- what stands whole with an identifier has it
id_stands : (id at : ℕ) (block : List ℕ) → is_id id (id_at at block) ≡ true → identifier block ≡ id
unfolding id_at
id_stands id at block e = by (is_whole block && (location block == at)) e
  where
    by : (b : Bool) → is_id id (cond b (Some (identifier block)) None) ≡ true → identifier block ≡ id
    by true h = eqb-true (identifier block) id h
    by false h = absurd (no_id h)
      where
        no_id : false ≡ true → ⊥
        no_id h = cc

other_id : (id other at : ℕ) (block : List ℕ) → identifier block ≡ other → (other == id) ≡ false → is_id id (id_at at block) ≡ false
unfolding id_at
other_id id other at block e ne = by (is_whole block && (location block == at))
  where
    by : (b : Bool) → is_id id (cond b (Some (identifier block)) None) ≡ false
    by true = ap (λ i. i == id) e ∙ ne
    by false = refl

abbrev zeros : ℕ → List ℕ
zeros n = replicate n 0

terminator_identifier : (size at : ℕ) (like : List ℕ) → 512 ≤ size → identifier (terminator size at like) ≡ 8
unfolding terminator number_at
terminator_identifier size at like big =
    retagged_identifier at 496 (8 ∷ 0 ∷ get_or like 2 0 ∷ get_or like 3 0 ∷ 0 ∷ 0 ∷ get_or like 6 0 ∷ get_or like 7 0 ∷ replicate (size - 8) 0)
    (let l : length (zeros (size - 8)) ≡ size - 8 = length-replicate {A = ℕ} (size - 8) 0 in omega (arith, l, big))

not_integrity : (size sector : ℕ) (block : List ℕ) → is_id 9 (id_at sector block) ≡ false → is_integrity size sector block ≡ false
unfolding is_integrity
not_integrity size sector block e = ap (λ b. b && nat_le (80 + 8 * partitions_in block + use_length_in block) size) e

has_length : (f : Frame) (v : Volume) (blocks : ℕ) (bitmap : Option Short) (extent : Span) → integrity_holds f v blocks bitmap extent ≡ false → (extent.length == 0) ≡ false
unfolding integrity_holds
has_length f v blocks bitmap extent bad = first (extent.length == 0) bad
  where
    first : (b : Bool) → (b || is_stated_by f v blocks bitmap (prevailing_integrity v.size v.disk extent)) ≡ false → b ≡ false
    first true e = e
    first false e = refl

-- the sector that prevails is one of the extent, and its descriptor stands there
prevails_in : (v : Volume) (extent : Span) (s : ℕ) → prevailing_integrity v.size v.disk extent ≡ Some s
    → IsIn (λ n. is_integrity v.size n (v.disk n)) extent.start (blocks_for v.size extent.length) s
unfolding prevailing_integrity integrity_front
prevails_in v extent s e = last_in (λ n. is_integrity v.size n (v.disk n)) extent.start (blocks_for v.size extent.length) s e

fit_all : (size id free blocks files directories : ℕ) → 512 ≤ size → id < 2 ^ 64 → free < 2 ^ 32 → blocks < 2 ^ 32 → files < 2 ^ 32 → directories < 2 ^ 32
    → AllFit size (stated_fields id free blocks files directories)
fit_all size id free blocks files directories big a b c d e = (
  omega (arith, big),
  omega arith,
  (
    omega (arith, big),
    omega (arith, a),
    (
      omega (arith, big),
      omega (arith, b),
      (
        omega (arith, big),
        omega (arith, c),
        (
          omega (arith, big),
          omega (arith, d),
          (omega (arith, big), omega (arith, e), tt),
        ),
      ),
    ),
  ),
)

free_few : (f : Frame) (v : Volume) (blocks : ℕ) → free_blocks f v blocks ≤ blocks
unfolding free_blocks
free_few f v blocks =
    let l : count_by (λ n. is_free f v (addr 0 n)) (range_with_len 0 blocks) ≤ length (range_with_len 0 blocks) = count_by-le-length (λ n. is_free f v (addr 0 n)) (range_with_len 0 blocks) in
    omega (arith, l, length-range_with_len 0 blocks)

-- some blocks hold bytes that are there
some_blocks : (size bytes : ℕ) → 0 < size → (bytes == 0) ≡ false → 1 ≤ blocks_for size bytes
unfolding blocks_for
some_blocks size bytes some e = le-div 1 (bytes + (size - 1)) size some (omega (arith, positive))
  where
    positive : 0 < bytes
    positive = by (cases_eq bytes 0)
      where
        clash : (t : Bool) → t ≡ true → t ≡ false → ⊥
        clash t a b = cc

        by : (bytes ≡ 0) ⊎ (bytes ≡ 0 → ⊥) → 0 < bytes
        by (inl h) = absurd (clash (bytes == 0) (eq-eqb bytes 0 h) e)
        by (inr h) = omega (arith, h)

module _ (f g : Frame) (v w : Volume) (blocks : ℕ) (same : SameCounts f g v w blocks) where
  next_same : (id : ℕ) → is_next_id g w id ≡ is_next_id f v id
  unfolding is_next_id
  next_same id = ap (λ n. nat_le 16 id && nat_lt n id) same.id

  free_same : (bitmap : Option Short) (block : List ℕ) → free_is_stated g w blocks bitmap block ≡ free_is_stated f v blocks bitmap block
  free_same None block = refl
  free_same (Some b) block = ap (λ n. number_at 4 block 80 == n) same.free

  -- so a descriptor states what it is to state of both, or of none
  stated_same : (bitmap : Option Short) (block : List ℕ) → is_stated g w blocks bitmap block ≡ is_stated f v blocks bitmap block
  unfolding is_stated
  stated_same bitmap block =
      ap (λ b. (number_at 4 block 28 == 1) && (is_formed block && (b && ((number_at 4 block 84 == blocks) && (is_next_id g w (next_id_in block)
      && (((files_in block == length (ordinary_files g w)) || (files_in block == files_named g w))
      && (number_at 4 block (80 + 8 * partitions_in block + 36) == length (ordinary_directories g w)))))))) (free_same bitmap block)
      ∙ ap (λ b. (number_at 4 block 28 == 1) && (is_formed block && (free_is_stated f v blocks bitmap block && ((number_at 4 block 84 == blocks) && (b
      && (((files_in block == length (ordinary_files g w)) || (files_in block == files_named g w))
      && (number_at 4 block (80 + 8 * partitions_in block + 36) == length (ordinary_directories g w)))))))) (next_same (next_id_in block))
      ∙ ap (λ n. (number_at 4 block 28 == 1) && (is_formed block && (free_is_stated f v blocks bitmap block && ((number_at 4 block 84 == blocks) && (is_next_id f v (next_id_in block)
      && (((files_in block == n) || (files_in block == files_named g w))
      && (number_at 4 block (80 + 8 * partitions_in block + 36) == length (ordinary_directories g w)))))))) same.files
      ∙ ap (λ n. (number_at 4 block 28 == 1) && (is_formed block && (free_is_stated f v blocks bitmap block && ((number_at 4 block 84 == blocks) && (is_next_id f v (next_id_in block)
      && (((files_in block == length (ordinary_files f v)) || (files_in block == n))
      && (number_at 4 block (80 + 8 * partitions_in block + 36) == length (ordinary_directories g w)))))))) same.named
      ∙ ap (λ n. (number_at 4 block 28 == 1) && (is_formed block && (free_is_stated f v blocks bitmap block && ((number_at 4 block 84 == blocks) && (is_next_id f v (next_id_in block)
      && (((files_in block == length (ordinary_files f v)) || (files_in block == files_named f v))
      && (number_at 4 block (80 + 8 * partitions_in block + 36) == n))))))) same.directories

  -- the least identifier that is right
  next_fresh : is_next_id g w (max 16 (greatest_id f v + 1)) ≡ true
  unfolding is_next_id
  next_fresh =
      let above : greatest_id f v < max 16 (greatest_id f v + 1) = omega arith in
      and_from (nat_le 16 (max 16 (greatest_id f v + 1))) (nat_lt (greatest_id g w) (max 16 (greatest_id f v + 1)))
      (le-leb _ _ (omega arith)) (lt-ltb _ _ (omega (arith, above, same.id)))

  next_mended : (sector : ℕ) → is_next_id g w (mended_id f v (Some sector)) ≡ true
  next_mended sector = by (is_formed (v.disk sector)) (is_next_id f v (next_id_in (v.disk sector))) refl
    where
      by : (a b : Bool) → is_next_id f v (next_id_in (v.disk sector)) ≡ b
          → is_next_id g w (cond (a && b) (next_id_in (v.disk sector)) (max 16 (greatest_id f v + 1))) ≡ true
      by true true e = next_same (next_id_in (v.disk sector)) ∙ e
      by true false e = next_fresh
      by false b e = next_fresh

  files_mended : (block : List ℕ) → ((files_left f v block == length (ordinary_files g w)) || (files_left f v block == files_named g w)) ≡ true
  files_mended block =
      ap (λ n. (files_left f v block == n) || (files_left f v block == files_named g w)) same.files
      ∙ ap (λ n. (files_left f v block == length (ordinary_files f v)) || (files_left f v block == n)) same.named
      ∙ by ((files_in block == length (ordinary_files f v)) || (files_in block == files_named f v)) refl
    where
      by : (b : Bool) → ((files_in block == length (ordinary_files f v)) || (files_in block == files_named f v)) ≡ b
          → ((cond b (files_in block) (length (ordinary_files f v)) == length (ordinary_files f v)) || (cond b (files_in block) (length (ordinary_files f v)) == files_named f v)) ≡ true
      by true e = e
      by false e = or_first (length (ordinary_files f v) == length (ordinary_files f v)) (length (ordinary_files f v) == files_named f v) (eq-eqb _ _ refl)
        where
          or_first : (x y : Bool) → x ≡ true → (x || y) ≡ true
          or_first true y e = refl
          or_first false y e = absurd (clash e)
            where
              clash : false ≡ true → ⊥
              clash e = cc

module _ (f g : Frame) (v : Volume) (disk : ℕ → List ℕ) (blocks : ℕ) (bitmap : Option Short) (origin : Origin) (extent : Span)
    (fit : CountsFit f v blocks origin) (placed : IsExtentPlaced v extent) (same : SameCounts f g v (with_disk v disk) blocks) where
  abbrev many : ℕ
  many = blocks_for v.size extent.length

  abbrev w : Volume
  w = with_disk v disk

  id_low : (o : Option ℕ) → ((s : ℕ) → o ≡ Some s → IsBytes (v.disk s)) → mended_id f v o < 2 ^ 64
  id_low None bytes = let h : greatest_id f v < 2 ^ 63 = fit.id in omega (arith, h)
  id_low (Some s) bytes = by (is_formed (v.disk s) && is_next_id f v (next_id_in (v.disk s)))
    where
      by : (b : Bool) → cond b (next_id_in (v.disk s)) (max 16 (greatest_id f v + 1)) < 2 ^ 64
      by true = let h : number_at 8 (v.disk s) 40 < 256 ^ 8 = number_fits 8 40 (v.disk s) (bytes s refl) in omega (arith, h)
      by false = let h : greatest_id f v < 2 ^ 63 = fit.id in omega (arith, h)

  free_low : free_blocks f v blocks < 2 ^ 32
  free_low = omega (arith, free_few f v blocks, fit.few)

  left_low : (b : Option Short) (block : List ℕ) → IsBytes block → free_left f v blocks b block < 2 ^ 32
  left_low None block bytes = let h : number_at 4 block 80 < 256 ^ 4 = number_fits 4 80 block bytes in omega (arith, h)
  left_low (Some b) block bytes = free_low

  files_low : (block : List ℕ) → IsBytes block → files_left f v block < 2 ^ 32
  files_low block bytes = by ((files_in block == length (ordinary_files f v)) || (files_in block == files_named f v))
    where
      by : (b : Bool) → cond b (files_in block) (length (ordinary_files f v)) < 2 ^ 32
      by true = let h : number_at 4 block (80 + 8 * partitions_in block + 32) < 256 ^ 4 = number_fits 4 (80 + 8 * partitions_in block + 32) block bytes in omega (arith, h)
      by false = fit.files

  left_same : (block : List ℕ) (o : Option Short) (b : Short) → o ≡ Some b → free_left f v blocks o block ≡ free_blocks g w blocks
  left_same block None b e = absurd (no_some e)
    where
      no_some : None ≡ Some b → ⊥
      no_some e = cc
  left_same block (Some c) b e = sym same.free

  -- a new descriptor
  module _ (sector : ℕ) (low : sector < 2 ^ 32) where
    abbrev start : List ℕ
    start = base v.size origin.stamp origin.revision placed.least fit.stamp fit.bytes fit.revision

    fresh_all : AllFit (length start) (stated_fields (mended_id f v None) (free_blocks f v blocks) blocks (length (ordinary_files f v)) (length (ordinary_directories f v)))
    fresh_all =
        subst (λ n. AllFit n (stated_fields (mended_id f v None) (free_blocks f v blocks) blocks (length (ordinary_files f v)) (length (ordinary_directories f v))))
        (sym (base_long v.size origin.stamp origin.revision placed.least fit.stamp fit.bytes fit.revision))
        (fit_all v.size (mended_id f v None) (free_blocks f v blocks) blocks (length (ordinary_files f v)) (length (ordinary_directories f v)) placed.least
        (id_low None (λ s e. absurd (no_some s e))) free_low fit.few fit.files fit.directories)
      where
        no_some : (s : ℕ) → None ≡ Some s → ⊥
        no_some s e = cc

    fresh_is : is_integrity v.size sector (fresh f v blocks origin sector) ≡ true
    unfolding fresh
    fresh_is =
        new_is_integrity v.size sector 46 (mended_id f v None) (free_blocks f v blocks) blocks (length (ordinary_files f v)) (length (ordinary_directories f v)) start
        (base_is_bytes v.size origin.stamp origin.revision placed.least fit.stamp fit.bytes fit.revision)
        (base_long v.size origin.stamp origin.revision placed.least fit.stamp fit.bytes fit.revision) placed.least placed.most low
        (base_nine v.size origin.stamp origin.revision placed.least fit.stamp fit.bytes fit.revision)
        (base_one v.size origin.stamp origin.revision placed.least fit.stamp fit.bytes fit.revision)
        (base_use v.size origin.stamp origin.revision placed.least fit.stamp fit.bytes fit.revision) (omega (arith, placed.least)) fresh_all

    fresh_states : is_stated g w blocks bitmap (fresh f v blocks origin sector) ≡ true
    unfolding fresh
    fresh_states =
        new_is_stated v.size sector 46 (mended_id f v None) (free_blocks f v blocks) blocks (length (ordinary_files f v)) (length (ordinary_directories f v)) start
        (base_is_bytes v.size origin.stamp origin.revision placed.least fit.stamp fit.bytes fit.revision)
        (base_long v.size origin.stamp origin.revision placed.least fit.stamp fit.bytes fit.revision) placed.least placed.most low
        (base_nine v.size origin.stamp origin.revision placed.least fit.stamp fit.bytes fit.revision)
        (base_one v.size origin.stamp origin.revision placed.least fit.stamp fit.bytes fit.revision)
        (base_use v.size origin.stamp origin.revision placed.least fit.stamp fit.bytes fit.revision) (omega (arith, placed.least)) fresh_all
        g w bitmap (omega arith) (λ b e. sym same.free) (next_fresh f g v w blocks same)
        (ap (λ n. (length (ordinary_files f v) == n) || (length (ordinary_files f v) == files_named g w)) same.files
        ∙ or_first (length (ordinary_files f v) == length (ordinary_files f v)) (length (ordinary_files f v) == files_named g w) (eq-eqb _ _ refl))
        (sym same.directories)
      where
        or_first : (x y : Bool) → x ≡ true → (x || y) ≡ true
        or_first true y e = refl
        or_first false y e = absurd (clash e)
          where
            clash : false ≡ true → ⊥
            clash e = cc

  -- a descriptor with its counts corrected
  module _ (sector : ℕ) (low : sector < 2 ^ 32) (long : length (v.disk sector) ≡ v.size) (is : is_integrity v.size sector (v.disk sector) ≡ true)
      (formed : is_formed (v.disk sector) ≡ true) where
    abbrev old : List ℕ
    old = v.disk sector

    formed_parts : (partitions_in old ≡ 1) × (46 ≤ use_length_in old)
    unfolding is_formed
    formed_parts =
        let h : ((partitions_in old == 1) ≡ true) × (nat_le 46 (use_length_in old) ≡ true) = and_parts (partitions_in old == 1) (nat_le 46 (use_length_in old)) formed in
        (eqb-true _ _ h.0, leb-true _ _ h.1)

    integrity_parts : (identifier old ≡ 9) × (80 + 8 * partitions_in old + use_length_in old ≤ v.size)
    unfolding is_integrity
    integrity_parts =
        let h : (is_id 9 (id_at sector old) ≡ true) × (nat_le (80 + 8 * partitions_in old + use_length_in old) v.size ≡ true)
        = and_parts (is_id 9 (id_at sector old)) (nat_le (80 + 8 * partitions_in old + use_length_in old) v.size) is in
        (id_stands 9 sector old h.0, leb-true _ _ h.1)

    room : 88 + use_length_in old ≤ v.size
    room = omega (arith, formed_parts.0, integrity_parts.1)

    corrected_fit : AllFit (length old) (stated_fields (mended_id f v (Some sector)) (free_left f v blocks bitmap old) blocks (files_left f v old) (length (ordinary_directories f v)))
    corrected_fit =
        subst (λ n. AllFit n (stated_fields (mended_id f v (Some sector)) (free_left f v blocks bitmap old) blocks (files_left f v old) (length (ordinary_directories f v)))) (sym long)
        (fit_all v.size (mended_id f v (Some sector)) (free_left f v blocks bitmap old) blocks (files_left f v old) (length (ordinary_directories f v)) placed.least
        (id_low (Some sector) (λ s e. placed.bytes s)) (left_low bitmap old (placed.bytes sector)) fit.few (files_low old (placed.bytes sector)) fit.directories)

    corrected_is : is_integrity v.size sector (corrected f v blocks bitmap sector old) ≡ true
    unfolding corrected
    corrected_is =
        new_is_integrity v.size sector (use_length_in old) (mended_id f v (Some sector)) (free_left f v blocks bitmap old) blocks (files_left f v old) (length (ordinary_directories f v)) old
        (placed.bytes sector) long placed.least placed.most low integrity_parts.0 formed_parts.0 refl room corrected_fit

    corrected_states : is_stated g w blocks bitmap (corrected f v blocks bitmap sector old) ≡ true
    unfolding corrected
    corrected_states =
        new_is_stated v.size sector (use_length_in old) (mended_id f v (Some sector)) (free_left f v blocks bitmap old) blocks (files_left f v old) (length (ordinary_directories f v)) old
        (placed.bytes sector) long placed.least placed.most low integrity_parts.0 formed_parts.0 refl room corrected_fit
        g w bitmap formed_parts.1 (left_same old bitmap) (next_mended f g v w blocks same sector) (files_mended f g v w blocks same old) (sym same.directories)

  abbrev test : (ℕ → List ℕ) → ℕ → Bool
  test d s = is_integrity v.size s (d s)

  -- a disk whose descriptor at the sector that prevailed is a good one
  kept_prevails : (sector : ℕ) (block : List ℕ) → prevailing_integrity v.size v.disk extent ≡ Some sector → is_integrity v.size sector block ≡ true
      → ((n : ℕ) → extent.start ≤ n → n < extent.start + many → disk n ≡ look n ((sector, block) ∷ []) (v.disk n))
      → (prevailing_integrity v.size disk extent ≡ Some sector) × (disk sector ≡ block)
  unfolding prevailing_integrity integrity_front look
  kept_prevails sector block e is edits =
      (ap last_of (front_same (test v.disk) (test disk) extent.start many (λ x l h. by x l h (cases_eq x sector))) ∙ e, here)
    where
      inside : IsIn (test v.disk) extent.start many sector
      inside = last_in (test v.disk) extent.start many sector e

      here : disk sector ≡ block
      here = edits sector inside.from inside.below ∙ look_here sector sector block [] (v.disk sector) refl

      by : (x : ℕ) → extent.start ≤ x → x < extent.start + many → (x ≡ sector) ⊎ (x ≡ sector → ⊥) → is_integrity v.size x (disk x) ≡ is_integrity v.size x (v.disk x)
      by x l h (inl s) = ap (λ n. is_integrity v.size n (disk n)) s ∙ (ap (is_integrity v.size sector) here ∙ is) ∙ sym inside.passes ∙ ap (λ n. is_integrity v.size n (v.disk n)) (sym s)
      by x l h (inr ne) = ap (is_integrity v.size x) (edits x l h ∙ look_past x sector block [] (v.disk x) ne)

  -- a disk with a new descriptor in the first block of the extent, and a terminating one behind it
  new_prevails : 1 ≤ many → ((n : ℕ) → extent.start ≤ n → n < extent.start + many → disk n ≡ look n (integrity_edits_by f v blocks bitmap origin extent None) (v.disk n))
      → (prevailing_integrity v.size disk extent ≡ Some extent.start) × (disk extent.start ≡ fresh f v blocks origin extent.start)
  unfolding prevailing_integrity integrity_front
  new_prevails some edits = (by many refl, here)
    where
      new : List ℕ
      new = fresh f v blocks origin extent.start

      ends : List (ℕ × List ℕ)
      ends = fresh_end v extent.start new many

      here : disk extent.start ≡ new
      here = edits extent.start (omega arith) (omega (arith, some)) ∙ look_here extent.start extent.start new ends (v.disk extent.start) refl

      low : extent.start < 2 ^ 32
      low = omega (arith, placed.low, some)

      passes : test disk extent.start ≡ true
      passes = ap (is_integrity v.size extent.start) here ∙ fresh_is extent.start low

      ended : 1 < many → test disk (extent.start + 1) ≡ false
      ended more = not_integrity v.size (extent.start + 1) (disk (extent.start + 1)) (ap (λ b. is_id 9 (id_at (extent.start + 1) b)) next ∙ other_id 9 8 (extent.start + 1) (terminator v.size (extent.start + 1) new) eight refl)
        where
          next : disk (extent.start + 1) ≡ terminator v.size (extent.start + 1) new
          next =
              edits (extent.start + 1) (omega arith) (omega (arith, more))
              ∙ look_past (extent.start + 1) extent.start new ends (v.disk (extent.start + 1)) (λ e. omega (arith, e))
              ∙ ap (λ c. look (extent.start + 1) (cond c ((extent.start + 1, terminator v.size (extent.start + 1) new) ∷ []) []) (v.disk (extent.start + 1))) (lt-ltb 1 many more)
              ∙ look_here (extent.start + 1) (extent.start + 1) (terminator v.size (extent.start + 1) new) [] (v.disk (extent.start + 1)) refl

          eight : identifier (terminator v.size (extent.start + 1) new) ≡ 8
          eight = terminator_identifier v.size (extent.start + 1) new placed.least

      behind : (m : ℕ) → many ≡ suc m → front (test disk) (extent.start + 1) m ≡ []
      behind zero e = refl
      behind (suc m) e = front_ends (test disk) (extent.start + 1) m (ended (omega (arith, e)))

      by : (n : ℕ) → many ≡ n → last_of (front (test disk) extent.start n) ≡ Some extent.start
      by zero e = absurd (omega (arith, e, some))
      by (suc m) e = ap last_of (front_starts (test disk) extent.start m passes) ∙ ap (λ xs. last_of (extent.start ∷ xs)) (behind m e)

  stated_there : (sector : ℕ) (block : List ℕ) → (prevailing_integrity v.size disk extent ≡ Some sector) × (disk sector ≡ block) → is_stated g w blocks bitmap block ≡ true
      → integrity_holds g w blocks bitmap extent ≡ true
  unfolding integrity_holds
  stated_there sector block there states =
      ap (λ o. (extent.length == 0) || is_stated_by g w blocks bitmap o) there.0
      ∙ or_second (extent.length == 0) (is_stated g w blocks bitmap (disk sector)) (ap (is_stated g w blocks bitmap) there.1 ∙ states)
    where
      or_second : (x y : Bool) → y ≡ true → (x || y) ≡ true
      or_second true y e = refl
      or_second false y e = e

  -- a corrected descriptor prevails where one did that has the form, else a new one
  module _ (Q : List ℕ → Type 0)
      (old_has : (s : ℕ) → s < 2 ^ 32 → length (v.disk s) ≡ v.size → is_integrity v.size s (v.disk s) ≡ true → is_formed (v.disk s) ≡ true
      → prevailing_integrity v.size v.disk extent ≡ Some s → Q (corrected f v blocks bitmap s (v.disk s)))
      (new_has : (s : ℕ) → s < 2 ^ 32 → Q (fresh f v blocks origin s)) where
    prevails_with : integrity_holds f v blocks bitmap extent ≡ false
        → HasExtentEdits v extent (integrity_edits_by f v blocks bitmap origin extent (prevailing_integrity v.size v.disk extent)) disk
        → (s : ℕ) × (prevailing_integrity v.size disk extent ≡ Some s) × Q (disk s)
    prevails_with bad edits = by (prevailing_integrity v.size v.disk extent) refl
      where
        made : Option ℕ → List (ℕ × List ℕ)
        made o = integrity_edits_by f v blocks bitmap origin extent o

        moved : (o : Option ℕ) → prevailing_integrity v.size v.disk extent ≡ o → (n : ℕ) → extent.start ≤ n → n < extent.start + many → disk n ≡ look n (made o) (v.disk n)
        moved o e n l h = edits.each n l h ∙ ap (λ p. look n (made p) (v.disk n)) e

        found : (s : ℕ) (block : List ℕ) → (prevailing_integrity v.size disk extent ≡ Some s) × (disk s ≡ block) → Q block
            → (s : ℕ) × (prevailing_integrity v.size disk extent ≡ Some s) × Q (disk s)
        found s block there q = (s, there.0, subst Q (sym there.1) q)

        at : (s : ℕ) (t : Bool) → is_formed (v.disk s) ≡ t → prevailing_integrity v.size v.disk extent ≡ Some s
            → (s : ℕ) × (prevailing_integrity v.size disk extent ≡ Some s) × Q (disk s)
        at s true formed e =
            let i : IsIn (test v.disk) extent.start many s = prevails_in v extent s e in
            let low : s < 2 ^ 32 = omega (arith, i.below, placed.low) in
            let long : length (v.disk s) ≡ v.size = placed.whole s i.from i.below in
            found s (corrected f v blocks bitmap s (v.disk s))
            (kept_prevails s (corrected f v blocks bitmap s (v.disk s)) e (corrected_is s low long i.passes formed)
            (λ n l h. moved (Some s) e n l h ∙ ap (λ c. look n ((s, cond c (corrected f v blocks bitmap s (v.disk s)) (fresh f v blocks origin s)) ∷ []) (v.disk n)) formed))
            (old_has s low long i.passes formed e)
        at s false formed e =
            let i : IsIn (test v.disk) extent.start many s = prevails_in v extent s e in
            let low : s < 2 ^ 32 = omega (arith, i.below, placed.low) in
            found s (fresh f v blocks origin s)
            (kept_prevails s (fresh f v blocks origin s) e (fresh_is s low)
            (λ n l h. moved (Some s) e n l h ∙ ap (λ c. look n ((s, cond c (corrected f v blocks bitmap s (v.disk s)) (fresh f v blocks origin s)) ∷ []) (v.disk n)) formed))
            (new_has s low)

        by : (o : Option ℕ) → prevailing_integrity v.size v.disk extent ≡ o → (s : ℕ) × (prevailing_integrity v.size disk extent ≡ Some s) × Q (disk s)
        by (Some s) e = at s (is_formed (v.disk s)) refl e
        by None e =
            let some : 1 ≤ many = some_blocks v.size extent.length (omega (arith, placed.least)) (has_length f v blocks bitmap extent bad) in
            found extent.start (fresh f v blocks origin extent.start) (new_prevails some (moved None e)) (new_has extent.start (omega (arith, placed.low, some)))

  broken : integrity_holds f v blocks bitmap extent ≡ false → HasExtentEdits v extent (integrity_edits_by f v blocks bitmap origin extent (prevailing_integrity v.size v.disk extent)) disk
      → integrity_holds g w blocks bitmap extent ≡ true
  broken bad edits =
      let r = prevails_with (λ block. is_stated g w blocks bitmap block ≡ true) (λ s low long is formed e. corrected_states s low long is formed) (λ s low. fresh_states s low) bad edits in
      stated_there r.0 (disk r.0) (r.1, refl) r.2

  -- ---- no descriptor that prevails names a further extent
  fresh_next : (s : ℕ) → s < 2 ^ 32 → next_extent_in (fresh f v blocks origin s) ≡ 0
  unfolding fresh
  fresh_next s low =
      next_stays v.size s 46 (mended_id f v None) (free_blocks f v blocks) blocks (length (ordinary_files f v)) (length (ordinary_directories f v)) (start s low)
      (base_is_bytes v.size origin.stamp origin.revision placed.least fit.stamp fit.bytes fit.revision)
      (base_long v.size origin.stamp origin.revision placed.least fit.stamp fit.bytes fit.revision) placed.least placed.most low
      (base_nine v.size origin.stamp origin.revision placed.least fit.stamp fit.bytes fit.revision)
      (base_one v.size origin.stamp origin.revision placed.least fit.stamp fit.bytes fit.revision)
      (base_use v.size origin.stamp origin.revision placed.least fit.stamp fit.bytes fit.revision) (omega (arith, placed.least)) (fresh_all s low)
      ∙ base_next v.size origin.stamp origin.revision placed.least fit.stamp fit.bytes fit.revision

  corrected_next : (s : ℕ) → s < 2 ^ 32 → length (v.disk s) ≡ v.size → is_integrity v.size s (v.disk s) ≡ true → is_formed (v.disk s) ≡ true
      → next_extent_in (corrected f v blocks bitmap s (v.disk s)) ≡ next_extent_in (v.disk s)
  unfolding corrected
  corrected_next s low long is formed =
      next_stays v.size s (use_length_in (v.disk s)) (mended_id f v (Some s)) (free_left f v blocks bitmap (v.disk s)) blocks (files_left f v (v.disk s)) (length (ordinary_directories f v)) (v.disk s)
      (placed.bytes s) long placed.least placed.most low (integrity_parts s low long is formed).0 (formed_parts s low long is formed).0 refl (room s low long is formed) (corrected_fit s low long is formed)

  chain_by : (d : ℕ → List ℕ) (s : ℕ) → prevailing_integrity v.size d extent ≡ Some s → next_extent_in (d s) ≡ 0 → names_chain v.size d extent ≡ false
  unfolding names_chain
  chain_by d s e z = ap (chains_by d) e ∙ ap (λ n. not (n == 0)) z

  no_chain_at : (s : ℕ) → names_chain v.size v.disk extent ≡ false → prevailing_integrity v.size v.disk extent ≡ Some s → next_extent_in (v.disk s) ≡ 0
  unfolding names_chain
  no_chain_at s none e = eqb-true (next_extent_in (v.disk s)) 0 (not-false (next_extent_in (v.disk s) == 0) (sym (ap (chains_by v.disk) e) ∙ none))
    where
      not-false : (b : Bool) → not b ≡ false → b ≡ true
      not-false true e = refl
      not-false false e = absurd (clash e)
        where
          clash : true ≡ false → ⊥
          clash e = cc

  chain_already : ((n : ℕ) → extent.start ≤ n → n < extent.start + many → disk n ≡ v.disk n) → names_chain v.size v.disk extent ≡ false → names_chain v.size disk extent ≡ false
  unfolding names_chain prevailing_integrity integrity_front
  chain_already stays none = ap (λ xs. chains_by disk (last_of xs)) fronts ∙ by (last_of (front (test v.disk) extent.start many)) refl none
    where
      fronts : front (test disk) extent.start many ≡ front (test v.disk) extent.start many
      fronts = front_same (test v.disk) (test disk) extent.start many (λ x l h. ap (is_integrity v.size x) (stays x l h))

      by : (o : Option ℕ) → last_of (front (test v.disk) extent.start many) ≡ o → chains_by v.disk o ≡ false → chains_by disk o ≡ false
      by None e h = refl
      by (Some s) e h =
          let i : IsIn (test v.disk) extent.start many s = last_in (test v.disk) extent.start many s e in
          ap (λ b. not (next_extent_in b == 0)) (stays s i.from i.below) ∙ h

  pub unchained : HasExtentEdits v extent (integrity_edits f v blocks bitmap origin extent) disk → names_chain v.size v.disk extent ≡ false → names_chain v.size disk extent ≡ false
  unfolding integrity_edits look
  unchained edits none = by (integrity_holds f v blocks bitmap extent) refl
    where
      made : List (ℕ × List ℕ)
      made = integrity_edits_by f v blocks bitmap origin extent (prevailing_integrity v.size v.disk extent)

      by : (b : Bool) → integrity_holds f v blocks bitmap extent ≡ b → names_chain v.size disk extent ≡ false
      by true h = chain_already (λ n l k. edits.each n l k ∙ ap (λ c. look n (cond c [] made) (v.disk n)) h) none
      by false h =
          let r = prevails_with (λ block. next_extent_in block ≡ 0)
          (λ s low long is formed e. corrected_next s low long is formed ∙ no_chain_at s none e) (λ s low. fresh_next s low) h
          (record { each = λ n l k. edits.each n l k ∙ ap (λ c. look n (cond c [] made) (v.disk n)) h }) in
          chain_by disk r.0 r.1 r.2

  whole_already : integrity_holds f v blocks bitmap extent ≡ true → ((n : ℕ) → extent.start ≤ n → n < extent.start + many → disk n ≡ v.disk n)
      → integrity_holds g w blocks bitmap extent ≡ true
  unfolding integrity_holds prevailing_integrity integrity_front
  whole_already holds stays =
      ap (λ xs. (extent.length == 0) || is_stated_by g w blocks bitmap (last_of xs)) fronts ∙ by (extent.length == 0) (last_of (front (test v.disk) extent.start many)) refl holds
    where
      fronts : front (test disk) extent.start many ≡ front (test v.disk) extent.start many
      fronts = front_same (test v.disk) (test disk) extent.start many (λ x l h. ap (is_integrity v.size x) (stays x l h))

      states : (o : Option ℕ) → last_of (front (test v.disk) extent.start many) ≡ o → is_stated_by f v blocks bitmap o ≡ true → is_stated_by g w blocks bitmap o ≡ true
      states None e h = h
      states (Some s) e h =
          let i : IsIn (test v.disk) extent.start many s = last_in (test v.disk) extent.start many s e in
          ap (is_stated g w blocks bitmap) (stays s i.from i.below) ∙ stated_same f g v w blocks same bitmap (v.disk s) ∙ h

      by : (b : Bool) (o : Option ℕ) → last_of (front (test v.disk) extent.start many) ≡ o → (b || is_stated_by f v blocks bitmap o) ≡ true → (b || is_stated_by g w blocks bitmap o) ≡ true
      by true o e h = refl
      by false o e h = states o e h

  pub integrity_mended : HasExtentEdits v extent (integrity_edits f v blocks bitmap origin extent) disk → integrity_holds g w blocks bitmap extent ≡ true
  unfolding integrity_edits look
  integrity_mended edits = by (integrity_holds f v blocks bitmap extent) refl
    where
      made : List (ℕ × List ℕ)
      made = integrity_edits_by f v blocks bitmap origin extent (prevailing_integrity v.size v.disk extent)

      by : (b : Bool) → integrity_holds f v blocks bitmap extent ≡ b → integrity_holds g w blocks bitmap extent ≡ true
      by true h = whole_already h (λ n l k. edits.each n l k ∙ ap (λ c. look n (cond c [] made) (v.disk n)) h)
      by false h = broken h (record { each = λ n l k. edits.each n l k ∙ ap (λ c. look n (cond c [] made) (v.disk n)) h })

  -- ---- what the mend writes is no anchor: a block stays, or has the identifier of an integrity descriptor or of a terminating one
  abbrev pub IsOther : List ℕ → List ℕ → Type 0
  IsOther old new = (new ≡ old) ⊎ ((identifier new ≡ 9) ⊎ (identifier new ≡ 8))

  identified : (s : ℕ) (block : List ℕ) → is_integrity v.size s block ≡ true → identifier block ≡ 9
  unfolding is_integrity
  identified s block e = id_stands 9 s block (and_parts (is_id 9 (id_at s block)) _ e).0

  put_other : (n s : ℕ) (block old : List ℕ) (rest : List (ℕ × List ℕ)) → (identifier block ≡ 9) ⊎ (identifier block ≡ 8) → IsOther old (look n rest old)
      → IsOther old (look n ((s, block) ∷ rest) old)
  put_other n s block old rest id further = by (cases_eq n s)
    where
      by : (n ≡ s) ⊎ (n ≡ s → ⊥) → IsOther old (look n ((s, block) ∷ rest) old)
      by (inl e) = subst (IsOther old) (sym (look_here n s block rest old e)) (inr id)
      by (inr ne) = subst (IsOther old) (sym (look_past n s block rest old ne)) further

  pub written_other : (n : ℕ) → IsOther (v.disk n) (look n (integrity_edits f v blocks bitmap origin extent) (v.disk n))
  unfolding integrity_edits look
  written_other n = by (integrity_holds f v blocks bitmap extent) refl
    where
      nothing : IsOther (v.disk n) (v.disk n)
      nothing = inl refl

      at : (s : ℕ) (t : Bool) → is_formed (v.disk s) ≡ t → prevailing_integrity v.size v.disk extent ≡ Some s
          → IsOther (v.disk n) (look n ((s, cond t (corrected f v blocks bitmap s (v.disk s)) (fresh f v blocks origin s)) ∷ []) (v.disk n))
      at s true formed e =
          let i : IsIn (test v.disk) extent.start many s = prevails_in v extent s e in
          let low : s < 2 ^ 32 = omega (arith, i.below, placed.low) in
          put_other n s (corrected f v blocks bitmap s (v.disk s)) (v.disk n) []
          (inl (identified s (corrected f v blocks bitmap s (v.disk s)) (corrected_is s low (placed.whole s i.from i.below) i.passes formed))) nothing
      at s false formed e =
          let i : IsIn (test v.disk) extent.start many s = prevails_in v extent s e in
          let low : s < 2 ^ 32 = omega (arith, i.below, placed.low) in
          put_other n s (fresh f v blocks origin s) (v.disk n) [] (inl (identified s (fresh f v blocks origin s) (fresh_is s low))) nothing

      ends : (c : Bool) (new : List ℕ)
          → IsOther (v.disk n) (look n (cond c ((extent.start + 1, terminator v.size (extent.start + 1) new) ∷ []) []) (v.disk n))
      ends true new = put_other n (extent.start + 1) (terminator v.size (extent.start + 1) new) (v.disk n) [] (inr (terminator_identifier v.size (extent.start + 1) new placed.least)) nothing
      ends false new = nothing

      made : (o : Option ℕ) → prevailing_integrity v.size v.disk extent ≡ o → integrity_holds f v blocks bitmap extent ≡ false
          → IsOther (v.disk n) (look n (integrity_edits_by f v blocks bitmap origin extent o) (v.disk n))
      made (Some s) e bad = at s (is_formed (v.disk s)) refl e
      made None e bad =
          let some : 1 ≤ many = some_blocks v.size extent.length (omega (arith, placed.least)) (has_length f v blocks bitmap extent bad) in
          put_other n extent.start (fresh f v blocks origin extent.start) (v.disk n) (fresh_end v extent.start (fresh f v blocks origin extent.start) many)
          (inl (identified extent.start (fresh f v blocks origin extent.start) (fresh_is extent.start (omega (arith, placed.low, some)))))
          (ends (nat_lt 1 many) (fresh f v blocks origin extent.start))

      by : (b : Bool) → integrity_holds f v blocks bitmap extent ≡ b
          → IsOther (v.disk n) (look n (cond b [] (integrity_edits_by f v blocks bitmap origin extent (prevailing_integrity v.size v.disk extent))) (v.disk n))
      by true e = nothing
      by false e = made (prevailing_integrity v.size v.disk extent) refl e
