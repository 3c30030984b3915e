-- Bytes spread over a row of blocks are read back from them.
use Rattle.std.proofs.Common.{◌≡◌, ◌⊎◌, inl, inr, ℕ, zero, suc, ◌+◌, ◌-◌, ◌*◌, ◌<◌, ◌≤◌, arith, refl, sym, ◌∙◌, ap, subst, List, [], ◌∷◌, ◌++◌, length, take, drop, true, is_some, Option, Some, None, append-nil, length-append, length-drop}
use Rattle.std.proofs.lemmas.Bool.{cases_lt, false≢true}
use Rattle.std.proofs.lemmas.List.{length-take-le, take_all, drop_all, take-append-le, take-append-drop}
use Rattle.udf_field.specs.declared.address.Addr.{Addr}
use Rattle.udf_model.specs.Bytes.{written_at}
use Rattle.udf_file_model.specs.Address.{addr}
use Rattle.udf_file_model.specs.Content.{block_at, block_by, blocks_from}
use Rattle.udf_file_model.specs.Listing.{Volume, is_placed, with_disk}
use Rattle.udf_volume_model.specs.Edits.{look}
use Rattle.udf_volume_laws.proofs.Puts.{look_here, look_past}
use Rattle.udf_file_mends.specs.Mends.{edit_by, edits_of}
use Rattle.udf_file_mends.specs.Spread.{spread_from}

take_over : (n : ℕ) (xs ys : List ℕ) → length xs ≤ n → take n (xs ++ ys) ≡ xs ++ take (n - length xs) ys
take_over n [] ys l = ap (λ k. take k ys) (let e : n ≡ n - 0 = omega arith in e)
take_over zero (x ∷ xs) ys l = absurd (omega arith)
take_over (suc n) (x ∷ xs) ys l =
    ap (λ r. x ∷ r) (take_over n xs ys (omega arith)) ∙ ap (λ k. x ∷ (xs ++ take k ys)) (let e : n - length xs ≡ suc n - suc (length xs) = omega arith in e)

pub sector_of : (o : Option ℕ) → is_some o ≡ true → (s : ℕ) × (o ≡ Some s)
sector_of None h = absurd (false≢true h)
sector_of (Some s) h = (s, refl)

-- bytes written over the first ones of a block
laid : (bytes block : List ℕ) → written_at 0 bytes block ≡ bytes ++ drop (length bytes) block
unfolding written_at
laid bytes block = ap (λ n. bytes ++ drop n block) (let e : 0 + length bytes ≡ length bytes = omega arith in e)

-- of a block over which the first bytes are laid, with what comes behind it
laid_read : (size : ℕ) (bytes old rest : List ℕ) → length old ≡ size → take (length (drop size bytes)) rest ≡ drop size bytes
    → take (length bytes) (written_at 0 (take size bytes) old ++ rest) ≡ bytes
laid_read size bytes old rest long tail = by (cases_lt (length bytes) size)
  where
    short : length bytes ≤ size → take (length bytes) (written_at 0 (take size bytes) old ++ rest) ≡ bytes
    short l =
        let same : take size bytes ≡ bytes = take_all size bytes l in
        ap (λ b. take (length bytes) (written_at 0 b old ++ rest)) same
        ∙ ap (λ b. take (length bytes) (b ++ rest)) (laid bytes old)
        ∙ take-append-le (length bytes) (bytes ++ drop (length bytes) old) rest (omega (arith, length-append bytes (drop (length bytes) old)))
        ∙ take-append-le (length bytes) bytes (drop (length bytes) old) (omega arith)
        ∙ take_all (length bytes) bytes (omega arith)

    more : size ≤ length bytes → take (length bytes) (written_at 0 (take size bytes) old ++ rest) ≡ bytes
    more l =
        let front : length (take size bytes) ≡ size = length-take-le size bytes l in
        let none : drop (length (take size bytes)) old ≡ [] = drop_all (length (take size bytes)) old (omega (arith, front, long)) in
        let left : length bytes - length (take size bytes) ≡ length (drop size bytes) = omega (arith, front, length-drop size bytes) in
        ap (λ b. take (length bytes) (b ++ rest)) (laid (take size bytes) old)
        ∙ ap (λ b. take (length bytes) ((take size bytes ++ b) ++ rest)) none
        ∙ ap (λ b. take (length bytes) (b ++ rest)) (append-nil (take size bytes))
        ∙ take_over (length bytes) (take size bytes) rest (omega (arith, front))
        ∙ ap (λ k. take size bytes ++ take k rest) left
        ∙ ap (λ b. take size bytes ++ b) tail
        ∙ take-append-drop size bytes

    by : (length bytes < size) ⊎ (size ≤ length bytes) → take (length bytes) (written_at 0 (take size bytes) old ++ rest) ≡ bytes
    by (inl l) = short (omega (arith, l))
    by (inr l) = more l

module _ (v : Volume) (disk : ℕ → List ℕ)
    (whole : (a : Addr) (sector : ℕ) → v.place a ≡ Some sector → length (v.disk sector) ≡ v.size)
    (apart : (a b : Addr) (sector : ℕ) → v.place a ≡ Some sector → v.place b ≡ Some sector → a ≡ b) where
  -- the edits of a row with its first block placed
  first_edit : (block n s : ℕ) (bytes : List ℕ) → v.place (addr 0 block) ≡ Some s
      → edits_of v (spread_from v 0 block (suc n) bytes)
      ≡ (s, written_at 0 (take v.size bytes) (v.disk s)) ∷ edits_of v (spread_from v 0 (block + 1) n (drop v.size bytes))
  unfolding edits_of spread_from
  first_edit block n s bytes e =
      ap (λ o. edit_by (written_at 0 (take v.size bytes) (block_by v.disk o)) o ++ edits_of v (spread_from v 0 (block + 1) n (drop v.size bytes))) e

  pub spread_read : (block n : ℕ) (bytes : List ℕ) → length bytes ≤ n * v.size
      → ((k : ℕ) → k < n → is_placed v (addr 0 (block + k)) ≡ true)
      → ((k sector : ℕ) → k < n → v.place (addr 0 (block + k)) ≡ Some sector
      → disk sector ≡ look sector (edits_of v (spread_from v 0 block n bytes)) (v.disk sector))
      → take (length bytes) (blocks_from (with_disk v disk) 0 block n) ≡ bytes
  unfolding blocks_from
  spread_read block zero [] long placed puts = refl
  spread_read block zero (b ∷ bytes) long placed puts = absurd (omega arith)
  spread_read block (suc n) bytes long placed puts =
      let z : block + 0 ≡ block = omega arith in
      let first : (s : ℕ) × (v.place (addr 0 block) ≡ Some s) = sector_of (v.place (addr 0 block)) (subst (λ m. is_placed v (addr 0 m) ≡ true) z (placed 0 (omega arith))) in
      at first.0 first.1 (spread_read (block + 1) n (drop v.size bytes) (omega (arith, length-drop v.size bytes, long)) further (edits first.0 first.1))
    where
      next : (k : ℕ) → block + 1 + k ≡ block + suc k
      next k = omega arith

      further : (k : ℕ) → k < n → is_placed v (addr 0 (block + 1 + k)) ≡ true
      further k l = subst (λ m. is_placed v (addr 0 m) ≡ true) (sym (next k)) (placed (suc k) (omega arith))

      other : (s : ℕ) (k sector : ℕ) → v.place (addr 0 block) ≡ Some s → v.place (addr 0 (block + 1 + k)) ≡ Some sector → sector ≡ s → ⊥
      other s k sector e f same =
          let g : addr 0 block ≡ addr 0 (block + 1 + k) = apart (addr 0 block) (addr 0 (block + 1 + k)) s e (f ∙ ap Some same) in
          let h : block ≡ block + 1 + k = ap (λ (a : Addr). a.block) g in
          omega (arith, h)

      edits : (s : ℕ) → v.place (addr 0 block) ≡ Some s → (k sector : ℕ) → k < n → v.place (addr 0 (block + 1 + k)) ≡ Some sector
          → disk sector ≡ look sector (edits_of v (spread_from v 0 (block + 1) n (drop v.size bytes))) (v.disk sector)
      edits s e k sector l f =
          puts (suc k) sector (omega arith) (subst (λ m. v.place (addr 0 m) ≡ Some sector) (next k) f)
          ∙ ap (λ es. look sector es (v.disk sector)) (first_edit block n s bytes e)
          ∙ look_past sector s (written_at 0 (take v.size bytes) (v.disk s)) (edits_of v (spread_from v 0 (block + 1) n (drop v.size bytes))) (v.disk sector) (other s k sector e f)

      at : (s : ℕ) → v.place (addr 0 block) ≡ Some s
          → take (length (drop v.size bytes)) (blocks_from (with_disk v disk) 0 (block + 1) n) ≡ drop v.size bytes
          → take (length bytes) (block_at (with_disk v disk) (addr 0 block) ++ blocks_from (with_disk v disk) 0 (block + 1) n) ≡ bytes
      at s e tail =
          let z : block ≡ block + 0 = omega arith in
          let here : disk s ≡ written_at 0 (take v.size bytes) (v.disk s) =
          puts 0 s (omega arith) (subst (λ m. v.place (addr 0 m) ≡ Some s) z e)
          ∙ ap (λ es. look s es (v.disk s)) (first_edit block n s bytes e)
          ∙ look_here s s (written_at 0 (take v.size bytes) (v.disk s)) (edits_of v (spread_from v 0 (block + 1) n (drop v.size bytes))) (v.disk s) refl in
          ap (λ o. take (length bytes) (block_by disk o ++ blocks_from (with_disk v disk) 0 (block + 1) n)) e
          ∙ ap (λ b. take (length bytes) (b ++ blocks_from (with_disk v disk) 0 (block + 1) n)) here
          ∙ laid_read v.size bytes (v.disk s) (blocks_from (with_disk v disk) 0 (block + 1) n) (whole (addr 0 block) s e) tail
