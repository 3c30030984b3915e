-- The copies of a sparing table, and the blocks into which they are cut.
use Rattle.std.proofs.Common.{◌≡◌, ℕ, zero, suc, ◌+◌, ◌-◌, ◌*◌, ◌<◌, ◌≤◌, arith, sym, ◌∙◌, ap, List, [], ◌∷◌, ◌++◌, take, drop, length, cond, nat_le}
use Rattle.std.proofs.Math.Nat.{div-mul-le_self, mul-le-mul_right}
use Rattle.std.proofs.lemmas.Bool.{le-leb, lt-leb}
use Rattle.std.proofs.lemmas.List.{take_all, take-take, drop-drop}
use Rattle.udf_model.specs.Image.{block_of}
use Rattle.udf_model.specs.Tag.{crc_length, relocated, retagged}
use Rattle.udf_volume_model.specs.Anchor.{blocks_for}
use Rattle.udf_volume_model.specs.SparingTable.{bytes_from, table_end}
use Rattle.udf_volume_model.specs.SparingRule.{blocks_cut, table_blocks, table_copy}
use Rattle.udf_volume_laws.proofs.Cut.{blocks_hold}
use Rattle.udf_volume_laws.proofs.Fronts.{front_crc_length}
use Rattle.udf_layer.specs.Fronts.{table_bytes}
use Rattle.udf_layer.proofs.AreaFronts.{bytes_are}
use Rattle.udf_layer.proofs.TableBytes.{bytes_count}
use Rattle.udf_volume.specs.declared.volume.Volume.{Volume}
use Rattle.udf_wanted.specs.Wanted.{LookAlike}
use Rattle.udf_wanted.specs.Writable.{AreFreeFrom}
use Rattle.udf_wanted.proofs.Looking.{nothing}
use Rattle.udf_wanted.proofs.Walking.{free_inside}

-- one block more that is cut
pub one_cut : (size at count : ℕ) (bytes : List ℕ)
    → blocks_cut size at count bytes ++ (at + count, take size (drop (count * size) bytes)) ∷ [] ≡ blocks_cut size at (count + 1) bytes
unfolding blocks_cut
one_cut size at count bytes = after at count bytes ∙ ap (λ n. blocks_cut size at n bytes) (let e : suc count ≡ count + 1 = omega arith in e) where
  after : (at count : ℕ) (bytes : List ℕ) → blocks_cut size at count bytes ++ (at + count, take size (drop (count * size) bytes)) ∷ [] ≡ blocks_cut size at (suc count) bytes
  after at zero bytes =
      let a : at + 0 ≡ at = omega arith in
      let z : 0 * size ≡ 0 = omega arith in
      ap (λ n. (n, take size (drop (0 * size) bytes)) ∷ []) a ∙ ap (λ n. (at, take size (drop n bytes)) ∷ []) z
  after at (suc count) bytes =
      let a : at + suc count ≡ at + 1 + count = omega arith in
      let s : suc count * size ≡ size + count * size = omega arith in
      let head : List (ℕ × List ℕ) → List (ℕ × List ℕ) = λ rest. (at, take size bytes) ∷ rest in
      let cut : List (ℕ × List ℕ) = blocks_cut size (at + 1) count (drop size bytes) in
      ap (λ n. head (cut ++ (n, take size (drop (suc count * size) bytes)) ∷ [])) a
      ∙ ap (λ n. head (cut ++ (at + 1 + count, take size (drop n bytes)) ∷ [])) s
      ∙ ap (λ b. head (cut ++ (at + 1 + count, take size b) ∷ [])) (sym (drop-drop (count * size) size bytes))
      ∙ ap head (after (at + 1) count (drop size bytes))

pub none_cut : (size at : ℕ) (bytes : List ℕ) (edits : List (ℕ × List ℕ)) → LookAlike edits (edits ++ blocks_cut size at 0 bytes)
unfolding blocks_cut
none_cut size at bytes edits = nothing edits

-- an area over which a copy was laid is cut into the table's blocks
pub laid_blocks : (size at count bytes start : ℕ) (image table now area : List ℕ) → count ≡ blocks_for size (length table) → length table ≡ table_end table
    → bytes ≡ count * size → start ≡ at * size → now ≡ take bytes (drop start image) → area ≡ table_copy at table ++ drop (length table) now
    → blocks_cut size at count area ≡ table_blocks size (block_of size image) table at
unfolding table_blocks
laid_blocks size at count bytes start image table now area c l b s n a =
    let read : now ≡ bytes_from (block_of size image) at count =
    n ∙ ap (λ m. take m (drop start image)) b ∙ ap (λ m. take (count * size) (drop m image)) s ∙ sym (bytes_are size image at count) in
    ap (blocks_cut size at count) a
    ∙ ap (λ r. blocks_cut size at count (table_copy at table ++ drop (length table) r)) read
    ∙ ap (λ k. blocks_cut size at k (table_copy at table ++ drop (length table) (bytes_from (block_of size image) at k))) c
    ∙ ap (λ e. blocks_cut size at (blocks_for size e) (table_copy at table ++ drop e (bytes_from (block_of size image) at (blocks_for size e)))) l

-- a copy, by how many bytes the table's tag covers
module _ (at : ℕ) (table : List ℕ) (ends : length table ≡ table_end table) where
  all : take (table_end table) table ≡ table
  all = take_all (table_end table) table (omega arith)

  pub relocated_copy : 16 + crc_length table ≤ length table → relocated at table ≡ table_copy at table
  unfolding table_copy
  relocated_copy h = sym
      (ap (λ b. cond b (relocated at (take (table_end table) table)) (retagged at (table_end table - 16) (take (table_end table) table))) (le-leb _ _ (omega arith))
      ∙ ap (relocated at) all)

  pub retagged_copy : length table < 16 + crc_length table → (behind : ℕ) → behind ≡ length table - 16 → retagged at behind table ≡ table_copy at table
  unfolding table_copy
  retagged_copy h behind is =
      ap (λ n. retagged at n table) (is ∙ ap (λ n. n - 16) ends)
      ∙ sym (ap (λ b. cond b (relocated at (take (table_end table) table)) (retagged at (table_end table - 16) (take (table_end table) table))) (lt-leb _ _ (omega arith))
      ∙ ap (retagged at (table_end table - 16)) all)

-- the blocks of some bytes hold less than a block more
pub few_bytes : (size bytes : ℕ) → blocks_for size bytes * size ≤ bytes + (size - 1)
unfolding blocks_for
few_bytes size bytes = div-mul-le_self (bytes + (size - 1)) size

-- the blocks of a table that are free lie in the image
pub inside : (volume : Volume) (at bytes whole : ℕ) → 512 ≤ volume.size → 56 ≤ bytes → volume.blocks * volume.size ≤ whole
    → AreFreeFrom volume at (blocks_for volume.size bytes) → at * volume.size + blocks_for volume.size bytes * volume.size ≤ whole
inside volume at bytes whole large some image free = by_count (blocks_for volume.size bytes) (blocks_hold volume.size bytes (omega arith)) free where
  by_count : (count : ℕ) → bytes ≤ count * volume.size → AreFreeFrom volume at count → at * volume.size + count * volume.size ≤ whole
  by_count zero h f = absurd (omega arith)
  by_count (suc k) h f =
      omega (arith, mul-le-mul_right volume.size (let l : at + suc k ≤ volume.blocks = omega (arith, free_inside volume (at + k) (f k (omega arith))) in l))

-- the copies of a table are those of its bytes
module _ (area : List ℕ) where
  abbrev end : ℕ
  end = table_end area

  pub bytes_end : table_end (table_bytes area) ≡ end
  bytes_end = ap (λ n. 56 + 8 * n) (bytes_count area)

  bytes_again : take (table_end (table_bytes area)) (table_bytes area) ≡ table_bytes area
  bytes_again = ap (λ n. take n (table_bytes area)) bytes_end ∙ take-take end end area (omega arith)

  copy_is : (at : ℕ) → table_copy at (table_bytes area) ≡ table_copy at area
  unfolding table_copy
  copy_is at =
      ap (λ n. cond (nat_le (16 + n) (table_end (table_bytes area))) (relocated at (take (table_end (table_bytes area)) (table_bytes area)))
      (retagged at (table_end (table_bytes area) - 16) (take (table_end (table_bytes area)) (table_bytes area)))) (front_crc_length end area (omega arith))
      ∙ ap (λ b. cond (nat_le (16 + crc_length area) (table_end (table_bytes area))) (relocated at b) (retagged at (table_end (table_bytes area) - 16) b)) bytes_again
      ∙ ap (λ n. cond (nat_le (16 + crc_length area) n) (relocated at (table_bytes area)) (retagged at (n - 16) (table_bytes area))) bytes_end

  pub blocks_are : (size : ℕ) (disk : ℕ → List ℕ) (at : ℕ) → table_blocks size disk (table_bytes area) at ≡ table_blocks size disk area at
  unfolding table_blocks
  blocks_are size disk at =
      ap (λ c. blocks_cut size at (blocks_for size (table_end (table_bytes area)))
      (c ++ drop (table_end (table_bytes area)) (bytes_from disk at (blocks_for size (table_end (table_bytes area)))))) (copy_is at)
      ∙ ap (λ n. blocks_cut size at (blocks_for size n) (table_copy at area ++ drop n (bytes_from disk at (blocks_for size n)))) bytes_end
