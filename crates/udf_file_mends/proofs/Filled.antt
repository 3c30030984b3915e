-- A content that is spread over the blocks of a list is read back from them.
use Rattle.std.proofs.Common.{◌≡◌, ℕ, zero, suc, ◌+◌, ◌-◌, ◌*◌, ◌<◌, ◌≤◌, nat_le, Bool, true, false, cond, List, [], ◌∷◌, ◌++◌, length, take, drop, replicate, refl, sym, ap, ◌∙◌, inl, inr, arith, append_assoc, append-nil, length-drop}
use Rattle.std.specs.Prelude.{◌==◌}
use Rattle.std.proofs.lemmas.Bool.Decides.{nat_tests}
use Rattle.std.proofs.lemmas.List.{drop_all, length-take-le, take-append-drop, take_all, take_at}
use Rattle.udf_model.specs.Bytes.{written_at}
use Rattle.udf_file_model.specs.Address.{addr}
use Rattle.udf_file_model.specs.Content.{block_at, blocks_from, run_bytes, runs_bytes}
use Rattle.udf_file_model.specs.Descriptors.{Descriptor}
use Rattle.udf_file_model.specs.Front.{blocks_for}
use Rattle.udf_file_model.specs.Listing.{Volume, with_disk}
use Rattle.udf_file_model.specs.Pieces.{bytes_in}
use Rattle.udf_tree_model.proofs.Members.{Member, member_left, member_right}
use Rattle.udf_tree_model.proofs.Stating.{blocks_reach}
use Rattle.udf_file_mends.specs.Spread.{Sited, spread, spread_from}

-- bytes over the front of a block
over : (bytes block : List ℕ) → written_at 0 bytes block ≡ bytes ++ drop (length bytes) block
unfolding written_at
over bytes block = ap (λ n. bytes ++ drop n block) (let e : 0 + length bytes ≡ length bytes = omega arith in e)

-- a list whose front is there
pub front_more : (n : ℕ) (xs ys rest : List ℕ) → length xs ≤ n → take (n - length xs) rest ≡ ys → take n (xs ++ rest) ≡ xs ++ ys
front_more n [] ys rest l e = ap (λ k. take k rest) (let z : n ≡ n - 0 = omega arith in z) ∙ e
front_more zero (x ∷ xs) ys rest l e = absurd (omega (arith, l))
front_more (suc n) (x ∷ xs) ys rest l e =
    ap (λ z. x ∷ z) (front_more n xs ys rest (omega (arith, l)) (ap (λ k. take k rest) (let z : n - length xs ≡ suc n - suc (length xs) = omega arith in z) ∙ e))

module _ (v : Volume) (disk : ℕ → List ℕ) (some : 0 < v.size) where
  abbrev w : Volume
  w = with_disk v disk

  -- the other disk has the blocks
  abbrev pub HasBlocks : List Sited → Type 0
  HasBlocks bs = (c : Sited) → Member c bs → block_at w c.0 ≡ c.1

  -- the blocks at these addresses are whole
  abbrev pub AreWhole : List Sited → Type 0
  AreWhole bs = (c : Sited) → Member c bs → length (block_at v c.0) ≡ v.size

  filled : (part n block : ℕ) (bytes : List ℕ) → length bytes ≤ n * v.size → HasBlocks (spread_from v part block n bytes) → AreWhole (spread_from v part block n bytes)
      → take (length bytes) (blocks_from w part block n) ≡ bytes
  unfolding spread_from blocks_from
  filled part zero block [] l h k = refl
  filled part zero block (x ∷ xs) l h k = absurd (omega (arith, l))
  filled part (suc n) block bytes l h k =
      ap (λ z. take (length bytes) (z ++ blocks_from w part (block + 1) n)) (h (addr part block, written_at 0 (take v.size bytes) old) (inl refl) ∙ over (take v.size bytes) old)
      ∙ by (nat_le (length bytes) v.size) refl (filled part n (block + 1) (drop v.size bytes) (omega (arith, l, length-drop v.size bytes)) (λ c m. h c (inr m)) (λ c m. k c (inr m)))
    where
      old : List ℕ
      old = block_at v (addr part block)

      long : length old ≡ v.size
      long = k (addr part block, written_at 0 (take v.size bytes) old) (inl refl)

      by : (b : Bool) → nat_le (length bytes) v.size ≡ b → take (length (drop v.size bytes)) (blocks_from w part (block + 1) n) ≡ drop v.size bytes
          → take (length bytes) ((take v.size bytes ++ drop (length (take v.size bytes)) old) ++ blocks_from w part (block + 1) n) ≡ bytes
      by true e on =
          let fits : length bytes ≤ v.size = grind (arith, nat_tests) in
          ap (λ z. take (length bytes) ((z ++ drop (length z) old) ++ blocks_from w part (block + 1) n)) (take_all v.size bytes fits)
          ∙ ap (take (length bytes)) (append_assoc bytes (drop (length bytes) old) (blocks_from w part (block + 1) n))
          ∙ take_at bytes (drop (length bytes) old ++ blocks_from w part (block + 1) n) (length bytes) refl
      by false e on =
          let more : v.size < length bytes = grind (arith, nat_tests) in
          let front : length (take v.size bytes) ≡ v.size = length-take-le v.size bytes (omega (arith, more)) in
          let none : drop (length (take v.size bytes)) old ≡ [] = drop_all (length (take v.size bytes)) old (omega (arith, front, long)) in
          ap (λ z. take (length bytes) ((take v.size bytes ++ z) ++ blocks_from w part (block + 1) n)) none
          ∙ ap (λ z. take (length bytes) (z ++ blocks_from w part (block + 1) n)) (append-nil (take v.size bytes))
          ∙ front_more (length bytes) (take v.size bytes) (drop v.size bytes) (blocks_from w part (block + 1) n) (omega (arith, front, more))
          (ap (λ z. take z (blocks_from w part (block + 1) n)) (let z : length bytes - length (take v.size bytes) ≡ length (drop v.size bytes) = omega (arith, front, length-drop v.size bytes) in z) ∙ on)
          ∙ take-append-drop v.size bytes

  -- the descriptors have recorded blocks
  abbrev pub RecordedRuns : List Descriptor → Type 0
  RecordedRuns [] = Unit {0}
  RecordedRuns (d ∷ ds) = (d.kind ≡ 0) × RecordedRuns ds

  pub spread_reads : (ds : List Descriptor) (content : List ℕ) → RecordedRuns ds → bytes_in ds ≡ length content → HasBlocks (spread v ds content) → AreWhole (spread v ds content)
      → runs_bytes w ds ≡ content
  unfolding spread runs_bytes run_bytes
  spread_reads [] [] r e h k = refl
  spread_reads [] (x ∷ xs) r e h k = absurd (omega (arith, e))
  spread_reads (d ∷ ds) content r e h k =
      let own = spread_from v d.at.part d.at.block (blocks_for v.size d.length) (take d.length content) in
      let rest = spread v ds (drop d.length content) in
      let front : length (take d.length content) ≡ d.length = length-take-le d.length content (omega (arith, e)) in
      let reach : length (take d.length content) ≤ blocks_for v.size d.length * v.size = omega (arith, front, blocks_reach v.size d.length some) in
      let here : take (length (take d.length content)) (blocks_from w d.at.part d.at.block (blocks_for v.size d.length)) ≡ take d.length content =
      filled d.at.part (blocks_for v.size d.length) d.at.block (take d.length content) reach (λ c m. h c (member_left own rest c m)) (λ c m. k c (member_left own rest c m)) in
      ap (λ t. cond t (take d.length (blocks_from w d.at.part d.at.block (blocks_for v.size d.length))) (replicate d.length 0) ++ runs_bytes w ds) (ap (λ (n : ℕ). n == 0) r.0)
      ∙ ap (λ z. z ++ runs_bytes w ds) (sym (ap (λ n. take n (blocks_from w d.at.part d.at.block (blocks_for v.size d.length))) front) ∙ here)
      ∙ ap (λ z. take d.length content ++ z)
      (spread_reads ds (drop d.length content) r.1 (omega (arith, e, length-drop d.length content)) (λ c m. h c (member_right own rest c m)) (λ c m. k c (member_right own rest c m)))
      ∙ take-append-drop d.length content
