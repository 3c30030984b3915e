-- Where the edits of sparing tables lie, and what stands in the areas of tables after them.
use Rattle.std.proofs.Common.{◌≡◌, ℕ, zero, suc, ◌+◌, ◌-◌, ◌*◌, ◌<◌, ◌≤◌, arith, refl, sym, ◌∙◌, ap, List, [], ◌∷◌, ◌++◌, take, drop, length, length-append, length-drop, inl, inr, ◌⊎◌}
use Rattle.std.specs.List.{flat_map}
use Rattle.std.proofs.lemmas.Bool.{cases_eq}
use Rattle.std.proofs.lemmas.List.{append_assoc}
use Rattle.udf_volume_model.specs.Anchor.{blocks_for}
use Rattle.udf_volume_model.specs.Maps.{SparingMap}
use Rattle.udf_volume_model.specs.Edits.{look}
use Rattle.udf_volume_model.specs.SparingTable.{bytes_from, table_area, table_end}
use Rattle.udf_volume_model.specs.SparingRule.{table_copy, blocks_cut, table_blocks}
use Rattle.udf_volume_laws.proofs.Members.{IsIn}
use Rattle.udf_volume_laws.proofs.Puts.{IsOff, AreWithin, off, off_both, look_both, look_here, look_past}
use Rattle.udf_volume_laws.proofs.Within.{both_within}
use Rattle.udf_volume_laws.proofs.Cut.{blocks_hold, fewer_blocks, same_from, from_length, from_both, cut_off, cut_within, cut_back}
use Rattle.udf_volume_laws.proofs.TableCopy.{copy_length}
use Rattle.udf_volume_laws.proofs.Prevailed.{area_at, IsPrevailing, whole_table}

-- the listed tables lie in the image, apart from each other
pub record AreListed (size blocks : ℕ) (s : SparingMap) : Type 0 where
  pub inside : (at : ℕ) → IsIn at s.tables → at + blocks_for size s.bytes ≤ blocks
  pub apart : (at other : ℕ) → IsIn at s.tables → IsIn other s.tables
      → (other ≡ at) ⊎ ((other + blocks_for size s.bytes ≤ at) ⊎ (at + blocks_for size s.bytes ≤ other))

-- what the prevailing table says lies in its area
pub prevailing_long : (size : ℕ) (disk : ℕ → List ℕ) (s : SparingMap) (table : List ℕ) → 0 < size → (p : IsPrevailing size disk s table)
    → ((n : ℕ) → p.at ≤ n → n < p.at + blocks_for size s.bytes → length (disk n) ≡ size) → table_end table ≤ length table
unfolding table_area
prevailing_long size disk s table some p full =
    let all : length (bytes_from disk p.at (blocks_for size s.bytes)) ≡ blocks_for size s.bytes * size = from_length size disk p.at (blocks_for size s.bytes) full in
    omega (arith, all, ap (λ (l : List ℕ). length l) p.is, blocks_hold size s.bytes some, (whole_table s.bytes p.at table p.whole).ends)

-- what is cut does not depend on what stood there
cut_same : (size at count : ℕ) (bytes : List ℕ) (n : ℕ) (a b : List ℕ) → at ≤ n → n < at + count
    → look n (blocks_cut size at count bytes) a ≡ look n (blocks_cut size at count bytes) b
unfolding blocks_cut
cut_same size at zero bytes n a b l h = absurd (omega arith)
cut_same size at (suc count) bytes n a b l h = by_here (cut_same size (at + 1) count (drop size bytes) n a b) (cases_eq n at) where
  more : List (ℕ × List ℕ)
  more = blocks_cut size (at + 1) count (drop size bytes)

  by_here : (at + 1 ≤ n → n < at + 1 + count → look n more a ≡ look n more b) → (n ≡ at) ⊎ (n ≡ at → ⊥)
      → look n ((at, take size bytes) ∷ more) a ≡ look n ((at, take size bytes) ∷ more) b
  by_here rest (inl e) = look_here n at (take size bytes) more a e ∙ sym (look_here n at (take size bytes) more b e)
  by_here rest (inr u) = look_past n at (take size bytes) more a u ∙ rest (omega arith) (omega arith) ∙ sym (look_past n at (take size bytes) more b u)

-- a sector apart from the first blocks of these tables
abbrev pub IsClear : ℕ → ℕ → List ℕ → Type 0
IsClear count n tables = (at : ℕ) → IsIn at tables → (n < at) ⊎ (at + count ≤ n)

module _ (size : ℕ) (disk : ℕ → List ℕ) (table : List ℕ) (some : 0 < size) (long : table_end table ≤ length table) where
  -- the blocks of what the table says
  abbrev pub many : ℕ
  many = blocks_for size (table_end table)

  abbrev pub old : ℕ → List ℕ
  old at = bytes_from disk at many

  abbrev pub new : ℕ → List ℕ
  new at = table_copy at table ++ drop (table_end table) (old at)

  pub edits_off : (tables : List ℕ) (n : ℕ) → IsClear many n tables → IsOff n (flat_map (table_blocks size disk table) tables)
  unfolding table_blocks
  edits_off [] n h = tt
  edits_off (at ∷ tables) n h =
      off_both n (blocks_cut size at many (new at)) (flat_map (table_blocks size disk table) tables)
      (cut_off size at many (new at) n (h at (inl refl))) (edits_off tables n (λ other i. h other (inr i)))

  new_length : (at : ℕ) → ((n : ℕ) → at ≤ n → n < at + many → length (disk n) ≡ size) → length (new at) ≡ many * size
  new_length at full =
      let all : length (old at) ≡ many * size = from_length size disk at many full in
      length-append (table_copy at table) (drop (table_end table) (old at))
      ∙ (let e : length (table_copy at table) + length (drop (table_end table) (old at)) ≡ many * size =
      omega (arith, copy_length at table long, length-drop (table_end table) (old at), blocks_hold size (table_end table) some) in e)

  pub edits_within : (whole : ℕ) (tables : List ℕ) → ((at : ℕ) → IsIn at tables → (n : ℕ) → at ≤ n → n < at + many → length (disk n) ≡ size)
      → ((at : ℕ) → IsIn at tables → (n : ℕ) → n < at + many → n * size + size ≤ whole) → AreWithin size whole (flat_map (table_blocks size disk table) tables)
  unfolding table_blocks
  edits_within whole [] full room = tt
  edits_within whole (at ∷ tables) full room =
      both_within size whole (blocks_cut size at many (new at)) (flat_map (table_blocks size disk table) tables)
      (cut_within size whole at many (new at) (new_length at (full at (inl refl))) (room at (inl refl)))
      (edits_within whole tables (λ other i. full other (inr i)) (λ other i. room other (inr i)))

  -- in the blocks of a table its own edits stand
  edits_here : (tables : List ℕ) (at n : ℕ) (base : List ℕ) → IsIn at tables → at ≤ n → n < at + many
      → ((other : ℕ) → IsIn other tables → (other ≡ at) ⊎ ((n < other) ⊎ (other + many ≤ n)))
      → look n (flat_map (table_blocks size disk table) tables) base ≡ look n (blocks_cut size at many (new at)) base
  unfolding table_blocks
  edits_here [] at n base i l h apart = absurd i
  edits_here (first ∷ tables) at n base i l h apart = by_first (edits_here tables at n base) (cases_eq first at) i (apart first (inl refl)) where
    rest : List (ℕ × List ℕ)
    rest = flat_map (table_blocks size disk table) tables

    split : look n (blocks_cut size first many (new first) ++ rest) base ≡ look n (blocks_cut size first many (new first)) (look n rest base)
    split = look_both n (blocks_cut size first many (new first)) rest base

    by_first : (IsIn at tables → at ≤ n → n < at + many → ((other : ℕ) → IsIn other tables → (other ≡ at) ⊎ ((n < other) ⊎ (other + many ≤ n)))
        → look n rest base ≡ look n (blocks_cut size at many (new at)) base)
        → (first ≡ at) ⊎ (first ≡ at → ⊥) → IsIn at (first ∷ tables) → (first ≡ at) ⊎ ((n < first) ⊎ (first + many ≤ n))
        → look n (blocks_cut size first many (new first) ++ rest) base ≡ look n (blocks_cut size at many (new at)) base
    by_first again (inl e) j a =
        split ∙ ap (λ m. look n (blocks_cut size m many (new m)) (look n rest base)) e
        ∙ cut_same size at many (new at) n (look n rest base) base l h
    by_first again (inr u) (inl e) a = absurd (u (sym e))
    by_first again (inr u) (inr later) (inl e) = absurd (u e)
    by_first again (inr u) (inr later) (inr a) =
        split ∙ off n (blocks_cut size first many (new first)) (look n rest base) (cut_off size first many (new first) n a)
        ∙ again later l h (λ other k. apart other (inr k))

  -- the blocks of a table that is written
  pub written_bytes : (tables : List ℕ) (after : ℕ → List ℕ) (s : SparingMap) (at : ℕ) → IsIn at tables → table_end table ≤ s.bytes
      → ((n : ℕ) → at ≤ n → n < at + many → length (disk n) ≡ size)
      → ((other : ℕ) → IsIn other tables → (other ≡ at) ⊎ ((other + blocks_for size s.bytes ≤ at) ⊎ (at + blocks_for size s.bytes ≤ other)))
      → ((n : ℕ) → at ≤ n → n < at + blocks_for size s.bytes → after n ≡ look n (flat_map (table_blocks size disk table) tables) (disk n))
      → bytes_from after at many ≡ new at
  written_bytes tables after s at i fits full apart put =
      let fewer : many ≤ blocks_for size s.bytes = fewer_blocks size (table_end table) s.bytes some fits in
      same_from after (λ n. look n (blocks_cut size at many (new at)) (disk n)) at many
      (λ n l h. put n l (omega arith) ∙ edits_here tables at n (disk n) i l h (λ other k. beside n l h fewer other (apart other k)))
      ∙ cut_back size at many (new at) disk (new_length at full)
    where
      beside : (n : ℕ) → at ≤ n → n < at + many → many ≤ blocks_for size s.bytes → (other : ℕ)
          → (other ≡ at) ⊎ ((other + blocks_for size s.bytes ≤ at) ⊎ (at + blocks_for size s.bytes ≤ other)) → (other ≡ at) ⊎ ((n < other) ⊎ (other + many ≤ n))
      beside n l h fewer other (inl e) = inl e
      beside n l h fewer other (inr (inl e)) = inr (inr (omega arith))
      beside n l h fewer other (inr (inr e)) = inr (inl (omega arith))

  -- the area of such a table begins with the copy
  pub written_area : (after : ℕ → List ℕ) (s : SparingMap) (at : ℕ) → table_end table ≤ s.bytes → bytes_from after at many ≡ new at
      → (rest : List ℕ) × (area_at size after s at ≡ table_copy at table ++ rest)
  unfolding table_area
  written_area after s at fits first =
      let fewer : many ≤ blocks_for size s.bytes = fewer_blocks size (table_end table) s.bytes some fits in
      let more : ℕ = blocks_for size s.bytes - many in
      let count : blocks_for size s.bytes ≡ many + more = omega arith in (
        drop (table_end table) (old at) ++ bytes_from after (at + many) more,
        ap (bytes_from after at) count
            ∙ from_both after at many more
            ∙ ap (λ l. l ++ bytes_from after (at + many) more) first
            ∙ append_assoc (table_copy at table) (drop (table_end table) (old at)) (bytes_from after (at + many) more),
      )

  -- and that of one that is not written stays
  pub unwritten_area : (tables : List ℕ) (after : ℕ → List ℕ) (s : SparingMap) (at : ℕ) → table_end table ≤ s.bytes
      → ((other : ℕ) → IsIn other tables → (other + blocks_for size s.bytes ≤ at) ⊎ (at + blocks_for size s.bytes ≤ other))
      → ((n : ℕ) → at ≤ n → n < at + blocks_for size s.bytes → after n ≡ look n (flat_map (table_blocks size disk table) tables) (disk n))
      → area_at size after s at ≡ area_at size disk s at
  unfolding table_area
  unwritten_area tables after s at fits apart put =
      same_from after disk at (blocks_for size s.bytes)
      (λ n l h. put n l h ∙ off n (flat_map (table_blocks size disk table) tables) (disk n)
      (edits_off tables n (λ other i. beside n l h (fewer_blocks size (table_end table) s.bytes some fits) other (apart other i))))
    where
      beside : (n : ℕ) → at ≤ n → n < at + blocks_for size s.bytes → many ≤ blocks_for size s.bytes → (other : ℕ)
          → (other + blocks_for size s.bytes ≤ at) ⊎ (at + blocks_for size s.bytes ≤ other) → (n < other) ⊎ (other + many ≤ n)
      beside n l h fewer other (inl e) = inr (omega arith)
      beside n l h fewer other (inr e) = inl (omega arith)
