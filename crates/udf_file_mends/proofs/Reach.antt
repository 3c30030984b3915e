-- How many bytes a good list has: up to the end of its first descriptor of part blocks, and after a cut.
use Rattle.std.proofs.Common.{◌≡◌, ◌⊎◌, ℕ, ◌+◌, ◌-◌, ◌^◌, ◌<◌, ◌≤◌, ◌&&◌, ◌||◌, not, nat_lt, Bool, true, false, cond, List, [], ◌∷◌, ◌++◌, refl, sym, ap, subst, inl, inr, arith}
use Rattle.std.specs.Prelude.{◌==◌}
use Rattle.std.specs.List.{list_any}
use Rattle.std.proofs.lemmas.Bool.{false≢true}
use Rattle.std.proofs.lemmas.Bool.Decides.{nat_tests}
use Rattle.udf_field.specs.declared.address.Addr.{Addr}
use Rattle.udf_file_model.specs.Descriptors.{Descriptor}
use Rattle.udf_file_model.specs.Pieces.{Piece, Extent, Blocks, bytes_in, runs_of, size_of}
use Rattle.udf_file_model.specs.Front.{Rules, Past, extent_passes, is_good, is_part, run_passes, with_extent, with_run}
use Rattle.udf_file_model.specs.Cut.{cut_pieces, to_part}
use Rattle.udf_file_model.proofs.CutLaws.{both, passes_by}

pub bytes_push : (ds : List Descriptor) (d : Descriptor) → bytes_in (ds ++ d ∷ []) ≡ bytes_in ds + d.length
bytes_push [] d = omega arith
bytes_push (x ∷ xs) d = let r = bytes_push xs d in omega (arith, r)

any_push : (size : ℕ) (ds : List Descriptor) (d : Descriptor) → is_part size d ≡ true → list_any (is_part size) (ds ++ d ∷ []) ≡ true
any_push size [] d h = ap (λ t. t || false) h
any_push size (x ∷ xs) d h = over (is_part size x) (any_push size xs d h)
  where
    over : (t : Bool) → list_any (is_part size) (xs ++ d ∷ []) ≡ true → (t || list_any (is_part size) (xs ++ d ∷ [])) ≡ true
    over true e = refl
    over false e = e

-- each descriptor of a directory's list has recorded blocks
abbrev pub AllRecorded : List Piece → Type 0
AllRecorded [] = Unit {0}
AllRecorded (Extent x ∷ rest) = AllRecorded rest
AllRecorded (Blocks d ∷ rest) = (d.kind ≡ 0) × AllRecorded rest

module _ (r : Rules) (whole : Addr → Bool) where
  -- what follows part blocks begins behind the information length
  late_rest : (ps : List Piece) (past : Past) → is_good r whole past ps ≡ true → list_any (is_part r.size) past.runs ≡ true
      → (size_of ps ≡ 0) ⊎ (r.information ≤ bytes_in past.runs)
  unfolding is_good runs_of
  late_rest [] past g l = inl refl
  late_rest (Extent x ∷ rest) past g l = late_rest rest (with_extent past x) (both (extent_passes r whole past x) (is_good r whole (with_extent past x) rest) g).1 l
  late_rest (Blocks d ∷ rest) past g l = inr ((passes_by r past d (both (run_passes r past d) (is_good r whole (with_run past d) rest) g).0).0.late l)

  -- part blocks end the list, or stand behind the information length
  pub part_reach : (ps : List Piece) (past : Past) → is_good r whole past ps ≡ true
      → (size_of ps ≤ to_part r.size ps) ⊎ (r.information ≤ bytes_in past.runs + to_part r.size ps)
  unfolding is_good runs_of to_part
  part_reach [] past g = inl (omega arith)
  part_reach (Extent x ∷ rest) past g = part_reach rest (with_extent past x) (both (extent_passes r whole past x) (is_good r whole (with_extent past x) rest) g).1
  part_reach (Blocks d ∷ rest) past g =
      let t = both (run_passes r past d) (is_good r whole (with_run past d) rest) g in
      by (is_part r.size d) refl (λ e. late_rest rest (with_run past d) t.1 (any_push r.size past.runs d e)) (part_reach rest (with_run past d) t.1)
    where
      by : (b : Bool) → is_part r.size d ≡ b → (is_part r.size d ≡ true → (size_of rest ≡ 0) ⊎ (r.information ≤ bytes_in (past.runs ++ d ∷ [])))
          → (size_of rest ≤ to_part r.size rest) ⊎ (r.information ≤ bytes_in (past.runs ++ d ∷ []) + to_part r.size rest)
          → (d.length + size_of rest ≤ cond b d.length (d.length + to_part r.size rest)) ⊎ (r.information ≤ bytes_in past.runs + cond b d.length (d.length + to_part r.size rest))
      by true e late on = here (late e)
        where
          here : (size_of rest ≡ 0) ⊎ (r.information ≤ bytes_in (past.runs ++ d ∷ [])) → (d.length + size_of rest ≤ d.length) ⊎ (r.information ≤ bytes_in past.runs + d.length)
          here (inl z) = inl (omega (arith, z))
          here (inr z) = inr (omega (arith, z, bytes_push past.runs d))
      by false e late (inl z) = inl (omega (arith, z))
      by false e late (inr z) = inr (omega (arith, z, bytes_push past.runs d))

  -- the sum stays below 2^63
  small_from : (ps : List Piece) (past : Past) → is_good r whole past ps ≡ true → (size_of ps ≡ 0) ⊎ (bytes_in past.runs + size_of ps < 2 ^ 63)
  unfolding is_good runs_of
  small_from [] past g = inl refl
  small_from (Extent x ∷ rest) past g = small_from rest (with_extent past x) (both (extent_passes r whole past x) (is_good r whole (with_extent past x) rest) g).1
  small_from (Blocks d ∷ rest) past g =
      let t = both (run_passes r past d) (is_good r whole (with_run past d) rest) g in
      by (passes_by r past d t.0).0.small (small_from rest (with_run past d) t.1)
    where
      by : bytes_in past.runs + d.length < 2 ^ 63 → (size_of rest ≡ 0) ⊎ (bytes_in (past.runs ++ d ∷ []) + size_of rest < 2 ^ 63)
          → (d.length + size_of rest ≡ 0) ⊎ (bytes_in past.runs + (d.length + size_of rest) < 2 ^ 63)
      by l (inl z) = inr (omega (arith, l, z))
      by l (inr z) = inr (omega (arith, z, bytes_push past.runs d))

  pub good_small : (ps : List Piece) (past : Past) → is_good r whole past ps ≡ true → size_of ps < 2 ^ 63
  good_small ps past g = by (small_from ps past g)
    where
      by : (size_of ps ≡ 0) ⊎ (bytes_in past.runs + size_of ps < 2 ^ 63) → size_of ps < 2 ^ 63
      by (inl z) = omega (arith, z)
      by (inr z) = omega (arith, z)

  pub good_recorded : r.directory ≡ true → (ps : List Piece) (past : Past) → is_good r whole past ps ≡ true → AllRecorded ps
  unfolding is_good
  good_recorded h [] past g = tt
  good_recorded h (Extent x ∷ rest) past g = good_recorded h rest (with_extent past x) (both (extent_passes r whole past x) (is_good r whole (with_extent past x) rest) g).1
  good_recorded h (Blocks d ∷ rest) past g =
      let t = both (run_passes r past d) (is_good r whole (with_run past d) rest) g in
      (kind r.directory (d.kind == 0) refl h (passes_by r past d t.0).0.kept, good_recorded h rest (with_run past d) t.1)
    where
      kind : (b c : Bool) → (d.kind == 0) ≡ c → b ≡ true → not (b && not c) ≡ true → d.kind ≡ 0
      kind true true e i k = grind (arith, nat_tests)
      kind true false e i k = absurd (false≢true k)
      kind false c e i k = absurd (false≢true i)

-- ---- a cut
zero_is : (b : ℕ) → (b == 0) ≡ true → b ≡ 0
zero_is b t = grind (arith, nat_tests)

below : (m n : ℕ) → nat_lt m n ≡ true → m < n
below m n t = grind (arith, nat_tests)

above : (m n : ℕ) → nat_lt m n ≡ false → n ≤ m
above m n t = grind (arith, nat_tests)

-- a cut has the bytes to which it is made
pub cut_size : (ps : List Piece) (b : ℕ) → b ≤ size_of ps → size_of (cut_pieces b ps) ≡ b
unfolding cut_pieces runs_of
cut_size [] b l = omega (arith, l)
cut_size (Extent x ∷ rest) b l = by (b == 0) refl (cut_size rest b l)
  where
    by : (t : Bool) → (b == 0) ≡ t → size_of (cut_pieces b rest) ≡ b → size_of (cond t [] (Extent x ∷ cut_pieces b rest)) ≡ b
    by true e on = sym (zero_is b e)
    by false e on = on
cut_size (Blocks d ∷ rest) b l = by (b == 0) refl (nat_lt d.length b) refl (λ k. cut_size rest (b - d.length) k)
  where
    by : (t : Bool) → (b == 0) ≡ t → (u : Bool) → nat_lt d.length b ≡ u → (b - d.length ≤ size_of rest → size_of (cut_pieces (b - d.length) rest) ≡ b - d.length)
        → size_of (cond t [] (cond u (Blocks d ∷ cut_pieces (b - d.length) rest) (Blocks (record d { length = b }) ∷ []))) ≡ b
    by true e u q on = sym (zero_is b e)
    by false e true q on = let k = on (omega (arith, l)) in omega (arith, k, below d.length b q)
    by false e false q on = omega arith

-- it reaches as far as part blocks allow
pub cut_capacity : (size : ℕ) (ps : List Piece) (b : ℕ) → b ≤ to_part size ps → b ≤ to_part size (cut_pieces b ps)
unfolding cut_pieces to_part
cut_capacity size [] b l = l
cut_capacity size (Extent x ∷ rest) b l = by (b == 0) refl (cut_capacity size rest b l)
  where
    by : (t : Bool) → (b == 0) ≡ t → b ≤ to_part size (cut_pieces b rest) → b ≤ to_part size (cond t [] (Extent x ∷ cut_pieces b rest))
    by true t on = omega (arith, zero_is b t)
    by false t on = on
cut_capacity size (Blocks d ∷ rest) b l = by (b == 0) refl (nat_lt d.length b) refl (is_part size d) refl l (λ k. cut_capacity size rest (b - d.length) k)
  where
    alone : (p : Bool) → b ≤ cond p b (b + 0)
    alone true = omega arith
    alone false = omega arith

    by : (t : Bool) → (b == 0) ≡ t → (u : Bool) → nat_lt d.length b ≡ u → (p : Bool) → is_part size d ≡ p → b ≤ cond p d.length (d.length + to_part size rest)
        → (b - d.length ≤ to_part size rest → b - d.length ≤ to_part size (cut_pieces (b - d.length) rest))
        → b ≤ to_part size (cond t [] (cond u (Blocks d ∷ cut_pieces (b - d.length) rest) (Blocks (record d { length = b }) ∷ [])))
    by true t u q p k l on = omega (arith, zero_is b t)
    by false t false q p k l on = alone (is_part size (record d { length = b }))
    by false t true q true k l on = absurd (omega (arith, below d.length b q))
    by false t true q false k l on =
        let P : Bool → Type 0 = λ z. b ≤ cond z d.length (d.length + to_part size (cut_pieces (b - d.length) rest)) in
        let m : b - d.length ≤ to_part size (cut_pieces (b - d.length) rest) = on (omega arith) in
        let n : b ≤ d.length + to_part size (cut_pieces (b - d.length) rest) = omega arith in
        subst P (sym k) n

pub cut_recorded : (ps : List Piece) (b : ℕ) → AllRecorded ps → AllRecorded (cut_pieces b ps)
unfolding cut_pieces
cut_recorded [] b h = tt
cut_recorded (Extent x ∷ rest) b h = by (b == 0) (cut_recorded rest b h)
  where
    by : (t : Bool) → AllRecorded (cut_pieces b rest) → AllRecorded (cond t [] (Extent x ∷ cut_pieces b rest))
    by true on = tt
    by false on = on
cut_recorded (Blocks d ∷ rest) b h = by (b == 0) (nat_lt d.length b) (cut_recorded rest (b - d.length) h.1)
  where
    by : (t u : Bool) → AllRecorded (cut_pieces (b - d.length) rest)
        → AllRecorded (cond t [] (cond u (Blocks d ∷ cut_pieces (b - d.length) rest) (Blocks (record d { length = b }) ∷ [])))
    by true u on = tt
    by false true on = (h.0, on)
    by false false on = (h.0, tt)
