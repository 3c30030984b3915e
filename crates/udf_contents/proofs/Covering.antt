-- Which addresses the claims of lists cover, whole and cut.
use Rattle.std.proofs.Common.{◌≡◌, ℕ, ◌+◌, ◌-◌, ◌<◌, ◌≤◌, List, [], drop, ◌∷◌, ◌++◌, Bool, true, false, ◌||◌, cond, refl, sym, ap, ◌∙◌, subst, arith}
use Rattle.std.specs.Prelude.{min, nat_lt, ◌==◌}
use Rattle.std.specs.List.{list_any, range_with_len}
use Rattle.std.proofs.lemmas.Bool.Decides.{nat_tests}
use Rattle.std.proofs.lemmas.List.Folds.{list_any-append}
use Rattle.udf_field.specs.declared.address.Addr.{Addr}
use Rattle.udf_file_model.specs.Address.{addr, same_addr}
use Rattle.udf_file_model.specs.Cut.{cut_pieces}
use Rattle.udf_file_model.specs.Descriptors.{Descriptor}
use Rattle.udf_file_model.specs.Front.{blocks_for, is_hole}
use Rattle.udf_file_model.specs.Listing.{addresses, addresses_from}
use Rattle.udf_file_model.specs.Pieces.{Blocks, Extent, Piece, extents_of, runs_of}
use Rattle.udf_claims.specs.Winner.{claimed, covers}
use Rattle.udf_claims.specs.declared.run.Run.{Run}
use Rattle.udf_tree_model.proofs.Members.{any_from, any_gives, member_map, member_of_map, same_bools}
use Rattle.udf_tree_model.proofs.Places.{address_same, same_address}
use Rattle.udf_found.specs.declared.pieces.Piece as code
use Rattle.udf_contents.specs.After.{Adds, AddsPiece, has_address}
use Rattle.udf_found.specs.Shape.{piece_seen, pieces_seen}
use Rattle.udf_found.specs.Wanted.{extent_wants, run_want, run_wants, want}
use Rattle.udf_held.proofs.Standings.{is_other}
use Rattle.udf_held.proofs.Wanted.{address_equal, covers_gives, one_covered, one_covers, range_from, range_gives, want_covers}

pub or_nothing : (b : Bool) → (b || false) ≡ b
or_nothing true = refl
or_nothing false = refl

pub or_join : (a b c : Bool) → ((a || b) || c) ≡ (a || (b || c))
or_join true b c = refl
or_join false b c = refl

or_amid : (a b c : Bool) → (a || (b || c)) ≡ (b || (a || c))
or_amid true true c = refl
or_amid true false c = refl
or_amid false b c = refl

pub claimed_more : (rs qs : List Run) (x : Addr) → claimed (rs ++ qs) x ≡ (claimed rs x || claimed qs x)
unfolding claimed
claimed_more rs qs x = list_any-append (λ (r : Run). covers r x) rs qs

pub claimed_one : (rs : List Run) (r : Run) (x : Addr) → claimed (rs ++ r ∷ []) x ≡ (claimed rs x || covers r x)
unfolding claimed
claimed_one rs r x = claimed_more rs (r ∷ []) x ∙ ap (λ (b : Bool). claimed rs x || b) (or_nothing (covers r x))

module _ (blocks : ℕ → ℕ) (x : Addr) (low : x.block < blocks x.part) where
  pub one_is : (o c : ℕ) (y : Addr) → covers (want blocks o c y 1) x ≡ same_addr x y
  one_is o c y =
      same_bools (covers (want blocks o c y 1) x) (same_addr x y)
      (λ h. address_same x y (sym (one_covers blocks o c y x h)))
      (λ h. one_covered blocks o c y x (sym (same_address x y h)) low)

  many_is : (o c : ℕ) (at : Addr) (n : ℕ) → covers (want blocks o c at n) x ≡ list_any (same_addr x) (addresses_from at n)
  many_is o c at n = same_bools (covers (want blocks o c at n) x) (list_any (same_addr x) (addresses_from at n)) there back
    where
      there : covers (want blocks o c at n) x ≡ true → list_any (same_addr x) (addresses_from at n) ≡ true
      there h =
          let g = covers_gives blocks o c at x n h in
          any_from (same_addr x) (addresses_from at n) (addr at.part x.block)
          (member_map (λ block. addr at.part block) (range_with_len at.block n) x.block (range_from at.block n x.block g.1 g.2))
          (address_same x (addr at.part x.block) (address_equal x (addr at.part x.block) (sym g.0) refl))

      back : list_any (same_addr x) (addresses_from at n) ≡ true → covers (want blocks o c at n) x ≡ true
      back h =
          let g = any_gives (same_addr x) (addresses_from at n) h in
          let m = member_of_map (λ block. addr at.part block) (range_with_len at.block n) g.0 g.1 in
          let r = range_gives at.block n m.0 m.1 in
          let e : x ≡ addr at.part m.0 = same_address x g.0 g.2 ∙ m.2 in
          let p : x.part ≡ at.part = ap (λ (y : Addr). y.part) e in
          let b : x.block ≡ m.0 = ap (λ (y : Addr). y.block) e in
          want_covers blocks o c at x n (sym p) (omega (arith, r.0, b)) (omega (arith, r.1, b)) low

  run_is : (size o c : ℕ) (d : Descriptor) → claimed (run_want blocks size o c d) x ≡ list_any (same_addr x) (cond (is_hole d) [] (addresses_from d.at (blocks_for size d.length)))
  unfolding claimed run_want
  run_is size o c d = by_hole (is_hole d)
    where
      by_hole : (b : Bool) → list_any (λ (r : Run). covers r x) (cond b [] (want blocks o c d.at (blocks_for size d.length) ∷ []))
          ≡ list_any (same_addr x) (cond b [] (addresses_from d.at (blocks_for size d.length)))
      by_hole true = refl
      by_hole false = or_nothing (covers (want blocks o c d.at (blocks_for size d.length)) x) ∙ many_is o c d.at (blocks_for size d.length)

  -- a run more
  run_added : (size o c : ℕ) (d : Descriptor) (ps : List Piece) (old new : List Run) → new ≡ old ++ run_want blocks size o c d
      → (claimed new x || has_address size ps x) ≡ (claimed old x || has_address size (Blocks d ∷ ps) x)
  run_added size o c d ps old new e =
      ap (λ (rs : List Run). claimed rs x || has_address size ps x) e
      ∙ ap (λ (b : Bool). b || has_address size ps x) (claimed_more old (run_want blocks size o c d) x)
      ∙ or_join (claimed old x) (claimed (run_want blocks size o c d) x) (has_address size ps x)
      ∙ ap (λ (b : Bool). claimed old x || (b || has_address size ps x)) (run_is size o c d)
      ∙ ap (λ (b : Bool). claimed old x || b) (sym (list_any-append (same_addr x) (cond (is_hole d) [] (addresses_from d.at (blocks_for size d.length))) (addresses size ps)))

  -- the claims of a whole list
  list_is : (size o c : ℕ) (ps : List Piece) → (claimed (extent_wants blocks o c (extents_of ps)) x || claimed (run_wants blocks size o c (runs_of ps)) x) ≡ has_address size ps x
  unfolding claimed extents_of runs_of run_wants
  list_is size o c [] = refl
  list_is size o c (Extent y ∷ ps) =
      or_join (covers (want blocks o c y 1) x) (claimed (extent_wants blocks o c (extents_of ps)) x) (claimed (run_wants blocks size o c (runs_of ps)) x)
      ∙ ap (λ (b : Bool). b || (claimed (extent_wants blocks o c (extents_of ps)) x || claimed (run_wants blocks size o c (runs_of ps)) x)) (one_is o c y)
      ∙ ap (λ (b : Bool). same_addr x y || b) (list_is size o c ps)
  list_is size o c (Blocks d ∷ ps) =
      ap (λ (b : Bool). claimed (extent_wants blocks o c (extents_of ps)) x || b) (claimed_more (run_want blocks size o c d) (run_wants blocks size o c (runs_of ps)) x)
      ∙ or_amid (claimed (extent_wants blocks o c (extents_of ps)) x) (claimed (run_want blocks size o c d) x) (claimed (run_wants blocks size o c (runs_of ps)) x)
      ∙ ap (λ (b : Bool). claimed (run_want blocks size o c d) x || b) (list_is size o c ps)
      ∙ ap (λ (b : Bool). b || has_address size ps x) (run_is size o c d)
      ∙ sym (list_any-append (same_addr x) (cond (is_hole d) [] (addresses_from d.at (blocks_for size d.length))) (addresses size ps))

pub list_added : (blocks : ℕ → ℕ) (size o c : ℕ) (ps : List Piece) (old mid new : List Run) → mid ≡ old ++ extent_wants blocks o c (extents_of ps)
    → new ≡ mid ++ run_wants blocks size o c (runs_of ps) → Adds blocks old new (has_address size ps)
list_added blocks size o c ps old mid new e f = record {
  each = λ x low.
      ap (λ (rs : List Run). claimed rs x) f
      ∙ claimed_more mid (run_wants blocks size o c (runs_of ps)) x
      ∙ ap (λ (rs : List Run). claimed rs x || claimed (run_wants blocks size o c (runs_of ps)) x) e
      ∙ ap (λ (b : Bool). b || claimed (run_wants blocks size o c (runs_of ps)) x) (claimed_more old (extent_wants blocks o c (extents_of ps)) x)
      ∙ or_join (claimed old x) (claimed (extent_wants blocks o c (extents_of ps)) x) (claimed (run_wants blocks size o c (runs_of ps)) x)
      ∙ ap (λ (b : Bool). claimed old x || b) (list_is blocks x low size o c ps);
}

-- ---- a cut list
pub cut_none : (ps : List Piece) → cut_pieces 0 ps ≡ []
unfolding cut_pieces
cut_none [] = refl
cut_none (Extent y ∷ ps) = refl
cut_none (Blocks d ∷ ps) = refl

not_none : (n : ℕ) → 0 < n → (n == 0) ≡ false
not_none n l = is_other n 0 (λ e. omega (arith, l, e))

module _ (blocks : ℕ → ℕ) (size o c left : ℕ) (some : 0 < left) (old new : List Run) where
  pub extent_added : (p : Piece) (y : Addr) → Extent y ≡ p → new ≡ old ++ want blocks o c y 1 ∷ [] → AddsPiece blocks size old new left left p
  unfolding cut_pieces
  extent_added p y e f = subst (AddsPiece blocks size old new left left) e (record { each = each })
    where
      each : (rest : List Piece) (x : Addr) → x.block < blocks x.part → (claimed new x || has_address size (cut_pieces left rest) x) ≡ (claimed old x || has_address size (cut_pieces left (Extent y ∷ rest)) x)
      each rest x low =
          ap (λ (rs : List Run). claimed rs x || has_address size (cut_pieces left rest) x) f
          ∙ ap (λ (b : Bool). b || has_address size (cut_pieces left rest) x) (claimed_one old (want blocks o c y 1) x)
          ∙ or_join (claimed old x) (covers (want blocks o c y 1) x) (has_address size (cut_pieces left rest) x)
          ∙ ap (λ (b : Bool). claimed old x || (b || has_address size (cut_pieces left rest) x)) (one_is blocks x low o c y)
          ∙ ap (λ (b : Bool). claimed old x || has_address size (cond b [] (Extent y ∷ cut_pieces left rest)) x) (sym (not_none left some))

  pub blocks_added : (p : Piece) (d : Descriptor) (n : ℕ) → Blocks d ≡ p → n ≡ min left d.length → new ≡ old ++ run_want blocks size o c (record d { length = n })
      → AddsPiece blocks size old new left (left - n) p
  unfolding cut_pieces
  blocks_added p d n e l f = subst (AddsPiece blocks size old new left (left - n)) e (record { each = each })
    where
      by_length : (rest : List Piece) (x : Addr) → (b : Bool) → nat_lt d.length left ≡ b
          → has_address size (Blocks (record d { length = n }) ∷ cut_pieces (left - n) rest) x
          ≡ has_address size (cond b (Blocks d ∷ cut_pieces (left - d.length) rest) (Blocks (record d { length = left }) ∷ [])) x
      by_length rest x true k =
          let less : d.length < left = grind (arith, nat_tests) in
          let same : n ≡ d.length = omega (arith, l, less) in
          ap (λ (m : ℕ). has_address size (Blocks (record d { length = m }) ∷ cut_pieces (left - m) rest) x) same
      by_length rest x false k =
          let less : left ≤ d.length = grind (arith, nat_tests) in
          let same : n ≡ left = omega (arith, l, less) in
          let none : left - n ≡ 0 = omega (arith, same) in
          ap (λ (m : ℕ). has_address size (Blocks (record d { length = n }) ∷ cut_pieces m rest) x) none
          ∙ ap (λ (ps : List Piece). has_address size (Blocks (record d { length = n }) ∷ ps) x) (cut_none rest)
          ∙ ap (λ (m : ℕ). has_address size (Blocks (record d { length = m }) ∷ []) x) same

      each : (rest : List Piece) (x : Addr) → x.block < blocks x.part → (claimed new x || has_address size (cut_pieces (left - n) rest) x) ≡ (claimed old x || has_address size (cut_pieces left (Blocks d ∷ rest)) x)
      each rest x low =
          run_added blocks x low size o c (record d { length = n }) (cut_pieces (left - n) rest) old new f
          ∙ ap (λ (b : Bool). claimed old x || b) (by_length rest x (nat_lt d.length left) refl)
          ∙ ap (λ (b : Bool). claimed old x || has_address size (cond b [] (cond (nat_lt d.length left) (Blocks d ∷ cut_pieces (left - d.length) rest) (Blocks (record d { length = left }) ∷ []))) x) (sym (not_none left some))

-- where nothing is left of a cut list, all of it is added
pub front_added : (blocks : ℕ → ℕ) (size left : ℕ) (ps whole : List Piece) (old new : List Run) → cut_pieces left ps ≡ []
    → ((x : Addr) → x.block < blocks x.part → (claimed new x || has_address size (cut_pieces left ps) x) ≡ (claimed old x || has_address size whole x))
    → Adds blocks old new (has_address size whole)
front_added blocks size left ps whole old new e h = record {
  each = λ x low. sym (or_nothing (claimed new x)) ∙ ap (λ (qs : List Piece). claimed new x || has_address size qs x) (sym e) ∙ h x low;
}

-- a piece of a cut list more
pub front_more : (blocks : ℕ → ℕ) (size : ℕ) (xs : List code.Piece) (i : ℕ) (p : code.Piece) (old new : List Run) (left after : ℕ) (x : Addr) (total : Bool) → drop i xs ≡ p ∷ drop (i + 1) xs
    → x.block < blocks x.part → AddsPiece blocks size old new left after (piece_seen p) → (claimed old x || has_address size (cut_pieces left (pieces_seen (drop i xs))) x) ≡ total
    → (claimed new x || has_address size (cut_pieces after (pieces_seen (drop (i + 1) xs))) x) ≡ total
front_more blocks size xs i p old new left after x total here low k r =
    k.each (pieces_seen (drop (i + 1) xs)) x low ∙ ap (λ (l : List code.Piece). claimed old x || has_address size (cut_pieces left (pieces_seen l)) x) (sym here) ∙ r
