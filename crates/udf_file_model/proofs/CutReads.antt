-- What a cut leaves reads as the cut list.
use Rattle.std.proofs.Common.{◌≡◌, ℕ, zero, suc, Bool, true, false, cond, ◌&&◌, ◌||◌, ◌+◌, ◌-◌, ◌*◌, ◌<◌, ◌≤◌, ◌==◌, nat_lt, inl, inr, List, [], ◌∷◌, arith, sym, ◌∙◌, ap, refl}
use Rattle.std.proofs.lemmas.Bool.Decides.{nat_tests}
use Rattle.udf_field.specs.declared.address.Addr.{Addr}
use Rattle.udf_file_model.specs.Address.{addr}
use Rattle.udf_file_model.specs.Descriptors.{Descriptor}
use Rattle.udf_file_model.specs.Pieces.{Piece, Extent, Blocks, runs_of, blocks_each, pieces, further, IsAmong, size_of}
use Rattle.udf_file_model.specs.Front.{Rules, Past, nothing_yet, is_new, blocks_for, is_hole, may_come, new_blocks, new_in, front_of, run_passes, run_front, extent_passes, with_run, with_extent, good_front, is_good}
use Rattle.udf_file_model.specs.Cut.{cut_pieces, trim, with_information, HasRoom}
use Rattle.udf_file_model.proofs.Trimmed.{trimmed, ComeOnce}
use Rattle.udf_file_model.proofs.Counts.{front_less, front_blocks}
use Rattle.udf_file_model.proofs.Standing.{new_few}
use Rattle.udf_file_model.proofs.Trimming.{flat_trim}
use Rattle.udf_file_model.proofs.CutLaws.{both, comes, passes_from, good_all, cut_good}

not_less : (m n : ℕ) → n ≤ m → nat_lt m n ≡ false
not_less m n h = grind (arith, nat_tests)

zero_test : (b : ℕ) → b ≡ 0 → (b == 0) ≡ true
zero_test b e = grind (arith, nat_tests)

pub cut_none : (b : ℕ) (ps : List Piece) → b ≡ 0 → cut_pieces b ps ≡ []
unfolding cut_pieces
cut_none b [] e = refl
cut_none b (Extent x ∷ rest) e = ap (λ t. cond t [] (Extent x ∷ cut_pieces b rest)) (zero_test b e)
cut_none b (Blocks d ∷ rest) e =
    ap (λ t. cond t [] (cond (nat_lt d.length b) (Blocks d ∷ cut_pieces (b - d.length) rest) (Blocks (record d { length = b }) ∷ []))) (zero_test b e)

-- a cut that ends in one descriptor is that of the descriptor alone, at any length from there on
cut_one : (b n : ℕ) (d : Descriptor) (rest : List Piece) → b ≤ n → n ≤ d.length → cut_pieces b (Blocks d ∷ rest) ≡ cut_pieces b (Blocks (record d { length = n }) ∷ [])
unfolding cut_pieces
cut_one b n d rest h l =
    ap (λ t. cond (b == 0) [] (cond t (Blocks d ∷ cut_pieces (b - d.length) rest) (Blocks (record d { length = b }) ∷ []))) (not_less d.length b (omega arith))
    ∙ sym (ap (λ t. cond (b == 0) [] (cond t (Blocks (record d { length = n }) ∷ []) (Blocks (record d { length = b }) ∷ []))) (not_less n b h))

module _ (r : Rules) (whole : Addr → Bool) (some : 0 < r.size) where
  -- what is read of a descriptor of which something fails is a front of it
  pub front_is : (past : Past) (d : Descriptor) (b : ℕ) (rest : List Piece) → b ≤ size_of (blocks_each (run_front r past d))
      → run_passes r past d ≡ false → cut_pieces b (Blocks d ∷ rest) ≡ cut_pieces b (blocks_each (run_front r past d))
  unfolding run_front run_passes runs_of
  front_is past d b rest h fails = by_come (may_come r past d) refl h
    where
      few : (z : Bool) → (new_in r past d == 0) ≡ z → b ≤ size_of (blocks_each (cond z [] (record d { length = new_in r past d * r.size } ∷ [])))
          → (new_in r past d * r.size ≤ d.length) → cut_pieces b (Blocks d ∷ rest) ≡ cut_pieces b (blocks_each (cond z [] (record d { length = new_in r past d * r.size } ∷ [])))
      few true e h l = cut_none b (Blocks d ∷ rest) (omega arith) ∙ sym (cut_none b [] (omega arith))
      few false e h l = cut_one b (new_in r past d * r.size) d rest (omega arith) l

      less : may_come r past d ≡ true → new_in r past d * r.size ≤ d.length
      less come = less_by (is_hole d) (new_in r past d == blocks_for r.size d.length) refl (and_rest (may_come r past d) come fails)
        where
          and_rest : (a : Bool) → a ≡ true → (a && (is_hole d || (new_in r past d == blocks_for r.size d.length))) ≡ false → (is_hole d || (new_in r past d == blocks_for r.size d.length)) ≡ false
          and_rest true e h = h
          and_rest false e h = absurd (cc)

          apart : (m n : ℕ) → (m == n) ≡ false → m ≤ n → m < n
          apart m n e h = grind (arith, nat_tests)

          less_by : (a c : Bool) → (new_in r past d == blocks_for r.size d.length) ≡ c → (a || c) ≡ false → new_in r past d * r.size ≤ d.length
          less_by true c e h = absurd (cc)
          less_by false true e h = absurd (cc)
          less_by false false e h =
              omega (
                arith,
                front_less r.size (new_in r past d) d.length some
                    (apart (new_in r past d) (blocks_for r.size d.length) e (new_few r past d.at.part d.at.block (blocks_for r.size d.length))),
              )

      by_come : (c : Bool) → may_come r past d ≡ c → b ≤ size_of (blocks_each (cond c (front_of r.size d (new_in r past d)) []))
          → cut_pieces b (Blocks d ∷ rest) ≡ cut_pieces b (blocks_each (cond c (front_of r.size d (new_in r past d)) []))
      by_come true e h = few (new_in r past d == 0) refl h (less e)
      by_come false e h = cut_none b (Blocks d ∷ rest) (omega arith) ∙ sym (cut_none b [] (omega arith))

  -- a cut that ends in the good front is a cut of the good front
  pub cut_front : (ps : List Piece) (past : Past) (b : ℕ) → b ≤ size_of (good_front r whole past ps) → cut_pieces b ps ≡ cut_pieces b (good_front r whole past ps)
  unfolding good_front cut_pieces runs_of
  cut_front [] past b h = refl
  cut_front (Extent x ∷ rest) past b h = choose (extent_passes r whole past x) h (λ z. cut_front rest (with_extent past x) b z)
    where
      choose : (t : Bool) → b ≤ size_of (cond t (Extent x ∷ good_front r whole (with_extent past x) rest) [])
          → (b ≤ size_of (good_front r whole (with_extent past x) rest) → cut_pieces b rest ≡ cut_pieces b (good_front r whole (with_extent past x) rest))
          → cut_pieces b (Extent x ∷ rest) ≡ cut_pieces b (cond t (Extent x ∷ good_front r whole (with_extent past x) rest) [])
      choose true h on = ap (λ l. cond (b == 0) [] (Extent x ∷ l)) (on h)
      choose false h on = cut_none b (Extent x ∷ rest) (omega arith) ∙ sym (cut_none b [] (omega arith))
  cut_front (Blocks d ∷ rest) past b h = choose (run_passes r past d) refl h (nat_lt d.length b) refl (λ z. cut_front rest (with_run past d) (b - d.length) z)
    where
      below : (m n : ℕ) → nat_lt m n ≡ true → m < n
      below m n h = grind (arith, nat_tests)

      choose : (t : Bool) → run_passes r past d ≡ t → b ≤ size_of (cond t (Blocks d ∷ good_front r whole (with_run past d) rest) (blocks_each (run_front r past d)))
          → (l : Bool) → nat_lt d.length b ≡ l
          → (b - d.length ≤ size_of (good_front r whole (with_run past d) rest) → cut_pieces (b - d.length) rest ≡ cut_pieces (b - d.length) (good_front r whole (with_run past d) rest))
          → cut_pieces b (Blocks d ∷ rest) ≡ cut_pieces b (cond t (Blocks d ∷ good_front r whole (with_run past d) rest) (blocks_each (run_front r past d)))
      choose true e h true f on =
          let l = below d.length b f in
          ap (λ z. cond (b == 0) [] (cond (nat_lt d.length b) (Blocks d ∷ z) (Blocks (record d { length = b }) ∷ []))) (on (omega arith))
      choose true e h false f on =
          ap (λ t. cond (b == 0) [] (cond t (Blocks d ∷ cut_pieces (b - d.length) rest) (Blocks (record d { length = b }) ∷ []))) f
          ∙ sym (ap (λ t. cond (b == 0) [] (cond t (Blocks d ∷ cut_pieces (b - d.length) (good_front r whole (with_run past d) rest)) (Blocks (record d { length = b }) ∷ []))) f)
      choose false e h l f on = front_is past d b rest h e

-- the test of an extent matters for the extents that stand there alone
pub whole_agree : (r : Rules) (whole other : Addr → Bool) (xs : List Piece) (past : Past) → ((x : Addr) → IsAmong x xs → whole x ≡ other x)
    → is_good r whole past xs ≡ true → is_good r other past xs ≡ true
unfolding is_good
whole_agree r whole other [] past agree h = refl
whole_agree r whole other (Extent x ∷ rest) past agree h =
    let t = both (extent_passes r whole past x) (is_good r whole (with_extent past x) rest) h in
    let u = both (is_new r past x) (whole x) t.0 in
    and_both (extent_passes r other past x) (is_good r other (with_extent past x) rest)
    (and_both (is_new r past x) (other x) u.0 (sym (agree x (inl refl)) ∙ u.1))
    (whole_agree r whole other rest (with_extent past x) (λ y i. agree y (inr i)) t.1)
  where
    and_both : (a b : Bool) → a ≡ true → b ≡ true → (a && b) ≡ true
    and_both true b e f = f
    and_both false b e f = e
whole_agree r whole other (Blocks d ∷ rest) past agree h =
    let t = both (run_passes r past d) (is_good r whole (with_run past d) rest) h in
    and_both (run_passes r past d) (is_good r other (with_run past d) rest) t.0 (whole_agree r whole other rest (with_run past d) agree t.1)
  where
    and_both : (a b : Bool) → a ≡ true → b ≡ true → (a && b) ≡ true
    and_both true b e f = f
    and_both false b e f = e

-- as many blocks as are new are new
new_again : (r : Rules) (past : Past) (part block n : ℕ) → new_blocks r past part block (new_blocks r past part block n) ≡ new_blocks r past part block n
unfolding new_blocks
new_again r past part block zero = refl
new_again r past part block (suc n) = choose (is_new r past (addr part block)) refl (new_again r past part (block + 1) n)
  where
    step : (m : ℕ) (b : Bool) → is_new r past (addr part block) ≡ b → new_blocks r past part block (suc m) ≡ cond b (suc (new_blocks r past part (block + 1) m)) 0
    step m b e = ap (λ t. cond t (suc (new_blocks r past part (block + 1) m)) 0) e

    choose : (b : Bool) → is_new r past (addr part block) ≡ b → new_blocks r past part (block + 1) (new_blocks r past part (block + 1) n) ≡ new_blocks r past part (block + 1) n
        → new_blocks r past part block (cond b (suc (new_blocks r past part (block + 1) n)) 0) ≡ cond b (suc (new_blocks r past part (block + 1) n)) 0
    choose true e on = step (new_blocks r past part (block + 1) n) true e ∙ ap suc on
    choose false e on = refl

module _ (r : Rules) (whole : Addr → Bool) (some : 0 < r.size) where
  front_good : (past : Past) (d : Descriptor) → run_passes r past d ≡ false → is_good r whole past (blocks_each (run_front r past d)) ≡ true
  unfolding run_front run_passes is_good
  front_good past d fails = by_come (may_come r past d) refl
    where
      and_rest : (a : Bool) → a ≡ true → (a && (is_hole d || (new_in r past d == blocks_for r.size d.length))) ≡ false → (is_hole d || (new_in r past d == blocks_for r.size d.length)) ≡ false
      and_rest true e h = h
      and_rest false e h = absurd (cc)

      apart : (m n : ℕ) → (m == n) ≡ false → m ≤ n → m < n
      apart m n e h = grind (arith, nat_tests)

      fewer : (a c : Bool) → (new_in r past d == blocks_for r.size d.length) ≡ c → (a || c) ≡ false → new_in r past d < blocks_for r.size d.length
      fewer true c e h = absurd (cc)
      fewer false true e h = absurd (cc)
      fewer false false e h = apart (new_in r past d) (blocks_for r.size d.length) e (new_few r past d.at.part d.at.block (blocks_for r.size d.length))

      passes : may_come r past d ≡ true → run_passes r past (record d { length = new_in r past d * r.size }) ≡ true
      passes come =
          let c = comes r past d come in
          let f = fewer (is_hole d) (new_in r past d == blocks_for r.size d.length) refl (and_rest (may_come r past d) come fails) in
          let s = front_less r.size (new_in r past d) d.length some f in
          let m = front_blocks r.size (new_in r past d) some in
          passes_from r past (record d { length = new_in r past d * r.size }) (record { late = c.late; small = omega (arith, c.small, s); kept = c.kept })
          (inr (ap (new_blocks r past d.at.part d.at.block) m ∙ new_again r past d.at.part d.at.block (blocks_for r.size d.length) ∙ sym m))

      one : (z : Bool) → may_come r past d ≡ true → is_good r whole past (blocks_each (cond z [] (record d { length = new_in r past d * r.size } ∷ []))) ≡ true
      one true come = refl
      one false come = and_both (run_passes r past (record d { length = new_in r past d * r.size })) true (passes come) refl
        where
          and_both : (a b : Bool) → a ≡ true → b ≡ true → (a && b) ≡ true
          and_both true b e f = f
          and_both false b e f = e

      by_come : (c : Bool) → may_come r past d ≡ c → is_good r whole past (blocks_each (cond c (front_of r.size d (new_in r past d)) [])) ≡ true
      by_come true e = one (new_in r past d == 0) e
      by_come false e = refl

  -- the good front is good
  pub good_good : (ps : List Piece) (past : Past) → is_good r whole past (good_front r whole past ps) ≡ true
  unfolding good_front is_good
  good_good [] past = refl
  good_good (Extent x ∷ rest) past = choose (extent_passes r whole past x) refl (good_good rest (with_extent past x))
    where
      choose : (t : Bool) → extent_passes r whole past x ≡ t → is_good r whole (with_extent past x) (good_front r whole (with_extent past x) rest) ≡ true
          → is_good r whole past (cond t (Extent x ∷ good_front r whole (with_extent past x) rest) []) ≡ true
      choose true e on = ap (λ a. a && is_good r whole (with_extent past x) (good_front r whole (with_extent past x) rest)) e ∙ on
      choose false e on = refl
  good_good (Blocks d ∷ rest) past = choose (run_passes r past d) refl (good_good rest (with_run past d))
    where
      choose : (t : Bool) → run_passes r past d ≡ t → is_good r whole (with_run past d) (good_front r whole (with_run past d) rest) ≡ true
          → is_good r whole past (cond t (Blocks d ∷ good_front r whole (with_run past d) rest) (blocks_each (run_front r past d))) ≡ true
      choose true e on = ap (λ a. a && is_good r whole (with_run past d) (good_front r whole (with_run past d) rest)) e ∙ on
      choose false e on = front_good past d e

  -- what a cut to b bytes leaves reads as the cut list: by the information length b, from the trimmed body and extents
  pub cut_reads : (other : Addr → Bool) (at : Addr → List Descriptor) (n : ℕ) (ds : List Descriptor) (b : ℕ) → 0 < b
      → b ≤ size_of (good_front r whole nothing_yet (pieces (further at n) ds))
      → b ≤ size_of (pieces (further at n) ds)
      → HasRoom r nothing_yet b (good_front r whole nothing_yet (pieces (further at n) ds)) → ComeOnce at n b ds
      → ((x : Addr) → IsAmong x (cut_pieces b (good_front r whole nothing_yet (pieces (further at n) ds))) → whole x ≡ other x)
      → good_front (with_information r b) other nothing_yet (pieces (further (trimmed at n b ds) n) (trim b ds))
      ≡ cut_pieces b (good_front r whole nothing_yet (pieces (further at n) ds))
  cut_reads other at n ds b p h q room once agree =
      let ps = pieces (further at n) ds in
      let xs = good_front r whole nothing_yet ps in
      let e : pieces (further (trimmed at n b ds) n) (trim b ds) ≡ cut_pieces b xs = flat_trim at n ds b p q once ∙ cut_front r whole some ps nothing_yet b h in
      let zero_more : 0 + b ≡ b = omega arith in
      let good = cut_good r whole some b xs nothing_yet b (good_good ps nothing_yet) zero_more room in
      ap (good_front (with_information r b) other nothing_yet) e
      ∙ good_all (with_information r b) other nothing_yet (cut_pieces b xs) (whole_agree (with_information r b) whole other (cut_pieces b xs) nothing_yet agree good)
