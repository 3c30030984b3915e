-- In a good front no allocation extent comes twice, so that a cut that ends in it may be made extent by extent.
use Rattle.std.proofs.Common.{◌≡◌, ℕ, zero, suc, Bool, true, false, cond, ◌&&◌, ◌||◌, ◌+◌, ◌-◌, ◌*◌, ◌<◌, ◌≤◌, ◌==◌, ◌⊎◌, nat_lt, inl, inr, Some, None, List, [], ◌∷◌, arith, sym, ◌∙◌, ap, refl, subst}
use Rattle.std.proofs.lemmas.Bool.Decides.{nat_tests}
use Rattle.udf_field.specs.declared.address.Addr.{Addr}
use Rattle.udf_file_model.specs.Address.{same_addr}
use Rattle.udf_file_model.specs.Descriptors.{Descriptor}
use Rattle.udf_file_model.specs.Pieces.{Piece, Extent, Blocks, runs_of, blocks_each, pieces, further, IsAmong, size_of}
use Rattle.udf_file_model.specs.Front.{Rules, Past, nothing_yet, may_come, is_hole, new_in, blocks_for, front_of, stood, is_new, covers, run_passes, run_front, extent_passes, with_run, with_extent, good_front}
use Rattle.udf_file_model.specs.Cut.{cut_pieces, trim, with_information, HasRoom, Onward, onward}
use Rattle.udf_file_model.proofs.Trimmed.{trimmed, ComeOnce}
use Rattle.udf_file_model.proofs.Standing.{stood_run, stood_extent, new_means, new_few}
use Rattle.udf_file_model.proofs.Trimming.{same_self, pieces_more, pieces_over, onward_more, onward_over, further_suc}
use Rattle.udf_file_model.proofs.CutLaws.{both}
use Rattle.udf_file_model.proofs.Counts.{front_less}
use Rattle.udf_file_model.proofs.CutReads.{cut_front, cut_reads}

-- a cut has no extent of its own
pub among_cut : (ps : List Piece) (b : ℕ) (x : Addr) → IsAmong x (cut_pieces b ps) → IsAmong x ps
unfolding cut_pieces
among_cut [] b x i = i
among_cut (Extent y ∷ rest) b x i = choose (b == 0) i (λ z. among_cut rest b x z)
  where
    choose : (t : Bool) → IsAmong x (cond t [] (Extent y ∷ cut_pieces b rest)) → (IsAmong x (cut_pieces b rest) → IsAmong x rest) → (y ≡ x) ⊎ IsAmong x rest
    choose true i on = absurd i
    choose false (inl e) on = inl e
    choose false (inr i) on = inr (on i)
among_cut (Blocks d ∷ rest) b x i = choose (b == 0) (nat_lt d.length b) i (λ z. among_cut rest (b - d.length) x z)
  where
    choose : (t u : Bool) → IsAmong x (cond t [] (cond u (Blocks d ∷ cut_pieces (b - d.length) rest) (Blocks (record d { length = b }) ∷ [])))
        → (IsAmong x (cut_pieces (b - d.length) rest) → IsAmong x rest) → IsAmong x rest
    choose true u i on = absurd i
    choose false true i on = on i
    choose false false i on = absurd i

or_stays : (a b : Bool) → a ≡ true → (a || b) ≡ true
or_stays true b e = refl
or_stays false b e = absurd (cc)

or_second : (a b : Bool) → b ≡ true → (a || b) ≡ true
or_second true b e = refl
or_second false b e = e

true_false : {P : Type 0} (b : Bool) → b ≡ true → b ≡ false → P
true_false b e f = absurd (cc)

module _ (r : Rules) (whole : Addr → Bool) where
  stays : (past : Past) (d : Descriptor) (x : Addr) → stood r.size r.own past x ≡ true → stood r.size r.own (with_run past d) x ≡ true
  stays past d x h = stood_run r.size r.own past d x ∙ or_stays (stood r.size r.own past x) (covers r.size x d) h

  stays_behind : (past : Past) (y x : Addr) → stood r.size r.own past x ≡ true → stood r.size r.own (with_extent past y) x ≡ true
  stays_behind past y x h = stood_extent r.size r.own past y x ∙ or_stays (stood r.size r.own past x) (same_addr x y) h

  none_each : (ds : List Descriptor) (x : Addr) → IsAmong x (blocks_each ds) → ⊥
  none_each [] x i = i
  none_each (d ∷ ds) x i = none_each ds x i

  -- what stood does not come again
  not_again : (ps : List Piece) (past : Past) (x : Addr) → stood r.size r.own past x ≡ true → IsAmong x (good_front r whole past ps) → ⊥
  unfolding good_front
  not_again [] past x h i = i
  not_again (Extent y ∷ rest) past x h i = choose (extent_passes r whole past y) refl i (λ z. not_again rest (with_extent past y) x (stays_behind past y x h) z)
    where
      choose : (t : Bool) → extent_passes r whole past y ≡ t → IsAmong x (cond t (Extent y ∷ good_front r whole (with_extent past y) rest) [])
          → (IsAmong x (good_front r whole (with_extent past y) rest) → ⊥) → ⊥
      choose true e (inl same) on =
          let new = new_means r past y (both (is_new r past y) (whole y) e).0 in
          true_false (stood r.size r.own past x) h (ap (stood r.size r.own past) (sym same) ∙ new.1)
      choose true e (inr i) on = on i
      choose false e i on = i
  not_again (Blocks d ∷ rest) past x h i = choose (run_passes r past d) i (λ z. not_again rest (with_run past d) x (stays past d x h) z)
    where
      choose : (t : Bool) → IsAmong x (cond t (Blocks d ∷ good_front r whole (with_run past d) rest) (blocks_each (run_front r past d)))
          → (IsAmong x (good_front r whole (with_run past d) rest) → ⊥) → ⊥
      choose true i on = on i
      choose false i on = none_each (run_front r past d) x i

module _ (r : Rules) (whole : Addr → Bool) (some : 0 < r.size) where
  -- what is read of a descriptor of which something fails is no longer than the descriptor
  front_short : (past : Past) (d : Descriptor) → run_passes r past d ≡ false → size_of (blocks_each (run_front r past d)) ≤ d.length
  unfolding run_front run_passes runs_of
  front_short past d fails = by_come (may_come r past d) refl
    where
      and_rest : (a : Bool) → a ≡ true → (a && (is_hole d || (new_in r past d == blocks_for r.size d.length))) ≡ false → (is_hole d || (new_in r past d == blocks_for r.size d.length)) ≡ false
      and_rest true e h = h
      and_rest false e h = absurd (cc)

      apart : (m n : ℕ) → (m == n) ≡ false → m ≤ n → m < n
      apart m n e h = grind (arith, nat_tests)

      fewer : (a c : Bool) → (new_in r past d == blocks_for r.size d.length) ≡ c → (a || c) ≡ false → new_in r past d < blocks_for r.size d.length
      fewer true c e h = absurd (cc)
      fewer false true e h = absurd (cc)
      fewer false false e h = apart (new_in r past d) (blocks_for r.size d.length) e (new_few r past d.at.part d.at.block (blocks_for r.size d.length))

      one : (z : Bool) → new_in r past d * r.size ≤ d.length → size_of (blocks_each (cond z [] (record d { length = new_in r past d * r.size } ∷ []))) ≤ d.length
      one true l = omega arith
      one false l = omega arith

      by_come : (c : Bool) → may_come r past d ≡ c → size_of (blocks_each (cond c (front_of r.size d (new_in r past d)) [])) ≤ d.length
      by_come true e =
          one (new_in r past d == 0)
          (omega (arith, front_less r.size (new_in r past d) d.length some (fewer (is_hole d) (new_in r past d == blocks_for r.size d.length) refl (and_rest (may_come r past d) e fails))))
      by_come false e = omega arith

  -- the good front is no longer than the list
  pub front_fits : (ps : List Piece) (past : Past) → size_of (good_front r whole past ps) ≤ size_of ps
  unfolding good_front runs_of
  front_fits [] past = omega arith
  front_fits (Extent x ∷ rest) past = choose (extent_passes r whole past x) (front_fits rest (with_extent past x))
    where
      choose : (t : Bool) → size_of (good_front r whole (with_extent past x) rest) ≤ size_of rest
          → size_of (cond t (Extent x ∷ good_front r whole (with_extent past x) rest) []) ≤ size_of rest
      choose true on = on
      choose false on = omega arith
  front_fits (Blocks d ∷ rest) past = choose (run_passes r past d) refl (front_fits rest (with_run past d))
    where
      choose : (t : Bool) → run_passes r past d ≡ t → size_of (good_front r whole (with_run past d) rest) ≤ size_of rest
          → size_of (cond t (Blocks d ∷ good_front r whole (with_run past d) rest) (blocks_each (run_front r past d))) ≤ d.length + size_of rest
      choose true e on = omega arith
      choose false e on = omega (arith, front_short past d e)

  -- where a cut goes on, reading came there and the extent stood
  record Reached (k : Addr → List Piece) (o : Onward) : Type 0 where
    past : Past
    seen : stood r.size r.own past o.next ≡ true
    more : 0 < o.left
    left : o.left ≤ size_of (good_front r whole past (k o.next))

  nothing_on : {P : Type 0} (b : ℕ) (o : Onward) → onward b [] ≡ Some o → P
  unfolding onward
  nothing_on b o e = absurd (cc)

  ends_here : {P : Type 0} (b : ℕ) (d : Descriptor) (ds : List Descriptor) (o : Onward) → (d.kind == 3) ≡ false → nat_lt d.length b ≡ false → onward b (d ∷ ds) ≡ Some o → P
  unfolding onward
  ends_here b d ds o e f h = absurd (no_some (sym (rw (e, f) refl) ∙ h))
    where
      no_some : None ≡ Some o → ⊥
      no_some e = cc

  some_same : (x y : Onward) → Some x ≡ Some y → x ≡ y
  some_same x y e = cc

  front_extent : (past : Past) (x : Addr) (rest : List Piece) (b : ℕ) → 0 < b → b ≤ size_of (good_front r whole past (Extent x ∷ rest))
      → b ≤ size_of (good_front r whole (with_extent past x) rest)
  unfolding good_front runs_of
  front_extent past x rest b p h = choose (extent_passes r whole past x) h
    where
      choose : (t : Bool) → b ≤ size_of (cond t (Extent x ∷ good_front r whole (with_extent past x) rest) []) → b ≤ size_of (good_front r whole (with_extent past x) rest)
      choose true h = h
      choose false h = absurd (omega arith)

  front_run : (past : Past) (d : Descriptor) (rest : List Piece) (b : ℕ) → d.length < b → b ≤ size_of (good_front r whole past (Blocks d ∷ rest))
      → b - d.length ≤ size_of (good_front r whole (with_run past d) rest)
  unfolding good_front runs_of
  front_run past d rest b p h = choose (run_passes r past d) refl h
    where
      choose : (t : Bool) → run_passes r past d ≡ t → b ≤ size_of (cond t (Blocks d ∷ good_front r whole (with_run past d) rest) (blocks_each (run_front r past d)))
          → b - d.length ≤ size_of (good_front r whole (with_run past d) rest)
      choose true e h = omega arith
      choose false e h = absurd (omega (arith, front_short past d e))

  reaches : (k : Addr → List Piece) (ds : List Descriptor) (past : Past) (b : ℕ) (o : Onward) → 0 < b → b ≤ size_of (good_front r whole past (pieces k ds))
      → onward b ds ≡ Some o → Reached k o
  reaches k [] past b o p h e = nothing_on b o e
  reaches k (d ∷ ds) past b o p h e = by_more (d.kind == 3) refl (λ x y z. reaches k ds (with_run past d) (b - d.length) o x y z)
    where
      below : (m n : ℕ) → nat_lt m n ≡ true → m < n
      below m n h = grind (arith, nat_tests)

      by_length : (d.kind == 3) ≡ false → (l : Bool) → nat_lt d.length b ≡ l
          → (0 < b - d.length → b - d.length ≤ size_of (good_front r whole (with_run past d) (pieces k ds)) → onward (b - d.length) ds ≡ Some o → Reached k o) → Reached k o
      by_length f true g on =
          let l = below d.length b g in
          on (omega arith) (front_run past d (pieces k ds) b l (omega (arith, h, ap (λ z. size_of (good_front r whole past z)) (pieces_over k d ds f)))) (sym (onward_over b d ds f g) ∙ e)
      by_length f false g on = ends_here b d ds o f g e

      by_more : (m : Bool) → (d.kind == 3) ≡ m
          → (0 < b - d.length → b - d.length ≤ size_of (good_front r whole (with_run past d) (pieces k ds)) → onward (b - d.length) ds ≡ Some o → Reached k o) → Reached k o
      by_more true f on =
          let same = some_same (record { next = d.at; left = b }) o (sym (onward_more b d ds f) ∙ e) in
          let P : Onward → Type 0 = λ z. Reached k z in
          subst P same (record {
            past = with_extent past d.at;
            seen = stood_extent r.size r.own past d.at d.at ∙ or_second (stood r.size r.own past d.at) (same_addr d.at d.at) (same_self d.at);
            more = p;
            left = front_extent past d.at (k d.at) b p (omega (arith, h, ap (λ z. size_of (good_front r whole past z)) (pieces_more k d ds f)));
          })
      by_more false f on = by_length f (nat_lt d.length b) refl on

  -- a cut that ends in the good front meets each extent once
  pub come_once : (at : Addr → List Descriptor) (n : ℕ) (ds : List Descriptor) (past : Past) (b : ℕ) → 0 < b
      → b ≤ size_of (good_front r whole past (pieces (further at n) ds)) → ComeOnce at n b ds
  come_once at zero ds past b p h = tt
  come_once at (suc n) ds past b p h = λ o e.
      let w = reaches (further at (suc n)) ds past b o p h e in
      let rest = pieces (further at n) (at o.next) in
      let left : o.left ≤ size_of (good_front r whole w.past rest) = omega (arith, w.left, ap (λ z. size_of (good_front r whole w.past z)) (further_suc at n o.next)) in
      let P : List Piece → Type 0 = λ l. IsAmong o.next l in (
        λ i. not_again r whole rest w.past o.next w.seen (among_cut (good_front r whole w.past rest) o.left o.next (subst P (cut_front r whole some rest w.past o.left left) i)),
        come_once at n (at o.next) w.past o.left w.more left,
      )

  -- what a cut to b bytes leaves, of an entry and its allocation extents, reads as the cut list
  pub cut_list : (other : Addr → Bool) (at : Addr → List Descriptor) (n : ℕ) (ds : List Descriptor) (b : ℕ) → 0 < b
      → b ≤ size_of (good_front r whole nothing_yet (pieces (further at n) ds))
      → HasRoom r nothing_yet b (good_front r whole nothing_yet (pieces (further at n) ds))
      → ((x : Addr) → IsAmong x (cut_pieces b (good_front r whole nothing_yet (pieces (further at n) ds))) → whole x ≡ other x)
      → good_front (with_information r b) other nothing_yet (pieces (further (trimmed at n b ds) n) (trim b ds))
      ≡ cut_pieces b (good_front r whole nothing_yet (pieces (further at n) ds))
  cut_list other at n ds b p h room agree =
      cut_reads r whole some other at n ds b p h (omega (arith, h, front_fits (pieces (further at n) ds) nothing_yet)) room (come_once at n ds nothing_yet b p h) agree
