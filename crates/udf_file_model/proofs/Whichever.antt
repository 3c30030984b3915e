-- A list that fails rests on its allocation extents and on what is no whole extent.
use Rattle.std.proofs.Common.{◌≡◌, ℕ, zero, suc, Bool, true, false, cond, ◌&&◌, ◌*◌, ◌==◌, ◌⊎◌, inl, inr, List, [], ◌∷◌, sym, ◌∙◌, ap, refl, subst}
use Rattle.std.specs.Prelude.{is_some}
use Rattle.udf_field.specs.declared.address.Addr.{Addr}
use Rattle.udf_file_model.specs.Entry.{Entry}
use Rattle.udf_file_model.specs.Descriptors.{Descriptor}
use Rattle.udf_file_model.specs.Pieces.{Piece, Extent, Blocks, pieces, further, IsAmong, blocks_each}
use Rattle.udf_file_model.specs.Front.{Rules, Past, nothing_yet, good_front, is_good, is_new, extent_passes, run_passes, run_front, with_extent, with_run}
use Rattle.udf_file_model.specs.Listing.{Volume, with_disk, extent_at, descriptors_by, descriptors_in, descriptors_of, is_extent, rules_for, flat_for, list_for, is_good_for}
use Rattle.udf_file_model.proofs.Trimming.{pieces_nil, pieces_more, pieces_over, further_zero, further_suc}

module _ (r : Rules) (whole other : Addr → Bool) where
  -- both read the same of two lists
  pub record Alike (past : Past) (ps qs : List Piece) : Type 0 where
    pub front : good_front r other past qs ≡ good_front r whole past ps
    pub good : is_good r other past qs ≡ is_good r whole past ps

  -- what is among what is read behind a piece is among what is read from it on
  behind_extent : (past : Past) (x y : Addr) (ps : List Piece) → extent_passes r whole past x ≡ true → IsAmong y (good_front r whole (with_extent past x) ps)
      → IsAmong y (good_front r whole past (Extent x ∷ ps))
  unfolding good_front
  behind_extent past x y ps e i = let P : Bool → Type 0 = λ t. IsAmong y (cond t (Extent x ∷ good_front r whole (with_extent past x) ps) []) in subst P (sym e) (inr i)

  at_extent : (past : Past) (x : Addr) (ps : List Piece) → extent_passes r whole past x ≡ true → IsAmong x (good_front r whole past (Extent x ∷ ps))
  unfolding good_front
  at_extent past x ps e = let P : Bool → Type 0 = λ t. IsAmong x (cond t (Extent x ∷ good_front r whole (with_extent past x) ps) []) in subst P (sym e) (inl refl)

  behind_run : (past : Past) (d : Descriptor) (y : Addr) (ps : List Piece) → run_passes r past d ≡ true → IsAmong y (good_front r whole (with_run past d) ps)
      → IsAmong y (good_front r whole past (Blocks d ∷ ps))
  unfolding good_front
  behind_run past d y ps e i =
      let P : Bool → Type 0 = λ t. IsAmong y (cond t (Blocks d ∷ good_front r whole (with_run past d) ps) (blocks_each (run_front r past d))) in subst P (sym e) i

  -- the continuation's extent passes on both, or on neither
  passes_alike : (past : Past) (x : Addr) (ps : List Piece) → (IsAmong x (good_front r whole past (Extent x ∷ ps)) ⊎ (whole x ≡ false) → other x ≡ whole x)
      → extent_passes r other past x ≡ extent_passes r whole past x
  passes_alike past x ps agree = choose (is_new r past x) (whole x) refl refl
    where
      join : (a b : Bool) → is_new r past x ≡ a → other x ≡ b → (is_new r past x && other x) ≡ (a && b)
      join a b e f = ap (λ t. t && other x) e ∙ ap (λ t. a && t) f

      here : (a b : Bool) → is_new r past x ≡ a → whole x ≡ b → (is_new r past x && whole x) ≡ (a && b)
      here a b e f = ap (λ t. t && whole x) e ∙ ap (λ t. a && t) f

      choose : (a b : Bool) → is_new r past x ≡ a → whole x ≡ b → (is_new r past x && other x) ≡ (is_new r past x && whole x)
      choose false b e f = join false (other x) e refl ∙ sym (here false b e f)
      choose true false e f = join true false e (agree (inr f) ∙ f) ∙ sym (here true false e f)
      choose true true e f = join true true e (agree (inl (at_extent past x ps (here true true e f))) ∙ f) ∙ sym (here true true e f)

  extent_alike : (past : Past) (x : Addr) (ps qs : List Piece) → (IsAmong x (good_front r whole past (Extent x ∷ ps)) ⊎ (whole x ≡ false) → other x ≡ whole x)
      → (extent_passes r whole past x ≡ true → Alike (with_extent past x) ps qs) → Alike past (Extent x ∷ ps) (Extent x ∷ qs)
  unfolding good_front is_good
  extent_alike past x ps qs same on = choose (extent_passes r whole past x) refl
    where
      moved : (t : Bool) → extent_passes r whole past x ≡ t → extent_passes r other past x ≡ t
      moved t e = passes_alike past x ps same ∙ e

      choose : (t : Bool) → extent_passes r whole past x ≡ t → Alike past (Extent x ∷ ps) (Extent x ∷ qs)
      choose true e =
          let a = on e in
          record {
            front = ap (λ t. cond t (Extent x ∷ good_front r other (with_extent past x) qs) []) (moved true e) ∙ ap (λ l. Extent x ∷ l) a.front
                ∙ sym (ap (λ t. cond t (Extent x ∷ good_front r whole (with_extent past x) ps) []) e);
            good = ap (λ t. t && is_good r other (with_extent past x) qs) (moved true e) ∙ a.good ∙ sym (ap (λ t. t && is_good r whole (with_extent past x) ps) e);
          }
      choose false e = record {
        front = ap (λ t. cond t (Extent x ∷ good_front r other (with_extent past x) qs) []) (moved false e)
            ∙ sym (ap (λ t. cond t (Extent x ∷ good_front r whole (with_extent past x) ps) []) e);
        good = ap (λ t. t && is_good r other (with_extent past x) qs) (moved false e) ∙ sym (ap (λ t. t && is_good r whole (with_extent past x) ps) e);
      }

  run_alike : (past : Past) (d : Descriptor) (ps qs : List Piece) → (run_passes r past d ≡ true → Alike (with_run past d) ps qs) → Alike past (Blocks d ∷ ps) (Blocks d ∷ qs)
  unfolding good_front is_good
  run_alike past d ps qs on = choose (run_passes r past d) refl
    where
      choose : (t : Bool) → run_passes r past d ≡ t → Alike past (Blocks d ∷ ps) (Blocks d ∷ qs)
      choose true e =
          let a = on e in
          record {
            front = ap (λ t. cond t (Blocks d ∷ good_front r other (with_run past d) qs) (blocks_each (run_front r past d))) e ∙ ap (λ l. Blocks d ∷ l) a.front
                ∙ sym (ap (λ t. cond t (Blocks d ∷ good_front r whole (with_run past d) ps) (blocks_each (run_front r past d))) e);
            good = ap (λ t. t && is_good r other (with_run past d) qs) e ∙ a.good ∙ sym (ap (λ t. t && is_good r whole (with_run past d) ps) e);
          }
      choose false e = record {
        front = ap (λ t. cond t (Blocks d ∷ good_front r other (with_run past d) qs) (blocks_each (run_front r past d))) e
            ∙ sym (ap (λ t. cond t (Blocks d ∷ good_front r whole (with_run past d) ps) (blocks_each (run_front r past d))) e);
        good = ap (λ t. t && is_good r other (with_run past d) qs) e ∙ sym (ap (λ t. t && is_good r whole (with_run past d) ps) e);
      }

  module _ (at to : Addr → List Descriptor) where
    abbrev Continues : (Addr → List Piece) → (Addr → List Piece) → Type 0
    Continues k j = (past : Past) (x : Addr) → extent_passes r whole past x ≡ true
        → ((y : Addr) → IsAmong y (good_front r whole past (Extent x ∷ k x)) ⊎ (whole y ≡ false) → (other y ≡ whole y) × (to y ≡ at y)) → Alike (with_extent past x) (k x) (j x)

    pieces_alike : (k j : Addr → List Piece) → Continues k j → (ds : List Descriptor) (past : Past)
        → ((y : Addr) → IsAmong y (good_front r whole past (pieces k ds)) ⊎ (whole y ≡ false) → (other y ≡ whole y) × (to y ≡ at y))
        → Alike past (pieces k ds) (pieces j ds)
    pieces_alike k j on [] past agree =
        record { front = ap (good_front r other past) (pieces_nil j) ∙ none ∙ sym (ap (good_front r whole past) (pieces_nil k)); good = ap (is_good r other past) (pieces_nil j) ∙ none_good ∙ sym (ap (is_good r whole past) (pieces_nil k)) }
      where
        none : good_front r other past [] ≡ good_front r whole past []
        none = unfold good_front in refl

        none_good : is_good r other past [] ≡ is_good r whole past []
        none_good = unfold is_good in refl
    pieces_alike k j on (d ∷ ds) past agree = by_more (d.kind == 3) refl (λ p a. pieces_alike k j on ds p a)
      where
        Agree : Past → List Piece → Type 0
        Agree p ps = (y : Addr) → IsAmong y (good_front r whole p ps) ⊎ (whole y ≡ false) → (other y ≡ whole y) × (to y ≡ at y)

        moved : (ps qs : List Piece) → pieces k (d ∷ ds) ≡ ps → pieces j (d ∷ ds) ≡ qs → Alike past ps qs → Alike past (pieces k (d ∷ ds)) (pieces j (d ∷ ds))
        moved ps qs e f a = record { front = ap (good_front r other past) f ∙ a.front ∙ sym (ap (good_front r whole past) e); good = ap (is_good r other past) f ∙ a.good ∙ sym (ap (is_good r whole past) e) }

        agree_at : (ps : List Piece) → pieces k (d ∷ ds) ≡ ps → Agree past ps
        agree_at ps e = let P : List Piece → Type 0 = λ l. (y : Addr) → IsAmong y (good_front r whole past l) ⊎ (whole y ≡ false) → (other y ≡ whole y) × (to y ≡ at y) in subst P e agree

        by_more : (m : Bool) → (d.kind == 3) ≡ m
            → ((p : Past) → ((y : Addr) → IsAmong y (good_front r whole p (pieces k ds)) ⊎ (whole y ≡ false) → (other y ≡ whole y) × (to y ≡ at y)) → Alike p (pieces k ds) (pieces j ds))
            → Alike past (pieces k (d ∷ ds)) (pieces j (d ∷ ds))
        by_more true e rest =
            moved (Extent d.at ∷ k d.at) (Extent d.at ∷ j d.at) (pieces_more k d ds e) (pieces_more j d ds e)
            (extent_alike past d.at (k d.at) (j d.at) (λ i. (agree_at (Extent d.at ∷ k d.at) (pieces_more k d ds e) d.at i).0) (λ p. on past d.at p (agree_at (Extent d.at ∷ k d.at) (pieces_more k d ds e))))
        by_more false e rest =
            moved (Blocks d ∷ pieces k ds) (Blocks d ∷ pieces j ds) (pieces_over k d ds e) (pieces_over j d ds e)
            (run_alike past d (pieces k ds) (pieces j ds)
            (λ p. rest (with_run past d) (λ y i. agree_at (Blocks d ∷ pieces k ds) (pieces_over k d ds e) y (elim i [ inl a ↦ inl (behind_run past d y (pieces k ds) p a) | inr w ↦ inr w ]))))

    continues : (n : ℕ) → Continues (further at n) (further to n)
    continues zero past x p agree =
        record {
          front = ap (good_front r other (with_extent past x)) (further_zero to x) ∙ none (with_extent past x) ∙ sym (ap (good_front r whole (with_extent past x)) (further_zero at x));
          good = ap (is_good r other (with_extent past x)) (further_zero to x) ∙ none_good (with_extent past x) ∙ sym (ap (is_good r whole (with_extent past x)) (further_zero at x));
        }
      where
        none : (q : Past) → good_front r other q [] ≡ good_front r whole q []
        none q = unfold good_front in refl

        none_good : (q : Past) → is_good r other q [] ≡ is_good r whole q []
        none_good q = unfold is_good in refl
    continues (suc n) past x p agree =
        let here = (agree x (inl (at_extent past x (further at (suc n) x) p))).1 in
        let ps = pieces (further at n) (at x) in
        let e = further_suc at n x in
        let f : further to (suc n) x ≡ pieces (further to n) (at x) = further_suc to n x ∙ ap (pieces (further to n)) here in
        let a : Alike (with_extent past x) ps (pieces (further to n) (at x)) =
        pieces_alike (further at n) (further to n) (continues n) (at x) (with_extent past x)
        (λ y i. agree y (elim i [
          | inl z ↦ inl (behind_extent past x y (further at (suc n) x) p (let P : List Piece → Type 0 = λ l. IsAmong y (good_front r whole (with_extent past x) l) in subst P (sym e) z))
          | inr w ↦ inr w
        ])) in
        record {
          front = ap (good_front r other (with_extent past x)) f ∙ a.front ∙ sym (ap (good_front r whole (with_extent past x)) e);
          good = ap (is_good r other (with_extent past x)) f ∙ a.good ∙ sym (ap (is_good r whole (with_extent past x)) e);
        }

    pub flat_alike : (n : ℕ) (ds : List Descriptor) (past : Past)
        → ((y : Addr) → IsAmong y (good_front r whole past (pieces (further at n) ds)) ⊎ (whole y ≡ false) → (other y ≡ whole y) × (to y ≡ at y))
        → Alike past (pieces (further at n) ds) (pieces (further to n) ds)
    flat_alike n ds past agree = pieces_alike (further at n) (further to n) (continues n) ds past agree

module _ (v : Volume) (disk : ℕ → List ℕ) (a : Addr) (e : Entry)
    (same : (x : Addr) → IsAmong x (list_for v a e) ⊎ (is_extent v x ≡ false) → extent_at v x ≡ extent_at (with_disk v disk) x) where
  abbrev w : Volume
  w = with_disk v disk

  alike : Alike (rules_for v a e) (is_extent v) (is_extent w) nothing_yet (pieces (further (descriptors_in v e.kind) (2 * v.blocks)) (descriptors_of a e))
      (pieces (further (descriptors_in w e.kind) (2 * v.blocks)) (descriptors_of a e))
  unfolding list_for flat_for descriptors_in
  alike = flat_alike (rules_for v a e) (is_extent v) (is_extent w) (descriptors_in v e.kind) (descriptors_in w e.kind) (2 * v.blocks) (descriptors_of a e) nothing_yet
      (λ y i. (sym (ap is_some (same y i)), sym (ap (descriptors_by e.kind y) (same y i))))

  pub whichever_list : list_for w a e ≡ list_for v a e
  unfolding list_for flat_for rules_for
  whichever_list = alike.front

  pub whichever_good : is_good_for w a e ≡ is_good_for v a e
  unfolding is_good_for flat_for rules_for
  whichever_good = alike.good
