-- Runs of sectors that may be written.
use Rattle.std.proofs.Common.{◌≡◌, ◌⊎◌, inl, inr, ℕ, ◌+◌, ◌-◌, ◌<◌, ◌≤◌, arith, refl, sym, ◌∙◌, ap, subst, List, [], ◌∷◌, ◌++◌, Bool, true, false, cond, not, ◌&&◌, ◌||◌, leb, ltb}
use Rattle.std.proofs.lemmas.Bool.{and_parts, and_from, or_cases, cases_lt, eqb-true, leb-true, le-leb, lt-ltb, lt-leb, le-ltb}
use Rattle.udf_volume_model.specs.Anchor.{blocks_for}
use Rattle.udf_volume_model.specs.Areas.{Area, covers, is_outside}
use Rattle.udf_volume_laws.proofs.Apart.{IsBeside, apart_back, between, covered, not_both, outside_at, tail_apart, uncovered}
use Rattle.udf_volume_laws.proofs.Members.{IsIn}
use Rattle.udf_volume.specs.Areas.{area_stated, areas_stated, integrity_stated, partition_stated, tables_stated}
use Rattle.udf_volume.specs.Laid.{IsLaidOut, areas_laid}
use Rattle.udf_volume_model.specs.Layout.{is_apart, are_apart, is_inside}
use Rattle.udf_integrity.proofs.Extent.{inside}
use Rattle.std.proofs.Math.Nat.{div-eq_of_lt}
use Rattle.std.specs.List.{list_all}
use Rattle.std.specs.Prelude.{◌==◌}
use Rattle.udf_volume.specs.Opened.{IsBounded}
use Rattle.udf_volume.specs.Spans.{kept_span, span_by}
use Rattle.udf_volume.specs.declared.volume.Volume.{Volume}
use Rattle.udf_volume.specs.declared.volume.Which.{Which}
use Rattle.udf_volume.specs.declared.volume.Which.TheVariants.{Main, Reserve}
use Rattle.udf_blocks.specs.PlanFor.{sealed_stated}
use Rattle.udf_wanted.specs.Writable.{is_free, AreFreeFrom}
use Rattle.udf_space_plan.specs.Runs.{is_run_free}

covered_not : (area : Area) (n : ℕ) → IsBeside n area → not (covers area n) ≡ true
unfolding covers
covered_not area n (inl l) = ap (λ b. not (b && ltb n (area.start + area.count))) (lt-leb area.start n l)
covered_not area n (inr h) = ap (λ b. not (leb area.start n && b)) (le-ltb n (area.start + area.count) h) ∙ ended (leb area.start n) where
  ended : (b : Bool) → not (b && false) ≡ true
  ended true = refl
  ended false = refl

no_blocks : (size : ℕ) → 512 ≤ size → blocks_for size 0 ≡ 0
unfolding blocks_for
no_blocks size large = div-eq_of_lt (omega arith)

module _ (volume : Volume) where
  -- a sector in the image beside the kept descriptors
  free : (n : ℕ) → n < volume.blocks → IsBeside n (sealed_stated volume) → is_free volume n ≡ true
  unfolding is_free
  free n inside beside = and_from _ _ (lt-ltb _ _ inside) (covered_not (sealed_stated volume) n beside)

  pub run_free : (first count : ℕ) → is_run_free volume first count ≡ true → AreFreeFrom volume first count
  unfolding is_run_free
  run_free first count e i lt =
      let parts = and_parts (leb (first + count) volume.blocks) (leb (first + count) (kept_span volume).start || leb ((kept_span volume).start + volume.count) first) e in
      free (first + i) (omega (arith, leb-true _ _ parts.0)) (by_side (or_cases _ _ parts.1)) where
        by_side : (leb (first + count) (kept_span volume).start ≡ true) ⊎ (leb ((kept_span volume).start + volume.count) first ≡ true) → IsBeside (first + i) (sealed_stated volume)
        by_side (inl h) = inl (omega (arith, leb-true _ _ h))
        by_side (inr h) = inr (omega (arith, leb-true _ _ h))

  pub part_free : (first count at part : ℕ) → AreFreeFrom volume first count → first ≤ at → at + part ≤ first + count → AreFreeFrom volume at part
  part_free first count at part all low high i lt =
      let k : ℕ = at + i - first in
      let e : first + k ≡ at + i = omega arith in
      ap (is_free volume) (sym e) ∙ all k (omega arith)

  kept_in : (w : Which) → IsIn (area_stated volume.size (span_by w volume)) (areas_stated volume)
  kept_in Main = inl refl
  kept_in Reserve = inr (inl refl)

  module _ (b : IsBounded volume.size volume.blocks volume) where
    room : (w : Which) → volume.count < blocks_for volume.size (span_by w volume).length
    room Main = omega (arith, b.short)
    room Reserve = omega (arith, b.short)

    -- a run beside the kept extent
    pub beside_free : (first count : ℕ) → 0 < count → first + count ≤ volume.blocks
        → ((n : ℕ) → first ≤ n → n < first + count → IsBeside n (area_stated volume.size (kept_span volume))) → is_run_free volume first count ≡ true
    unfolding is_run_free
    beside_free first count some inside beside = and_from _ _ (le-leb _ _ inside) (by_start (cases_lt (kept_span volume).start (first + count))) where
      start : ℕ
      start = (kept_span volume).start

      or_left : (p q : Bool) → p ≡ true → (p || q) ≡ true
      or_left true q e = refl
      or_left false q e = absurd (cc)

      or_right : (p q : Bool) → q ≡ true → (p || q) ≡ true
      or_right true q e = refl
      or_right false q e = e

      before : first + count ≤ start → (leb (first + count) start || leb (start + volume.count) first) ≡ true
      before h = or_left _ _ (le-leb _ _ h)

      behind : start + volume.count ≤ first → (leb (first + count) start || leb (start + volume.count) first) ≡ true
      behind h = or_right _ _ (le-leb _ _ h)

      -- the first sector, where the extent begins before it
      by_first : IsBeside first (area_stated volume.size (kept_span volume)) → start ≤ first → (leb (first + count) start || leb (start + volume.count) first) ≡ true
      by_first (inl h) l = absurd (omega arith)
      by_first (inr h) l = behind (omega (arith, room volume.kept))

      by_order : (start < first) ⊎ (first ≤ start) → start < first + count → (leb (first + count) start || leb (start + volume.count) first) ≡ true
      by_order (inl l) h = by_first (beside first (omega arith) (omega arith)) (omega arith)
      by_order (inr l) h = elim (beside start l h) [
        | inl k ↦ absurd (omega arith)
        | inr k ↦ absurd (omega (arith, room volume.kept))
      ]

      by_start : (start < first + count) ⊎ (first + count ≤ start) → (leb (first + count) start || leb (start + volume.count) first) ≡ true
      by_start (inl h) = by_order (cases_lt start first) h
      by_start (inr h) = before h

    -- a run outside the areas
    pub outside_free : (first count : ℕ) → 0 < count → first + count ≤ volume.blocks → ((n : ℕ) → first ≤ n → n < first + count → is_outside (areas_stated volume) n ≡ true)
        → is_run_free volume first count ≡ true
    outside_free first count some inside outside =
        beside_free first count some inside
        (λ n l h. uncovered (area_stated volume.size (kept_span volume)) n (outside_at (areas_stated volume) n (area_stated volume.size (kept_span volume)) (outside n l h) (kept_in volume.kept)))

    -- a run of the integrity extent, which a lawful layout keeps apart from both others
    module _ (laid : IsLaidOut volume) (large : 512 ≤ volume.size) where
      laid_parts : (list_all (is_inside volume.blocks) (areas_stated volume) ≡ true) × (are_apart (areas_stated volume) ≡ true)
      unfolding areas_laid
      laid_parts =
          let two = and_parts (list_all (is_inside volume.blocks) (areas_stated volume)) _ laid.areas in
          (two.0, (and_parts (are_apart (areas_stated volume)) _ two.1).0)

      abbrev rest : List Area
      rest = partition_stated volume ∷ tables_stated volume

      integrity_in : (b : Bool) → (volume.integrity.length == 0) ≡ b → b ≡ false
          → IsIn (area_stated volume.size volume.integrity) (integrity_stated volume ++ rest)
      integrity_in b e f = subst (λ (t : Bool). IsIn (area_stated volume.size volume.integrity) (cond t [] (area_stated volume.size volume.integrity ∷ []) ++ rest)) (sym (e ∙ f)) (inl refl)

      some_length : (n : ℕ) → n < blocks_for volume.size volume.integrity.length → (volume.integrity.length == 0) ≡ false
      some_length n low = by_test (volume.integrity.length == 0) refl where
        by_test : (b : Bool) → (volume.integrity.length == 0) ≡ b → b ≡ false
        by_test false e = refl
        by_test true e =
            let none : blocks_for volume.size 0 ≡ 0 = no_blocks volume.size large in
            let zero : volume.integrity.length ≡ 0 = eqb-true _ _ e in
            let some : n < blocks_for volume.size 0 = subst (λ (k : ℕ). n < blocks_for volume.size k) zero low in absurd (omega (arith, none, some))

      in_extent : (i : ℕ) → i < blocks_for volume.size volume.integrity.length → IsBeside (volume.integrity.start + i) (area_stated volume.size (kept_span volume))
      in_extent i low =
          uncovered (area_stated volume.size (kept_span volume)) (volume.integrity.start + i)
          (not_both (area_stated volume.size volume.integrity) (area_stated volume.size (kept_span volume)) (volume.integrity.start + i)
          (parted volume.kept) (covered (area_stated volume.size volume.integrity) (volume.integrity.start + i) (omega arith) (omega arith)))
        where
          member : IsIn (area_stated volume.size volume.integrity) (integrity_stated volume ++ rest)
          member = integrity_in (volume.integrity.length == 0) refl (some_length i low)

          parted : (w : Which) → is_apart (area_stated volume.size volume.integrity) (area_stated volume.size (span_by w volume)) ≡ true
          parted Main =
              apart_back (area_stated volume.size volume.main) (area_stated volume.size volume.integrity)
              (between (area_stated volume.size volume.main ∷ []) (area_stated volume.size volume.reserve ∷ (integrity_stated volume ++ rest))
              (area_stated volume.size volume.main) (area_stated volume.size volume.integrity) laid_parts.1 (inl refl) (inr member))
          parted Reserve =
              apart_back (area_stated volume.size volume.reserve) (area_stated volume.size volume.integrity)
              (between (area_stated volume.size volume.reserve ∷ []) (integrity_stated volume ++ rest) (area_stated volume.size volume.reserve) (area_stated volume.size volume.integrity)
              (tail_apart (area_stated volume.size volume.main ∷ []) (area_stated volume.size volume.reserve ∷ (integrity_stated volume ++ rest)) laid_parts.1) (inl refl) member)

      pub extent_run : (i : ℕ) → i < blocks_for volume.size volume.integrity.length → is_run_free volume (volume.integrity.start + i) 1 ≡ true
      extent_run i low =
          beside_free (volume.integrity.start + i) 1 (omega arith) (omega (arith, inside volume i laid large low))
          (λ n l h. let e : volume.integrity.start + i ≡ n = omega arith in subst (λ (k : ℕ). IsBeside k (area_stated volume.size (kept_span volume))) e (in_extent i low))

      pub extent_free : (i : ℕ) → i < blocks_for volume.size volume.integrity.length → is_free volume (volume.integrity.start + i) ≡ true
      extent_free i low =
          let run : is_run_free volume (volume.integrity.start + i) 1 ≡ true = extent_run i low in
          let zero : volume.integrity.start + i + 0 ≡ volume.integrity.start + i = omega arith in
          ap (is_free volume) (sym zero) ∙ run_free (volume.integrity.start + i) 1 run 0 (omega arith)
