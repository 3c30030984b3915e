-- The sectors that the mends of the rules on anchors and on sequences write are free to be written.
use Rattle.std.proofs.Common.{◌≡◌, ◌⊎◌, inl, inr, ℕ, ◌+◌, ◌<◌, ◌≤◌, arith, refl, sym, ◌∙◌, ap, List, [], ◌∷◌, ◌++◌, Bool, true, false, cond, not, ◌&&◌, leb, ltb}
use Rattle.std.specs.List.{list_all, filter}
use Rattle.std.proofs.lemmas.Bool.{and_parts, and_from, lt-ltb, lt-leb, le-ltb, ltb-true}
use Rattle.std.proofs.lemmas.List.Folds.{list_all-append}
use Rattle.std.proofs.lemmas.List.Sums.{list_all-from_AllPass}
use Rattle.udf_volume_model.specs.Anchor.{blocks_for}
use Rattle.udf_volume_model.specs.Areas.{Area, Layout, covers, is_outside, packets_of, taken}
use Rattle.udf_volume_model.specs.Layout.{is_apart, are_apart, is_inside}
use Rattle.udf_volume_model.specs.Rules.{is_eligible, ascending_places}
use Rattle.udf_volume_laws.proofs.Apart.{uncovered, apart as apart_of}
use Rattle.udf_volume.specs.Areas.{area_stated, areas_stated, integrity_stated, layout_seen, partition_stated, tables_stated}
use Rattle.udf_volume.specs.Laid.{areas_laid, IsLaidOut}
use Rattle.udf_volume.specs.Spans.{span_by, opposite, kept_span, other_span}
use Rattle.udf_volume.specs.Opened.{IsBounded}
use Rattle.udf_volume.specs.Verdicts.{HasPlaces}
use Rattle.udf_volume.specs.declared.good_anchors.AnchorVerdict.{AnchorVerdict}
use Rattle.udf_volume.specs.Taken.{IsTaken}
use Rattle.udf_volume.specs.declared.taken.Layout as code
use Rattle.udf_volume.specs.declared.volume.Volume.{Volume}
use Rattle.udf_volume.specs.declared.volume.Which.{Which}
use Rattle.udf_volume.specs.declared.volume.Which.TheVariants.{Main, Reserve}
use Rattle.udf_volume.proofs.Parts.{all_of_part}
use Rattle.udf_blocks.specs.PlanFor.{sealed_stated}
use Rattle.udf_wanted.specs.Writable.{is_free, AreFree}
use Rattle.udf_plan.proofs.Rooms.{fits, end_inside}

all_passed : (p q : ℕ → Bool) (xs : List ℕ) → ((n : ℕ) → p n ≡ true → q n ≡ true) → list_all q (filter p xs) ≡ true
all_passed p q [] h = refl
all_passed p q (x ∷ xs) h = by_test (all_passed p q xs h) (p x) refl where
  by_test : list_all q (filter p xs) ≡ true → (b : Bool) → p x ≡ b → list_all q (cond b (x ∷ filter p xs) (filter p xs)) ≡ true
  by_test rest true u = and_from _ _ (h x u) rest
  by_test rest false u = rest

all_when : (p q r : ℕ → Bool) (xs : List ℕ) → list_all p xs ≡ true → list_all q xs ≡ true → ((n : ℕ) → p n ≡ true → q n ≡ true → r n ≡ true)
    → list_all r xs ≡ true
all_when p q r [] e f h = refl
all_when p q r (x ∷ xs) e f h =
    let ps = and_parts (p x) (list_all p xs) e in
    let qs = and_parts (q x) (list_all q xs) f in
    and_from _ _ (h x ps.0 qs.0) (all_when p q r xs ps.1 qs.1 h)

-- what lies outside all that is taken lies outside the areas
eligible_outside : (layout : Layout) (n : ℕ) → is_eligible (taken layout) n ≡ true → is_outside layout.areas n ≡ true
unfolding is_eligible is_outside taken
eligible_outside layout n e =
    (and_parts (is_outside layout.areas n) (is_outside (packets_of layout.table) n)
    (sym (list_all-append (λ area. not (covers area n)) layout.areas (packets_of layout.table))
    ∙ (and_parts (leb 256 n) (is_outside (taken layout) n) e).1)).0

not_true : (b : Bool) → not b ≡ true → b ≡ false
not_true true e = absurd (cc)
not_true false e = refl

covered_not : (area : Area) (n : ℕ) → (n < area.start) ⊎ (area.start + area.count ≤ n) → not (covers area n) ≡ true
unfolding covers
covered_not area n (inl l) = ap (λ b. not (b && ltb n (area.start + area.count))) (lt-leb area.start n l)
covered_not area n (inr h) = ap (λ b. not (leb area.start n && b)) (le-ltb n (area.start + area.count) h) ∙ ended (leb area.start n) where
  ended : (b : Bool) → not (b && false) ≡ true
  ended true = refl
  ended false = refl

-- a lawful layout keeps the extents of the sequences apart
extents_apart : (volume : Volume) → IsLaidOut volume → is_apart (area_stated volume.size volume.main) (area_stated volume.size volume.reserve) ≡ true
unfolding areas_laid are_apart
extents_apart volume laid =
    let main = area_stated volume.size volume.main in
    let others : List Area = area_stated volume.size volume.reserve ∷ (integrity_stated volume ++ (partition_stated volume ∷ tables_stated volume)) in
    let two = and_parts (list_all (is_inside volume.blocks) (areas_stated volume)) _ laid.areas in
    let three = and_parts (are_apart (areas_stated volume)) _ two.1 in
    let four = and_parts (list_all (is_apart main) others) (are_apart others) three.0 in
    (and_parts (is_apart main (area_stated volume.size volume.reserve)) _ four.0).0

module _ (volume : Volume) (b : IsBounded volume.size volume.blocks volume) where
  free : (n : ℕ) → n < volume.blocks → not (covers (sealed_stated volume) n) ≡ true → is_free volume n ≡ true
  unfolding is_free
  free n inside unsealed = and_from _ _ (lt-ltb _ _ inside) unsealed

  -- what lies outside the areas is before or behind each extent
  off : (n : ℕ) → is_outside (areas_stated volume) n ≡ true → (w : Which)
      → (n < (span_by w volume).start) ⊎ ((span_by w volume).start + blocks_for volume.size (span_by w volume).length ≤ n)
  unfolding is_outside
  off n e w = by_which w where
    main : (not (covers (area_stated volume.size volume.main) n) ≡ true)
        × (list_all (λ area. not (covers area n)) (area_stated volume.size volume.reserve ∷ (integrity_stated volume ++ (partition_stated volume ∷ tables_stated volume))) ≡ true)
    main = and_parts _ _ e

    by_which : (w : Which) → (n < (span_by w volume).start) ⊎ ((span_by w volume).start + blocks_for volume.size (span_by w volume).length ≤ n)
    by_which Main = uncovered (area_stated volume.size volume.main) n (not_true _ main.0)
    by_which Reserve = uncovered (area_stated volume.size volume.reserve) n (not_true _
        (and_parts (not (covers (area_stated volume.size volume.reserve) n))
        (list_all (λ area. not (covers area n)) (integrity_stated volume ++ (partition_stated volume ∷ tables_stated volume))) main.1).0)

  -- what is before or behind the kept extent is free
  pub free_beside : (n : ℕ) → (n < (kept_span volume).start) ⊎ ((kept_span volume).start + blocks_for volume.size (kept_span volume).length ≤ n) → n < volume.blocks
      → is_free volume n ≡ true
  free_beside n (inl h) inside = free n inside (covered_not (sealed_stated volume) n (inl h))
  free_beside n (inr h) inside = free n inside (covered_not (sealed_stated volume) n (inr (omega (arith, fits volume b volume.kept))))

  free_outside : (n : ℕ) → is_outside (areas_stated volume) n ≡ true → n < volume.blocks → is_free volume n ≡ true
  free_outside n e inside = free_beside n (off n e volume.kept) inside

  -- the bad places of a verdict
  pub bad_free : (layout : code.Layout) → IsTaken volume layout → (verdict : AnchorVerdict) → HasPlaces volume layout verdict → AreFree volume verdict.bad.items
  bad_free layout lies verdict has =
      all_of_part (is_free volume) verdict.bad.items verdict.eligible.items has.bad
      (all_when (is_outside (areas_stated volume)) (λ n. ltb n volume.blocks) (is_free volume) verdict.eligible.items
      (ap (list_all (is_outside (areas_stated volume))) has.eligible
      ∙ all_passed (is_eligible (taken (layout_seen layout))) (is_outside (areas_stated volume)) (ascending_places volume.blocks)
      (λ n e. ap (λ areas. is_outside areas n) (sym lies.areas) ∙ eligible_outside (layout_seen layout) n e))
      (list_all-from_AllPass (λ n. ltb n volume.blocks) verdict.eligible.items (λ k d lt. lt-ltb _ _ (has.inside k d lt)))
      (λ n o i. free_outside n o (ltb-true _ _ i)))

  -- the blocks of a copy and the one that ends it
  module _ (laid : IsLaidOut volume) where
    parted : (w : Which) → ((span_by w volume).start + blocks_for volume.size (span_by w volume).length ≤ (span_by (opposite w) volume).start)
        ⊎ ((span_by (opposite w) volume).start + blocks_for volume.size (span_by (opposite w) volume).length ≤ (span_by w volume).start)
    parted w = by_which w (apart_of (area_stated volume.size volume.main) (area_stated volume.size volume.reserve) (extents_apart volume laid)
        (omega (arith, fits volume b Main)) (omega (arith, fits volume b Reserve))) where
          by_which : (w : Which) → (volume.main.start + blocks_for volume.size volume.main.length ≤ volume.reserve.start) ⊎ (volume.reserve.start + blocks_for volume.size volume.reserve.length ≤ volume.main.start)
              → ((span_by w volume).start + blocks_for volume.size (span_by w volume).length ≤ (span_by (opposite w) volume).start)
              ⊎ ((span_by (opposite w) volume).start + blocks_for volume.size (span_by (opposite w) volume).length ≤ (span_by w volume).start)
          by_which Main h = h
          by_which Reserve (inl h) = inr h
          by_which Reserve (inr h) = inl h

    pub copy_free : (start i : ℕ) → start ≡ (other_span volume).start → i ≤ volume.count → is_free volume (start + i) ≡ true
    copy_free start i s h = free (start + i) (omega (arith, end_inside volume b (opposite volume.kept))) (by_side (parted volume.kept)) where
      by_side : ((kept_span volume).start + blocks_for volume.size (kept_span volume).length ≤ (other_span volume).start)
          ⊎ ((other_span volume).start + blocks_for volume.size (other_span volume).length ≤ (kept_span volume).start)
          → not (covers (sealed_stated volume) (start + i)) ≡ true
      by_side (inl k) = covered_not (sealed_stated volume) (start + i) (inr (omega (arith, fits volume b volume.kept)))
      by_side (inr k) = covered_not (sealed_stated volume) (start + i) (inl (omega (arith, fits volume b (opposite volume.kept))))
