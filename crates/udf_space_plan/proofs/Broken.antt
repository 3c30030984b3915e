-- What the rule on the recognition sequence tells where it is broken: its slots are clear, and its finding has the digit.
use Rattle.std.proofs.Common.{◌≡◌, ℕ, ◌+◌, ◌*◌, ◌/◌, ◌<◌, ◌≤◌, ◌==◌, arith, refl, sym, ◌∙◌, ap, subst, List, [], ◌∷◌, ◌++◌, length, map, Bool, true, false, cond, not, ◌&&◌, ◌||◌, leb, ◌⊎◌, inl, inr, Option, Some, None}
use Rattle.std.specs.Prelude.{slice_get}
use Rattle.std.specs.List.{list_all, range_with_len}
use Rattle.std.proofs.lemmas.Bool.{and_parts, cases_lt, leb-true}
use Rattle.std.proofs.lemmas.List.Folds.{list_all-append}
use Rattle.udf_model.specs.Image.{block_of}
use Rattle.udf_rules.specs.Findings.{finding_of}
use Rattle.udf_rules.specs.declared.finding.Finding.{Finding}
use Rattle.udf_rules_model.specs.Findings.{before_volume, recognition_of}
use Rattle.udf_rules_model.specs.Recognition.{Recognition, binds, digit_of, identifier_at, identifiers, is_among, is_clear, is_recognised, is_untaken, others, recognition_findings, recognition_holds, slot_at, slot_blocks, wanted_digit}
use Rattle.udf_space_mends.specs.SlotMend.{recognition_edits, slot_edits}
use Rattle.udf_space_plan.specs.Runs.{is_run_free}
use Rattle.udf_space_plan.specs.Sequence.{sequence_put, slot_front}
use Rattle.udf_space_plan.proofs.FreeRuns.{outside_free}
use Rattle.udf_volume_model.specs.Areas.{Layout, covers, is_outside, packets_of, taken}
use Rattle.udf_volume_model.specs.Rules as model
use Rattle.udf_volume_laws.proofs.Members.{IsIn, all_at, in_range}
use Rattle.udf_volume.specs.Opened.{IsBounded}
use Rattle.udf_volume.specs.declared.volume.Volume.{Volume}
use Rattle.udf_wanted.specs.Wanted.{LookAlike}
use Rattle.udf_wanted.proofs.Looking.{nothing}

outside_areas : (layout : Layout) (n : ℕ) → is_outside (taken layout) n ≡ true → is_outside layout.areas n ≡ true
unfolding is_outside taken
outside_areas layout n e =
    (and_parts (is_outside layout.areas n) (is_outside (packets_of layout.table) n)
    (sym (list_all-append (λ area. not (covers area n)) layout.areas (packets_of layout.table)) ∙ e)).0

module _ (r : Recognition) where
  bound : recognition_holds r ≡ false → binds r ≡ true
  unfolding recognition_holds
  bound e = by_test (binds r) refl e where
    by_test : (b : Bool) → binds r ≡ b → (not b || is_recognised (identifiers r)) ≡ false → b ≡ true
    by_test true t h = refl
    by_test false t h = absurd (cc)

  module _ (broken : recognition_holds r ≡ false) where
    clear : (i : ℕ) → IsIn i (0 ∷ 1 ∷ 2 ∷ []) → is_clear r i ≡ true
    unfolding binds
    clear i member =
        (and_parts (is_clear r i) (not (is_among others (identifier_at r i)))
        (all_at (λ k. is_clear r k && not (is_among others (identifier_at r k))) (0 ∷ 1 ∷ 2 ∷ []) i (bound broken) member)).0

    clear_parts : (i : ℕ) → IsIn i (0 ∷ 1 ∷ 2 ∷ [])
        → (leb (slot_at r.size i + slot_blocks r.size) r.blocks ≡ true) × (list_all (is_untaken r) (range_with_len (slot_at r.size i) (slot_blocks r.size)) ≡ true)
    unfolding is_clear
    clear_parts i member = and_parts _ _ (clear i member)

    untaken : (i n : ℕ) → IsIn i (0 ∷ 1 ∷ 2 ∷ []) → slot_at r.size i ≤ n → n < slot_at r.size i + slot_blocks r.size → is_outside r.layout.areas n ≡ true
    untaken i n member low high =
        outside_areas r.layout n
        (and_parts (is_outside (taken r.layout) n) _
        (all_at (is_untaken r) (range_with_len (slot_at r.size i) (slot_blocks r.size)) n (clear_parts i member).1 (in_range (slot_blocks r.size) (slot_at r.size i) n low high))).0

    second : slot_at r.size 1 ≡ slot_at r.size 0 + slot_blocks r.size
    unfolding slot_at
    second = omega arith

    third : slot_at r.size 2 ≡ slot_at r.size 0 + slot_blocks r.size + slot_blocks r.size
    unfolding slot_at
    third = omega arith

    pub slots_inside : slot_at r.size 0 + 3 * slot_blocks r.size ≤ r.blocks
    slots_inside = omega (arith, third, leb-true _ _ (clear_parts 2 (inr (inr (inl refl)))).0)

    pub slots_outside : (n : ℕ) → slot_at r.size 0 ≤ n → n < slot_at r.size 0 + 3 * slot_blocks r.size → is_outside r.layout.areas n ≡ true
    slots_outside n low high = by_first (cases_lt n (slot_at r.size 1)) where
      by_second : (n < slot_at r.size 2) ⊎ (slot_at r.size 2 ≤ n) → slot_at r.size 1 ≤ n → is_outside r.layout.areas n ≡ true
      by_second (inl h) l = untaken 1 n (inr (inl refl)) l (omega (arith, second, third))
      by_second (inr h) l = untaken 2 n (inr (inr (inl refl))) h (omega (arith, second, third))

      by_first : (n < slot_at r.size 1) ⊎ (slot_at r.size 1 ≤ n) → is_outside r.layout.areas n ≡ true
      by_first (inl h) = untaken 0 n (inl refl) low (omega (arith, second))
      by_first (inr h) = by_second (cases_lt n (slot_at r.size 2)) h

  module _ (partition : List ℕ) where
    -- the edits, where it holds and where it does not
    pub none_wanted : recognition_holds r ≡ true → (wanted : List (ℕ × List ℕ)) → LookAlike wanted (wanted ++ recognition_edits r partition)
    unfolding recognition_edits sequence_put slot_edits slot_front
    none_wanted e wanted =
        subst (λ b. LookAlike wanted (wanted ++ cond b [] (sequence_put r.size (wanted_digit partition)))) (sym e) (nothing wanted)

    pub sequence_wanted : recognition_holds r ≡ false → sequence_put r.size (wanted_digit partition) ≡ recognition_edits r partition
    unfolding recognition_edits sequence_put slot_edits slot_front
    sequence_wanted e = sym (ap (λ b. cond b [] (sequence_put r.size (wanted_digit partition))) e)

    abbrev finding : model.Finding
    finding = record { rule = 1; place = model.Sector (32768 / r.size); first = digit_of (identifiers r); second = wanted_digit partition }

    module _ (found : List Finding) (is : found ≡ map finding_of (recognition_findings r partition)) where
      found_is : (b : Bool) → recognition_holds r ≡ b → found ≡ map finding_of (cond b [] (finding ∷ []))
      unfolding recognition_findings
      found_is b e = is ∙ ap (λ t. map finding_of (cond t [] (finding ∷ []))) e

      pub holds_where : true ≡ (length found == 0) → recognition_holds r ≡ true
      holds_where t = by_test (recognition_holds r) refl where
        by_test : (b : Bool) → recognition_holds r ≡ b → b ≡ true
        by_test true e = refl
        by_test false e = let f : true ≡ false = t ∙ ap (λ l. length l == 0) (found_is false e) in absurd (cc)

      pub broken_where : false ≡ (length found == 0) → recognition_holds r ≡ false
      broken_where t = by_test (recognition_holds r) refl where
        by_test : (b : Bool) → recognition_holds r ≡ b → b ≡ false
        by_test false e = refl
        by_test true e = let f : false ≡ true = t ∙ ap (λ l. length l == 0) (found_is true e) in absurd (cc)

      abbrev second_of : Option Finding → ℕ
      second_of None = 0
      second_of (Some x) = x.second

      pub digit_is : recognition_holds r ≡ false → (first : Finding) → slice_get found 0 ≡ Some first → first.second ≡ wanted_digit partition
      digit_is e first get = sym (ap second_of get) ∙ ap (λ l. second_of (slice_get l 0)) (found_is false e)

-- of a volume
module _ (volume : Volume) (image : List ℕ) where
  pub found_of : (before found : List Finding) → before ≡ [] → found ≡ before ++ map finding_of (before_volume volume image)
      → found ≡ map finding_of (recognition_findings (recognition_of volume image) (block_of volume.size image volume.pd))
  unfolding before_volume
  found_of before found none is = is ∙ ap (λ l. l ++ map finding_of (before_volume volume image)) none

  pub slots_free : IsBounded volume.size volume.blocks volume → recognition_holds (recognition_of volume image) ≡ false → 0 < slot_blocks volume.size
      → is_run_free volume (slot_at volume.size 0) (3 * slot_blocks volume.size) ≡ true
  unfolding recognition_of
  slots_free bounded broken some =
      outside_free volume bounded (slot_at volume.size 0) (3 * slot_blocks volume.size) (omega arith)
      (slots_inside (recognition_of volume image) broken) (slots_outside (recognition_of volume image) broken)

  pub sequence_of : (digit : ℕ) (wanted next : List (ℕ × List ℕ)) → recognition_holds (recognition_of volume image) ≡ false
      → digit ≡ wanted_digit (block_of volume.size image volume.pd) → LookAlike next (wanted ++ sequence_put volume.size digit)
      → LookAlike next (wanted ++ recognition_edits (recognition_of volume image) (block_of volume.size image volume.pd))
  unfolding recognition_of
  sequence_of digit wanted next broken is put =
      subst (λ (edits : List (ℕ × List ℕ)). LookAlike next (wanted ++ edits))
      (ap (sequence_put volume.size) is ∙ sequence_wanted (recognition_of volume image) (block_of volume.size image volume.pd) broken) put
