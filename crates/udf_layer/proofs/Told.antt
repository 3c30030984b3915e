-- The deviating tables of a map, one after the other.
use Rattle.std.proofs.Common.{◌≡◌, ℕ, ◌+◌, ◌<◌, ◌≤◌, Bool, true, false, not, cond, filter, map, min, arith, refl, sym, ap, ◌∙◌, subst, Option, Some, None, List, [], ◌∷◌, ◌++◌, append-nil}
use Rattle.std.specs.List.{All, range_with_len}
use Rattle.std.specs.Option.{IfSome}
use Rattle.std.specs.Prelude.{slice_index}
use Rattle.std.proofs.lemmas.List.{map-append}
use Rattle.std.proofs.lemmas.List.Elements.{All-push}
use Rattle.std.proofs.lemmas.List.FromFn.{filter_of_map_range_with_len_more}
use Rattle.udf_layer.specs.Tables.{map_seen}
use Rattle.udf_layer.specs.Verdict.{IsListed, deviation_at, deviations_by}
use Rattle.udf_layer.specs.declared.agreement.Deviation.{Deviation}
use Rattle.udf_layer.specs.declared.maps.SparingMap.{SparingMap}
use Rattle.udf_volume_model.specs.SparingRule.{agrees_with, deviating, is_coverable}
use Rattle.udf_volume_model.specs.SparingTable.{table_area}

-- one table more, which deviates or not
abbrev pub IsAdded : Option Deviation → List Deviation → List Deviation → Type 0
IsAdded found before after = (found ≡ None → after ≡ before) × ((d : Deviation) → found ≡ Some d → after ≡ before ++ d ∷ [])

pub listed_more : (m : SparingMap) (i : ℕ) (found o : Option Deviation) (before after : List Deviation) → found ≡ o → i < m.count
    → IfSome found (λ d. d.at ≡ slice_index m.at i) → All (λ d. IsListed m d.at) before → IsAdded found before after → All (λ d. IsListed m d.at) after
listed_more m i found None before after e inside at listed added =
    let P : List Deviation → Type 0 = All (λ d. IsListed m d.at) in subst P (sym (added.0 e)) listed
listed_more m i found (Some d) before after e inside at listed added =
    let P : List Deviation → Type 0 = All (λ d. IsListed m d.at) in
    let Q : Option Deviation → Type 0 = λ f. IfSome f (λ d. d.at ≡ slice_index m.at i) in
    subst P (sym (added.1 d e)) (All-push (λ d. IsListed m d.at) before d listed (i, inside, subst Q e at))

module _ (size : ℕ) (disk : ℕ → List ℕ) (m : SparingMap) (prevailing : List ℕ) where
  abbrev agrees : ℕ → Bool
  agrees at = agrees_with m.bytes at (table_area size disk m.bytes at) prevailing

  -- the deviating ones of the first tables
  abbrev pub first_deviations : ℕ → List Deviation
  first_deviations i = map (deviation_at size disk (map_seen m)) (filter (λ at. not (agrees at)) (map (slice_index m.at) (range_with_len 0 i)))

  abbrev one : ℕ → Bool → List Deviation
  one at agree = map (deviation_at size disk (map_seen m)) (cond (not agree) (at ∷ []) [])

  pub told_more : (i : ℕ) (found : Option Deviation) (before after : List Deviation)
      → found ≡ cond (agrees (slice_index m.at i)) None (Some (deviation_at size disk (map_seen m) (slice_index m.at i)))
      → before ≡ first_deviations i → IsAdded found before after → after ≡ first_deviations (i + 1)
  told_more i found before after is told added =
      by (agrees (slice_index m.at i)) refl
      ∙ ap (λ l. l ++ one (slice_index m.at i) (agrees (slice_index m.at i))) told
      ∙ sym (ap (map (deviation_at size disk (map_seen m))) (filter_of_map_range_with_len_more (λ at. not (agrees at)) (slice_index m.at) 0 i i (omega arith))
      ∙ map-append (deviation_at size disk (map_seen m)) (filter (λ at. not (agrees at)) (map (slice_index m.at) (range_with_len 0 i)))
      (cond (not (agrees (slice_index m.at i))) (slice_index m.at i ∷ []) []))
    where
      by : (b : Bool) → agrees (slice_index m.at i) ≡ b → after ≡ before ++ one (slice_index m.at i) b
      by true e = added.0 (is ∙ ap (λ b. cond b None (Some (deviation_at size disk (map_seen m) (slice_index m.at i)))) e) ∙ sym (append-nil before)
      by false e = added.1 (deviation_at size disk (map_seen m) (slice_index m.at i))
          (is ∙ ap (λ b. cond b None (Some (deviation_at size disk (map_seen m) (slice_index m.at i)))) e)

  -- none deviates from what no CRC can cover
  pub none_told : is_coverable prevailing ≡ false → deviations_by size disk (map_seen m) (Some prevailing) ≡ []
  unfolding deviating
  none_told off =
      ap (λ b. map (deviation_at size disk (map_seen m)) (cond b (filter (λ at. not (agrees at)) (map_seen m).tables) [])) off

  pub all_told : is_coverable prevailing ≡ true → m.count ≤ 4 → deviations_by size disk (map_seen m) (Some prevailing) ≡ first_deviations m.count
  unfolding deviating
  all_told on few =
      ap (λ b. map (deviation_at size disk (map_seen m)) (cond b (filter (λ at. not (agrees at)) (map_seen m).tables) [])) on
      ∙ ap (λ n. first_deviations n) (all few)
    where
      all : m.count ≤ 4 → min m.count 4 ≡ m.count
      all h = omega arith
