-- Findings stand in the order of rules, then of sectors.
use Rattle.std.proofs.Common.{◌≡◌, inl, inr, ℕ, ◌<◌, arith, refl, List, [], ◌∷◌, ◌++◌, length, Bool, true, false, cond, not, map, Option, Some, None}
use Rattle.std.specs.Prelude.{unwrap_or}
use Rattle.std.specs.List.{filter}
use Rattle.udf_volume_model.specs.Anchor.{blocks_of}
use Rattle.udf_volume_model.specs.Kept.{KeptSequence, other}
use Rattle.udf_volume_model.specs.Sequence.{views, front_of}
use Rattle.udf_volume_model.specs.Stated.{sparing}
use Rattle.udf_volume_model.specs.Maps.{SparingMap}
use Rattle.udf_volume_model.specs.SparingTable.{table_area, table_number, sequence_number, prevailing_area}
use Rattle.udf_volume_model.specs.Areas.{Layout, taken}
use Rattle.udf_volume_model.specs.Layout.{is_lawful}
use Rattle.udf_volume_model.specs.Rules.{ascending_places, is_eligible, eligible, is_good, good_of, bad_of, anchors_hold, sequences_hold, Sector, Finding, anchor_findings, sequence_findings}
use Rattle.udf_volume_model.specs.SparingRule.{ascending, deviating, findings_by, findings_of, table_findings}
use Rattle.udf_volume_model.specs.AllRules.{layout_in, findings}
use Rattle.udf_volume_model.specs.Order.{AscendsFrom, Ascends}
use Rattle.udf_volume_laws.proofs.Rising.{Climbs, Rises, filter_rises, places_rise, ascending_rises}
use Rattle.udf_volume_laws.proofs.Deviating.{deviating_distinct}

-- findings of one rule, and of later ones
abbrev IsRuled : ℕ → List Finding → Type 0
IsRuled rule [] = Unit {0}
IsRuled rule (x ∷ xs) = (x.rule ≡ rule) × IsRuled rule xs

abbrev IsLater : ℕ → List Finding → Type 0
IsLater rule [] = Unit {0}
IsLater rule (x ∷ xs) = (rule < x.rule) × IsLater rule xs

later : (rule next : ℕ) (xs : List Finding) → rule < next → IsRuled next xs → IsLater rule xs
later rule next [] h r = tt
later rule next (x ∷ xs) h r = (omega (arith, r.0), later rule next xs h r.1)

later_both : (rule : ℕ) (xs ys : List Finding) → IsLater rule xs → IsLater rule ys → IsLater rule (xs ++ ys)
later_both rule [] ys h k = k
later_both rule (x ∷ xs) ys h k = (h.0, later_both rule xs ys h.1 k)

-- findings of a rule, and then those of later ones
joined_from : (rule : ℕ) (x : Finding) (xs ys : List Finding) → x.rule ≡ rule → AscendsFrom x xs → IsRuled rule xs → Ascends ys → IsLater rule ys → AscendsFrom x (xs ++ ys)
joined_from rule x [] [] e c r d l = tt
joined_from rule x [] (y ∷ ys) e c r d l = (inl (omega (arith, l.0, e)), d)
joined_from rule x (next ∷ xs) ys e c r d l = (c.0, joined_from rule next xs ys r.0 c.1 r.1 d l)

joined : (rule : ℕ) (xs ys : List Finding) → Ascends xs → IsRuled rule xs → Ascends ys → IsLater rule ys → Ascends (xs ++ ys)
joined rule [] ys c r d l = d
joined rule (x ∷ xs) ys c r d l = joined_from rule x xs ys r.0 c r.1 d l

-- findings of a rule at sectors that ascend
module _ (rule : ℕ) (first second : ℕ → ℕ) where
  abbrev told : ℕ → Finding
  told n = record { rule = rule; place = Sector n; first = first n; second = second n }

  from_sector : (x : ℕ) (xs : List ℕ) → Climbs x xs → AscendsFrom (told x) (map told xs)
  from_sector x [] c = tt
  from_sector x (y ∷ ys) c = (inr (refl, inl c.0), from_sector y ys c.1)

  sectors_ascend : (xs : List ℕ) → Rises xs → Ascends (map told xs)
  sectors_ascend [] c = tt
  sectors_ascend (x ∷ xs) c = from_sector x xs c

  ruled : (xs : List ℕ) → IsRuled rule (map told xs)
  ruled [] = tt
  ruled (x ∷ xs) = (refl, ruled xs)

-- the findings of each rule
anchors_ordered : (blocks : ℕ) (layout : Layout) (disk : ℕ → List ℕ) (volume : KeptSequence)
    → Ascends (anchor_findings blocks layout disk volume) × IsRuled 2 (anchor_findings blocks layout disk volume)
unfolding anchor_findings eligible
anchors_ordered blocks layout disk volume = by_rule (anchors_hold blocks layout disk volume) where
  places : List ℕ
  places = filter (is_eligible (taken layout)) (ascending_places blocks)

  good : ℕ → ℕ
  good place = length (good_of disk volume (filter (is_eligible (taken layout)) (ascending_places blocks)))

  all : ℕ → ℕ
  all place = length (filter (is_eligible (taken layout)) (ascending_places blocks))

  bad : List ℕ
  bad = bad_of disk volume (filter (is_eligible (taken layout)) (ascending_places blocks))

  by_rule : (b : Bool) → Ascends (cond b [] (map (told 2 good all) bad)) × IsRuled 2 (cond b [] (map (told 2 good all) bad))
  by_rule true = (tt, tt)
  by_rule false = (
    sectors_ascend 2 good all bad
        (filter_rises (λ place. not (is_good volume.anchor place (disk place))) (filter (is_eligible (taken layout)) (ascending_places blocks))
        (filter_rises (is_eligible (taken layout)) (ascending_places blocks) (places_rise blocks))),
    ruled 2 good all bad,
  )

sequences_ordered : (size : ℕ) (disk : ℕ → List ℕ) (volume : KeptSequence)
    → Ascends (sequence_findings size disk volume) × IsRuled 3 (sequence_findings size disk volume)
unfolding sequence_findings
sequences_ordered size disk volume = by_rule (sequences_hold size disk volume) where
  first : ℕ → ℕ
  first n = length (front_of (views disk (other volume).start (blocks_of size (other volume))))

  second : ℕ → ℕ
  second n = length volume.list

  by_rule : (b : Bool) → Ascends (cond b [] (map (told 3 first second) ((other volume).start ∷ []))) × IsRuled 3 (cond b [] (map (told 3 first second) ((other volume).start ∷ [])))
  by_rule true = (tt, tt)
  by_rule false = (tt, (refl, tt))

tables_ordered : (size blocks : ℕ) (disk : ℕ → List ℕ) (volume : KeptSequence) → is_lawful size blocks disk volume ≡ true
    → Ascends (table_findings size disk volume.list) × IsRuled 4 (table_findings size disk volume.list)
unfolding table_findings
tables_ordered size blocks disk volume lawful = by_sparing (sparing volume.list) refl where
  by_prevailing : (s : SparingMap) (found : Option (List ℕ)) → sparing volume.list ≡ Some s → prevailing_area size disk s ≡ found
      → Ascends (findings_by size disk s found) × IsRuled 4 (findings_by size disk s found)
  by_prevailing s None e f = (tt, tt)
  by_prevailing s (Some table) e f =
      let first : ℕ → ℕ = λ (at : ℕ). unwrap_or (table_number s.bytes at (table_area size disk s.bytes at)) 0 in
      let second : ℕ → ℕ = λ (at : ℕ). sequence_number table in (
        sectors_ascend 4 first second (ascending (deviating size disk s table)) (ascending_rises (deviating size disk s table) (deviating_distinct size blocks disk volume s table lawful e f)),
        ruled 4 first second (ascending (deviating size disk s table)),
      )

  by_sparing : (o : Option SparingMap) → sparing volume.list ≡ o → Ascends (findings_of size disk o) × IsRuled 4 (findings_of size disk o)
  by_sparing None e = (tt, tt)
  by_sparing (Some s) e = by_prevailing s (prevailing_area size disk s) e refl

pub order : (size blocks : ℕ) (disk : ℕ → List ℕ) (volume : KeptSequence) → is_lawful size blocks disk volume ≡ true → Ascends (findings size blocks disk volume)
unfolding findings
order size blocks disk volume lawful =
    let second = anchors_ordered blocks (layout_in size disk volume) disk volume in
    let third = sequences_ordered size disk volume in
    let fourth = tables_ordered size blocks disk volume lawful in
    joined 2 (anchor_findings blocks (layout_in size disk volume) disk volume) (sequence_findings size disk volume ++ table_findings size disk volume.list) second.0 second.1
    (joined 3 (sequence_findings size disk volume) (table_findings size disk volume.list) third.0 third.1 fourth.0 (later 3 4 _ (omega arith) fourth.1))
    (later_both 2 _ _ (later 2 3 _ (omega arith) third.1) (later 2 4 _ (omega arith) fourth.1))
