-- Nothing is found exactly where no rule is broken.
use Rattle.std.proofs.Common.{◌≡◌, ℕ, refl, ◌∙◌, ap, List, [], ◌∷◌, ◌++◌, length, Bool, true, false, cond, not, ◌&&◌, ◌||◌, leb, map, Option, Some, None}
use Rattle.std.specs.List.{list_all, filter}
use Rattle.std.proofs.lemmas.Bool.{and_parts, and_from}
use Rattle.udf_volume_model.specs.Anchor.{blocks_of}
use Rattle.udf_volume_model.specs.Kept.{KeptSequence, other}
use Rattle.udf_volume_model.specs.Sequence.{Descriptor, views, front_of}
use Rattle.udf_volume_model.specs.Stated.{sparing}
use Rattle.udf_volume_model.specs.Maps.{SparingMap}
use Rattle.udf_volume_model.specs.SparingTable.{prevailing_area}
use Rattle.udf_volume_model.specs.Areas.{Layout}
use Rattle.udf_volume_model.specs.Rules.{eligible, is_good, good_of, bad_of, anchors_hold, sequences_hold, Sector, Finding, anchor_findings, sequence_findings}
use Rattle.udf_volume_model.specs.SparingRule.{is_empty, ascending, deviating, deviating_by, tables_agree, tables_hold, table_finding, findings_by, findings_of, table_findings}
use Rattle.udf_volume_model.specs.AllRules.{layout_in, rules_hold, findings}
use Rattle.udf_volume_laws.proofs.Rising.{ascending_none}

pub empty_is : (xs : List ℕ) → is_empty xs ≡ true → xs ≡ []
empty_is [] e = refl
empty_is (x ∷ xs) e = absurd (cc)

-- the rule on sparing tables
tables_unbroken : (size : ℕ) (disk : ℕ → List ℕ) (list : List Descriptor) → tables_hold size disk list ≡ true → table_findings size disk list ≡ []
unfolding tables_hold table_findings ascending
tables_unbroken size disk list = by_sparing (sparing list) where
  by_prevailing : (map_is : SparingMap) (found : Option (List ℕ)) → is_empty (deviating_by size disk map_is found) ≡ true → findings_by size disk map_is found ≡ []
  by_prevailing map_is None e = refl
  by_prevailing map_is (Some table) e =
      ap (λ xs. map (table_finding size disk map_is table) (ascending xs)) (empty_is (deviating size disk map_is table) e)

  by_sparing : (o : Option SparingMap) → tables_agree size disk o ≡ true → findings_of size disk o ≡ []
  by_sparing None e = refl
  by_sparing (Some map_is) e = by_prevailing map_is (prevailing_area size disk map_is) e

none_mapped : (f : ℕ → Finding) (xs : List ℕ) → map f xs ≡ [] → xs ≡ []
none_mapped f [] e = refl
none_mapped f (x ∷ xs) e = absurd (cc)

tables_broken : (size : ℕ) (disk : ℕ → List ℕ) (list : List Descriptor) → table_findings size disk list ≡ [] → tables_hold size disk list ≡ true
unfolding tables_hold table_findings
tables_broken size disk list = by_sparing (sparing list) where
  by_prevailing : (map_is : SparingMap) (found : Option (List ℕ)) → findings_by size disk map_is found ≡ [] → is_empty (deviating_by size disk map_is found) ≡ true
  by_prevailing map_is None e = refl
  by_prevailing map_is (Some table) e =
      ap is_empty (ascending_none (deviating size disk map_is table) (none_mapped (table_finding size disk map_is table) (ascending (deviating size disk map_is table)) e))

  by_sparing : (o : Option SparingMap) → findings_of size disk o ≡ [] → tables_agree size disk o ≡ true
  by_sparing None e = refl
  by_sparing (Some map_is) e = by_prevailing map_is (prevailing_area size disk map_is) e

anchors_unbroken : (blocks : ℕ) (layout : Layout) (disk : ℕ → List ℕ) (volume : KeptSequence) → anchors_hold blocks layout disk volume ≡ true
    → anchor_findings blocks layout disk volume ≡ []
unfolding anchor_findings
anchors_unbroken blocks layout disk volume e =
    ap (λ b. cond b [] (map (λ place. record {
      rule = 2;
      place = Sector place;
      first = length (good_of disk volume (eligible blocks layout));
      second = length (eligible blocks layout);
    }) (bad_of disk volume (eligible blocks layout)))) e

sequences_unbroken : (size : ℕ) (disk : ℕ → List ℕ) (volume : KeptSequence) → sequences_hold size disk volume ≡ true → sequence_findings size disk volume ≡ []
unfolding sequence_findings
sequences_unbroken size disk volume e =
    ap (λ b. cond b [] (record {
      rule = 3;
      place = Sector (other volume).start;
      first = length (front_of (views disk (other volume).start (blocks_of size (other volume))));
      second = length volume.list;
    } ∷ [])) e

pub unbroken : (size blocks : ℕ) (disk : ℕ → List ℕ) (volume : KeptSequence) → rules_hold size blocks disk volume ≡ true → findings size blocks disk volume ≡ []
unfolding rules_hold findings
unbroken size blocks disk volume e =
    let parts = and_parts (anchors_hold blocks (layout_in size disk volume) disk volume) (sequences_hold size disk volume && tables_hold size disk volume.list) e in
    let further = and_parts (sequences_hold size disk volume) (tables_hold size disk volume.list) parts.1 in
    ap (λ found. found ++ (sequence_findings size disk volume ++ table_findings size disk volume.list)) (anchors_unbroken blocks (layout_in size disk volume) disk volume parts.0)
    ∙ ap (λ found. found ++ table_findings size disk volume.list) (sequences_unbroken size disk volume further.0)
    ∙ tables_unbroken size disk volume.list further.1

-- where all that is filtered is none, all pass
none_bad : (test : ℕ → Bool) (xs : List ℕ) (f : ℕ → Finding) → map f (filter (λ x. not (test x)) xs) ≡ [] → list_all test xs ≡ true
none_bad test [] f e = refl
none_bad test (x ∷ xs) f e = by_test (none_bad test xs f) (test x) refl e where
  by_test : (map f (filter (λ y. not (test y)) xs) ≡ [] → list_all test xs ≡ true) → (b : Bool) → test x ≡ b
      → map f (cond (not b) (x ∷ filter (λ y. not (test y)) xs) (filter (λ y. not (test y)) xs)) ≡ [] → (test x && list_all test xs) ≡ true
  by_test again true t g = and_from _ _ t (again g)
  by_test again false t g = absurd (cc)

none_parts : (xs ys : List Finding) → xs ++ ys ≡ [] → (xs ≡ []) × (ys ≡ [])
none_parts [] ys e = (refl, e)
none_parts (x ∷ xs) ys e = absurd (cc)

sequences_broken : (size : ℕ) (disk : ℕ → List ℕ) (volume : KeptSequence) → sequence_findings size disk volume ≡ [] → sequences_hold size disk volume ≡ true
unfolding sequence_findings
sequences_broken size disk volume = by_rule (sequences_hold size disk volume) _ where
  by_rule : (b : Bool) (found : Finding) → cond b [] (found ∷ []) ≡ [] → b ≡ true
  by_rule true found e = refl
  by_rule false found e = absurd (cc)

or_true : (b : Bool) → (b || true) ≡ true
or_true true = refl
or_true false = refl

all_good : (blocks : ℕ) (layout : Layout) (disk : ℕ → List ℕ) (volume : KeptSequence) (f : ℕ → Finding)
    → map f (bad_of disk volume (eligible blocks layout)) ≡ [] → anchors_hold blocks layout disk volume ≡ true
unfolding anchors_hold
all_good blocks layout disk volume f e =
    let all : list_all (λ place. is_good volume.anchor place (disk place)) (eligible blocks layout) ≡ true =
    none_bad (λ place. is_good volume.anchor place (disk place)) (eligible blocks layout) f e in
    ap (λ b. leb 2 (length (good_of disk volume (eligible blocks layout))) || b) all ∙ or_true (leb 2 (length (good_of disk volume (eligible blocks layout))))

anchors_broken : (blocks : ℕ) (layout : Layout) (disk : ℕ → List ℕ) (volume : KeptSequence) → anchor_findings blocks layout disk volume ≡ []
    → anchors_hold blocks layout disk volume ≡ true
unfolding anchor_findings
anchors_broken blocks layout disk volume e = by_rule (anchors_hold blocks layout disk volume) refl e where
  by_rule : (b : Bool) → anchors_hold blocks layout disk volume ≡ b → cond {A = List Finding} b [] (map (λ place. record {
    rule = 2;
    place = Sector place;
    first = length (good_of disk volume (eligible blocks layout));
    second = length (eligible blocks layout);
  }) (bad_of disk volume (eligible blocks layout))) ≡ [] → anchors_hold blocks layout disk volume ≡ true
  by_rule true is f = is
  by_rule false is f = all_good blocks layout disk volume _ f

pub broken : (size blocks : ℕ) (disk : ℕ → List ℕ) (volume : KeptSequence) → findings size blocks disk volume ≡ [] → rules_hold size blocks disk volume ≡ true
unfolding findings rules_hold
broken size blocks disk volume e =
    let parts = none_parts (anchor_findings blocks (layout_in size disk volume) disk volume) (sequence_findings size disk volume ++ table_findings size disk volume.list) e in
    let further = none_parts (sequence_findings size disk volume) (table_findings size disk volume.list) parts.1 in
    and_from _ _ (anchors_broken blocks (layout_in size disk volume) disk volume parts.0)
    (and_from _ _ (sequences_broken size disk volume further.0) (tables_broken size disk volume.list further.1))
