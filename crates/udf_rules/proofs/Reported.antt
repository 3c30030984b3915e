-- What is reported of a volume of the image is what the rules find.
use Rattle.std.proofs.Common.{◌≡◌, ℕ, ◌-◌, ◌≤◌, arith, refl, sym, ◌∙◌, ap, List, [], ◌∷◌, ◌++◌, length, map, Bool, true, false, cond, Option, Some, None}
use Rattle.std.specs.Prelude.{option_map, unwrap_or}
use Rattle.udf_model.specs.Image.{block_of, blocks_in}
use Rattle.udf_volume_model.specs.Sequence.{Descriptor, views, front_of}
use Rattle.udf_volume_model.specs.Anchor.{Extent, blocks_of}
use Rattle.udf_volume_model.specs.Kept.{KeptSequence, other}
use Rattle.udf_volume_model.specs.Rules as model
use Rattle.udf_volume_model.specs.Rules.{Finding, eligible, is_good, good_of, bad_of, anchors_hold, anchor_findings, sequences_hold, sequence_findings}
use Rattle.udf_volume_model.specs.AllRules.{findings, layout_in}
use Rattle.udf_volume_model.specs.Areas.{Layout}
use Rattle.udf_volume_model.specs.Maps as model_maps
use Rattle.udf_volume_model.specs.SparingRule.{ascending, deviating, deviating_by, findings_by as findings_by_table, findings_of, table_finding, table_findings}
use Rattle.udf_volume_model.specs.SparingTable.{prevailing_area, sequence_number}
use Rattle.udf_layer.specs.Fronts.{table_bytes}
use Rattle.udf_layer.specs.Verdict.{deviation_at, verdict_number}
use Rattle.udf_layer.specs.declared.agreement.Deviation.{Deviation}
use Rattle.udf_layer.specs.declared.agreement.TableVerdict.{TableVerdict}
use Rattle.udf_layer.proofs.TableBytes.{bytes_number}
use Rattle.udf_volume.specs.Areas.{layout_seen, layout_stated, sparing_seen}
use Rattle.udf_volume.specs.declared.volume.Volume as code
use Rattle.udf_volume.specs.declared.taken.Layout as code_layout
use Rattle.udf_volume.specs.declared.opened.Opened.{Opened}
use Rattle.udf_volume.specs.declared.good_anchors.AnchorVerdict.{AnchorVerdict}
use Rattle.udf_volume.specs.declared.agreement.SequenceVerdict.{SequenceVerdict}
use Rattle.udf_volume.specs.Taken.{IsOpenedOf}
use Rattle.udf_volume.specs.Spans.{other_span}
use Rattle.udf_volume.specs.Verdicts.{eligible_stated, bad_stated, anchors_suffice, kept_list, other_list, sequences_agree_in, HasPlaces, JudgesAnchors, JudgesSequences, JudgesTables, prevailing_by, deviations_of}
use Rattle.udf_volume.proofs.Described.{Describes, opened_ok, other_is, sparing_of_is}
use Rattle.udf_volume.proofs.Parted.{parted}
use Rattle.udf_volume.proofs.Parts.{shorter}
use Rattle.udf_volume.proofs.Judged.{eligible_is, bad_is, suffice_is, kept_list_is, other_list_is, agrees_is}
use Rattle.udf_rules.specs.declared.finding.Finding as told
use Rattle.udf_rules.specs.declared.finding.Place.TheVariants.{Sector}
use Rattle.udf_rules.specs.Findings.{deviation_with, table_report, finding_of, findings_by, findings_in, anchor_report, sequence_report}
use Rattle.udf_rules.specs.Reported.{anchors_reported, sequences_reported, tables_reported}

map-map : (f : ℕ → Finding) (xs : List ℕ) → map finding_of (map f xs) ≡ map (λ x. finding_of (f x)) xs
map-map f [] = refl
map-map f (x ∷ xs) = ap (λ l. finding_of (f x) ∷ l) (map-map f xs)

map-map-any : {X Y Z : Type 0} (g : Y → Z) (h : X → Y) (xs : List X) → map g (map h xs) ≡ map (λ x. g (h x)) xs
map-map-any g h [] = refl
map-map-any g h (x ∷ xs) = ap (λ l. g (h x) ∷ l) (map-map-any g h xs)

module _ (size blocks : ℕ) (disk : ℕ → List ℕ) (v : KeptSequence) where
  abbrev layout : Layout
  layout = layout_in size disk v

  abbrev E : List ℕ
  E = eligible blocks layout

  abbrev good : ℕ → Bool
  good place = is_good v.anchor place (disk place)

  good_many : length E - length (bad_of disk v E) ≡ length (good_of disk v E)
  good_many = omega (arith, parted good E)

  reports : (b : Bool) → map finding_of (cond b [] (map (λ place. record { rule = 2; place = model.Sector place; first = length (good_of disk v E); second = length E }) (bad_of disk v E)))
      ≡ cond b [] (map (λ place. record { rule = 2; place = Sector place; first = length (good_of disk v E); second = length E }) (bad_of disk v E))
  reports true = refl
  reports false = map-map _ (bad_of disk v E)

  pub anchors_are : anchor_report (anchors_hold blocks layout disk v) E (bad_of disk v E) ≡ map finding_of (anchor_findings blocks layout disk v)
  unfolding anchor_report anchor_findings
  anchors_are =
      ap (λ n. cond (anchors_hold blocks layout disk v) []
      (map (λ place. record { rule = 2; place = Sector place; first = n; second = length E }) (bad_of disk v E))) good_many
      ∙ sym (reports (anchors_hold blocks layout disk v))

  by_hold : (b : Bool) (start read many : ℕ)
      → sequence_report b start read many ≡ map finding_of (cond b [] (record { rule = 3; place = model.Sector start; first = read; second = many } ∷ []))
  unfolding sequence_report
  by_hold true start read many = refl
  by_hold false start read many = refl

  pub sequences_are : sequence_report (sequences_hold size disk v) (other v).start
      (length (front_of (views disk (other v).start (blocks_of size (other v))))) (length v.list) ≡ map finding_of (sequence_findings size disk v)
  unfolding sequence_findings
  sequences_are = by_hold (sequences_hold size disk v) _ _ _

map-both : (xs ys : List Finding) → map finding_of (xs ++ ys) ≡ map finding_of xs ++ map finding_of ys
map-both [] ys = refl
map-both (x ∷ xs) ys = ap (λ l. finding_of x ∷ l) (map-both xs ys)

module _ (image : List ℕ) (volume : code.Volume) (taken : code_layout.Layout) (v : KeptSequence) (d : Describes volume.size image volume v)
    (is : layout_seen taken ≡ layout_stated volume (block_of volume.size image)) where
  abbrev size : ℕ
  size = volume.size

  abbrev disk : ℕ → List ℕ
  disk = block_of volume.size image

  pub anchors_reported_is : anchors_reported volume taken image ≡ map finding_of (anchor_findings (blocks_in size image) (layout_in size disk v) disk v)
  unfolding anchors_reported
  anchors_reported_is =
      ap (λ b. anchor_report b (eligible_stated volume taken) (bad_stated volume taken image)) (suffice_is size image volume v d taken is)
      ∙ ap (λ l. anchor_report (anchors_hold (blocks_in size image) (layout_in size disk v) disk v) l (bad_stated volume taken image)) (eligible_is size image volume v d taken is)
      ∙ ap (λ l. anchor_report (anchors_hold (blocks_in size image) (layout_in size disk v) disk v) (eligible (blocks_in size image) (layout_in size disk v)) l) (bad_is size image volume v d taken is)
      ∙ anchors_are size (blocks_in size image) disk v

  pub sequences_reported_is : sequences_reported volume image ≡ map finding_of (sequence_findings size disk v)
  unfolding sequences_reported
  sequences_reported_is =
      ap (λ b. sequence_report b (other_span volume).start (length (other_list volume image)) (length (kept_list volume image))) (agrees_is size image volume v d)
      ∙ ap (λ (e : Extent). sequence_report (sequences_hold size disk v) e.start (length (other_list volume image)) (length (kept_list volume image))) (other_is size image volume v d)
      ∙ ap (λ (l : List Descriptor). sequence_report (sequences_hold size disk v) (other v).start (length l) (length (kept_list volume image))) (other_list_is size image volume v d)
      ∙ ap (λ (l : List Descriptor). sequence_report (sequences_hold size disk v) (other v).start
      (length (front_of (views disk (other v).start (blocks_of size (other v))))) (length l)) (kept_list_is size image volume v d)
      ∙ sequences_are size (blocks_in size image) disk v

  pub tables_reported_is : tables_reported volume image ≡ map finding_of (table_findings size disk v.list)
  unfolding tables_reported table_findings
  tables_reported_is = ap (λ s. map finding_of (findings_of size disk s)) (sparing_of_is size image volume v d)

  pub found_is : anchors_reported volume taken image ++ (sequences_reported volume image ++ tables_reported volume image) ≡ findings_in size image
  unfolding findings_in findings
  found_is =
      ap (λ l. l ++ (sequences_reported volume image ++ tables_reported volume image)) anchors_reported_is
      ∙ ap (λ l. map finding_of (anchor_findings (blocks_in size image) (layout_in size disk v) disk v) ++ (l ++ tables_reported volume image)) sequences_reported_is
      ∙ ap (λ l. map finding_of (anchor_findings (blocks_in size image) (layout_in size disk v) disk v) ++ (map finding_of (sequence_findings size disk v) ++ l)) tables_reported_is
      ∙ ap (λ l. map finding_of (anchor_findings (blocks_in size image) (layout_in size disk v) disk v) ++ l)
      (sym (map-both (sequence_findings size disk v) (table_findings size disk v.list)))
      ∙ sym (map-both (anchor_findings (blocks_in size image) (layout_in size disk v) disk v) (sequence_findings size disk v ++ table_findings size disk v.list))
      ∙ sym (ap (findings_by size image) d.found)

-- what is found of a volume that was opened
pub found_all : (image : List ℕ) (opened : Opened) → IsOpenedOf image opened
    → anchors_reported opened.volume opened.layout image ++ (sequences_reported opened.volume image ++ tables_reported opened.volume image)
    ≡ findings_in opened.volume.size image
found_all image opened is = let d = opened_ok opened.volume.size image opened.volume is.volume in found_is image opened.volume opened.layout d.0 d.1 is.layout

-- what is reported of the verdicts
pub fewer : (volume : code.Volume) (taken : code_layout.Layout) (verdict : AnchorVerdict) → HasPlaces volume taken verdict
    → length verdict.bad.items ≤ length verdict.eligible.items
fewer volume taken verdict is = shorter verdict.bad.items verdict.eligible.items is.bad

pub anchors_from : (volume : code.Volume) (taken : code_layout.Layout) (image : List ℕ) (verdict : AnchorVerdict) → HasPlaces volume taken verdict
    → JudgesAnchors volume taken image verdict → anchor_report verdict.holds verdict.eligible.items verdict.bad.items ≡ anchors_reported volume taken image
unfolding anchors_reported
anchors_from volume taken image verdict has judges =
    ap (λ b. anchor_report b verdict.eligible.items verdict.bad.items) judges.holds
    ∙ ap (λ l. anchor_report (anchors_suffice volume taken image) l verdict.bad.items) has.eligible
    ∙ ap (λ l. anchor_report (anchors_suffice volume taken image) (eligible_stated volume taken) l) judges.bad

pub sequences_from : (volume : code.Volume) (image : List ℕ) (verdict : SequenceVerdict) → JudgesSequences volume image verdict
    → sequence_report verdict.holds (other_span volume).start (length verdict.other.items) (length verdict.kept.items) ≡ sequences_reported volume image
unfolding sequences_reported
sequences_from volume image verdict judges =
    ap (λ b. sequence_report b (other_span volume).start (length verdict.other.items) (length verdict.kept.items)) judges.holds
    ∙ ap (λ (l : List Descriptor). sequence_report (sequences_agree_in volume image) (other_span volume).start (length l) (length verdict.kept.items)) judges.other
    ∙ ap (λ (l : List Descriptor). sequence_report (sequences_agree_in volume image) (other_span volume).start (length (other_list volume image)) (length l)) judges.kept

-- the sequence number of the prevailing table
number_seen : {X : Type 0} (bytes : X → List ℕ) (o : Option X) → unwrap_or (option_map sequence_number (option_map bytes o)) 0 ≡ unwrap_or (option_map (λ v. sequence_number (bytes v)) o) 0
number_seen bytes None = refl
number_seen bytes (Some v) = refl

module _ (size : ℕ) (disk : ℕ → List ℕ) (m : model_maps.SparingMap) where
  abbrev tables_by : Option (List ℕ) → List told.Finding
  tables_by prevailing = map finding_of (findings_by_table size disk m prevailing)

  in_order_as : (ordered : List Deviation) (n : ℕ) (area : List ℕ) → n ≡ sequence_number area
      → ordered ≡ map (deviation_at size disk m) (ascending (deviating size disk m area)) → table_report ordered n ≡ tables_by (Some area)
  unfolding table_report
  in_order_as ordered n area e is =
      ap (λ l. map (λ table. record { rule = 4; place = Sector table.at; first = table.number; second = n }) l) is
      ∙ map-map-any (λ table. record { rule = 4; place = Sector table.at; first = table.number; second = n }) (deviation_at size disk m) (ascending (deviating size disk m area))
      ∙ ap (λ k. map (λ at. record { rule = 4; place = Sector at; first = (deviation_at size disk m at).number; second = k }) (ascending (deviating size disk m area))) e
      ∙ sym (map-map-any finding_of (table_finding size disk m area) (ascending (deviating size disk m area)))

  by_prevailing : (verdict : TableVerdict) (ordered : List Deviation) (prevailing : Option (List ℕ))
      → option_map (λ v. v.items) verdict.prevailing ≡ option_map table_bytes prevailing
      → ordered ≡ map (deviation_at size disk m) (ascending (deviating_by size disk m prevailing))
      → table_report ordered (verdict_number verdict) ≡ tables_by prevailing
  unfolding table_report ascending
  by_prevailing verdict ordered None e is = ap (λ l. table_report l (verdict_number verdict)) is
  by_prevailing verdict ordered (Some area) e is =
      in_order_as ordered (verdict_number verdict) area
      (sym (number_seen (λ v. v.items) verdict.prevailing) ∙ ap (λ o. unwrap_or (option_map sequence_number o) 0) e ∙ bytes_number area) is

pub tables_from : (volume : code.Volume) (image : List ℕ) (verdict : TableVerdict) (ordered : List Deviation) → JudgesTables volume image verdict
    → ((number : ℕ → ℕ) (sectors : List ℕ) → verdict.deviating.items ≡ map (deviation_with number) sectors → ordered ≡ map (deviation_with number) (ascending sectors))
    → table_report ordered (verdict_number verdict) ≡ tables_reported volume image
unfolding tables_reported table_report ascending
tables_from volume image verdict ordered judges in_order = by_map (sparing_seen volume) judges.prevailing judges.deviating where
  disk_in : ℕ → List ℕ
  disk_in = block_of volume.size image

  by_map : (sparing : Option model_maps.SparingMap) → option_map (λ v. v.items) verdict.prevailing ≡ prevailing_by volume.size disk_in sparing
      → verdict.deviating.items ≡ deviations_of volume.size disk_in sparing
      → table_report ordered (verdict_number verdict) ≡ map finding_of (findings_of volume.size disk_in sparing)
  by_map None p d = ap (λ l. table_report l (verdict_number verdict)) (in_order (λ at. 0) [] d)
  by_map (Some m) p d =
      by_prevailing volume.size disk_in m verdict ordered (prevailing_area volume.size disk_in m) p
      (in_order (λ at. (deviation_at volume.size disk_in m at).number) (deviating_by volume.size disk_in m (prevailing_area volume.size disk_in m)) d)
