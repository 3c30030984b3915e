-- The verdicts of the rules on anchors, on sequences and on sparing tables, by the fields of a volume.
use Rattle.std.specs.Prelude.{◌≡◌, ◌⊎◌, ℕ, ◌<◌, ◌≤◌, ◌==◌, nat_le, Bool, true, not, Option, Some, None, IfSome, option_map, List, [], ◌∷◌, filter, length}
use Rattle.std.specs.List.{All, list_all, list_any}
use Rattle.udf_model.specs.Image.{block_of}
use Rattle.udf_volume_model.specs.Sequence.{Descriptor, front_of}
use Rattle.udf_volume_model.specs.Kept.{sequence_at}
use Rattle.udf_volume_model.specs.Rules.{ascending_places, is_eligible, is_good, suffice, agrees}
use Rattle.udf_volume.specs.Seen.{extent_seen}
use Rattle.udf_volume_model.specs.Anchor.{blocks_for}
use Rattle.udf_volume_model.specs.Areas.{taken}
use Rattle.udf_volume_model.specs.Maps.{SparingMap}
use Rattle.udf_volume_model.specs.SparingTable.{prevailing_area, table_end}
use Rattle.udf_layer.specs.Fronts.{table_bytes}
use Rattle.udf_layer.specs.Verdict.{deviations_by}
use Rattle.udf_layer.specs.declared.agreement.Deviation.{Deviation}
use Rattle.udf_layer.specs.declared.agreement.TableVerdict.{TableVerdict}
use Rattle.udf_volume.specs.Areas.{anchor_stated, layout_seen, sparing_seen, tables_stated}
use Rattle.udf_volume.specs.Spans.{kept_span, other_span, limit_stated, views_in}
use Rattle.udf_volume.specs.declared.volume.Volume.{Volume}
use Rattle.udf_volume.specs.declared.taken.Layout.{Layout}
use Rattle.udf_volume.specs.declared.good_anchors.AnchorVerdict.{AnchorVerdict}
use Rattle.udf_volume.specs.declared.agreement.SequenceVerdict.{SequenceVerdict}

-- the eligible places of a volume with a layout, and those that hold no good anchor
abbrev pub eligible_stated : Volume → Layout → List ℕ
eligible_stated volume layout = filter (is_eligible (taken (layout_seen layout))) (ascending_places volume.blocks)

abbrev pub bad_stated : Volume → Layout → List ℕ → List ℕ
bad_stated volume layout image =
    filter (λ place. not (is_good (anchor_stated volume) place (block_of volume.size image place))) (eligible_stated volume layout)

-- the rule on anchors holds
abbrev pub anchors_suffice : Volume → Layout → List ℕ → Bool
anchors_suffice volume layout image = suffice (anchor_stated volume) (block_of volume.size image) (eligible_stated volume layout)

-- the descriptors that the kept extent lists, and those that the other one does
abbrev pub kept_list : Volume → List ℕ → List Descriptor
kept_list volume image = front_of (views_in volume.size image (kept_span volume))

abbrev pub other_list : Volume → List ℕ → List Descriptor
other_list volume image = front_of (views_in volume.size image (other_span volume))

-- the rule on sequences holds
abbrev pub sequences_agree_in : Volume → List ℕ → Bool
sequences_agree_in volume image =
    agrees (kept_list volume image) (sequence_at volume.size (block_of volume.size image) (limit_stated volume) (extent_seen (other_span volume)))

-- some of these numbers, in their order
abbrev pub IsPart : List ℕ → List ℕ → Type 0
IsPart [] whole = Unit {0}
IsPart (n ∷ part) [] = ⊥
IsPart (n ∷ part) (m ∷ whole) = ((n ≡ m) × IsPart part whole) ⊎ IsPart (n ∷ part) whole

-- what holds of every verdict on anchors, also over a bench that tells nothing
pub record HasPlaces (volume : Volume) (layout : Layout) (verdict : AnchorVerdict) : Type 0 where
  pub eligible : verdict.eligible.items ≡ eligible_stated volume layout
  pub inside : All (λ at. at < volume.blocks) verdict.eligible.items
  pub bad : IsPart verdict.bad.items verdict.eligible.items

-- the verdict on the anchors of an image
pub record JudgesAnchors (volume : Volume) (layout : Layout) (image : List ℕ) (verdict : AnchorVerdict) : Type 0 where
  pub bad : verdict.bad.items ≡ bad_stated volume layout image
  pub holds : verdict.holds ≡ anchors_suffice volume layout image

-- the verdict on the sequences of an image
pub record JudgesSequences (volume : Volume) (image : List ℕ) (verdict : SequenceVerdict) : Type 0 where
  pub kept : verdict.kept.items ≡ kept_list volume image
  pub other : verdict.other.items ≡ other_list volume image
  pub holds : verdict.holds ≡ sequences_agree_in volume image

abbrev pub prevailing_by : ℕ → (ℕ → List ℕ) → Option SparingMap → Option (List ℕ)
prevailing_by size disk None = None
prevailing_by size disk (Some map) = option_map table_bytes (prevailing_area size disk map)

abbrev pub deviations_of : ℕ → (ℕ → List ℕ) → Option SparingMap → List Deviation
deviations_of size disk None = []
deviations_of size disk (Some sparing) = deviations_by size disk sparing (prevailing_area size disk sparing)

-- the bytes of the prevailing sparing table, and the listed tables that do not agree with it
abbrev pub prevailing_stated : Volume → List ℕ → Option (List ℕ)
prevailing_stated volume image = prevailing_by volume.size (block_of volume.size image) (sparing_seen volume)

abbrev pub deviating_stated : Volume → List ℕ → List Deviation
deviating_stated volume image = deviations_of volume.size (block_of volume.size image) (sparing_seen volume)

-- the verdict on the sparing tables of an image
pub record JudgesTables (volume : Volume) (image : List ℕ) (verdict : TableVerdict) : Type 0 where
  pub prevailing : option_map (λ v. v.items) verdict.prevailing ≡ prevailing_stated volume image
  pub deviating : verdict.deviating.items ≡ deviating_stated volume image

-- What holds of every verdict on sparing tables, also over a bench that tells nothing: the prevailing one ends with its
-- entries and has its head, each that does not agree with it is listed, and no listed one takes fewer blocks than it.
pub record HasTables (volume : Volume) (verdict : TableVerdict) : Type 0 where
  pub ends : IfSome verdict.prevailing (λ v. length v.items ≡ table_end v.items)
  pub head : IfSome verdict.prevailing (λ v. 56 ≤ length v.items)
  pub room : IfSome verdict.prevailing (λ v. list_all (λ area. nat_le (blocks_for volume.size (length v.items)) area.count) (tables_stated volume) ≡ true)
  pub listed : All (λ d. list_any (λ area. area.start == d.at) (tables_stated volume) ≡ true) verdict.deviating.items
