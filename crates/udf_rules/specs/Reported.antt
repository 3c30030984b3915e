-- What the code reports of a volume, by its fields and its layout.
use Rattle.std.specs.Prelude.{ℕ, List, length, map}
use Rattle.udf_model.specs.Image.{block_of}
use Rattle.udf_volume_model.specs.SparingRule.{findings_of}
use Rattle.udf_volume.specs.Areas.{sparing_seen}
use Rattle.udf_volume.specs.Spans.{other_span}
use Rattle.udf_volume.specs.declared.volume.Volume.{Volume}
use Rattle.udf_volume.specs.declared.taken.Layout.{Layout}
use Rattle.udf_volume.specs.Verdicts.{eligible_stated, bad_stated, anchors_suffice, kept_list, other_list, sequences_agree_in}
use Rattle.udf_rules.specs.declared.finding.Finding.{Finding}
use Rattle.udf_rules.specs.Findings.{finding_of, anchor_report, sequence_report}

unfoldable pub anchors_reported : Volume → Layout → List ℕ → List Finding
anchors_reported volume layout image =
    anchor_report (anchors_suffice volume layout image) (eligible_stated volume layout) (bad_stated volume layout image)

unfoldable pub sequences_reported : Volume → List ℕ → List Finding
sequences_reported volume image =
    sequence_report (sequences_agree_in volume image) (other_span volume).start (length (other_list volume image)) (length (kept_list volume image))

unfoldable pub tables_reported : Volume → List ℕ → List Finding
tables_reported volume image = map finding_of (findings_of volume.size (block_of volume.size image) (sparing_seen volume))
