-- The listed sparing tables that do not agree with the prevailing one, as the code tells them.
use Rattle.std.specs.Prelude.{◌≡◌, ℕ, ◌<◌, List, Option, map, option_map, slice_index, unwrap_or}
use Rattle.udf_layer.specs.declared.agreement.Deviation.{Deviation}
use Rattle.udf_layer.specs.declared.agreement.TableVerdict.{TableVerdict}
use Rattle.udf_layer.specs.declared.maps.SparingMap.{SparingMap}
use Rattle.udf_volume_model.specs.Maps as model
use Rattle.udf_volume_model.specs.SparingRule.{deviating_by}
use Rattle.udf_volume_model.specs.SparingTable.{sequence_number, table_area, table_number}

-- the table at a sector, by its sequence number, or 0 where it is not whole
abbrev pub deviation_at : ℕ → (ℕ → List ℕ) → model.SparingMap → ℕ → Deviation
deviation_at size disk sparing at = record {
  at = at;
  number = unwrap_or (table_number sparing.bytes at (table_area size disk sparing.bytes at)) 0;
}

-- The tables that do not agree with the prevailing one, where one is whole.
abbrev pub deviations_by : ℕ → (ℕ → List ℕ) → model.SparingMap → Option (List ℕ) → List Deviation
deviations_by size disk sparing prevailing = map (deviation_at size disk sparing) (deviating_by size disk sparing prevailing)

-- the map lists the sector
abbrev pub IsListed : SparingMap → ℕ → Type 0
IsListed m at = (i : ℕ) × (i < m.count) × (at ≡ slice_index m.at i)

-- the sequence number of the prevailing table, or 0
abbrev pub verdict_number : TableVerdict → ℕ
verdict_number verdict = unwrap_or (option_map (λ v. sequence_number v.items) verdict.prevailing) 0
