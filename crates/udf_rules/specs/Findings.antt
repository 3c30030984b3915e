-- What a check of an image finds.
use Rattle.std.specs.Prelude.{ℕ, Bool, ◌-◌, if◌then◌else◌, List, [], ◌∷◌, length, map, Option, Some, None}
use Rattle.udf_model.specs.Image.{block_of, blocks_in}
use Rattle.udf_volume_model.specs.Kept.{KeptSequence, kept_sequence_of}
use Rattle.udf_volume_model.specs.Rules as model
use Rattle.udf_volume_model.specs.AllRules.{findings}
use Rattle.udf_layer.specs.declared.agreement.Deviation.{Deviation}
use Rattle.udf_rules.specs.declared.finding.Place.{Place}
use Rattle.udf_rules.specs.declared.finding.Place.TheVariants.{Sector, At}
use Rattle.udf_rules.specs.declared.finding.Finding.{Finding}

abbrev pub place_in : model.Place → Place
place_in (model.Sector sector) = Sector sector
place_in (model.At part block) = At (record { part = part; block = block })

abbrev pub finding_of : model.Finding → Finding
finding_of found = record { rule = found.rule; place = place_in found.place; first = found.first; second = found.second }

abbrev pub findings_by : ℕ → List ℕ → Option KeptSequence → List Finding
findings_by size image None = []
findings_by size image (Some volume) = map finding_of (findings size (blocks_in size image) (block_of size image) volume)

-- the findings of an image at a block size, in order
unfoldable pub findings_in : ℕ → List ℕ → List Finding
findings_in size image = findings_by size image (kept_sequence_of size image)

-- what is reported of the eligible places, of which these are not good, unless the rule holds
unfoldable pub anchor_report : Bool → List ℕ → List ℕ → List Finding
anchor_report holds eligible bad =
    if holds then []
    else map (λ place. record { rule = 2; place = Sector place; first = length eligible - length bad; second = length eligible }) bad

-- what is reported of the other sequence, by its first sector, the descriptors read there and the kept ones, unless the rule holds
unfoldable pub sequence_report : Bool → ℕ → ℕ → ℕ → List Finding
sequence_report holds start read kept =
    if holds then [] else record { rule = 3; place = Sector start; first = read; second = kept } ∷ []

-- a sparing table at a sector, with the number that it has there
abbrev pub deviation_with : (ℕ → ℕ) → ℕ → Deviation
deviation_with number at = record { at = at; number = number at }

-- what is reported of sparing tables that do not agree with the prevailing one, by its sequence number
unfoldable pub table_report : List Deviation → ℕ → List Finding
table_report tables prevailing = map (λ table. record { rule = 4; place = Sector table.at; first = table.number; second = prevailing }) tables
