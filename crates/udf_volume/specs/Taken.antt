-- What a volume takes of its image, the refusal of its sparing table, and what the calls answer that open a volume with its layout.
use Rattle.std.specs.Prelude.{◌≡◌, ℕ, Bool, true, false, ◌&&◌, if◌then◌else◌, List, Result, Ok, Err}
use Rattle.udf_model.specs.Image.{block_of}
use Rattle.udf_outside.specs.Files.{Files}
use Rattle.udf_volume_model.specs.Layout.{has_table_by, are_packets_of}
use Rattle.udf_layer.specs.declared.missing.Missing.{Missing}
use Rattle.udf_layer.specs.declared.missing.Missing.TheVariants as missing
use Rattle.udf_layer.specs.declared.missing.LayerStop.{LayerStop}
use Rattle.udf_layer.specs.declared.missing.LayerStop.TheVariants as stops
use Rattle.udf_volume_model.specs.SparingTable.{Table}
use Rattle.udf_volume.specs.Areas.{sparing_seen, areas_stated, table_used, layout_stated, layout_seen}
use Rattle.udf_volume.specs.Laid.{IsLaidOut}
use Rattle.udf_volume.specs.Opened.{described, IsBounded}
use Rattle.udf_volume.specs.Over.{IsOver}
use Rattle.udf_volume.specs.declared.volume.Volume.{Volume}
use Rattle.udf_volume.specs.declared.taken.Layout.{Layout}
use Rattle.udf_volume.specs.declared.opened.Opened.{Opened}

-- a sparing table prevails, where there is to be one, and its used packets are lawful
unfoldable pub is_spared_stated : Volume → (ℕ → List ℕ) → Bool
is_spared_stated volume disk =
    has_table_by volume.size disk (sparing_seen volume)
    && are_packets_of volume.blocks volume.anchor (layout_stated volume disk)

abbrev pub by_packets : (ℕ → List ℕ) → Result Volume Missing → Result Volume Missing
by_packets disk (Ok volume) = if is_spared_stated volume disk then Ok volume else Err missing.SparingTable
by_packets disk (Err missing) = Err missing

-- the first refusal that applies, or the volume
unfoldable pub opening : ℕ → List ℕ → Result Volume Missing
opening size image = by_packets (block_of size image) (described size image)

-- the sparing table of a volume that has one, as it is used, where it prevails and is lawful, or that none is so, unless a fault or
-- want of memory came
abbrev pub SparesBy : Volume → (ℕ → List ℕ) → Result Table LayerStop → Type 0
SparesBy volume disk (Ok table) = (is_spared_stated volume disk ≡ true) × (table ≡ table_used volume disk)
SparesBy volume disk (Err (stops.Missing reason)) = (reason ≡ missing.SparingTable) × (is_spared_stated volume disk ≡ false)
SparesBy volume disk (Err stops.Fault) = Unit {0}
SparesBy volume disk (Err stops.Memory) = Unit {0}

-- the layout of a volume, or that its sparing table is unlawful, unless a fault or want of memory came
abbrev pub Lays : Volume → (ℕ → List ℕ) → Result Layout LayerStop → Type 0
Lays volume disk (Ok layout) = (is_spared_stated volume disk ≡ true) × (layout_seen layout ≡ layout_stated volume disk)
Lays volume disk (Err (stops.Missing reason)) = (reason ≡ missing.SparingTable) × (is_spared_stated volume disk ≡ false)
Lays volume disk (Err stops.Fault) = Unit {0}
Lays volume disk (Err stops.Memory) = Unit {0}

-- the answer is that volume, with its layout in the image, unless a fault or want of memory came
abbrev pub Opens : Result Volume Missing → (ℕ → List ℕ) → Result Opened LayerStop → Type 0
Opens expected disk (Ok opened) = (expected ≡ Ok opened.volume) × (layout_seen opened.layout ≡ layout_stated opened.volume disk)
Opens expected disk (Err (stops.Missing reason)) = expected ≡ Err reason
Opens expected disk (Err stops.Fault) = Unit {0}
Opens expected disk (Err stops.Memory) = Unit {0}

-- what holds of every layout, also over a bench that tells nothing
pub record IsTaken (volume : Volume) (layout : Layout) : Type 0 where
  pub areas : (layout_seen layout).areas ≡ areas_stated volume
  pub packets : are_packets_of volume.blocks volume.anchor (layout_seen layout) ≡ true

-- what holds of everything that is opened, also over a bench that tells nothing
pub record IsLawful (size blocks : ℕ) (opened : Opened) : Type 0 where
  pub bounded : IsBounded size blocks opened.volume
  pub laid : IsLaidOut opened.volume
  pub taken : IsTaken opened.volume opened.layout

-- it was opened over this image
pub record IsOpenOver (opened : Opened) (files : Files) : Type 0 where
  pub over : IsOver opened.volume files
  pub laid : IsLaidOut opened.volume
  pub taken : IsTaken opened.volume opened.layout

-- it was opened of an image of these bytes
pub record IsOpenedOf (image : List ℕ) (opened : Opened) : Type 0 where
  pub volume : opening opened.volume.size image ≡ Ok opened.volume
  pub layout : layout_seen opened.layout ≡ layout_stated opened.volume (block_of opened.volume.size image)
