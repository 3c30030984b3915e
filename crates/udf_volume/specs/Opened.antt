-- What `open_volume` answers.
use Rattle.std.specs.Prelude.{◌≡◌, ◌⊎◌, ℕ, Bool, ◌≤◌, ◌<◌, ◌+◌, ◌-◌, ◌^◌, ◌%◌, ◌==◌, ◌&&◌, not, nat_lt, if◌then◌else◌, List, [], length, Option, Some, None, option_map, unwrap_or, true, Result, Ok, Err, slice_index}
use Rattle.udf_model.specs.Image.{block_of, blocks_in}
use Rattle.udf_volume_model.specs.Prevailing.{number_in, prevailing_index}
use Rattle.udf_volume_model.specs.Anchor.{places, is_extent}
use Rattle.udf_volume_model.specs.Kept as model_kept
use Rattle.udf_volume_model.specs.Kept.{kept, kept_sequence_of, has_anchor}
use Rattle.udf_volume_model.specs.Sequence.{Descriptor}
use Rattle.udf_volume_model.specs.Profile.{has_block_size, has_domain, has_revision, has_pointer, has_no_tables}
use Rattle.udf_volume_model.specs.Layout.{is_lawful}
use Rattle.udf_volume_model.specs.Maps.{is_base_lawful}
use Rattle.udf_volume_model.specs.Stated.{partition_number, logical, partition, has_maps, is_built, volume_information}
use Rattle.udf_field.specs.FieldView.{short_at, long_at, span_at}
use Rattle.udf_field.specs.declared.address.Short.{Short}
use Rattle.udf_volume.specs.Seen.{extent_seen, span_of}
use Rattle.udf_volume.specs.Maps.{sparing_stated}
use Rattle.udf_volume.specs.Areas.{sparing_seen}
use Rattle.udf_volume.specs.Spans.{kept_span, limit_stated}
use Rattle.udf_volume.specs.declared.volume.Which.{Which}
use Rattle.udf_volume.specs.declared.volume.Which.TheVariants as which
use Rattle.udf_volume.specs.declared.volume.Upper.TheVariants.{Absent}
use Rattle.udf_volume.specs.declared.volume.Volume.{Volume}
use Rattle.udf_layer.specs.declared.missing.Missing.{Missing}
use Rattle.udf_layer.specs.declared.missing.Missing.TheVariants as missing
use Rattle.udf_layer.specs.declared.missing.ProfileItem.{ProfileItem}
use Rattle.udf_layer.specs.declared.missing.ProfileItem.TheVariants as item
use Rattle.udf_layer.specs.declared.missing.LayerStop.{LayerStop}
use Rattle.udf_layer.specs.declared.missing.LayerStop.TheVariants as stops

abbrev pub which_of : model_kept.Which → Which
which_of model_kept.Main = which.Main
which_of model_kept.Reserve = which.Reserve

-- the sector of the descriptor that prevails of a kind and subject
unfoldable pub sector_in : model_kept.KeptSequence → ℕ → List ℕ → Option ℕ
sector_in volume kind subject = option_map (λ index. (kept volume).start + index) (prevailing_index kind subject volume.list)

-- an extent of length 0 is none (4/14.3.2)
unfoldable pub bitmap_in : List ℕ → Option Short
bitmap_in body = if (short_at body (64 - 16)).length == 0 then None else Some (short_at body (64 - 16))

-- hard or soft write protection stands in a domain's suffix (UDF 2.1.5.3)
unfoldable pub is_guarded : ℕ → Bool
is_guarded flags = not (flags % 4 == 0)

-- the volume of a kept sequence, whose logical volume descriptor and partition descriptor have these bytes
unfoldable pub volume_by : ℕ → ℕ → model_kept.KeptSequence → List ℕ → List ℕ → Volume
volume_by size blocks volume logical partition = record {
  size = size;
  blocks = blocks;
  anchor = volume.place;
  main = span_of volume.anchor.main;
  reserve = span_of volume.anchor.reserve;
  kept = which_of volume.which;
  count = length volume.list;
  pvd = unwrap_or (sector_in volume 1 []) 0;
  lvd = unwrap_or (sector_in volume 6 []) 0;
  pd = unwrap_or (sector_in volume 5 (partition_number logical)) 0;
  info = sector_in volume 4 volume_information;
  shape = record { base = 0; sparing = sparing_stated logical; upper = Absent };
  start = number_in 4 partition 188;
  length = number_in 4 partition 192;
  bitmap = bitmap_in partition;
  integrity = span_at logical (432 - 16);
  file_set = long_at logical (248 - 16);
  revision = number_in 2 logical 240;
  access = number_in 4 partition 184;
  guarded = is_guarded (slice_index logical (242 - 16));
}

-- what the descriptors of a kept sequence state, where its maps are lawful and built
unfoldable pub stated_in : ℕ → ℕ → model_kept.KeptSequence → Option Volume
stated_in size blocks volume =
    if has_maps volume.list && is_built volume.list then Some (volume_by size blocks volume (logical volume.list) (partition volume.list)) else None

-- what the maps and the partition's header have that the profile has not
unfoldable pub unlike_maps : List Descriptor → Option ProfileItem
unlike_maps list =
    if not (has_maps list) then Some item.PartitionMaps
    else if not (is_built list) then Some item.Unbuilt
    else if not (has_no_tables list) then Some item.SpaceTables
    else None

-- the first test of the profile that the descriptors of a kept sequence fail
unfoldable pub unlike_profile : ℕ → List Descriptor → Option ProfileItem
unlike_profile size list =
    if not (has_block_size size list) then Some item.BlockSize
    else if not (has_domain list) then Some item.Domain
    else if not (has_revision list) then Some item.Revision
    else if has_pointer list then Some item.VolumePointer
    else unlike_maps list

abbrev pub by_profile : Option ProfileItem → Bool → Option Missing
by_profile (Some item) lawful = Some (missing.Profile item)
by_profile None lawful = if lawful then None else Some missing.Layout

-- the first refusal of a kept sequence
unfoldable pub refusal_of : ℕ → ℕ → (ℕ → List ℕ) → model_kept.KeptSequence → Option Missing
refusal_of size blocks disk volume = by_profile (unlike_profile size volume.list) (is_lawful size blocks disk volume)

abbrev pub by_refusal : Option Missing → Volume → Result Volume Missing
by_refusal (Some missing) volume = Err missing
by_refusal None volume = Ok volume

-- the volume of a kept sequence, or the first refusal of it
unfoldable pub accepted : ℕ → ℕ → (ℕ → List ℕ) → model_kept.KeptSequence → Result Volume Missing
accepted size blocks disk volume =
    by_refusal (refusal_of size blocks disk volume) (volume_by size blocks volume (logical volume.list) (partition volume.list))

abbrev pub by_volume : ℕ → ℕ → (ℕ → List ℕ) → Bool → Option model_kept.KeptSequence → Result Volume Missing
by_volume size blocks disk any None = if any then Err missing.Sequence else Err missing.Anchor
by_volume size blocks disk any (Some volume) = accepted size blocks disk volume

-- the first refusal that applies up to that of the layout, or the volume
unfoldable pub described : ℕ → List ℕ → Result Volume Missing
described size image =
    if nat_lt 4294967295 (blocks_in size image) then Err missing.TooLarge
    else by_volume size (blocks_in size image) (block_of size image)
    (has_anchor size (blocks_in size image) (block_of size image) (places (blocks_in size image)))
    (kept_sequence_of size image)

-- the answer is that, unless a fault or want of memory came
abbrev pub Answers : Result Volume Missing → Result Volume LayerStop → Type 0
Answers expected (Ok volume) = expected ≡ Ok volume
Answers expected (Err (stops.Missing reason)) = expected ≡ Err reason
Answers expected (Err stops.Fault) = Unit {0}
Answers expected (Err stops.Memory) = Unit {0}

-- what holds of every volume, also over a bench that tells nothing
pub record IsBounded (size blocks : ℕ) (volume : Volume) : Type 0 where
  pub sized : volume.size ≡ size
  pub counted : volume.blocks ≡ blocks
  pub base : (volume.shape.base ≡ 0) ⊎ (volume.shape.base ≡ 1)
  pub spared : is_base_lawful (sparing_seen volume) ≡ true
  pub anchored : volume.anchor < blocks
  pub main_inside : is_extent size blocks (extent_seen volume.main) ≡ true
  pub reserve_inside : is_extent size blocks (extent_seen volume.reserve) ≡ true
  pub few : volume.blocks < 2 ^ 32
  pub some : 1 ≤ volume.count
  pub short : volume.count < limit_stated volume
  pub descriptors_inside : (kept_span volume).start + volume.count ≤ blocks
  pub primary_inside : volume.pvd < blocks
  pub logical_inside : volume.lvd < blocks
  pub partition_inside : volume.pd < blocks
