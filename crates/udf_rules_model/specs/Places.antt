-- Where the blocks of a volume's base partition stand: in the packet to which its sparing table maps their packet, else in the
-- partition itself (ECMA-167 3/10.5, UDF 2.2.11). A physical volume has no table, and maps no packet.
use Rattle.std.specs.Prelude.{ℕ, Option, Some, None, List}
use Rattle.udf_model.specs.Image.{block_of}
use Rattle.udf_file_model.specs.Place.{Place, nowhere, physical_place, sparable_place}
use Rattle.udf_volume_model.specs.Kept.{KeptSequence, kept_sequence_of}
use Rattle.udf_volume_model.specs.Areas.{Area, partition_area}
use Rattle.udf_volume_model.specs.SparingTable.{Table}
use Rattle.udf_volume_model.specs.AllRules.{layout_in}

abbrev pub place_by : Area → Table → Place
place_by partition table =
    sparable_place table.packet table.pairs partition.count (physical_place partition.start partition.count)

abbrev pub place_in : ℕ → (ℕ → List ℕ) → Option KeptSequence → Place
place_in size disk None = nowhere
place_in size disk (Some sequence) = place_by (partition_area sequence.list) (layout_in size disk sequence).table

-- the place of the blocks of an image's volume; without a volume they stand nowhere
unfoldable pub place_of : ℕ → List ℕ → Place
place_of size image = place_in size (block_of size image) (kept_sequence_of size image)
