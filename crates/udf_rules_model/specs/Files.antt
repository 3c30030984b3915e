-- The files of a volume: where its addresses stand, its file set, and what is known before its entries are read.
use Rattle.std.specs.Prelude.{ℕ, false, Option, List}
use Rattle.udf_field.specs.declared.address.Addr.{Addr}
use Rattle.udf_model.specs.Image.{block_of}
use Rattle.udf_file_model.specs.Address.{Places, lone_places}
use Rattle.udf_file_model.specs.Listing as listing
use Rattle.udf_file_model.specs.Listing.{volume_of}
use Rattle.udf_volume_model.specs.FileSet.{Site, after, first_block, is_fixed, root_in, system_in}
use Rattle.udf_tree_model.specs.Frame.{Frame}
use Rattle.udf_volume.specs.Areas.{partition_stated, table_used}
use Rattle.udf_volume.specs.FileSet.{site_of}
use Rattle.udf_volume.specs.declared.volume.Volume.{Volume}
use Rattle.udf_rules_model.specs.Places.{place_by}

-- the sectors of a volume's addresses: those of its base partition alone, at the reference 0 (ECMA-167 3/10.7)
unfoldable pub places_of : Volume → List ℕ → Places
places_of volume image = lone_places 0 (place_by (partition_stated volume) (table_used volume (block_of volume.size image)))

-- where its file set lies; no upper partition stands on any address
unfoldable pub site_in : Volume → List ℕ → Site
site_in volume image = site_of volume (block_of volume.size image) (places_of volume image) (λ a. false)

-- what is known of its files before its entries are read (4/14.1)
unfoldable pub frame_in : Volume → List ℕ → Frame
frame_in volume image = record {
  fixed = is_fixed (site_in volume image);
  after = after (site_in volume image);
  file_set = volume.file_set.at;
  root = root_in (first_block (site_in volume image));
  system = system_in (first_block (site_in volume image));
}

-- its blocks, with the places of its addresses
abbrev pub files_in : Volume → List ℕ → listing.Volume
files_in volume image = volume_of volume.size image (places_of volume image)
