-- The refusals of an opened volume for its integrity sequence, its file set and its entries, in their order.
use Rattle.std.specs.Prelude.{ℕ, List, Option, Some, None, if◌then◌else◌}
use Rattle.udf_model.specs.Image.{block_of}
use Rattle.udf_volume_model.specs.FileSet as set
use Rattle.udf_tree_model.specs.Refused as tree
use Rattle.udf_layer.specs.declared.missing.Missing.{Missing}
use Rattle.udf_layer.specs.declared.missing.Missing.TheVariants as missing
use Rattle.udf_layer.specs.declared.missing.ProfileItem.{ProfileItem}
use Rattle.udf_layer.specs.declared.missing.ProfileItem.TheVariants as item
use Rattle.udf_layer.specs.declared.missing.LayerStop.{LayerStop}
use Rattle.udf_layer.specs.declared.missing.LayerStop.TheVariants as stops
use Rattle.udf_volume.specs.FileSet as volume_set
use Rattle.udf_volume.specs.declared.volume.Volume.{Volume}
use Rattle.udf_kept.specs.Entries as entries
use Rattle.udf_rules_model.specs.Files.{files_in, frame_in, site_in}
use Rattle.udf_rules_model.specs.Integrity.{names_chain}

abbrev pub or_else : Option Missing → Option Missing → Option Missing
or_else None other = other
or_else (Some reason) other = Some reason

-- the first that applies: a chain of integrity descriptors; what the file set lacks; what the entries or the root lack
unfoldable pub files_refusal : Volume → List ℕ → Option Missing
files_refusal volume image =
    if names_chain volume.size (block_of volume.size image) volume.integrity then Some (missing.Profile item.IntegrityChain)
    else or_else (volume_set.missing_of (set.refusal (site_in volume image)))
    (entries.missing_of (tree.refusal (frame_in volume image) (files_in volume image)))

-- what such a refusal may ask
abbrev pub IsOfFiles : ProfileItem → Type 0
IsOfFiles item.BlockSize = ⊥
IsOfFiles item.Domain = ⊥
IsOfFiles item.Revision = ⊥
IsOfFiles item.VolumePointer = ⊥
IsOfFiles item.PartitionMaps = ⊥
IsOfFiles item.Unbuilt = ⊥
IsOfFiles item.SpaceTables = ⊥
IsOfFiles item.IntegrityChain = Unit {0}
IsOfFiles item.FileSets = Unit {0}
IsOfFiles item.Strategy = Unit {0}
IsOfFiles item.ExtendedDescriptors = Unit {0}
IsOfFiles item.AttributeFile = Unit {0}

abbrev pub IsFilesMissing : Missing → Type 0
IsFilesMissing missing.TooLarge = ⊥
IsFilesMissing missing.Anchor = ⊥
IsFilesMissing missing.Sequence = ⊥
IsFilesMissing (missing.Profile item) = IsOfFiles item
IsFilesMissing missing.Layout = ⊥
IsFilesMissing missing.SparingTable = ⊥
IsFilesMissing missing.FileSet = Unit {0}
IsFilesMissing missing.RootDirectory = Unit {0}
IsFilesMissing missing.WriteProtected = ⊥

abbrev pub RefusesTheFiles : LayerStop → Type 0
RefusesTheFiles (stops.Missing reason) = IsFilesMissing reason
RefusesTheFiles stops.Fault = Unit {0}
RefusesTheFiles stops.Memory = Unit {0}
