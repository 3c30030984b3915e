-- Which refusals a call can answer, also over a bench that tells nothing.
use Rattle.udf_layer.specs.declared.missing.Missing.{Missing}
use Rattle.udf_layer.specs.declared.missing.Missing.TheVariants as missing
use Rattle.udf_layer.specs.declared.missing.ProfileItem.{ProfileItem}
use Rattle.udf_layer.specs.declared.missing.ProfileItem.TheVariants as item
use Rattle.udf_layer.specs.declared.missing.LayerStop.{LayerStop}
use Rattle.udf_layer.specs.declared.missing.LayerStop.TheVariants as stops

-- what a volume's description may ask; the other items are of its integrity descriptor, its file set and its entries
abbrev pub IsDescribed : ProfileItem → Type 0
IsDescribed item.BlockSize = Unit {0}
IsDescribed item.Domain = Unit {0}
IsDescribed item.Revision = Unit {0}
IsDescribed item.VolumePointer = Unit {0}
IsDescribed item.PartitionMaps = Unit {0}
IsDescribed item.Unbuilt = Unit {0}
IsDescribed item.SpaceTables = Unit {0}
IsDescribed item.IntegrityChain = ⊥
IsDescribed item.FileSets = ⊥
IsDescribed item.Strategy = ⊥
IsDescribed item.ExtendedDescriptors = ⊥
IsDescribed item.AttributeFile = ⊥

-- a refusal of the volume's description, before its sparing tables are read
abbrev pub IsOfDescription : Missing → Type 0
IsOfDescription missing.TooLarge = Unit {0}
IsOfDescription missing.Anchor = Unit {0}
IsOfDescription missing.Sequence = Unit {0}
IsOfDescription (missing.Profile item) = IsDescribed item
IsOfDescription missing.Layout = Unit {0}
IsOfDescription missing.SparingTable = ⊥
IsOfDescription missing.FileSet = ⊥
IsOfDescription missing.RootDirectory = ⊥
IsOfDescription missing.WriteProtected = ⊥

abbrev pub RefusesDescription : LayerStop → Type 0
RefusesDescription (stops.Missing reason) = IsOfDescription reason
RefusesDescription stops.Fault = Unit {0}
RefusesDescription stops.Memory = Unit {0}

-- a refusal of a volume: none of its file set or entries, and not write protection, which refuses a repair alone
abbrev pub IsOfVolume : Missing → Type 0
IsOfVolume missing.TooLarge = Unit {0}
IsOfVolume missing.Anchor = Unit {0}
IsOfVolume missing.Sequence = Unit {0}
IsOfVolume (missing.Profile item) = IsDescribed item
IsOfVolume missing.Layout = Unit {0}
IsOfVolume missing.SparingTable = Unit {0}
IsOfVolume missing.FileSet = ⊥
IsOfVolume missing.RootDirectory = ⊥
IsOfVolume missing.WriteProtected = ⊥

abbrev pub RefusesVolume : LayerStop → Type 0
RefusesVolume (stops.Missing reason) = IsOfVolume reason
RefusesVolume stops.Fault = Unit {0}
RefusesVolume stops.Memory = Unit {0}

abbrev pub IsFurther : ProfileItem → Type 0
IsFurther item.BlockSize = ⊥
IsFurther item.Domain = ⊥
IsFurther item.Revision = ⊥
IsFurther item.VolumePointer = ⊥
IsFurther item.PartitionMaps = ⊥
IsFurther item.Unbuilt = ⊥
IsFurther item.SpaceTables = ⊥
IsFurther item.IntegrityChain = ⊥
IsFurther item.FileSets = Unit {0}
IsFurther item.Strategy = ⊥
IsFurther item.ExtendedDescriptors = ⊥
IsFurther item.AttributeFile = ⊥

-- a refusal of a volume for its file set
abbrev pub IsOfFileSet : Missing → Type 0
IsOfFileSet missing.TooLarge = ⊥
IsOfFileSet missing.Anchor = ⊥
IsOfFileSet missing.Sequence = ⊥
IsOfFileSet (missing.Profile item) = IsFurther item
IsOfFileSet missing.Layout = ⊥
IsOfFileSet missing.SparingTable = ⊥
IsOfFileSet missing.FileSet = Unit {0}
IsOfFileSet missing.RootDirectory = ⊥
IsOfFileSet missing.WriteProtected = ⊥

abbrev pub RefusesFileSet : LayerStop → Type 0
RefusesFileSet (stops.Missing reason) = IsOfFileSet reason
RefusesFileSet stops.Fault = Unit {0}
RefusesFileSet stops.Memory = Unit {0}
