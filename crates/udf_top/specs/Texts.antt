-- What is printed at each outcome.
use Rattle.std.specs.Prelude.{ℕ, zero, suc, List, [], ◌∷◌, ◌++◌, length, codes, decimal}
use Rattle.udf_layer.specs.declared.missing.Missing.{Missing}
use Rattle.udf_layer.specs.declared.missing.Missing.TheVariants as missing
use Rattle.udf_layer.specs.declared.missing.ProfileItem.{ProfileItem}
use Rattle.udf_layer.specs.declared.missing.ProfileItem.TheVariants as item
use Rattle.udf_rules.specs.declared.finding.Finding.{Finding}
use Rattle.udf_top.specs.declared.outcome.Outcome.{Outcome}
use Rattle.udf_top.specs.declared.outcome.Outcome.TheVariants as outcome
use Rattle.udf_rules.specs.Lines.{lines_of}

abbrev pub item_name : ProfileItem → List ℕ
item_name item.BlockSize = codes "BlockSize"
item_name item.Domain = codes "Domain"
item_name item.Revision = codes "Revision"
item_name item.VolumePointer = codes "VolumePointer"
item_name item.PartitionMaps = codes "PartitionMaps"
item_name item.Unbuilt = codes "Unbuilt"
item_name item.SpaceTables = codes "SpaceTables"
item_name item.IntegrityChain = codes "IntegrityChain"
item_name item.FileSets = codes "FileSets"
item_name item.Strategy = codes "Strategy"
item_name item.ExtendedDescriptors = codes "ExtendedDescriptors"
item_name item.AttributeFile = codes "AttributeFile"

abbrev pub name_of : Missing → List ℕ
name_of missing.TooLarge = codes "TooLarge"
name_of missing.Anchor = codes "Anchor"
name_of missing.Sequence = codes "Sequence"
name_of missing.Layout = codes "Layout"
name_of missing.SparingTable = codes "SparingTable"
name_of missing.FileSet = codes "FileSet"
name_of missing.RootDirectory = codes "RootDirectory"
name_of missing.WriteProtected = codes "WriteProtected"
name_of (missing.Profile item) = codes "Profile " ++ item_name item

-- a line that tells of a file
abbrev pub line_on : List ℕ → List ℕ → List ℕ
line_on file what = codes "udffsck: " ++ file ++ codes ": " ++ what ++ codes "\n"

-- What is printed at the end of a run: of the medium, or of the side file where that is no log of the image. What a repair
-- prints stands before it writes.
unfoldable pub text_of : List ℕ → Outcome → List ℕ
text_of medium outcome.Clean = line_on medium (codes "clean")
text_of medium (outcome.Repaired replayed written) = []
text_of medium (outcome.Broken findings) = lines_of findings ++ line_on medium (decimal (length findings) ++ codes " broken")
text_of medium (outcome.Refused missing) = line_on medium (codes "refused, " ++ name_of missing)
text_of medium (outcome.Usage cause) = codes "udffsck: usage: udffsck -c|-p [-B SIZE] [--redo FILE] MEDIUM\n"
text_of medium outcome.SameFile = line_on medium (codes "side file is the medium")
text_of side outcome.NotALog = line_on side (codes "not a log")
text_of side outcome.BadLog = line_on side (codes "bad log")
text_of side (outcome.WrongImage clash) = line_on side (codes "another image")
text_of medium outcome.DeviceFault = []
text_of medium outcome.OutFault = []
text_of medium outcome.Memory = []

-- the line of a replay of so many blocks, where there was one
unfoldable pub replayed_text : List ℕ → ℕ → List ℕ
replayed_text medium zero = []
replayed_text medium (suc k) = line_on medium (codes "replayed " ++ (decimal (suc k) ++ codes " blocks"))

-- what a repair prints before it writes: all findings and the number of blocks, or that there are no findings
unfoldable pub mend_text : List ℕ → List Finding → ℕ → List ℕ
mend_text medium [] written = line_on medium (codes "clean")
mend_text medium (finding ∷ rest) written =
    lines_of (finding ∷ rest) ++ line_on medium (codes "repairing " ++ (decimal written ++ codes " blocks"))
