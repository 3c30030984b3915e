-- What was seen of entries that this profile has not, and the refusals that follow.
use Rattle.std.specs.Prelude.{◌≡◌, ℕ, Bool, true, false, ◌||◌, if◌then◌else◌, List, Option, Some, None, Result, Ok, Err}
use Rattle.std.specs.List.{list_any}
use Rattle.udf_field.specs.declared.address.Addr.{Addr}
use Rattle.udf_model.specs.Tag.{id_at}
use Rattle.udf_file_model.specs.Entry.{Entry}
use Rattle.udf_file_model.specs.Listing.{Volume}
use Rattle.udf_layer.specs.declared.missing.ProfileItem.{ProfileItem}
use Rattle.udf_layer.specs.declared.missing.ProfileItem.TheVariants as item
use Rattle.udf_layer.specs.declared.missing.Missing.{Missing}
use Rattle.udf_layer.specs.declared.missing.Missing.TheVariants as missing
use Rattle.udf_layer.specs.declared.missing.LayerStop.{LayerStop}
use Rattle.udf_layer.specs.declared.missing.LayerStop.TheVariants as stops
use Rattle.udf_tree_model.specs.Link.{target_of}
use Rattle.udf_tree_model.specs.Found.{whole_links}
use Rattle.udf_tree_model.specs.Frame.{Frame, entry_at, tree_of}
use Rattle.udf_tree_model.specs.Refused.{Refusal, Strategy, ExtendedDescriptors, AttributeFile, RootDirectory, has_other_strategy, has_extended_descriptors, has_attribute_file, is_indirect, passes}
use Rattle.udf_found.specs.declared.beyond.Beyond.{Beyond}
use Rattle.udf_found.specs.Spot.{Spot, addresses}

abbrev pub nothing : Beyond
nothing = record { strategy = false; indirect = false; extended_descriptors = false; attribute_file = false }

abbrev pub only_indirect : Beyond
only_indirect = record { strategy = false; indirect = true; extended_descriptors = false; attribute_file = false }

abbrev pub beyond_of : Entry → Beyond
beyond_of e = record {
  strategy = has_other_strategy e;
  indirect = false;
  extended_descriptors = has_extended_descriptors e;
  attribute_file = has_attribute_file e;
}

abbrev pub without_links : Beyond → Beyond
without_links b = record {
  strategy = b.strategy;
  indirect = false;
  extended_descriptors = b.extended_descriptors;
  attribute_file = b.attribute_file;
}

abbrev pub joined : Beyond → Beyond → Beyond
joined x y = record {
  strategy = x.strategy || y.strategy;
  indirect = x.indirect || y.indirect;
  extended_descriptors = x.extended_descriptors || y.extended_descriptors;
  attribute_file = x.attribute_file || y.attribute_file;
}

-- the first item of it
abbrev pub item_of : Beyond → Option ProfileItem
item_of b =
    if b.strategy || b.indirect then Some item.Strategy
    else (if b.extended_descriptors then Some item.ExtendedDescriptors else (if b.attribute_file then Some item.AttributeFile else None))

-- a readable entry at one of the addresses passes a test
abbrev pub some_passes : Volume → (Entry → Bool) → List Addr → Bool
some_passes v test xs = list_any (λ a. passes test (entry_at v a)) xs

-- a link of one of these addresses leads to an indirect entry
abbrev pub leads_indirect : Frame → Volume → Addr → Bool
leads_indirect f v a = list_any (λ link. is_indirect v (target_of link.says)) (whole_links (tree_of f v) a)

-- what was seen of these entries, of all links of some addresses, and of the links to some targets beside
pub record IsBeyond (f : Frame) (v : Volume) (done targets : List Addr) (q : List Spot) (b : Beyond) : Type 0 where
  pub strategy : b.strategy ≡ some_passes v has_other_strategy (addresses q)
  pub indirect : b.indirect ≡ (list_any (leads_indirect f v) done || list_any (is_indirect v) targets)
  pub extended : b.extended_descriptors ≡ some_passes v has_extended_descriptors (addresses q)
  pub attributes : b.attribute_file ≡ some_passes v has_attribute_file (addresses q)

-- what stands at the file set's address is a file set descriptor (ECMA-167 4/14.1, identifier 256)
pub record HoldsFileSet (f : Frame) (v : Volume) : Type 0 where
  pub whole : (sector : ℕ) → v.place f.file_set ≡ Some sector → id_at f.file_set.block (v.disk sector) ≡ Some 256

-- a refusal of a volume for its entries, by the name that layers have for it; that of its root is another call's
abbrev pub of_entries : Option Refusal → Option Missing
of_entries None = None
of_entries (Some Strategy) = Some (missing.Profile item.Strategy)
of_entries (Some ExtendedDescriptors) = Some (missing.Profile item.ExtendedDescriptors)
of_entries (Some AttributeFile) = Some (missing.Profile item.AttributeFile)
of_entries (Some RootDirectory) = None

-- an answer comes where nothing is refused, and a refusal is that one; a fault and want of memory are told apart from it
abbrev pub IsAnswer : {T : Type 0} → Option Missing → Result T LayerStop → Type 0
IsAnswer o (Ok x) = o ≡ None
IsAnswer o (Err (stops.Missing reason)) = o ≡ Some reason
IsAnswer o (Err stops.Fault) = Unit {0}
IsAnswer o (Err stops.Memory) = Unit {0}

abbrev pub IsOfEntry : ProfileItem → Type 0
IsOfEntry item.Strategy = Unit {0}
IsOfEntry item.ExtendedDescriptors = Unit {0}
IsOfEntry item.AttributeFile = Unit {0}
IsOfEntry item.BlockSize = ⊥
IsOfEntry item.Domain = ⊥
IsOfEntry item.Revision = ⊥
IsOfEntry item.VolumePointer = ⊥
IsOfEntry item.PartitionMaps = ⊥
IsOfEntry item.Unbuilt = ⊥
IsOfEntry item.SpaceTables = ⊥
IsOfEntry item.IntegrityChain = ⊥
IsOfEntry item.FileSets = ⊥

-- a refusal for entries, or none
abbrev pub RefusesEntries : LayerStop → Type 0
RefusesEntries (stops.Missing missing.TooLarge) = ⊥
RefusesEntries (stops.Missing missing.Anchor) = ⊥
RefusesEntries (stops.Missing missing.Sequence) = ⊥
RefusesEntries (stops.Missing (missing.Profile item)) = IsOfEntry item
RefusesEntries (stops.Missing missing.Layout) = ⊥
RefusesEntries (stops.Missing missing.SparingTable) = ⊥
RefusesEntries (stops.Missing missing.FileSet) = ⊥
RefusesEntries (stops.Missing missing.RootDirectory) = ⊥
RefusesEntries (stops.Missing missing.WriteProtected) = ⊥
RefusesEntries stops.Fault = Unit {0}
RefusesEntries stops.Memory = Unit {0}
