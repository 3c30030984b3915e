-- What is known before the entries of a volume are surveyed, and the refusals that follow.
use Rattle.std.specs.Prelude.{◌≡◌, Bool, false, List, map, Option, Some, None}
use Rattle.udf_field.specs.declared.address.Addr.{Addr}
use Rattle.udf_layer.specs.declared.missing.ProfileItem.TheVariants as item
use Rattle.udf_layer.specs.declared.missing.Missing.{Missing}
use Rattle.udf_layer.specs.declared.missing.Missing.TheVariants as missing
use Rattle.udf_layer.specs.declared.missing.LayerStop.{LayerStop}
use Rattle.udf_layer.specs.declared.missing.LayerStop.TheVariants as stops
use Rattle.udf_file_model.specs.Listing.{Volume}
use Rattle.udf_tree_model.specs.Frame.{Frame, setting_of, tree_of}
use Rattle.udf_tree_model.specs.Parent.{ordinary}
use Rattle.udf_volume.specs.declared.site.FileSet.{FileSet}
use Rattle.udf_kept.specs.declared.entries.Entries.{Entries}
use Rattle.udf_kept.specs.Fitted.{AreSelected}
use Rattle.udf_held.specs.Held.{AreHeldOf}
use Rattle.udf_kept.specs.Keeping.{AreKept}
use Rattle.udf_tree_model.specs.Refused.{Refusal, Strategy, ExtendedDescriptors, AttributeFile, RootDirectory}
use Rattle.udf_found.specs.declared.shape.Shape.{Shape}
use Rattle.udf_held.specs.declared.standing.Standing.{Standing}
use Rattle.udf_found.specs.declared.starts.Starts.{Starts}
use Rattle.udf_volume.specs.declared.stretch.Stretch.{Stretch}
use Rattle.udf_found.specs.Begin.{HasStarts}
use Rattle.udf_found.specs.Beyond.{RefusesEntries}
use Rattle.udf_volume.specs.Fixed.{stretches_over}

-- the frame has these starts, this address after the file set, and these fixed addresses
pub record HasOutline (f : Frame) (s : Starts) (after : Addr) (fixed : List Stretch) : Type 0 where
  pub starts : HasStarts f s
  pub after_is : f.after ≡ after
  pub fixed_are : (a : Addr) → f.fixed a ≡ stretches_over fixed a

-- the frame is that of a file set
pub record HasFileSet (f : Frame) (files : FileSet) : Type 0 where
  pub file_set : f.file_set ≡ files.at
  pub root : f.root ≡ files.root
  pub system : f.system ≡ files.system
  pub after_is : f.after ≡ files.fixed.after
  pub fixed_are : (a : Addr) → f.fixed a ≡ stretches_over files.fixed.stretches a

-- what is found and kept, in the order of the found entries
pub record AreEntries (f : Frame) (v : Volume) (e : Entries) : Type 0 where
  pub held : AreHeldOf f v e.held.items
  pub selected : AreSelected (setting_of f v) (tree_of f v) e.held.items e.selected.items
  pub kept : AreKept (setting_of f v) (tree_of f v) e.held.items e.kept.items
  pub ordinary_are : e.ordinary.items ≡ map (λ h. ordinary f v h.at) e.held.items

-- a refusal of a volume by the name that layers have for it
abbrev pub missing_of : Option Refusal → Option Missing
missing_of None = None
missing_of (Some Strategy) = Some (missing.Profile item.Strategy)
missing_of (Some ExtendedDescriptors) = Some (missing.Profile item.ExtendedDescriptors)
missing_of (Some AttributeFile) = Some (missing.Profile item.AttributeFile)
missing_of (Some RootDirectory) = Some missing.RootDirectory

-- a refusal for entries or for the root, or none
abbrev pub RefusesFiles : LayerStop → Type 0
RefusesFiles (stops.Missing missing.RootDirectory) = Unit {0}
RefusesFiles (stops.Missing missing.TooLarge) = ⊥
RefusesFiles (stops.Missing missing.Anchor) = ⊥
RefusesFiles (stops.Missing missing.Sequence) = ⊥
RefusesFiles (stops.Missing (missing.Profile item)) = RefusesEntries (stops.Missing (missing.Profile item))
RefusesFiles (stops.Missing missing.Layout) = ⊥
RefusesFiles (stops.Missing missing.SparingTable) = ⊥
RefusesFiles (stops.Missing missing.FileSet) = ⊥
RefusesFiles (stops.Missing missing.WriteProtected) = ⊥
RefusesFiles stops.Fault = Unit {0}
RefusesFiles stops.Memory = Unit {0}

abbrev pub is_directory_shape : Option Shape → Bool
is_directory_shape None = false
is_directory_shape (Some s) = s.directory

abbrev pub is_sound_by : Option Standing → Bool
is_sound_by None = false
is_sound_by (Some x) = x.sound
