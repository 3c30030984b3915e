-- What `file_set` answers.
use Rattle.std.specs.Prelude.{◌≡◌, ◌+◌, ◌&&◌, ◌||◌, ℕ, Bool, false, true, List, Option, Some, None, Result, Ok, Err}
use Rattle.udf_field.specs.declared.address.Addr.{Addr}
use Rattle.udf_field.specs.declared.address.Short.{Short}
use Rattle.udf_model.specs.Tag.{id_at}
use Rattle.udf_volume_model.specs.Anchor.{blocks_for}
use Rattle.udf_volume_model.specs.FileSet.{Site, Refusal, FileSet, FileSets, address, after, first_block, has_file_set, is_clear, is_fixed, is_guarded_in, names_further, refusal, root_in, stretch_has, system_in}
use Rattle.udf_layer.specs.declared.missing.Missing.{Missing}
use Rattle.udf_layer.specs.declared.missing.Missing.TheVariants as missing
use Rattle.udf_layer.specs.declared.missing.ProfileItem.TheVariants as item
use Rattle.udf_layer.specs.declared.missing.LayerStop.{LayerStop}
use Rattle.udf_layer.specs.declared.missing.LayerStop.TheVariants as stops
use Rattle.udf_volume.specs.declared.site.FileSet.{FileSet as FoundFileSet}
use Rattle.udf_volume.specs.declared.site.Head.{Head}
use Rattle.udf_volume.specs.declared.stretch.Stretch.{Stretch}
use Rattle.udf_volume.specs.declared.volume.Volume.{Volume}
use Rattle.udf_volume.specs.Fixed.{FixedAddresses, in_stretch, stretches_over}

-- where the file set of a volume lies
abbrev pub site_of : Volume → (ℕ → List ℕ) → (Addr → Option ℕ) → (Addr → Bool) → Site
site_of volume disk place inner = record {
  size = volume.size;
  disk = disk;
  place = place;
  inner = inner;
  base = volume.shape.base;
  bitmap = volume.bitmap;
  extent = volume.file_set;
}

-- a refusal by the name that layers have for it
abbrev pub missing_of : Option Refusal → Option Missing
missing_of None = None
missing_of (Some FileSet) = Some missing.FileSet
missing_of (Some FileSets) = Some (missing.Profile item.FileSets)

-- the fields that these bytes state
pub record IsHead (bytes : List ℕ) (h : Head) : Type 0 where
  pub root : h.root ≡ root_in bytes
  pub system : h.system ≡ system_in bytes
  pub guarded : h.guarded ≡ is_guarded_in bytes
  pub further : h.further ≡ names_further bytes

-- what the first block of the extent states, where a file set stands there
abbrev pub HeadsBy : Site → Option Head → Type 0
HeadsBy s None = has_file_set s ≡ false
HeadsBy s (Some h) = (has_file_set s ≡ true) × IsHead (first_block s) h

-- the blocks of the extent of a volume's file set
abbrev pub extent_stated : Volume → Stretch
extent_stated volume = record { at = volume.file_set.at; blocks = blocks_for volume.size volume.file_set.length }

-- the blocks of the extent of its bitmap
abbrev pub bitmap_by : ℕ → ℕ → Option Short → Option Stretch
bitmap_by size base None = None
bitmap_by size base (Some bitmap) = Some (record { at = address base bitmap.block; blocks = blocks_for size bitmap.length })

abbrev pub bitmap_stated : Volume → Option Stretch
bitmap_stated volume = bitmap_by volume.size volume.shape.base volume.bitmap

-- the address after the blocks of the extent
abbrev pub after_stated : Volume → Addr
after_stated volume = address volume.file_set.at.part (volume.file_set.at.block + blocks_for volume.size volume.file_set.length)

-- the addresses that no file may take, and the one after the extent
pub record AreFixed (s : Site) (f : FixedAddresses) : Type 0 where
  pub after_is : f.after ≡ after s
  pub fixed_are : (a : Addr) → stretches_over f.stretches a ≡ is_fixed s a

-- what holds of all fixed addresses, also over a bench that tells nothing: those of both extents, and the one after that of the
-- file set where `ended` is true
pub record AreTaken (volume : Volume) (f : FixedAddresses) : Type 0 where
  pub after_is : f.after ≡ after_stated volume
  pub ended : Bool
  pub taken_are : (a : Addr) → stretches_over f.stretches a
      ≡ (in_stretch (bitmap_stated volume) a || (in_stretch (Some (extent_stated volume)) a || (stretch_has (after_stated volume) 1 a && ended)))

-- what holds of every file set, also over a bench that tells nothing
pub record IsTakenFileSet (volume : Volume) (place : Addr → Option ℕ) (inner : Addr → Bool) (f : FoundFileSet) : Type 0 where
  pub at : f.at ≡ volume.file_set.at
  pub clear : (disk : ℕ → List ℕ) → is_clear (site_of volume disk place inner) ≡ true
  pub taken : AreTaken volume f.fixed

-- the file set of a site
pub record IsFileSet (s : Site) (f : FoundFileSet) : Type 0 where
  pub at : f.at ≡ s.extent.at
  pub root : f.root ≡ root_in (first_block s)
  pub system : f.system ≡ system_in (first_block s)
  pub guarded : f.guarded ≡ is_guarded_in (first_block s)
  pub fixed : AreFixed s f.fixed
  -- the block at its address holds it
  pub whole : (sector : ℕ) → s.place s.extent.at ≡ Some sector → id_at s.extent.at.block (s.disk sector) ≡ Some 256

-- the answer is the first refusal that applies, or the file set, unless a fault or want of memory came
abbrev pub FindsFileSet : Site → Result FoundFileSet LayerStop → Type 0
FindsFileSet s (Ok f) = (refusal s ≡ None) × IsFileSet s f
FindsFileSet s (Err (stops.Missing reason)) = missing_of (refusal s) ≡ Some reason
FindsFileSet s (Err stops.Fault) = Unit {0}
FindsFileSet s (Err stops.Memory) = Unit {0}
