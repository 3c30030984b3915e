-- What an integrity descriptor is to state, and what is found of it, as the code has it.
use Rattle.std.specs.Prelude.{◌≡◌, ◌+◌, ◌&&◌, ◌||◌, ◌==◌, ℕ, Bool, true, false, nat_le, nat_lt, max, if◌then◌else◌, List, [], ◌∷◌, Option, Some, None, option_map}
use Rattle.udf_field.specs.declared.address.Short.{Short}
use Rattle.udf_model.specs.Image.{block_of}
use Rattle.udf_file_model.specs.Listing as listing
use Rattle.udf_tree_model.specs.Frame.{Frame}
use Rattle.udf_tree_model.specs.Ordinary.{files_named}
use Rattle.udf_volume.specs.declared.volume.Volume.{Volume}
use Rattle.udf_integrity.specs.declared.descriptor.Integrity.{Integrity}
use Rattle.udf_rules.specs.declared.finding.Finding.{Finding}
use Rattle.udf_rules.specs.declared.finding.Place.TheVariants.{Sector}
use Rattle.udf_rules_model.specs.Bitmap.{free_blocks}
use Rattle.udf_rules_model.specs.Integrity.{prevailing_integrity}
use Rattle.udf_field.specs.declared.address.Span.{Span}
use Rattle.udf_file_rules.specs.declared.right.Right.{Right}
use Rattle.udf_file_rules.specs.Tallied.{IsTally}

abbrev pub free_by : Option ℕ → ℕ → Bool
free_by None stated = true
free_by (Some free) stated = stated == free

abbrev pub is_formed_by : Integrity → Bool
is_formed_by i = (i.partitions == 1) && nat_le 46 i.use_length

abbrev pub is_next : Right → ℕ → Bool
is_next r id = nat_le 16 id && nat_lt r.tally.greatest_id id

-- the descriptor is closed, and all that it counts is right
abbrev pub is_right : Right → Integrity → Bool
is_right r i =
    (i.kind == 1)
    && (is_formed_by i
    && (free_by r.free i.free
    && ((i.blocks == r.blocks)
    && (is_next r i.next_id
    && (((i.files == r.tally.files) || (i.files == r.files_named)) && (i.directories == r.tally.directories))))))

abbrev pub least_by : Right → ℕ
least_by r = max 16 (r.tally.greatest_id + 1)

-- the next identifier after the mend
abbrev pub next_id_by : Right → Integrity → ℕ
next_id_by r i = if is_formed_by i && is_next r i.next_id then i.next_id else least_by r

abbrev pub found_with : ℕ → ℕ → ℕ → Finding
found_with sector first second = record { rule = 13; place = Sector sector; first = first; second = second }

abbrev pub list_of : Option Finding → List Finding
list_of None = []
list_of (Some finding) = finding ∷ []

-- the free blocks of a volume, where it has a bitmap
abbrev pub IsFreeCount : Frame → listing.Volume → ℕ → Option Short → ℕ → Type 0
IsFreeCount f v blocks None free = Unit {0}
IsFreeCount f v blocks (Some bitmap) free = free ≡ free_blocks f v blocks

-- the blocks of a volume are those of its image
pub record IsOfImage (volume : Volume) (image : List ℕ) (v : listing.Volume) : Type 0 where
  pub size : v.size ≡ volume.size
  pub disk : v.disk ≡ block_of volume.size image

-- it is what a descriptor of these files is to state
pub record IsRight (f : Frame) (v : listing.Volume) (blocks : ℕ) (bitmap : Option Short) (r : Right) : Type 0 where
  pub tally : IsTally f v r.tally
  pub named : r.files_named ≡ files_named f v
  pub free : r.free ≡ option_map (λ b. free_blocks f v blocks) bitmap
  pub blocks_are : r.blocks ≡ blocks

-- this descriptor prevails in an extent that has a length and begins there, and its block holds it
pub record Prevails (v : listing.Volume) (extent : Span) (first : ℕ) (prevailing : Option ℕ) (block : List ℕ) : Type 0 where
  pub binds : (extent.length == 0) ≡ false
  pub begins : first ≡ extent.start
  pub prevails : prevailing ≡ prevailing_integrity v.size v.disk extent
  pub there : (sector : ℕ) → prevailing ≡ Some sector → block ≡ v.disk sector
