-- What each change of a file in memory keeps, so that it can be undone, and the moments that come of it.
use Rattle.std.specs.Prelude.{ℕ, ◌-◌, List, [], ◌∷◌, ◌++◌, length, take, replicate, reverse, option_to_list}
use Rattle.udf_outside.specs.Stops.{Content, Disk, Held, put}
use Rattle.udf_outside.specs.Ranges.{covers}
use Rattle.udf_outside.specs.declared.memory.range.Range.{Range}
use Rattle.udf_outside.specs.declared.bench.Role.{Role}
use Rattle.udf_outside.specs.declared.bench.Role.TheVariants.{Image, Side}
use Rattle.udf_outside.specs.declared.memory.part.Part.{Part}
use Rattle.udf_outside.specs.declared.memory.part.Part.TheVariants.{Zeros, Bytes}
use Rattle.udf_outside.specs.declared.memory.change.Undo.{Undo}
use Rattle.udf_outside.specs.declared.memory.change.Undo.TheVariants.{Write, Sync}
use Rattle.udf_outside.specs.declared.memory.change.Change.{Change}
use Rattle.udf_outside.specs.Tracked.{Tracked}

-- the bytes of a part of a file: zeros alone are held by their number
abbrev pub part_bytes : Part → List ℕ
part_bytes (Zeros n) = replicate n 0
part_bytes (Bytes bytes) = bytes.items

-- the ranges before the last of them was pushed, or took the place of a shorter one
abbrev pub ranges_before : List Range → Undo → List Range
ranges_before ranges (Write at overwritten len joined) = take (length ranges - 1) ranges ++ option_to_list joined
ranges_before ranges (Sync base before) = before.items

-- a file as it was before a change
unfoldable pub undone : Undo → Tracked → Tracked
undone (Write at overwritten len joined) file = record {
  bytes = take len (put file.bytes at (part_bytes overwritten));
  base = file.base;
  ranges = ranges_before file.ranges (Write at overwritten len joined);
}
undone (Sync base before) file = record { bytes = file.bytes; base = base; ranges = before.items }

unfoldable pub content_in : Tracked → Content
content_in file = record { bytes = file.bytes; base = file.base; pending = λ i. covers file.ranges i }

abbrev pub disk_in : Tracked → Tracked → Disk
disk_in image side = record { image = content_in image; side = content_in side }

abbrev pub one_of : Role → Tracked → Tracked → Tracked
one_of Image image side = image
one_of Side image side = side

abbrev pub undone_in : Role → Role → Undo → Tracked → Tracked
undone_in Image Image undo file = undone undo file
undone_in Side Side undo file = undone undo file
undone_in Image Side undo file = file
undone_in Side Image undo file = file

-- the disks before each of these changes, the latest change first
abbrev pub past_of : List Change → Tracked → Tracked → List Disk
past_of [] image side = []
past_of (change ∷ changes) image side =
    let image_before = undone_in Image change.role change.undo image in
    let side_before = undone_in Side change.role change.undo side in
    disk_in image_before side_before ∷ past_of changes image_before side_before

-- the files, and their changes, the earliest first
unfoldable pub held_of : List Change → Tracked → Tracked → Held
held_of changes image side = record { now = disk_in image side; past = past_of (reverse changes) image side }
