-- The redo log, a file beside the image. It holds the gate, one byte that is 0x4F where the log is open, and the name; then,
-- each a number of four bytes with the lowest first, the block size (at 9), the blocks of the image (13), the first sealed
-- sector (17) and the number of sealed sectors (21); the digest of the sealed sectors (25), the number of records (57), and
-- from 61 on the records, each of a sector and one block of bytes. Bytes after the last record are no part of it.
use Rattle.std.specs.Prelude.{ℕ, zero, suc, ◌+◌, ◌*◌, ◌==◌, ◌&&◌, ◌||◌, nat_le, nat_lt, if◌then◌else◌, Bool, true, List, [], ◌∷◌, ◌++◌, length, drop, slice_index, Result, Ok, Err}
use Rattle.std.specs.Str.{bytes_eq}
use Rattle.byteorder.specs.Endian.{little_bytes}
use Rattle.sha2.specs.Sha256.{sha256}
use Rattle.udf_model.specs.Size.{is_size}
use Rattle.udf_model.specs.Bytes.{number_at}
use Rattle.udf_model.specs.Image.{blocks_in}
use Rattle.udf_outside.specs.Stops.{slice_of}
use Rattle.udf_redo.specs.declared.head.LogHead.{LogHead}
use Rattle.udf_redo.specs.declared.side.SideState.{SideState}
use Rattle.udf_redo.specs.declared.side.SideState.TheVariants.{Empty, Closed, Open}
use Rattle.udf_redo.specs.declared.stop.RedoStop.{RedoStop}
use Rattle.udf_redo.specs.declared.stop.RedoStop.TheVariants.{NotALog, BadLog}

-- a sector and its bytes
abbrev pub Edit : Type 0
Edit = ℕ × List ℕ

-- UDFREDO1
abbrev pub name : List ℕ
name = 0x55 ∷ 0x44 ∷ 0x46 ∷ 0x52 ∷ 0x45 ∷ 0x44 ∷ 0x4F ∷ 0x31 ∷ []

abbrev pub gate : List ℕ → ℕ
gate file = slice_index file 0

-- what stands before the records
abbrev pub head_in : List ℕ → LogHead
head_in file = record {
  size = number_at 4 file 9;
  blocks = number_at 4 file 13;
  first = number_at 4 file 17;
  sealed = number_at 4 file 21;
  seal = slice_of file 25 32;
  records = number_at 4 file 57;
}

-- the records of a block size that begin these bytes
unfoldable pub records_in : ℕ → ℕ → List ℕ → List Edit
records_in size zero bytes = []
records_in size (suc count) bytes = (number_at 4 bytes 0, slice_of bytes 4 size) ∷ records_in size count (drop (4 + size) bytes)

abbrev pub records_of : List ℕ → List Edit
records_of file = records_in (head_in file).size (head_in file).records (drop 61 file)

-- one of the four block sizes, at least one sealed sector, all of them below the block count, and at least one record
unfoldable pub is_head : LogHead → Bool
is_head head = is_size head.size && (nat_lt 0 head.sealed && (nat_le (head.first + head.sealed) head.blocks && nat_lt 0 head.records))

-- the sector of a record: at least this one, below the block count, and not sealed
unfoldable pub may_stand : LogHead → ℕ → ℕ → Bool
may_stand head least sector = nat_le least sector && (nat_lt sector head.blocks && (nat_lt sector head.first || nat_le (head.first + head.sealed) sector))

-- the sectors of the records ascend strictly, from this one on
unfoldable pub are_lawful : LogHead → ℕ → List Edit → Bool
are_lawful head least [] = true
are_lawful head least (edit ∷ rest) = may_stand head least edit.0 && are_lawful head (edit.0 + 1) rest

-- the bytes of the log
abbrev pub log_length : LogHead → ℕ
log_length head = 61 + head.records * (4 + head.size)

-- in the grammar, gate and name aside
unfoldable pub is_log : List ℕ → Bool
is_log file = is_head (head_in file) && (nat_le (log_length (head_in file)) (length file) && are_lawful (head_in file) 0 (records_of file))

-- what a file with an open gate is
unfoldable pub open_answer : List ℕ → Result SideState RedoStop
open_answer file = if is_log file then Ok (Open (head_in file)) else Err BadLog

-- What a side file is. One of at most nine bytes is empty whatever it holds.
unfoldable pub state_of : List ℕ → Result SideState RedoStop
state_of file =
    if nat_le (length file) 9 then Ok Empty
    else if bytes_eq (slice_of file 1 8) name then
    (if gate file == 0x4F then open_answer file else Ok Closed)
    else Err NotALog

-- the bytes of the sealed sectors, and their digest
unfoldable pub sealed_in : LogHead → List ℕ → List ℕ
sealed_in head image = slice_of image (head.first * head.size) (head.sealed * head.size)

abbrev pub seal_of : LogHead → List ℕ → List ℕ
seal_of head image = sha256 (sealed_in head image)

-- the block count and the seal are those of this image
unfoldable pub is_log_of : LogHead → List ℕ → Bool
is_log_of head image = (blocks_in head.size image == head.blocks) && bytes_eq (seal_of head image) head.seal

-- the file with its gate open, and closed
abbrev pub opened : List ℕ → List ℕ
opened side = 0x4F ∷ drop 1 side

abbrev pub closed : List ℕ → List ℕ
closed side = 0 ∷ drop 1 side

-- how a head and a record are written
unfoldable pub head_bytes : LogHead → List ℕ
head_bytes head = little_bytes 4 head.size ++ (little_bytes 4 head.blocks ++ (little_bytes 4 head.first ++ (little_bytes 4 head.sealed ++ (head.seal ++ little_bytes 4 head.records))))

unfoldable pub record_bytes : Edit → List ℕ
record_bytes edit = little_bytes 4 edit.0 ++ edit.1
