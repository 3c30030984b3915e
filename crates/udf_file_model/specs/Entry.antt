-- File entries (ECMA-167 4/14.9), extended file entries (4/14.17) and allocation extent descriptors (4/14.5), as their blocks
-- state them.
use Rattle.std.specs.Prelude.{ℕ, Bool, ◌+◌, ◌-◌, ◌%◌, ◌==◌, ◌&&◌, ◌||◌, nat_lt, nat_le, if◌then◌else◌, Option, Some, None, List, length, take, drop, slice_index}
use Rattle.udf_model.specs.Bytes.{number_at}
use Rattle.udf_model.specs.Tag.{id_at, is_id}
use Rattle.udf_field.specs.declared.address.Long.{Long}
use Rattle.udf_field.specs.FieldView.{long_at}

-- the bytes of the header, up to the extended attributes: of a file entry (identifier 261), of an extended one (266)
abbrev pub header_of_id : ℕ → Option ℕ
header_of_id id = if id == 261 then Some 176 else (if id == 266 then Some 216 else None)

abbrev pub header_by : Option ℕ → Option ℕ
header_by None = None
header_by (Some id) = header_of_id id

-- 4/14.6.8: the flags of the ICB tag, whose three lowest bits are the kind of the allocation descriptors: 0 short, 1 long,
-- 2 extended, 3 embedded
abbrev pub flags_at : List ℕ → ℕ
flags_at block = number_at 2 block 34

abbrev pub kind_at : List ℕ → ℕ
kind_at block = flags_at block % 8

-- 4/14.9.19 and 20: the length of the extended attributes (L_EA) and of the allocation descriptors (L_AD) end the header
abbrev pub attribute_bytes : ℕ → List ℕ → ℕ
attribute_bytes header block = number_at 4 block (header - 8)

abbrev pub descriptor_bytes : ℕ → List ℕ → ℕ
descriptor_bytes header block = number_at 4 block (header - 4)

-- its kind is known, and header, attributes and descriptors fit the block
unfoldable pub fits : ℕ → List ℕ → Bool
fits header block = nat_lt (kind_at block) 4 && nat_le (header + attribute_bytes header block + descriptor_bytes header block) (length block)

abbrev pub fitting : List ℕ → Option ℕ → Option ℕ
fitting block None = None
fitting block (Some header) = if fits header block then Some header else None

-- the header's length of the readable entry in a block at a location, where there is one
unfoldable pub entry_header : ℕ → List ℕ → Option ℕ
entry_header location block = fitting block (header_by (id_at location block))

-- its allocation descriptors, or its embedded content
unfoldable pub body_of : ℕ → List ℕ → List ℕ
body_of header block = take (descriptor_bytes header block) (drop (header + attribute_bytes header block) block)

-- 4/14.6.2
abbrev pub strategy_at : List ℕ → ℕ
strategy_at block = number_at 2 block 20

-- 4/14.6.6
abbrev pub file_type_at : List ℕ → ℕ
file_type_at block = slice_index block 27

-- 4/14.9.6
abbrev pub links_at : List ℕ → ℕ
links_at block = number_at 2 block 48

-- 4/14.9.10
abbrev pub information_at : List ℕ → ℕ
information_at block = number_at 8 block 56

-- 4/14.9.18
abbrev pub unique_id_at : ℕ → List ℕ → ℕ
unique_id_at header block = number_at 8 block (header - 16)

-- 4/14.9.16 and 4/14.17.19
abbrev pub attributes_place : ℕ → ℕ
attributes_place header = if header == 216 then 136 else 112

-- 4/14.17.20: extended entries alone have a stream directory
abbrev pub stream_at : ℕ → List ℕ → Option Long
stream_at header block = if header == 216 then Some (long_at block 152) else None

-- what a readable entry states
pub record Entry : Type 0 where
  -- the length of its header: 176, or 216 of an extended entry
  pub header : ℕ
  pub file_type : ℕ
  pub strategy : ℕ
  pub flags : ℕ
  pub kind : ℕ
  pub links : ℕ
  -- the information length, in bytes
  pub information : ℕ
  pub id : ℕ
  -- the ICB of its extended attributes
  pub attributes : Long
  -- the ICB of its stream directory
  pub stream : Option Long
  -- its allocation descriptors, or its embedded content
  pub body : List ℕ

abbrev pub entry_in : ℕ → List ℕ → Entry
entry_in header block = record {
  header = header;
  file_type = file_type_at block;
  strategy = strategy_at block;
  flags = flags_at block;
  kind = kind_at block;
  links = links_at block;
  information = information_at block;
  id = unique_id_at header block;
  attributes = long_at block (attributes_place header);
  stream = stream_at header block;
  body = body_of header block;
}

abbrev pub entry_by : List ℕ → Option ℕ → Option Entry
entry_by block None = None
entry_by block (Some header) = Some (entry_in header block)

-- the readable entry in a block at a location
unfoldable pub entry_of : ℕ → List ℕ → Option Entry
entry_of location block = entry_by block (entry_header location block)

-- 4/14.6.6: a directory, or a stream directory
abbrev pub is_directory : Entry → Bool
is_directory e = (e.file_type == 4) || (e.file_type == 13)

-- the bytes of the descriptors of a whole allocation extent (identifier 258) in a block at a location
unfoldable pub extent_body : ℕ → List ℕ → Option (List ℕ)
extent_body location block =
    if is_id 258 (id_at location block) && nat_le (24 + number_at 4 block 20) (length block)
    then Some (take (number_at 4 block 20) (drop 24 block)) else None
