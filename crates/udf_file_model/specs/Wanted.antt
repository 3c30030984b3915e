-- An entry's block that states wanted values. What sets one of them wants the others as they are.
use Rattle.std.specs.Prelude.{◌≡◌, ℕ, Bool, true, false, ◌+◌, ◌-◌, ◌^◌, ◌<◌, ◌≤◌, ◌==◌, if◌then◌else◌, Option, Some, None, List, [], ◌∷◌, length}
use Rattle.udf_field.specs.declared.address.Long.{Long}
use Rattle.udf_model.specs.Bytes.{IsBytes, number_at, with_number, written_at}
use Rattle.udf_model.specs.Tag.{retagged}
use Rattle.udf_file_model.specs.Address.{addr}
use Rattle.udf_file_model.specs.Entry.{Entry, entry_header, attribute_bytes, descriptor_bytes, body_of, information_at, links_at, unique_id_at}

-- a number of so many bytes that is set at an offset
pub record Field : Type 0 where
  pub width : ℕ
  pub at : ℕ
  pub value : ℕ

abbrev pub field : ℕ → ℕ → ℕ → Field
field width at value = record { width = width; at = at; value = value }

-- the first field is set last
unfoldable pub with_fields : List Field → List ℕ → List ℕ
with_fields [] block = block
with_fields (f ∷ fs) block = with_number f.width f.at f.value (with_fields fs block)

-- what is wanted of an entry
pub record Wanted : Type 0 where
  -- the information length, and the object size of an extended entry
  pub information : ℕ
  pub object_size : ℕ
  pub links : ℕ
  pub id : ℕ
  -- an extended entry has no stream directory from now on
  pub clear : Bool
  -- its descriptors or its content from now on; what follows them in the block stays
  pub body : List ℕ

-- 4/14.17.20: the sixteen bytes of the stream directory's ICB
abbrev pub cleared : Bool → List Field
cleared clear = if clear then field 4 152 0 ∷ field 4 156 0 ∷ field 4 160 0 ∷ field 4 164 0 ∷ [] else []

-- L_AD, link count, information length and unique identifier; of an extended entry the object size (4/14.17.11) too
unfoldable pub fields_of : ℕ → Wanted → List Field
fields_of header w =
    field 4 (header - 4) (length w.body) ∷ field 2 48 w.links ∷ field 8 56 w.information ∷ field 8 (header - 16) w.id
    ∷ (if header == 216 then field 8 64 w.object_size ∷ cleared w.clear else [])

-- where the body begins
abbrev pub base_of : ℕ → List ℕ → ℕ
base_of header block = header + attribute_bytes header block

unfoldable pub body_with : ℕ → Wanted → List ℕ → List ℕ
body_with header w block = written_at (base_of header block) w.body (with_fields (fields_of header w) block)

-- the block with the wanted values, and a new tag whose CRC covers header, attributes and body
unfoldable pub entry_with : ℕ → ℕ → Wanted → List ℕ → List ℕ
entry_with location header w block = retagged location (base_of header block + length w.body - 16) (body_with header w block)

-- the values that an entry has
abbrev pub own : ℕ → List ℕ → Wanted
own header block = record {
  information = information_at block;
  object_size = number_at 8 block 64;
  links = links_at block;
  id = unique_id_at header block;
  clear = false;
  body = body_of header block;
}

-- an ICB that names nothing
abbrev pub nowhere : Long
nowhere = record { kind = 0; length = 0; at = addr 0 0 }

abbrev pub stream_left : Bool → Option Long → Option Long
stream_left true (Some stream) = Some nowhere
stream_left true None = None
stream_left false stream = stream

-- the entry with the wanted values
abbrev pub mended : Wanted → Entry → Entry
mended w e = record {
  header = e.header;
  file_type = e.file_type;
  strategy = e.strategy;
  flags = e.flags;
  kind = e.kind;
  links = w.links;
  information = w.information;
  id = w.id;
  attributes = e.attributes;
  stream = stream_left w.clear e.stream;
  body = w.body;
}

-- an entry with another link count, with another identifier, and without a stream directory
abbrev pub entry_linked : ℕ → Entry → Entry
entry_linked n e = record e { links = n }

abbrev pub entry_identified : ℕ → Entry → Entry
entry_identified n e = record e { id = n }

abbrev pub entry_streamless : Entry → Entry
entry_streamless e = record e { stream = stream_left true e.stream }

-- the wanted values fit the entry with this header
pub record Fits (header : ℕ) (w : Wanted) (block : List ℕ) : Type 0 where
  pub information : w.information < 256 ^ 8
  pub object_size : w.object_size < 256 ^ 8
  pub links : w.links < 256 ^ 2
  pub id : w.id < 256 ^ 8
  pub bytes : IsBytes w.body
  pub body : length w.body ≤ descriptor_bytes header block

abbrev pub with_links : ℕ → Wanted → Wanted
with_links n w = record w { links = n }

abbrev pub with_id : ℕ → Wanted → Wanted
with_id n w = record w { id = n }

abbrev pub with_no_stream : Wanted → Wanted
with_no_stream w = record w { clear = true }

-- cut to so many bytes, with what is left of the body
abbrev pub with_cut : ℕ → List ℕ → Wanted → Wanted
with_cut bytes body w = record w { information = bytes; object_size = bytes; body = body }

-- the block of a readable entry with this header, at a location
pub record HasEntry (location header : ℕ) (block : List ℕ) : Type 0 where
  pub bytes : IsBytes block
  pub least : 512 ≤ length block
  pub most : length block ≤ 4096
  pub low : location < 2 ^ 32
  pub readable : entry_header location block ≡ Some header
