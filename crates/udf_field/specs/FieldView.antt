-- Extents, allocation descriptors and entities, as the bytes at an offset state them.
use Rattle.std.specs.Prelude.{ℕ, Bool, ◌+◌, ◌-◌, ◌*◌, ◌/◌, ◌%◌, ◌^◌, List, ◌++◌, length, take, drop, replicate}
use Rattle.std.specs.Str.{bytes_eq}
use Rattle.byteorder.specs.Endian.{little_bytes}
use Rattle.udf_model.specs.Bytes.{number_at}
use Rattle.udf_field.specs.declared.address.Addr.{Addr}
use Rattle.udf_field.specs.declared.address.Span.{Span}
use Rattle.udf_field.specs.declared.address.Short.{Short}
use Rattle.udf_field.specs.declared.address.Long.{Long}

-- ECMA-167 3/7.1: the length, then the location
abbrev pub span_at : List ℕ → ℕ → Span
span_at bytes at = record { length = number_at 4 bytes at; start = number_at 4 bytes (at + 4) }

-- 4/14.14.1.1: the two highest bits of an allocation descriptor's length are its kind ..
abbrev pub kind_bits : ℕ → ℕ
kind_bits stored = stored / 2 ^ 30

-- .. and the others the length of the extent
abbrev pub length_bits : ℕ → ℕ
length_bits stored = stored % 2 ^ 30

-- 4/14.14.1: length and kind, then the block
abbrev pub short_at : List ℕ → ℕ → Short
short_at bytes at = record {
  kind = kind_bits (number_at 4 bytes at);
  length = length_bits (number_at 4 bytes at);
  block = number_at 4 bytes (at + 4);
}

-- 4/7.1: the block, then the partition reference
abbrev pub address_at : List ℕ → ℕ → Addr
address_at bytes at = record { part = number_at 2 bytes (at + 4); block = number_at 4 bytes at }

-- 4/14.14.2: length and kind, then the address
abbrev pub long_at : List ℕ → ℕ → Long
long_at bytes at = record {
  kind = kind_bits (number_at 4 bytes at);
  length = length_bits (number_at 4 bytes at);
  at = address_at bytes (at + 4);
}

-- 1/7.4: the 23 identifier bytes of an entity, which stand after its flags
unfoldable pub entity_name : List ℕ → ℕ → List ℕ
entity_name bytes at = take 23 (drop (at + 1) bytes)

-- a name padded with zeros to so many bytes; a longer one stays as it is
unfoldable pub padded : ℕ → List ℕ → List ℕ
padded many name = name ++ replicate (many - length name) 0

-- the entity at an offset has this name
unfoldable pub entity_is : List ℕ → ℕ → List ℕ → Bool
entity_is bytes at name = bytes_eq (entity_name bytes at) (padded 23 name)

-- kind and length in one number, as it is stored
abbrev pub stored_length : ℕ → ℕ → ℕ
stored_length kind bytes = kind * 2 ^ 30 + bytes

-- the bytes of an extent
unfoldable pub span_bytes : Span → List ℕ
span_bytes span = little_bytes 4 span.length ++ little_bytes 4 span.start

-- the bytes of a short allocation descriptor
unfoldable pub short_bytes : Short → List ℕ
short_bytes short = little_bytes 4 (stored_length short.kind short.length) ++ little_bytes 4 short.block

-- the bytes of a long allocation descriptor that come before its implementation use
unfoldable pub long_bytes : Long → List ℕ
long_bytes long =
    (little_bytes 4 (stored_length long.kind long.length) ++ little_bytes 4 long.at.block) ++ little_bytes 2 long.at.part
