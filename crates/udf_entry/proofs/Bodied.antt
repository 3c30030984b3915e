-- The bodies of entries in their blocks.
use Rattle.std.proofs.Common.{◌≡◌, ◌+◌, ℕ, List, length, drop, arith}
use Rattle.std.proofs.lemmas.List.{length-take-le, length-drop}
use Rattle.udf_file_model.specs.Entry.{attribute_bytes, descriptor_bytes, body_of}
use Rattle.udf_entry.specs.Opened.{IsOpened}

-- a body has L_AD bytes
pub body_length : (header : ℕ) (block : List ℕ) → IsOpened header block → length (body_of header block) ≡ descriptor_bytes header block
unfolding body_of
body_length header block h =
    length-take-le (descriptor_bytes header block) (drop (header + attribute_bytes header block) block)
    (omega (arith, h.room, length-drop (header + attribute_bytes header block) block))
