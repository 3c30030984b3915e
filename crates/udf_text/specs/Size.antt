-- What the length of an encoded name depends on.
use Rattle.std.specs.Prelude.{ℕ, List, length, not}
use Rattle.std.specs.List.{flat_map}
use Rattle.std.specs.Char.Escape.{encode_utf16}
use Rattle.udf_text.specs.Compressed.{is_narrow}
use Rattle.udf_text.specs.declared.size.Size.{Size}

-- how many 16-bit units the characters are, and whether one of them is above U+00FF
unfoldable pub size_of : List ℕ → Size
size_of characters = record {
  units = length (flat_map encode_utf16 characters);
  wide = not (is_narrow characters);
}
