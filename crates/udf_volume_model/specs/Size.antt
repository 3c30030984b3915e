-- The block size of an image: the one that is given, or else the one that is found.
use Rattle.std.specs.Prelude.{ℕ, Bool, ◌&&◌, nat_lt, Option, Some, None, List}
use Rattle.std.specs.List.{find}
use Rattle.udf_model.specs.Image.{block_of, blocks_in}
use Rattle.udf_model.specs.Size.{sizes}
use Rattle.udf_model.specs.Tag.{id_at, is_id}

-- block 256 at this block size is in the image, and whole there with the identifier of an anchor (ECMA-167 3/8.4.2.1, 3/10.2)
unfoldable pub has_size : List ℕ → ℕ → Bool
has_size image size = nat_lt 256 (blocks_in size image) && is_id 2 (id_at 256 (block_of size image 256))

-- the first of the four block sizes with such a block
unfoldable pub found_size : List ℕ → Option ℕ
found_size image = find (has_size image) sizes

abbrev pub size_of : Option ℕ → List ℕ → Option ℕ
size_of (Some size) image = Some size
size_of None image = found_size image
