-- An image is a list of bytes, cut into blocks (ECMA-167 part 3: logical sectors).
use Rattle.std.specs.Prelude.{ℕ, Bool, ◌*◌, ◌/◌, ◌==◌, List, length, take, drop}
use Rattle.std.specs.List.{list_all}

-- block n at a block size
unfoldable pub block_of : ℕ → List ℕ → ℕ → List ℕ
block_of size image n = take size (drop (n * size) image)

-- the number of whole blocks; a trailing part block is in none
abbrev pub blocks_in : ℕ → List ℕ → ℕ
blocks_in size image = length image / size

unfoldable pub is_zeros : List ℕ → Bool
is_zeros block = list_all (λ byte. byte == 0) block
