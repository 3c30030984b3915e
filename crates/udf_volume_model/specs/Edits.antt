-- Blocks put at sectors of an image. An edit is a sector and its block; of two edits at a sector the first counts.
use Rattle.std.specs.Prelude.{ℕ, Bool, not, ◌+◌, ◌*◌, ◌==◌, ◌&&◌, nat_lt, if◌then◌else◌, List, [], ◌∷◌, ◌++◌, length, take, drop}
use Rattle.std.specs.List.{list_all}

-- the block at a sector after these edits, where it was this one before
unfoldable pub look : ℕ → List (ℕ × List ℕ) → List ℕ → List ℕ
look n [] block = block
look n (edit ∷ edits) block = if n == edit.0 then edit.1 else look n edits block

unfoldable pub put_block : ℕ → ℕ → List ℕ → List ℕ → List ℕ
put_block size n block image = take (n * size) image ++ (block ++ drop (n * size + size) image)

unfoldable pub put_blocks : ℕ → List (ℕ × List ℕ) → List ℕ → List ℕ
put_blocks size [] image = image
put_blocks size (edit ∷ edits) image = put_block size edit.0 edit.1 (put_blocks size edits image)

-- whole blocks, at sectors below a count
unfoldable pub are_edits : ℕ → ℕ → List (ℕ × List ℕ) → Bool
are_edits size blocks edits = list_all (λ edit. (length edit.1 == size) && nat_lt edit.0 blocks) edits

-- none is at this sector
unfoldable pub is_off : ℕ → List (ℕ × List ℕ) → Bool
is_off n edits = list_all (λ edit. not (edit.0 == n)) edits
