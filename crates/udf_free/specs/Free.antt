-- Which blocks of a base partition are free.
use Rattle.std.specs.Prelude.{◌≡◌, ℕ, ◌<◌, Bool, true, is_some, List, map}
use Rattle.std.specs.List.{range_with_len}
use Rattle.udf_file_model.specs.Address.{Places, addr}
use Rattle.udf_file_model.specs.Listing.{Volume}
use Rattle.udf_tree_model.specs.Claimed.{is_free}
use Rattle.udf_tree_model.specs.Frame.{Frame}

-- each of so many blocks of the base partition, at the reference 0, is placed
abbrev pub StandsWhole : Places → ℕ → Type 0
StandsWhole place blocks = (n : ℕ) → n < blocks → is_some (place (addr 0 n)) ≡ true

-- of each of so many blocks of the base partition whether it is free
unfoldable pub free_bits : Frame → Volume → ℕ → List Bool
free_bits f v blocks = map (λ n. is_free f v (addr 0 n)) (range_with_len 0 blocks)
