-- A content over the blocks of descriptors, as far as it goes.
use Rattle.std.specs.Prelude.{ℕ, List, [], ◌∷◌, ◌++◌, length, take, drop}
use Rattle.udf_file_model.specs.Descriptors.{Descriptor}
use Rattle.udf_file_model.specs.Front.{blocks_for}
use Rattle.udf_file_model.specs.Listing.{Volume}
use Rattle.udf_file_mends.specs.Spread.{Sited, spread_from}

-- bytes over the blocks that they take, from one of a partition on
abbrev pub spread_at : Volume → ℕ → ℕ → List ℕ → List Sited
spread_at v part block bytes = spread_from v part block (blocks_for v.size (length bytes)) bytes

unfoldable pub spread_over : Volume → List Descriptor → List ℕ → List Sited
spread_over v [] content = []
spread_over v (d ∷ ds) content = spread_at v d.at.part d.at.block (take d.length content) ++ spread_over v ds (drop d.length content)
