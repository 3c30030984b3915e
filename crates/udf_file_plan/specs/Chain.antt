-- The allocation extents through which a cut goes, one after another.
use Rattle.std.specs.Prelude.{ℕ, zero, suc, Option, Some, None, List, [], ◌∷◌, map}
use Rattle.udf_field.specs.declared.address.Addr.{Addr}
use Rattle.udf_file_model.specs.Content.{block_at}
use Rattle.udf_file_model.specs.Cut.{Onward, onward}
use Rattle.udf_file_model.specs.Descriptors.{Descriptor}
use Rattle.udf_file_model.specs.Listing.{Volume}
use Rattle.udf_file_mends.specs.Mends.{mended_extent}
use Rattle.udf_file_mends.specs.Spread.{Sited}

-- at most so many of them, from the first on; `at` gives the descriptors of the one at an address
unfoldable pub chain : (Addr → List Descriptor) → ℕ → Option Onward → List Onward
chain at zero o = []
chain at (suc n) None = []
chain at (suc n) (Some o) = o ∷ chain at n (onward o.left (at o.next))

-- the extent that is cut to what is left of it
abbrev pub extent_left : Volume → ℕ → Onward → Sited
extent_left v kind o = (o.next, mended_extent kind o.next (block_at v o.next) (Some o.left))

abbrev pub extents_left : Volume → ℕ → List Onward → List Sited
extents_left v kind os = map (extent_left v kind) os
