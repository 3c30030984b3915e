-- The pieces of a list, by its allocation extents and its descriptors in order: each descriptor says what holds it.
use Rattle.std.specs.Prelude.{cond, List, [], ◌∷◌, ◌++◌, map}
use Rattle.udf_field.specs.declared.address.Addr.{Addr}
use Rattle.udf_file_model.specs.Address.{same_addr}
use Rattle.udf_file_model.specs.Descriptors.{Descriptor}
use Rattle.udf_file_model.specs.Pieces.{Blocks, Extent, Piece}

-- those up to an address, with it, and those after it
unfoldable pub extents_until : Addr → List Addr → List Addr
extents_until h [] = []
extents_until h (x ∷ xs) = x ∷ cond (same_addr h x) [] (extents_until h xs)

unfoldable pub extents_after : Addr → List Addr → List Addr
extents_after h [] = []
extents_after h (x ∷ xs) = cond (same_addr h x) xs (extents_after h xs)

-- after what the address holds, the allocation extents up to that which holds the next descriptor
unfoldable pub merged : Addr → List Addr → List Descriptor → List Piece
merged h xs [] = map Extent xs
merged h xs (d ∷ ds) =
    cond (same_addr d.holder h) (Blocks d ∷ merged h xs ds) (map Extent (extents_until d.holder xs) ++ Blocks d ∷ merged d.holder (extents_after d.holder xs) ds)
