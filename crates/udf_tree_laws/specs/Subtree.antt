-- A kept entry and what stands under it.
use Rattle.std.specs.Prelude.{ℕ, zero, suc, List, [], ◌∷◌}
use Rattle.std.specs.List.{flat_map}
use Rattle.udf_field.specs.declared.address.Addr.{Addr}
use Rattle.udf_file_model.specs.Listing.{Volume}
use Rattle.udf_tree_model.specs.Children.{children}
use Rattle.udf_tree_model.specs.Frame.{Frame}

-- so many generations: an entry, then the subtrees of its children in their order
unfoldable pub subtree : Frame → Volume → ℕ → Addr → List Addr
subtree f v zero a = []
subtree f v (suc k) a = a ∷ flat_map (subtree f v k) (children f v a)
