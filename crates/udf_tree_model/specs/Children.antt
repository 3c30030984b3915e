-- The children of kept entries in their order: first child and next sibling.
use Rattle.std.specs.Prelude.{Bool, ◌&&◌, cond, if◌then◌else◌, List, [], ◌∷◌, ◌++◌, map, Option, Some, None}
use Rattle.std.specs.List.{filter}
use Rattle.udf_field.specs.declared.address.Addr.{Addr}
use Rattle.udf_file_model.specs.Address.{same_addr}
use Rattle.udf_file_model.specs.Listing.{Volume}
use Rattle.udf_tree_model.specs.Link.{Link, target_of}
use Rattle.udf_tree_model.specs.Node.{Setting, Tree}
use Rattle.udf_tree_model.specs.Chosen.{fitted, is_rank}
use Rattle.udf_tree_model.specs.Frame.{Frame, is_holder, setting_of, tree_of}
use Rattle.udf_tree_model.specs.Parent.{keeping, parent}

-- a link of a holder is the one that keeps its target
unfoldable pub keeps : Setting → Tree → Addr → Link → Bool
keeps s t d f = is_rank d f (keeping s t (target_of f.says))

-- what some links of a holder keep, in the order of the links
unfoldable pub kept_in : Setting → Tree → Addr → List Link → List Addr
kept_in s t d fs = map (λ f. target_of f.says) (filter (keeps s t d) fs)

-- what its fitted links keep: what the pointer keeps stands before what FIDs keep
unfoldable pub kept_under : Setting → Tree → Addr → List Addr
kept_under s t d = kept_in s t d (fitted s t d)

-- the system stream directory, if it is kept, is the last child of the root
unfoldable pub last_children : Frame → Volume → Addr → List Addr
last_children f v a =
    if same_addr a f.root && is_holder f v f.file_set then kept_under (setting_of f v) (tree_of f v) f.file_set else []

unfoldable pub children : Frame → Volume → Addr → List Addr
children f v a = kept_under (setting_of f v) (tree_of f v) a ++ last_children f v a

abbrev pub first_in : List Addr → Option Addr
first_in [] = None
first_in (x ∷ xs) = Some x

abbrev pub next_after : Addr → List Addr → Option Addr
next_after a [] = None
next_after a (x ∷ xs) = cond (same_addr x a) (first_in xs) (next_after a xs)

unfoldable pub first_child : Frame → Volume → Addr → Option Addr
first_child f v a = first_in (children f v a)

-- the root, which is its own parent and no child, has none
unfoldable pub next_sibling : Frame → Volume → Addr → Option Addr
next_sibling f v a = next_after a (children f v (parent f v a))
