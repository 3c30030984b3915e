-- First children and next siblings by the indexes of found entries.
use Rattle.std.specs.Prelude.{◌≡◌, ℕ, Bool, false, ◌&&◌, find, get_or, nat_eq, nat_lt, option_map, List, Option, Some, None}
use Rattle.std.specs.List.{filter}
use Rattle.udf_field.specs.declared.address.Addr.{Addr}
use Rattle.udf_file_model.specs.Address.{same_addr}
use Rattle.udf_file_model.specs.Listing.{Volume}
use Rattle.udf_tree_model.specs.Children.{first_child, next_sibling}
use Rattle.udf_tree_model.specs.Frame.{Frame}
use Rattle.udf_tree.specs.declared.children.Kin.{Kin}
use Rattle.udf_kept.specs.declared.fitted.Choice.{Choice}
use Rattle.udf_kept.specs.declared.fitted.Fitted.{Fitted}
use Rattle.udf_kept.specs.declared.keeping.Keeping.{Keeping}
use Rattle.udf_tree.specs.Survey.{named_by}

-- a link is that at a place of the entry at an index
abbrev pub is_choice : ℕ → ℕ → Option Choice → Bool
is_choice i place None = false
is_choice i place (Some c) = nat_eq c.holder i && nat_eq c.place place

abbrev pub is_kept_by : ℕ → ℕ → Option Keeping → Bool
is_kept_by i place None = false
is_kept_by i place (Some k) = is_choice i place k.by

-- a fitted link of the entry at an index is the one that keeps what it leads to
abbrev pub keeps_seen : List (Option Keeping) → ℕ → Fitted → Bool
keeps_seen ks i x = is_kept_by i x.place (get_or ks x.to None)

-- the index of what the first of some links of the entry at an index keeps
abbrev pub first_seen : List (Option Keeping) → ℕ → List Fitted → Option ℕ
first_seen ks i xs = option_map (λ x. x.to) (find (keeps_seen ks i) xs)

-- the links beyond a place
abbrev pub links_beyond : ℕ → List Fitted → List Fitted
links_beyond place xs = filter (λ x. nat_lt place x.place) xs

abbrev pub is_root_by : Addr → Option Addr → Bool
is_root_by root None = false
is_root_by root (Some a) = same_addr a root

-- the first child of the kept entry at an address, and its next sibling, where numbers name these addresses
abbrev pub child_by : Frame → Volume → Option Addr → Option (Option Addr)
child_by f v None = None
child_by f v (Some a) = option_map Some (first_child f v a)

abbrev pub sibling_by : Frame → Volume → Option Addr → Option (Option Addr)
sibling_by f v None = None
sibling_by f v (Some a) = option_map Some (next_sibling f v a)

pub record IsKin (f : Frame) (v : Volume) (numbers : List Addr) (a : Addr) (k : Kin) : Type 0 where
  pub first_is : named_by numbers k.first_child ≡ child_by f v (Some a)
  pub next_is : named_by numbers k.next_sibling ≡ sibling_by f v (Some a)
