-- Which links of sound entries are kept: the first of a name; to a directory the first of all; and what fits.
use Rattle.std.specs.Prelude.{ℕ, ◌-◌, Bool, false, not, ◌&&◌, ◌||◌, cond, nat_eq, nat_lt, nat_le, List, [], ◌∷◌, ◌++◌, map, Option, Some, None}
use Rattle.std.specs.List.{list_any, filter}
use Rattle.std.specs.Str.{bytes_eq}
use Rattle.udf_field.specs.declared.address.Addr.{Addr}
use Rattle.udf_file_model.specs.Address.{same_addr}
use Rattle.udf_tree_model.specs.Link.{Link, target_of, name_of, room_of, is_pointer}
use Rattle.udf_tree_model.specs.Node.{Tree, Setting, node_at}
use Rattle.udf_tree_model.specs.Found.{leads_to, level}
use Rattle.udf_tree_model.specs.Won.{kept_length, sound, kept_links}

-- the links whose name none before has, where these names came before
unfoldable pub first_of_names : List (List ℕ) → List Link → List Link
first_of_names seen [] = []
first_of_names seen (f ∷ fs) =
    cond (list_any (bytes_eq (name_of f.says)) seen) (first_of_names seen fs) (f ∷ first_of_names (name_of f.says ∷ seen) fs)

-- the links of the kept content with names that no earlier one has
unfoldable pub named : Setting → Tree → Addr → List Link
named s t d = first_of_names [] (kept_links s t d)

-- what decides between links to one directory: the level and the address of the holder, and the place in it
pub record Rank : Type 0 where
  pub level : ℕ
  pub holder : Addr
  pub place : ℕ

abbrev pub is_lower : Addr → Addr → Bool
is_lower a b = nat_lt a.part b.part || (nat_eq a.part b.part && nat_lt a.block b.block)

unfoldable pub comes_before : Rank → Rank → Bool
comes_before x y =
    nat_lt x.level y.level
    || (nat_eq x.level y.level && (is_lower x.holder y.holder || (same_addr x.holder y.holder && nat_lt x.place y.place)))

abbrev pub first_of : Rank → Option Rank → Rank
first_of x None = x
first_of x (Some y) = cond (comes_before y x) y x

-- the one that comes before all others
unfoldable pub first_rank : List Rank → Option Rank
first_rank [] = None
first_rank (x ∷ xs) = Some (first_of x (first_rank xs))

unfoldable pub rank_of : Setting → Tree → Addr → Link → Rank
rank_of s t d f = record { level = level s t d; holder = d; place = f.place }

-- the ranks of the named links by which a sound entry leads to an address
unfoldable pub ranks_in : Setting → Tree → Addr → Addr → List Rank
ranks_in s t a d = cond (sound s t d) (map (rank_of s t d) (filter (leads_to a) (named s t d))) []

unfoldable pub ranks_over : Setting → Tree → Addr → List Addr → List Rank
ranks_over s t a [] = []
ranks_over s t a (d ∷ ds) = ranks_in s t a d ++ ranks_over s t a ds

-- the chosen link to an address: the first of all named links of sound entries that lead to it
unfoldable pub chosen : Setting → Tree → Addr → Option Rank
chosen s t a = first_rank (ranks_over s t a s.places)

-- the chosen link to what is no start: a start has none, whatever leads to it
unfoldable pub chosen_link : Setting → Tree → Addr → Option Rank
chosen_link s t a = cond (s.start a) None (chosen s t a)

abbrev pub is_rank : Addr → Link → Option Rank → Bool
is_rank d f None = false
is_rank d f (Some x) = same_addr x.holder d && nat_eq x.place f.place

-- its target is sound and, where that is a directory, no start and the link its chosen one; a pointer leads to a directory
unfoldable pub selects : Setting → Tree → Addr → Link → Bool
selects s t d f =
    sound s t (target_of f.says)
    && cond (node_at t (target_of f.says)).directory
    (not (s.start (target_of f.says)) && is_rank d f (chosen s t (target_of f.says)))
    (not (is_pointer f.says))

unfoldable pub selected : Setting → Tree → Addr → List Link
selected s t d = filter (selects s t d) (named s t d)

-- the longest front for which there is room
unfoldable pub fit : ℕ → List Link → List Link
fit n [] = []
fit n (f ∷ fs) = cond (nat_le (room_of f.says) n) (f ∷ fit (n - room_of f.says) fs) []

-- the selected links for which the kept content has room beside the parent FID
unfoldable pub fitted : Setting → Tree → Addr → List Link
fitted s t d = fit ((node_at t d).space (kept_length s t d)) (selected s t d)
