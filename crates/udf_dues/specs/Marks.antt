-- The links of kept directories that count for entries, by the indexes of the entries.
use Rattle.std.specs.Prelude.{◌≡◌, ◌<◌, ℕ, zero, suc, Bool, true, false, ◌&&◌, ◌==◌, cond, nat_eq, nat_le, min, List, [], ◌∷◌, ◌++◌, length, count_by, get_or, slice_get, Option, Some, None}
use Rattle.std.specs.List.{flat_map}
use Rattle.udf_field.specs.declared.address.Addr.{Addr}
use Rattle.udf_dues.specs.declared.counts.Count.{Count}
use Rattle.udf_kept.specs.declared.fitted.Choice.{Choice}
use Rattle.udf_kept.specs.declared.fitted.Fitted.{Fitted}
use Rattle.udf_kept.specs.declared.fitted.Selected.{Selected}

-- a link to the entry at an index, and whether it counts for the least count too
pub record Mark : Type 0 where
  pub to : ℕ
  pub low : Bool

-- a link that counts for both
abbrev pub always : ℕ → Mark
always to = record { to = to; low = true }

-- one that may be left out
abbrev pub maybe : ℕ → Mark
maybe to = record { to = to; low = false }

-- it counts for the least count of an entry, and for the greatest
abbrev pub is_low : ℕ → Mark → Bool
is_low j m = nat_eq m.to j && m.low

abbrev pub is_high : ℕ → Mark → Bool
is_high j m = nat_eq m.to j

-- where nothing is counted
abbrev pub no_count : Count
no_count = record { low = 0; high = 0 }

-- how many of these links count for each entry, up to 65535
pub record AreMarked (ms : List Mark) (cs : List Count) : Type 0 where
  pub low : (j : ℕ) → j < length cs → (get_or cs j no_count).low ≡ min 65535 (count_by (is_low j) ms)
  pub high : (j : ℕ) → j < length cs → (get_or cs j no_count).high ≡ min 65535 (count_by (is_high j) ms)

-- a pointer has the place 0
abbrev pub is_pointer_choice : Option Choice → Bool
is_pointer_choice None = false
is_pointer_choice (Some c) = c.place == 0

-- a fitted link counts where it is a FID
abbrev pub fid_mark : Fitted → List Mark
fid_mark f = cond (nat_le 1 f.place) (always f.to ∷ []) []

-- the parent FID of a directory that leads to the entry at an index; that of a stream directory may be left out
abbrev pub parent_marks : Bool → Option ℕ → List Mark
parent_marks stream None = []
parent_marks stream (Some i) = cond stream (maybe i) (always i) ∷ []

-- the pointer to a stream directory may be left out
abbrev pub own_marks : Bool → ℕ → List Mark
own_marks stream i = cond stream (maybe i ∷ []) []

abbrev pub marks_by : (Addr → Option ℕ) → ℕ → Option Addr → Option Selected → List Mark
marks_by position i None x = []
marks_by position i (Some parent) None = []
marks_by position i (Some parent) (Some x) =
    flat_map fid_mark x.fitted.items ++ (parent_marks (is_pointer_choice x.chosen) (position parent) ++ own_marks (is_pointer_choice x.chosen) i)

-- what the entry at an index has of links, where it is a kept directory, whose parent FID names an address
unfoldable pub marks_at : (Addr → Option ℕ) → List Selected → ℕ → Option Addr → List Mark
marks_at position xs i parent = marks_by position i parent (slice_get xs i)

-- what the entries below an index have
unfoldable pub marks_below : (Addr → Option ℕ) → List Selected → List (Option Addr) → ℕ → List Mark
marks_below position xs ps zero = []
marks_below position xs ps (suc i) = marks_below position xs ps i ++ marks_at position xs i (get_or ps i None)
