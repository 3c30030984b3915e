-- The fitted links of kept entries, and the first to each entry, by the indexes of entries.
use Rattle.std.specs.Prelude.{◌≡◌, ℕ, zero, suc, ◌<◌, Bool, true, false, List, [], ◌++◌, length, map, get_or, slice_get, Option, Some, None}
use Rattle.udf_field.specs.declared.address.Addr.{Addr}
use Rattle.udf_tree_model.specs.Among.{Member}
use Rattle.udf_tree_model.specs.Chosen.{Rank, comes_before}
use Rattle.udf_held.specs.declared.held.Held.{Held}
use Rattle.udf_kept.specs.declared.fitted.Fitted.{Fitted}
use Rattle.udf_kept.specs.declared.fitted.Selected.{Selected}
use Rattle.udf_kept.specs.declared.fitted.Choice.{Choice}
use Rattle.udf_kept.specs.declared.keeping.Keeping.{Keeping}
use Rattle.udf_kept.specs.declared.first_links.KeepingLink.{KeepingLink}

-- what decides between links to one entry
abbrev pub rank_seen : KeepingLink → Rank
rank_seen k = record { level = k.depth; holder = k.at; place = k.choice.place }

-- no link so far, or one that comes after
abbrev pub yields : Option KeepingLink → KeepingLink → Bool
yields None x = true
yields (Some y) x = comes_before (rank_seen x) (rank_seen y)

-- a link that leads to the entry at an index
pub record Told : Type 0 where
  pub to : ℕ
  pub link : KeepingLink

-- this link leads to the entry at that index
abbrev pub told : ℕ → KeepingLink → Told
told i k = record { to = i; link = k }

-- the link of a holder with this index, depth and address
abbrev pub told_by : ℕ → ℕ → Addr → Fitted → Told
told_by holder depth at f = told f.to (record { depth = depth; at = at; choice = record { holder = holder; place = f.place } })

-- the links of an entry with a depth
abbrev pub links_by : ℕ → Option ℕ → Option Held → Option Selected → List Told
links_by i None h x = []
links_by i (Some k) None x = []
links_by i (Some k) (Some h) None = []
links_by i (Some k) (Some h) (Some x) = map (told_by i k h.at) x.fitted.items

-- the links of the entry at an index, if it is kept
unfoldable pub links_at : List Held → List Selected → ℕ → Option ℕ → List Told
links_at hs xs i depth = links_by i depth (slice_get hs i) (slice_get xs i)

-- the links of kept entries below an index
unfoldable pub links_below : List Held → List Selected → List (Option ℕ) → ℕ → List Told
links_below hs xs ds zero = []
links_below hs xs ds (suc i) = links_below hs xs ds i ++ links_at hs xs i (get_or ds i None)

-- to the entry at an index some link is kept, and this one does not come before it
abbrev pub HasFirst : List (Option KeepingLink) → ℕ → KeepingLink → Type 0
HasFirst first j k = (m : KeepingLink) × (get_or first j None ≡ Some m) × (comes_before (rank_seen k) (rank_seen m) ≡ false)

-- to each entry the first of these links, or none where none leads to it
pub record IsFirst (links : List Told) (first : List (Option KeepingLink)) : Type 0 where
  pub there : (j : ℕ) (k : KeepingLink) → get_or first j None ≡ Some k → Member (told j k) links
  pub low : (j : ℕ) (k : KeepingLink) → Member (told j k) links → j < length first → HasFirst first j k

-- the link by the index of its holder
abbrev pub choice_seen : Option KeepingLink → Option Choice
choice_seen None = None
choice_seen (Some k) = Some k.choice

-- how an entry is kept, by its depth and the first link to it
abbrev pub keeping_seen : Option ℕ → Option KeepingLink → Option Keeping
keeping_seen None first = None
keeping_seen (Some k) first = Some (record { depth = k; by = choice_seen first })

-- how each entry is kept, in order
pub record ArePut (ds : List (Option ℕ)) (first : List (Option KeepingLink)) (ks : List (Option Keeping)) : Type 0 where
  pub len : length ks ≡ length ds
  pub each : (i : ℕ) → i < length ds → get_or ks i None ≡ keeping_seen (get_or ds i None) (get_or first i None)
