-- How many links entries are away from some starts, by the indexes of the entries.
use Rattle.std.specs.Prelude.{◌≡◌, ◌⊎◌, ℕ, zero, suc, ◌+◌, ◌≤◌, ◌<◌, Bool, true, false, cond, nat_le, List, [], ◌∷◌, length, count_by, get_or, is_none, slice_get, Option, Some, None}
use Rattle.std.specs.List.{flat_map}
use Rattle.udf_tree_model.specs.Among.{Member}
use Rattle.udf_kept.specs.declared.fitted.Fitted.{Fitted}
use Rattle.udf_kept.specs.declared.fitted.Selected.{Selected}

-- where a link from a place on leads
abbrev pub target_from : ℕ → Fitted → List ℕ
target_from least f = cond (nat_le least f.place) (f.to ∷ []) []

-- where links from a place on lead, if there are any
abbrev pub edges_by : ℕ → Option Selected → List ℕ
edges_by least None = []
edges_by least (Some x) = flat_map (target_from least) x.fitted.items

-- where the links of the entry at an index lead, of those from a place on
unfoldable pub edges : ℕ → List Selected → ℕ → List ℕ
edges least xs i = edges_by least (slice_get xs i)

-- the indexes of the starts, counted from a number on
abbrev pub starts_from : ℕ → List Bool → List ℕ
starts_from i [] = []
starts_from i (b ∷ bs) = cond b (i ∷ starts_from (suc i) bs) (starts_from (suc i) bs)

-- the indexes of the starts
unfoldable pub starts_in : List Bool → List ℕ
starts_in bs = starts_from 0 bs

-- there is a way of so many links from a start to the entry at an index
abbrev pub Way : List Bool → List Selected → ℕ → ℕ → ℕ → Type 0
Way starts xs least zero i = get_or starts i false ≡ true
Way starts xs least (suc k) i = (e : ℕ) × Way starts xs least k e × Member i (edges least xs e)

-- the entry at an index has at most this depth
abbrev pub HasDepth : List (Option ℕ) → ℕ → ℕ → Type 0
HasDepth ds i most = (k : ℕ) × (k ≤ most) × (get_or ds i None ≡ Some k)

-- of the targets those without a depth got the depth k, and are the layer
pub record IsReached (old : List (Option ℕ)) (targets : List ℕ) (k : ℕ) (ds : List (Option ℕ)) (layer : List ℕ) : Type 0 where
  pub len : length ds ≡ length old
  pub stays : (i m : ℕ) → get_or old i None ≡ Some m → get_or ds i None ≡ Some m
  pub new : (i m : ℕ) → get_or ds i None ≡ Some m → (get_or old i None ≡ Some m) ⊎ ((m ≡ k) × Member i layer)
  pub all : (i : ℕ) → Member i targets → i < length old → (m : ℕ) × (get_or ds i None ≡ Some m)
  pub layer_is : (i : ℕ) → Member i layer → (get_or ds i None ≡ Some k) × Member i targets
  pub count : count_by is_none ds + length layer ≡ count_by is_none old

-- the depth of an entry is the length of a way, each start has the depth 0, and a link leads at most one further
pub record AreDepths (starts : List Bool) (xs : List Selected) (least : ℕ) (ds : List (Option ℕ)) : Type 0 where
  pub len : length ds ≡ length starts
  pub way : (i k : ℕ) → get_or ds i None ≡ Some k → Way starts xs least k i
  pub begins : (i : ℕ) → get_or starts i false ≡ true → get_or ds i None ≡ Some 0
  pub closed : (i k j : ℕ) → get_or ds i None ≡ Some k → Member j (edges least xs i) → j < length starts → HasDepth ds j (suc k)
