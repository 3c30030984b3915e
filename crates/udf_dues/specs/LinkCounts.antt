-- The link counts that found entries are to state, by the counts that they may state.
use Rattle.std.specs.Prelude.{◌≡◌, ℕ, get_or, slice_get, List, Option, Some, None}
use Rattle.udf_tree_model.specs.Counts.{links_between}
use Rattle.udf_dues.specs.declared.counts.Count.{Count}
use Rattle.udf_held.specs.declared.held.Held.{Held}
use Rattle.udf_found.specs.declared.shape.Shape.{Shape}

abbrev pub links_shaped : Option Shape → Option Count → ℕ
links_shaped None c = 0
links_shaped (Some s) None = 0
links_shaped (Some s) (Some c) = links_between c.low c.high s.links

-- its own count where it lies between the two, else the least, and at least 1
abbrev pub links_seen : Held → Option Count → ℕ
links_seen h c = links_shaped h.shape c

-- of each held entry, at its index
pub record AreSettled (hs : List Held) (cs : List Count) (xs : List ℕ) : Type 0 where
  pub each : (i : ℕ) (h : Held) → slice_get hs i ≡ Some h → get_or xs i 0 ≡ links_seen h (slice_get cs i)
