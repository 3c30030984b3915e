-- What the entries of a volume state.
use Rattle.std.specs.Prelude.{ℕ, List, Option, Some, None, slice_get}
use Rattle.udf_field.specs.declared.address.Addr.{Addr}
use Rattle.udf_file_model.specs.Entry.{Entry}
use Rattle.udf_file_model.specs.Listing.{Volume}
use Rattle.udf_tree_model.specs.Frame.{entry_at, stream_of}
use Rattle.udf_held.specs.declared.held.Held.{Held}
use Rattle.udf_found.specs.declared.shape.Shape.{Shape}
use Rattle.udf_tree.specs.declared.stated.Stated.{Stated}

abbrev pub nothing_stated : Stated
nothing_stated = record { information = 0; links = 0; id = 0; pointer = None }

abbrev pub stated_by : Option Entry → Stated
stated_by None = nothing_stated
stated_by (Some e) = record { information = e.information; links = e.links; id = e.id; pointer = stream_of e.stream }

-- what the entry at an address states; nothing where none is readable
unfoldable pub stated_at : Volume → Addr → Stated
stated_at v a = stated_by (entry_at v a)

abbrev pub stated_shaped : Option Shape → Stated
stated_shaped None = nothing_stated
stated_shaped (Some s) = record { information = s.information; links = s.links; id = s.id; pointer = stream_of s.stream }

abbrev pub stated_held : Option Held → Stated
stated_held None = nothing_stated
stated_held (Some h) = stated_shaped h.shape

-- what the found entry at an index states
abbrev pub stated_in : List Held → ℕ → Stated
stated_in hs i = stated_held (slice_get hs i)
