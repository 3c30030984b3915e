-- What a cut leaves of an entry, as the code makes it.
use Rattle.std.specs.Prelude.{ℕ, ◌==◌, if◌then◌else◌, option_map, Option, Some, None, List, [], ◌∷◌, length, take, Vec}
use Rattle.std.specs.declared.alloc.Global.{Global}
use Rattle.udf_field.specs.declared.address.Addr.{Addr}
use Rattle.udf_file_model.specs.Content.{block_at}
use Rattle.udf_file_model.specs.Entry.{Entry}
use Rattle.udf_file_model.specs.Listing.{Volume, descriptors_in, descriptors_of}
use Rattle.udf_entry.specs.declared.stop.ListStop.{ListStop}
use Rattle.udf_entry.specs.declared.stop.ListStop.TheVariants as lists
use Rattle.udf_layer.specs.declared.missing.WorkStop.{WorkStop}
use Rattle.udf_layer.specs.declared.missing.WorkStop.TheVariants as works
use Rattle.udf_file_mends.specs.Mends.{mended_entry}
use Rattle.udf_file_mends.specs.Spread.{Sited}
use Rattle.udf_file_plan.specs.Chain.{chain, extents_left}
use Rattle.udf_file_plan.specs.Over.{spread_over}
use Rattle.udf_file_model.specs.Cut.{Onward, onward}
use Rattle.udf_file_model.specs.CutBody.{cut_body}
use Rattle.udf_file_model.specs.Descriptors.{Descriptor}
use Rattle.udf_file_model.specs.Wanted.{Wanted}

abbrev pub embedded_left : List ℕ → ℕ → Option (List ℕ) → List ℕ
embedded_left body bytes None = take bytes body
embedded_left body bytes (Some content) = content

-- of an embedded entry the content that is given, or the first bytes of its own; else the descriptors that are left
unfoldable pub body_left : ℕ → Addr → List ℕ → ℕ → Option (List ℕ) → List ℕ
body_left kind at body bytes content = if kind == 3 then embedded_left body bytes content else cut_body kind at bytes body

-- where a cut goes on; nowhere where nothing is left
unfoldable pub first_further : ℕ → List Descriptor → Option Onward
first_further bytes ds = if bytes == 0 then None else onward bytes ds

-- the block of an entry that states these values, and of the allocation extents of its list, of which there are so many
abbrev pub listed_left : Volume → Addr → Entry → Wanted → ℕ → ℕ → Option (List ℕ) → List Sited
listed_left v a e w many bytes content =
    (a, mended_entry a.block e.header (record w { information = bytes; object_size = bytes; body = body_left e.kind a e.body bytes content }) (block_at v a))
    ∷ extents_left v e.kind (chain (descriptors_in v e.kind) many (first_further bytes (descriptors_of a e)))

abbrev pub content_left : Volume → List Descriptor → Option (List ℕ) → List Sited
content_left v runs None = []
content_left v runs (Some content) = spread_over v runs content

-- the bytes of a content, or the given number
abbrev pub bytes_or : ℕ → Option (List ℕ) → ℕ
bytes_or bytes None = bytes
bytes_or bytes (Some content) = length content

abbrev pub seen_bytes : Option (Vec ℕ Global) → Option (List ℕ)
seen_bytes content = option_map (λ c. c.items) content

-- why a list was not read, as a stop of the work
abbrev pub stop_of : ListStop → WorkStop
stop_of lists.Fault = works.Fault
stop_of lists.Memory = works.Memory
