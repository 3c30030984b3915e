-- Which addresses the parent FIDs of mended contents name, by what the code has of entries.
use Rattle.std.specs.Prelude.{◌≡◌, ℕ, Bool, ◌&&◌, is_some, if◌then◌else◌, List, length, get_or, slice_get, Option, Some, None}
use Rattle.udf_field.specs.declared.address.Addr.{Addr}
use Rattle.udf_file_model.specs.Address.{same_addr}
use Rattle.udf_contents.specs.declared.contents.MendedContent.{MendedContent}
use Rattle.udf_kept.specs.declared.fitted.Choice.{Choice}
use Rattle.udf_held.specs.declared.held.Held.{Held}
use Rattle.udf_kept.specs.declared.keeping.Keeping.{Keeping}

-- the address of a holder; the root in place of the file set, and where there is none
abbrev pub address_seen : Addr → Addr → Option Held → Addr
address_seen root file_set None = root
address_seen root file_set (Some h) = if same_addr h.at file_set then root else h.at

-- the holder of a link; the root where there is none, or the file set holds it
abbrev pub holder_seen : Addr → Addr → List Held → Option Choice → Addr
holder_seen root file_set hs None = root
holder_seen root file_set hs (Some c) = address_seen root file_set (slice_get hs c.holder)

-- the parent of a kept entry at an address
abbrev pub parent_seen : Addr → Addr → List Held → Addr → Keeping → Addr
parent_seen root file_set hs at k = if same_addr at root then root else holder_seen root file_set hs k.by

-- what the parent FID of a kept directory names: the parent where the content is written anew, else what it names already
abbrev pub named_seen : Addr → Addr → List Held → Held → Option Keeping → Bool → Option Addr
named_seen root file_set hs h None written = None
named_seen root file_set hs h (Some k) written =
    if h.directory && is_some h.shape then (if written then Some (parent_seen root file_set hs h.at k) else h.parents.only) else None

-- of each held entry, in order
pub record AreNamed (root file_set : Addr) (hs : List Held) (ks : List (Option Keeping)) (cs : List (Option MendedContent)) (ps : List (Option Addr)) : Type 0 where
  pub len : length ps ≡ length hs
  pub each : (i : ℕ) (h : Held) → slice_get hs i ≡ Some h → get_or ps i None ≡ named_seen root file_set hs h (get_or ks i None) (is_some (get_or cs i None))
