-- The kept anchor and the kept sequence: the first place with a whole anchor that leads to a whole sequence, of which the
-- main one goes before the reserve one.
use Rattle.std.specs.Prelude.{ℕ, Bool, Option, Some, None, ◌==◌, ◌&&◌, nat_lt, if◌then◌else◌, List, [], ◌∷◌, length, min, is_some}
use Rattle.std.specs.List.{list_any}
use Rattle.udf_model.specs.Image.{block_of, blocks_in}
use Rattle.udf_volume_model.specs.Sequence.{Descriptor, views, listed}
use Rattle.udf_volume_model.specs.Anchor.{Extent, Anchor, blocks_of, places, anchor_in}

pub data Which : Type 0 where
  Main : Which
  Reserve : Which

-- The place of the kept anchor, its extents, which of its sequences is kept, and the descriptors of that one.
pub record KeptSequence : Type 0 where
  pub place : ℕ
  pub anchor : Anchor
  pub which : Which
  pub list : List Descriptor

abbrev pub extent_of : Which → Anchor → Extent
extent_of Main anchor = anchor.main
extent_of Reserve anchor = anchor.reserve

abbrev pub opposite : Which → Which
opposite Main = Reserve
opposite Reserve = Main

-- the extent of the kept sequence, and that of the other one
abbrev pub kept : KeptSequence → Extent
kept sequence = extent_of sequence.which sequence.anchor

abbrev pub other : KeptSequence → Extent
other sequence = extent_of (opposite sequence.which) sequence.anchor

unfoldable pub has_id : ℕ → List Descriptor → Bool
has_id id list = list_any (λ descriptor. descriptor.id == id) list

-- a primary, a partition and a logical volume descriptor are there, and fewer descriptors than a limit
unfoldable pub is_complete : ℕ → List Descriptor → Bool
is_complete limit list = nat_lt (length list) limit && (has_id 1 list && (has_id 5 list && has_id 6 list))

abbrev pub whole_by : ℕ → Option (List Descriptor) → Option (List Descriptor)
whole_by limit None = None
whole_by limit (Some list) = if is_complete limit list then Some list else None

-- the blocks of the smaller extent
unfoldable pub limit_of : ℕ → Anchor → ℕ
limit_of size anchor = min (blocks_of size anchor.main) (blocks_of size anchor.reserve)

-- the descriptors of an extent's sequence, where it is whole
unfoldable pub sequence_at : ℕ → (ℕ → List ℕ) → ℕ → Extent → Option (List Descriptor)
sequence_at size disk limit extent = whole_by limit (listed (views disk extent.start (blocks_of size extent)))

abbrev pub kept_sequence_by : ℕ → Anchor → Option (List Descriptor) → Option (List Descriptor) → Option KeptSequence
kept_sequence_by place anchor (Some list) reserve = Some (record { place = place; anchor = anchor; which = Main; list = list })
kept_sequence_by place anchor None (Some list) = Some (record { place = place; anchor = anchor; which = Reserve; list = list })
kept_sequence_by place anchor None None = None

abbrev pub kept_sequence_at : ℕ → (ℕ → List ℕ) → ℕ → Option Anchor → Option KeptSequence
kept_sequence_at size disk place None = None
kept_sequence_at size disk place (Some anchor) =
    kept_sequence_by place anchor
    (sequence_at size disk (limit_of size anchor) anchor.main)
    (sequence_at size disk (limit_of size anchor) anchor.reserve)

-- the kept sequence to which an anchor at this place leads
unfoldable pub led_from : ℕ → ℕ → (ℕ → List ℕ) → ℕ → Option KeptSequence
led_from size blocks disk place = kept_sequence_at size disk place (anchor_in size blocks place (disk place))

abbrev pub or_else : Option KeptSequence → Option KeptSequence → Option KeptSequence
or_else None rest = rest
or_else (Some sequence) rest = Some sequence

-- that of the first of these places that leads to one
unfoldable pub kept_sequence_in : ℕ → ℕ → (ℕ → List ℕ) → List ℕ → Option KeptSequence
kept_sequence_in size blocks disk [] = None
kept_sequence_in size blocks disk (place ∷ rest) = or_else (led_from size blocks disk place) (kept_sequence_in size blocks disk rest)

-- some place of these has a whole anchor
unfoldable pub has_anchor : ℕ → ℕ → (ℕ → List ℕ) → List ℕ → Bool
has_anchor size blocks disk list = list_any (λ place. is_some (anchor_in size blocks place (disk place))) list

-- the kept sequence of an image
unfoldable pub kept_sequence_of : ℕ → List ℕ → Option KeptSequence
kept_sequence_of size image = kept_sequence_in size (blocks_in size image) (block_of size image) (places (blocks_in size image))
