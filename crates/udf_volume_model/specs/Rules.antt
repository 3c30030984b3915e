-- The rules on anchors (ECMA-167 3/8.4.2.1) and on sequences (3/8.4.2, 3/8.4.3), as relations on an image, and what is
-- found where one is broken. Places are ruled by what the volume takes of the image.
use Rattle.std.specs.Prelude.{ℕ, Bool, true, false, Option, Some, None, not, ◌==◌, ◌&&◌, ◌||◌, ◌-◌, nat_lt, nat_le, if◌then◌else◌, List, [], ◌∷◌, ◌++◌, length, filter, map}
use Rattle.std.specs.List.{list_all}
use Rattle.std.specs.Str.{bytes_eq}
use Rattle.udf_model.specs.Tag.{id_at, is_id}
use Rattle.udf_volume_model.specs.Sequence.{Descriptor, views, front_of}
use Rattle.udf_volume_model.specs.Prevailing.{subject_of, prevailing}
use Rattle.udf_volume_model.specs.Anchor.{Extent, Anchor, blocks_of, named_by}
use Rattle.udf_volume_model.specs.Kept.{KeptSequence, other, sequence_at, limit_of}
use Rattle.udf_volume_model.specs.Areas.{Area, Layout, taken, is_outside}

-- the places in ascending order, in an image of so many blocks
unfoldable pub ascending_places : ℕ → List ℕ
ascending_places blocks =
    if blocks == 0 then []
    else if nat_lt blocks 257 then (blocks - 1) ∷ []
    else if blocks == 257 then 0 ∷ 256 ∷ []
    else if nat_lt blocks 513 then (blocks - 257) ∷ 256 ∷ (blocks - 1) ∷ []
    else if blocks == 513 then 256 ∷ 512 ∷ []
    else 256 ∷ (blocks - 257) ∷ (blocks - 1) ∷ []

unfoldable pub is_eligible : List Area → ℕ → Bool
is_eligible areas place = nat_le 256 place && is_outside areas place

-- the places that are at least 256 and lie in no area and in no used packet
unfoldable pub eligible : ℕ → Layout → List ℕ
eligible blocks layout = filter (is_eligible (taken layout)) (ascending_places blocks)

unfoldable pub same_extent : Extent → Extent → Bool
same_extent a b = (a.bytes == b.bytes) && (a.start == b.start)

unfoldable pub same_anchor : Anchor → Anchor → Bool
same_anchor a b = same_extent a.main b.main && same_extent a.reserve b.reserve

-- whole at its place, and of the same extents
unfoldable pub is_good : Anchor → ℕ → List ℕ → Bool
is_good anchor place block = is_id 2 (id_at place block) && same_anchor (named_by block) anchor

abbrev pub good_of : (ℕ → List ℕ) → KeptSequence → List ℕ → List ℕ
good_of disk sequence list = filter (λ place. is_good sequence.anchor place (disk place)) list

abbrev pub bad_of : (ℕ → List ℕ) → KeptSequence → List ℕ → List ℕ
bad_of disk sequence list = filter (λ place. not (is_good sequence.anchor place (disk place))) list

-- of these places at least two are good, or all are
abbrev pub suffice : Anchor → (ℕ → List ℕ) → List ℕ → Bool
suffice anchor disk places =
    nat_le 2 (length (filter (λ place. is_good anchor place (disk place)) places))
    || list_all (λ place. is_good anchor place (disk place)) places

-- The rule on anchors: the eligible places suffice.
unfoldable pub anchors_hold : ℕ → Layout → (ℕ → List ℕ) → KeptSequence → Bool
anchors_hold blocks layout disk sequence = suffice sequence.anchor disk (eligible blocks layout)

abbrev pub same_descriptor : Option Descriptor → Option Descriptor → Bool
same_descriptor None None = true
same_descriptor None (Some b) = false
same_descriptor (Some a) None = false
same_descriptor (Some a) (Some b) = (a.id == b.id) && bytes_eq a.body b.body

-- of the kind and subject of a descriptor the same one prevails in both lists, tags aside
unfoldable pub same_for : List Descriptor → List Descriptor → Descriptor → Bool
same_for list others descriptor =
    same_descriptor
    (prevailing descriptor.id (subject_of descriptor) list)
    (prevailing descriptor.id (subject_of descriptor) others)

unfoldable pub same_prevailing : List Descriptor → List Descriptor → Bool
same_prevailing list others = list_all (same_for list others) (list ++ others)

abbrev pub agrees : List Descriptor → Option (List Descriptor) → Bool
agrees list None = false
agrees list (Some others) = same_prevailing list others

-- The rule on sequences: the other sequence is whole, and the same descriptors prevail in it.
unfoldable pub sequences_hold : ℕ → (ℕ → List ℕ) → KeptSequence → Bool
sequences_hold size disk sequence = agrees sequence.list (sequence_at size disk (limit_of size sequence.anchor) (other sequence))

-- Where something is found: a sector of the image, or a block of a partition by its reference.
pub data Place : Type 0 where
  Sector : ℕ → Place
  At : ℕ → ℕ → Place

-- What is found: the number of the rule, the place, and two values.
pub record Finding : Type 0 where
  pub rule : ℕ
  pub place : Place
  pub first : ℕ
  pub second : ℕ

-- each eligible place that is not good, with the numbers of good and of eligible ones
unfoldable pub anchor_findings : ℕ → Layout → (ℕ → List ℕ) → KeptSequence → List Finding
anchor_findings blocks layout disk sequence =
    if anchors_hold blocks layout disk sequence then []
    else map
    (λ place. record {
      rule = 2;
      place = Sector place;
      first = length (good_of disk sequence (eligible blocks layout));
      second = length (eligible blocks layout);
    })
    (bad_of disk sequence (eligible blocks layout))

-- the first sector of the other extent, with the number of descriptors read there and that of the kept ones
unfoldable pub sequence_findings : ℕ → (ℕ → List ℕ) → KeptSequence → List Finding
sequence_findings size disk sequence =
    if sequences_hold size disk sequence then []
    else record {
      rule = 3;
      place = Sector (other sequence).start;
      first = length (front_of (views disk (other sequence).start (blocks_of size (other sequence))));
      second = length sequence.list;
    } ∷ []
