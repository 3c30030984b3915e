-- What the code found at the places of anchors, as the definitions have it.
use Rattle.std.specs.Prelude.{◌≡◌, ℕ, ◌<◌, Bool, true, false, List, Option, Some, None, if◌then◌else◌}
use Rattle.udf_volume_model.specs.Sequence.{Descriptor}
use Rattle.udf_volume_model.specs.Anchor.{Anchor, names_extents}
use Rattle.udf_volume_model.specs.Kept.{KeptSequence, Which, is_complete, limit_of}
use Rattle.udf_volume.specs.Seen.{anchor_seen, which_seen}
use Rattle.udf_volume.specs.Leads.{IsLeading}
use Rattle.udf_volume.specs.declared.sequence.DescriptorList.{DescriptorList}
use Rattle.udf_volume.specs.declared.kept.Led.{Led}
use Rattle.udf_volume.specs.declared.kept.AnchorSearch.{AnchorSearch}
use Rattle.udf_volume.specs.declared.kept.AnchorSearch.TheVariants.{Nothing, Unled, Kept}

-- the descriptors of a list that no block spoils
abbrev pub listed_in : DescriptorList → Option (List Descriptor)
listed_in list = if list.is_spoilt then None else Some list.descriptors.items

abbrev pub led_seen : Led → KeptSequence
led_seen led = record {
  place = led.place;
  anchor = anchor_seen led.anchor;
  which = which_seen led.which;
  list = led.descriptors.items;
}

-- a kept sequence, by its list
abbrev pub kept_as : ℕ → Anchor → Which → List Descriptor → KeptSequence
kept_as place anchor which list = record { place = place; anchor = anchor; which = which; list = list }

-- what holds of every kept sequence, also over a bench that tells nothing
pub record IsLed (size blocks : ℕ) (led : Led) : Type 0 where
  pub place : led.place < blocks
  pub extents : names_extents size blocks (anchor_seen led.anchor) ≡ true
  pub complete : is_complete (limit_of size (anchor_seen led.anchor)) led.descriptors.items ≡ true
  pub leading : IsLeading led.descriptors.items led.leading

abbrev pub Finds : Option KeptSequence → Bool → AnchorSearch → Type 0
Finds volume any Nothing = (volume ≡ None) × (any ≡ false)
Finds volume any Unled = (volume ≡ None) × (any ≡ true)
Finds volume any (Kept led) = volume ≡ Some (led_seen led)

abbrev pub FindsLawful : ℕ → ℕ → AnchorSearch → Type 0
FindsLawful size blocks Nothing = Unit {0}
FindsLawful size blocks Unled = Unit {0}
FindsLawful size blocks (Kept led) = IsLed size blocks led

abbrev pub at_least_unled_of : AnchorSearch → AnchorSearch
at_least_unled_of Nothing = Unled
at_least_unled_of Unled = Unled
at_least_unled_of (Kept led) = Kept led
