-- The lawful layout, by the fields of a volume.
use Rattle.std.specs.Prelude.{◌≡◌, ℕ, Bool, true, Option, Some, None, ◌&&◌, nat_lt, List}
use Rattle.std.specs.List.{list_all}
use Rattle.udf_volume_model.specs.Anchor.{places}
use Rattle.udf_volume_model.specs.Areas as model
use Rattle.udf_volume_model.specs.Areas.{is_outside}
use Rattle.udf_volume_model.specs.Layout.{are_apart, is_inside, is_bitmap, earlier, is_passed}
use Rattle.udf_field.specs.declared.address.Short.{Short}
use Rattle.udf_volume.specs.declared.volume.Volume.{Volume}
use Rattle.udf_volume.specs.Areas.{areas_stated, tables_stated}

abbrev pub is_bitmap_at : ℕ → ℕ → Option Short → Bool
is_bitmap_at size count None = true
is_bitmap_at size count (Some bitmap) = is_bitmap size count bitmap.length bitmap.block

-- the partition and the sparing tables start above block 128
unfoldable pub are_high_stated : Volume → Bool
are_high_stated volume = nat_lt 128 volume.start && list_all (λ area. nat_lt 128 area.start) (tables_stated volume)

unfoldable pub areas_laid : Volume → List model.Area → Bool
areas_laid volume areas =
    list_all (is_inside volume.blocks) areas
    && (are_apart areas && (are_high_stated volume && is_bitmap_at volume.size volume.length volume.bitmap))

unfoldable pub places_laid : Volume → (ℕ → List ℕ) → List model.Area → Bool
places_laid volume disk areas =
    is_outside areas volume.anchor
    && list_all (is_passed volume.size volume.blocks disk areas) (earlier volume.anchor (places volume.blocks))

unfoldable pub is_laid : Volume → (ℕ → List ℕ) → Bool
is_laid volume disk = areas_laid volume (areas_stated volume) && places_laid volume disk (areas_stated volume)

-- what holds of every volume's areas, also over a bench that tells nothing
pub record IsLaidOut (volume : Volume) : Type 0 where
  pub areas : areas_laid volume (areas_stated volume) ≡ true
  pub anchor : is_outside (areas_stated volume) volume.anchor ≡ true
