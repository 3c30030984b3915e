-- What a mend may write.
use Rattle.std.specs.Prelude.{◌≡◌, ℕ, ◌+◌, ◌<◌, Bool, true, not, ◌&&◌, ◌==◌, nat_lt, List, length}
use Rattle.std.specs.List.{list_all}
use Rattle.udf_volume_model.specs.Areas.{covers}
use Rattle.udf_volume.specs.declared.volume.Volume.{Volume}
use Rattle.udf_blocks.specs.PlanFor.{sealed_stated}

-- a sector in the image, and none of the kept descriptors'
unfoldable pub is_free : Volume → ℕ → Bool
is_free volume n = nat_lt n volume.blocks && not (covers (sealed_stated volume) n)

-- so many sectors from one on are such
abbrev pub AreFreeFrom : Volume → ℕ → ℕ → Type 0
AreFreeFrom volume at count = (i : ℕ) → i < count → is_free volume (at + i) ≡ true

abbrev pub AreFree : Volume → List ℕ → Type 0
AreFree volume sectors = list_all (is_free volume) sectors ≡ true

-- a whole block at such a sector
unfoldable pub is_writable : Volume → ℕ × List ℕ → Bool
is_writable volume edit = is_free volume edit.0 && (length edit.1 == volume.size)

abbrev pub AreWritable : Volume → List (ℕ × List ℕ) → Type 0
AreWritable volume edits = list_all (is_writable volume) edits ≡ true
