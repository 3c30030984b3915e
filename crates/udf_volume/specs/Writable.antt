-- Volumes that a repair may write.
use Rattle.std.specs.Prelude.{Bool, not, ◌||◌}
use Rattle.udf_volume_model.specs.Profile.{is_rewritable}
use Rattle.udf_volume.specs.declared.volume.Volume.{Volume}

-- a protection bit stands, or the access type forbids rewriting
unfoldable pub is_protected : Volume → Bool
is_protected volume = volume.guarded || not (is_rewritable volume.access)
