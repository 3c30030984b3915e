-- Runs of sectors that may be written.
use Rattle.std.specs.Prelude.{ℕ, ◌+◌, Bool, ◌&&◌, ◌||◌, nat_le}
use Rattle.udf_volume.specs.Spans.{kept_span}
use Rattle.udf_volume.specs.declared.volume.Volume.{Volume}

-- so many sectors from one on lie in the image, before or behind the kept descriptors
unfoldable pub is_run_free : Volume → ℕ → ℕ → Bool
is_run_free volume first count =
    nat_le (first + count) volume.blocks
    && (nat_le (first + count) (kept_span volume).start || nat_le ((kept_span volume).start + volume.count) first)
