-- The planner of files may write where the addresses of a volume stand.
use Rattle.std.proofs.Common.{◌≡◌, ℕ, true, Some, sym, ◌∙◌}
use Rattle.udf_field.specs.declared.address.Addr.{Addr}
use Rattle.udf_model.specs.Size.{is_size}
use Rattle.udf_outside.specs.Files as outside
use Rattle.udf_layer.specs.Lone.{lone_is}
use Rattle.udf_volume.specs.Areas.{partition_stated}
use Rattle.udf_volume.specs.Laid.{IsLaidOut}
use Rattle.udf_volume.specs.Opened.{IsBounded}
use Rattle.udf_volume.specs.Over.{IsOver}
use Rattle.udf_volume.specs.declared.volume.Volume.{Volume}
use Rattle.udf_rules_model.specs.Places.{place_by}
use Rattle.udf_files.specs.Files.{AreOverVolume, places_in}
use Rattle.udf_files.specs.declared.files.Files.{Files}
use Rattle.udf_wanted.specs.Writable.{is_free}
use Rattle.udf_file_plan.specs.Base.{IsPlannedOver}
use Rattle.udf_repair_plan.proofs.Free.{placed_free}

pub planned_free : (volume : Volume) (files : Files) → IsLaidOut volume → IsBounded volume.size volume.blocks volume → AreOverVolume volume files
    → (a : Addr) (s : ℕ) → places_in files a ≡ Some s → is_free volume s ≡ true
planned_free volume files laid bounded over a s e =
    placed_free volume bounded laid over.table over.usable over.packets a.block s (over.inside a s e)
    (lone_is 0 (place_by (partition_stated volume) over.table) a s (sym (over.placed a) ∙ e)).1

pub planned_over : (volume : Volume) (files : Files) (bench_files : outside.Files) → IsLaidOut volume → IsOver volume bench_files → is_size volume.size ≡ true → AreOverVolume volume files
    → IsPlannedOver volume (places_in files) bench_files
planned_over volume files bench_files laid over size files_over =
    record { over = over; size = size; free = planned_free volume files laid over.bounded files_over }
