-- The places of an image's volume, by the fields of the volume that was opened.
use Rattle.std.proofs.Common.{◌≡◌, ℕ, List, sym, ap, ◌∙◌}
use Rattle.udf_model.specs.Image.{block_of}
use Rattle.udf_volume_model.specs.Areas as model
use Rattle.udf_volume_model.specs.Areas.{Area, partition_area, table_or_none}
use Rattle.udf_volume_model.specs.Kept.{KeptSequence}
use Rattle.udf_volume_model.specs.AllRules.{layout_in}
use Rattle.udf_volume_model.specs.SparingTable.{Table}
use Rattle.udf_volume.specs.declared.opened.Opened.{Opened}
use Rattle.udf_volume.specs.declared.volume.Volume.{Volume}
use Rattle.udf_volume.specs.Areas.{partition_stated}
use Rattle.udf_volume.specs.Opened.{volume_by}
use Rattle.udf_volume.specs.Taken.{IsOpenedOf}
use Rattle.udf_volume.proofs.Described.{Describes, layout_in_is, opened_ok}
use Rattle.udf_rules_model.specs.Places.{place_by, place_in, place_of}

partition_is : (size : ℕ) (image : List ℕ) (volume : Volume) (v : KeptSequence) → Describes size image volume v → partition_stated volume ≡ partition_area v.list
unfolding volume_by partition_area
partition_is size image volume v d = ap partition_stated d.is

pub places_are : (image : List ℕ) (opened : Opened) → IsOpenedOf image opened
    → place_by (partition_stated opened.volume) (table_or_none opened.layout.table) ≡ place_of opened.volume.size image
unfolding place_of
places_are image opened is =
    let size : ℕ = opened.volume.size in
    let o = opened_ok size image opened.volume is.volume in
    ap (λ (t : Table). place_by (partition_stated opened.volume) t) (ap (λ (l : model.Layout). l.table) is.layout ∙ ap (λ (l : model.Layout). l.table) (layout_in_is size image opened.volume o.0 o.1))
    ∙ ap (λ (a : Area). place_by a (layout_in size (block_of size image) o.0).table) (partition_is size image opened.volume o.0 o.1)
    ∙ ap (place_in size (block_of size image)) (sym o.1.found)
