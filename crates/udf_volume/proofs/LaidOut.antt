-- The layout by the fields of what a kept sequence states is its layout.
use Rattle.std.proofs.Common.{◌≡◌, ℕ, refl, ◌∙◌, ap, List, ◌∷◌, ◌++◌, Bool, true, false, cond, ◌&&◌, ◌||◌, Some, None, ltb}
use Rattle.std.specs.List.{list_all}
use Rattle.udf_field.specs.declared.address.Short.{Short}
use Rattle.udf_field.specs.FieldView.{short_at}
use Rattle.udf_volume_model.specs.Kept as model
use Rattle.udf_volume_model.specs.Stated.{is_built, logical, partition, sparing}
use Rattle.udf_volume_model.specs.Areas.{Area, area_of, areas_of, integrity_areas, integrity_extent, partition_area, table_areas, tables_by, layout_of, used_by, used_table}
use Rattle.udf_volume_model.specs.Layout.{is_inside, are_apart, are_high, is_bitmap, bitmap_bytes, is_bitmap_lawful, are_lawful, are_places_lawful, is_lawful, has_table, has_table_by, are_packets_of, is_spared}
use Rattle.udf_volume.specs.declared.volume.Volume.{Volume}
use Rattle.udf_volume.specs.Areas.{areas_stated, layout_stated, sparing_seen, tables_stated}
use Rattle.udf_volume.specs.Laid.{is_bitmap_at, are_high_stated, areas_laid, places_laid, is_laid}
use Rattle.udf_volume.specs.Opened.{bitmap_in, volume_by}
use Rattle.udf_volume.specs.Taken.{is_spared_stated}
use Rattle.udf_volume.proofs.Sparings.{stated_is}

by_length : (size count : ℕ) (bitmap : Short) (b : Bool) → is_bitmap_at size count (cond b None (Some bitmap)) ≡ (b || is_bitmap size count bitmap.length bitmap.block)
by_length size count bitmap true = refl
by_length size count bitmap false = refl

module _ (size blocks : ℕ) (v : model.KeptSequence) (built : is_built v.list ≡ true) where
  abbrev fields : Volume
  fields = volume_by size blocks v (logical v.list) (partition v.list)

  abbrev areas : List Area
  areas = areas_of size v.anchor v.list

  pub sparing_is : sparing_seen fields ≡ sparing v.list
  unfolding volume_by
  sparing_is = stated_is v.list built

  tables_are : tables_stated fields ≡ table_areas size v.list
  unfolding volume_by table_areas
  tables_are = ap (tables_by size) sparing_is

  stated_are : areas_stated fields ≡ area_of size v.anchor.main ∷ area_of size v.anchor.reserve ∷ (integrity_areas size v.list ++ (partition_area v.list ∷ tables_stated fields))
  unfolding volume_by integrity_areas integrity_extent partition_area
  stated_are = refl

  pub areas_same : areas_stated fields ≡ areas
  unfolding areas_of
  areas_same =
      stated_are ∙ ap (λ tables. area_of size v.anchor.main ∷ area_of size v.anchor.reserve ∷ (integrity_areas size v.list ++ (partition_area v.list ∷ tables))) tables_are

  bitmap_is : is_bitmap_at fields.size fields.length fields.bitmap ≡ is_bitmap_lawful size v.list
  unfolding volume_by bitmap_in is_bitmap_lawful bitmap_bytes partition_area
  bitmap_is = by_length size _ (short_at (partition v.list) 48) _

  high_is : are_high_stated fields ≡ are_high size v.list
  unfolding are_high_stated are_high volume_by partition_area
  high_is = ap (λ (tables : List Area). ltb 128 fields.start && list_all (λ area. ltb 128 area.start) tables) tables_are

  areas_laid_as : areas_laid fields areas ≡ are_lawful size blocks v.list areas
  unfolding areas_laid are_lawful volume_by
  areas_laid_as =
      ap (λ b. list_all (is_inside blocks) areas && (are_apart areas && (are_high_stated fields && b))) bitmap_is
      ∙ ap (λ b. list_all (is_inside blocks) areas && (are_apart areas && (b && is_bitmap_lawful size v.list))) high_is

  places_laid_as : (disk : ℕ → List ℕ) → places_laid fields disk areas ≡ are_places_lawful size blocks disk v.place areas
  unfolding places_laid are_places_lawful volume_by
  places_laid_as disk = refl

  pub laid_is : (disk : ℕ → List ℕ) → is_laid fields disk ≡ is_lawful size blocks disk v
  unfolding is_laid is_lawful
  laid_is disk =
      ap (λ l. areas_laid fields l && places_laid fields disk l) areas_same
      ∙ ap (λ b. b && places_laid fields disk areas) areas_laid_as
      ∙ ap (λ b. are_lawful size blocks v.list areas && b) (places_laid_as disk)

  -- what is said of the packets
  pub spared_is : (disk : ℕ → List ℕ) → is_spared_stated fields disk ≡ is_spared size blocks disk v
  unfolding is_spared_stated is_spared has_table layout_of used_table volume_by partition_area
  spared_is disk =
      ap (λ s. has_table_by size disk s && are_packets_of blocks v.place (record { areas = areas_stated fields; table = used_by size disk fields.length s })) sparing_is
      ∙ ap (λ l. has_table_by size disk (sparing v.list) && are_packets_of blocks v.place (record { areas = l; table = used_by size disk fields.length (sparing v.list) })) areas_same

  pub layout_is : (disk : ℕ → List ℕ) → layout_stated fields disk ≡ layout_of size disk v.anchor v.list
  unfolding layout_of used_table volume_by partition_area
  layout_is disk =
      ap (λ s. record { areas = areas_stated fields; table = used_by size disk fields.length s }) sparing_is
      ∙ ap (λ l. record { areas = l; table = used_by size disk fields.length (sparing v.list) }) areas_same
