-- What the base map says of sparing, where the maps make one partition with nothing over it.
use Rattle.std.proofs.Common.{◌≡◌, ℕ, refl, sym, ◌∙◌, ap, List, take, drop, Bool, true, false, cond, ◌==◌, Option, Some, None}
use Rattle.std.specs.Prelude.{option_map, codes, slice_index}
use Rattle.udf_model.specs.Bytes.{number_at}
use Rattle.udf_field.specs.FieldView.{entity_is}
use Rattle.udf_volume_model.specs.Sequence.{Descriptor}
use Rattle.udf_volume_model.specs.Maps as model
use Rattle.udf_volume_model.specs.Maps.{PartitionMap, Shape, SparingMap, begins, numbered, second_kind, map_at, map_table, map_count, first_map, second_map, shape_of, lone_shape, pair_shape, shape_under, with_upper, upper_of, or_shape, base_of, sparing_map, is_base_lawful}
use Rattle.udf_volume_model.specs.Stated.{is_built_shape, is_built, sparing_by, sparing, is_lawful_shape, logical}
use Rattle.udf_layer.specs.Tables.{map_seen}
use Rattle.udf_volume.specs.Maps.{kind_of, sparing_in, sparing_of, sparing_stated}
use Rattle.udf_volume.proofs.Mapped.{tables_are}

-- a map over another stands over a base
over : (base : ℕ) (number : List ℕ) (sparing : Option SparingMap) (kind : model.MapKind) → is_built_shape (with_upper base number sparing (upper_of sparing kind)) ≡ false
over base number sparing model.Metadata = refl
over base number None model.Virtual = refl
over base number (Some map) model.Virtual = refl
over base number None model.Physical = refl
over base number (Some map) model.Physical = refl
over base number None (model.Sparable other) = refl
over base number (Some map) (model.Sparable other) = refl

under : (base : ℕ) (number : List ℕ) (kind : model.MapKind) (below : Option (Option SparingMap)) → is_built_shape (shape_under base number kind below) ≡ false
under base number kind None = refl
under base number kind (Some sparing) = over base number sparing kind

either : (a b : Option Shape) → is_built_shape a ≡ false → is_built_shape b ≡ false → is_built_shape (or_shape a b) ≡ false
either None b e f = f
either (Some shape) b e f = e

by_numbers : (b : Bool) (shape : Option Shape) → is_built_shape shape ≡ false → is_built_shape (cond b shape None) ≡ false
by_numbers true shape e = e
by_numbers false shape e = refl

pair_over : (first second : Option PartitionMap) → is_built_shape (pair_shape first second) ≡ false
pair_over None second = refl
pair_over (Some first) None = refl
pair_over (Some first) (Some second) =
    by_numbers _ _ (either _ _ (under 0 first.number second.kind (base_of first.kind)) (under 1 first.number first.kind (base_of second.kind)))

-- what the first map says is what it says of sparing as the only one
module _ (table : List ℕ) where
  abbrev says : Option PartitionMap → Type 0
  says found = option_map map_seen (sparing_of (kind_of found) table) ≡ sparing_by (lone_shape found)

  seen : Some (map_seen (sparing_in table)) ≡ Some (sparing_map table)
  unfolding sparing_map
  seen =
      ap (λ tables. Some (record { packet = number_at 2 table 40; count = slice_index table 42; bytes = number_at 4 table 44; tables = tables }))
      (tables_are table (slice_index table 42))

  by_entity : (a b c : Bool) (number : List ℕ)
      → says (numbered number (cond a (Some (model.Sparable (sparing_map table))) (cond b (Some model.Metadata) (cond c (Some model.Virtual) None))))
  by_entity true b c number = seen
  by_entity false true c number = refl
  by_entity false false true number = refl
  by_entity false false false number = refl

  by_type : (a b : Bool) → says (cond a (Some (record { kind = model.Physical; number = take 2 (drop 4 table) })) (cond b (numbered (take 2 (drop 38 table)) (second_kind table)) None))
  unfolding second_kind
  by_type true b = refl
  by_type false true =
      by_entity (entity_is table 4 (codes "*UDF Sparable Partition")) (entity_is table 4 (codes "*UDF Metadata Partition"))
      (entity_is table 4 (codes "*UDF Virtual Partition")) (take 2 (drop 38 table))
  by_type false false = refl

  says_first : says (map_at table)
  unfolding map_at
  says_first = by_type (begins 1 6 table) (begins 2 64 table)

module _ (body : List ℕ) where
  pub built : is_built_shape (shape_of body) ≡ true → option_map map_seen (sparing_stated body) ≡ sparing_by (shape_of body)
  unfolding shape_of sparing_stated first_map
  built = by_count (map_count body == 1) (map_count body == 2) where
    by_count : (one two : Bool) → is_built_shape (cond one (lone_shape (map_at (map_table body))) (cond two (pair_shape (map_at (map_table body)) (second_map body)) None)) ≡ true
        → option_map map_seen (sparing_of (kind_of (map_at (map_table body))) (map_table body))
        ≡ sparing_by (cond one (lone_shape (map_at (map_table body))) (cond two (pair_shape (map_at (map_table body)) (second_map body)) None))
    by_count true two e = says_first (map_table body)
    by_count false true e = absurd (let f : true ≡ false = sym e ∙ pair_over (map_at (map_table body)) (second_map body) in cc)
    by_count false false e = absurd (let f : false ≡ true = e in cc)

  by_shape : (shape : Option Shape) → is_lawful_shape shape ≡ true → is_base_lawful (sparing_by shape) ≡ true
  by_shape None e = absurd (let f : false ≡ true = e in cc)
  by_shape (Some shape) e = e

  -- a lawful base
  pub spared_by : true ≡ is_lawful_shape (shape_of body) → true ≡ is_built_shape (shape_of body)
      → is_base_lawful (option_map map_seen (sparing_stated body)) ≡ true
  spared_by lawful is = ap is_base_lawful (built (sym is)) ∙ by_shape (shape_of body) (sym lawful)

pub stated_is : (list : List Descriptor) → is_built list ≡ true → option_map map_seen (sparing_stated (logical list)) ≡ sparing list
unfolding is_built sparing
stated_is list e = built (logical list) e
