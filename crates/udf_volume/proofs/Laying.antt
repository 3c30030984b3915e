-- The lawful layout, test by test.
use Rattle.std.proofs.Common.{◌≡◌, ℕ, ◌<◌, ◌≤◌, arith, refl, sym, ◌∙◌, ap, List, [], ◌∷◌, length, map, Bool, true, false, cond, ◌&&◌, Option, Some, None, eqb, ltb}
use Rattle.std.specs.Prelude.{is_none, option_map}
use Rattle.std.specs.List.{list_all}
use Rattle.std.proofs.lemmas.Bool.{eq-eqb, le-ltb, lt-ltb}
use Rattle.std.proofs.lemmas.List.Folds.{list_all-map}
use Rattle.udf_volume_model.specs.Anchor.{places, anchor_in}
use Rattle.udf_volume_model.specs.Areas as model
use Rattle.udf_volume_model.specs.Areas.{is_outside}
use Rattle.udf_volume_model.specs.Layout.{is_apart, are_apart, is_inside, earlier, is_passed}
use Rattle.udf_volume_model.specs.Areas.{tables_by}
use Rattle.udf_volume_model.specs.Anchor.{blocks_for}
use Rattle.udf_volume_model.specs.Maps.{SparingMap}
use Rattle.udf_layer.specs.Tables.{map_seen}
use Rattle.udf_layer.specs.declared.maps.SparingMap as code
use Rattle.udf_volume.specs.Areas.{area_seen, areas_stated, sparing_seen, tables_stated}
use Rattle.udf_volume.specs.Laid.{is_bitmap_at, are_high_stated, areas_laid, places_laid, is_laid, IsLaidOut}
use Rattle.udf_layer.specs.declared.area.Area.{Area}
use Rattle.udf_volume.specs.declared.volume.Volume.{Volume}

pub none_apart : (areas : List Area) → length areas ≡ 0 → true ≡ are_apart (map area_seen areas)
unfolding are_apart
none_apart [] e = refl
none_apart (area ∷ areas) e = absurd (omega arith)

apart_as : (area : Area) (rest : List Area) (here : Bool) → here ≡ list_all (λ other. is_apart (area_seen area) (area_seen other)) rest
    → are_apart (map area_seen (area ∷ rest)) ≡ (here && are_apart (map area_seen rest))
unfolding are_apart
apart_as area rest here h =
    ap (λ b. b && are_apart (map area_seen rest)) (sym (h ∙ sym (list_all-map (is_apart (area_seen area)) area_seen rest)))

pub first_not_apart : (area : Area) (rest : List Area) → false ≡ list_all (λ other. is_apart (area_seen area) (area_seen other)) rest
    → false ≡ are_apart (map area_seen (area ∷ rest))
first_not_apart area rest h = sym (apart_as area rest false h)

pub first_apart : (area : Area) (rest : List Area) (answer : Bool) → true ≡ list_all (λ other. is_apart (area_seen area) (area_seen other)) rest
    → answer ≡ are_apart (map area_seen rest) → answer ≡ are_apart (map area_seen (area ∷ rest))
first_apart area rest answer h t = t ∙ sym (apart_as area rest true h)

module _ (volume : Volume) (areas : List Area) where
  laid_with : (inside apart : Bool) → inside ≡ list_all (λ area. is_inside volume.blocks (area_seen area)) areas → apart ≡ are_apart (map area_seen areas)
      → areas_laid volume (map area_seen areas) ≡ (inside && (apart && (are_high_stated volume && is_bitmap_at volume.size volume.length volume.bitmap)))
  unfolding areas_laid
  laid_with inside apart i a =
      ap (λ x. x && (are_apart (map area_seen areas) && (are_high_stated volume && is_bitmap_at volume.size volume.length volume.bitmap)))
      (sym (i ∙ sym (list_all-map (is_inside volume.blocks) area_seen areas)))
      ∙ ap (λ x. inside && (x && (are_high_stated volume && is_bitmap_at volume.size volume.length volume.bitmap))) (sym a)

  pub not_inside : false ≡ list_all (λ area. is_inside volume.blocks (area_seen area)) areas → false ≡ areas_laid volume (map area_seen areas)
  not_inside i = sym (laid_with false (are_apart (map area_seen areas)) i refl)

  pub not_apart : true ≡ list_all (λ area. is_inside volume.blocks (area_seen area)) areas → false ≡ are_apart (map area_seen areas)
      → false ≡ areas_laid volume (map area_seen areas)
  not_apart i a = sym (laid_with true false i a)

  pub too_low : true ≡ list_all (λ area. is_inside volume.blocks (area_seen area)) areas → true ≡ are_apart (map area_seen areas)
      → false ≡ are_high_stated volume → false ≡ areas_laid volume (map area_seen areas)
  too_low i a low = sym (laid_with true true i a ∙ ap (λ b. b && is_bitmap_at volume.size volume.length volume.bitmap) (sym low))

  pub bitmap_left : (bitmap : Bool) → true ≡ list_all (λ area. is_inside volume.blocks (area_seen area)) areas → true ≡ are_apart (map area_seen areas)
      → true ≡ are_high_stated volume → bitmap ≡ is_bitmap_at volume.size volume.length volume.bitmap → bitmap ≡ areas_laid volume (map area_seen areas)
  bitmap_left bitmap i a high b =
      b ∙ sym (laid_with true true i a ∙ ap (λ x. x && is_bitmap_at volume.size volume.length volume.bitmap) (sym high))

-- the partition and the sparing tables start high
module _ (volume : Volume) where
  high_by : (sparing : Option SparingMap) → sparing_seen volume ≡ sparing
      → are_high_stated volume ≡ (ltb 128 volume.start && list_all (λ area. ltb 128 area.start) (tables_by volume.size sparing))
  unfolding are_high_stated
  high_by sparing e = ap (λ s. ltb 128 volume.start && list_all (λ area. ltb 128 area.start) (tables_by volume.size s)) e

  pub low_partition : volume.start ≤ 128 → false ≡ are_high_stated volume
  unfolding are_high_stated
  low_partition low = sym (ap (λ b. b && list_all (λ area. ltb 128 area.start) (tables_stated volume)) (le-ltb _ _ low))

  pub no_tables : 128 < volume.start → volume.shape.sparing ≡ None → true ≡ are_high_stated volume
  no_tables high e = sym (high_by None (ap (option_map map_seen) e) ∙ ap (λ b. b && true) (lt-ltb _ _ high))

  pub high_tables : (map : code.SparingMap) (tables : List ℕ) (answer : Bool) → 128 < volume.start → volume.shape.sparing ≡ Some map → tables ≡ (map_seen map).tables
      → answer ≡ list_all (λ at. ltb 128 at) tables → answer ≡ are_high_stated volume
  high_tables m tables answer high e t a =
      a ∙ ap (list_all (λ at. ltb 128 at)) t
      ∙ sym (high_by (Some (map_seen m)) (ap (option_map map_seen) e)
      ∙ ap (λ b. b && list_all (λ area. ltb 128 area.start) (tables_by volume.size (Some (map_seen m)))) (lt-ltb _ _ high)
      ∙ list_all-map (λ area. ltb 128 area.start) (λ at. record { start = at; count = blocks_for volume.size m.bytes }) (map_seen m).tables)

module _ (size blocks : ℕ) (disk : ℕ → List ℕ) (areas : List model.Area) (kept : ℕ) where
  abbrev passes : List ℕ → Bool
  passes list = list_all (is_passed size blocks disk areas) (earlier kept list)

  pub none_earlier : (list : List ℕ) → length list ≡ 0 → true ≡ passes list
  unfolding earlier
  none_earlier [] e = refl
  none_earlier (place ∷ rest) e = absurd (omega arith)

  pub kept_earlier : (place : ℕ) (rest : List ℕ) → place ≡ kept → true ≡ passes (place ∷ rest)
  unfolding earlier
  kept_earlier place rest e = sym (ap (λ b. list_all (is_passed size blocks disk areas) (cond b [] (place ∷ earlier kept rest))) (eq-eqb place kept e))

  before : (place : ℕ) (rest : List ℕ) → eqb place kept ≡ false → passes (place ∷ rest) ≡ (is_passed size blocks disk areas place && passes rest)
  unfolding earlier
  before place rest e = ap (λ b. list_all (is_passed size blocks disk areas) (cond b [] (place ∷ earlier kept rest))) e

  pub one_in : (place : ℕ) (rest : List ℕ) → eqb place kept ≡ false → false ≡ is_outside areas place → false ≡ passes (place ∷ rest)
  unfolding is_passed
  one_in place rest e f = sym (before place rest e ∙ ap (λ b. (b && is_none (anchor_in size blocks place (disk place))) && passes rest) (sym f))

  pub one_whole : (place : ℕ) (rest block : List ℕ) → eqb place kept ≡ false → true ≡ is_outside areas place → block ≡ disk place
      → is_none (anchor_in size blocks place block) ≡ false → false ≡ passes (place ∷ rest)
  unfolding is_passed
  one_whole place rest block e f is some =
      sym (before place rest e ∙ ap (λ b. (b && is_none (anchor_in size blocks place (disk place))) && passes rest) (sym f)
      ∙ ap (λ b. b && passes rest) (sym (ap (λ l. is_none (anchor_in size blocks place l)) is) ∙ some))

  pub one_passed : (place : ℕ) (rest block : List ℕ) (answer : Bool) → eqb place kept ≡ false → true ≡ is_outside areas place → block ≡ disk place
      → is_none (anchor_in size blocks place block) ≡ true → answer ≡ passes rest → answer ≡ passes (place ∷ rest)
  unfolding is_passed
  one_passed place rest block answer e f is none a =
      a ∙ sym (before place rest e ∙ ap (λ b. (b && is_none (anchor_in size blocks place (disk place))) && passes rest) (sym f)
      ∙ ap (λ b. b && passes rest) (sym (ap (λ l. is_none (anchor_in size blocks place l)) is) ∙ none))

module _ (volume : Volume) (disk : ℕ → List ℕ) (areas : List model.Area) (is : areas ≡ areas_stated volume) where
  laid_as : is_laid volume disk ≡ (areas_laid volume areas && places_laid volume disk areas)
  unfolding is_laid
  laid_as = sym (ap (λ l. areas_laid volume l && places_laid volume disk l) is)

  pub not_laid : false ≡ areas_laid volume areas → false ≡ is_laid volume disk
  not_laid e = sym (laid_as ∙ ap (λ b. b && places_laid volume disk areas) (sym e))

  pub anchor_in_area : true ≡ areas_laid volume areas → false ≡ is_outside areas volume.anchor → false ≡ is_laid volume disk
  unfolding places_laid
  anchor_in_area e f =
      sym (laid_as ∙ ap (λ b. b && places_laid volume disk areas) (sym e)
      ∙ ap (λ b. b && list_all (is_passed volume.size volume.blocks disk areas) (earlier volume.anchor (places volume.blocks))) (sym f))

  pub laid_by : (list : List ℕ) (answer : Bool) → true ≡ areas_laid volume areas → true ≡ is_outside areas volume.anchor → list ≡ places volume.blocks
      → answer ≡ list_all (is_passed volume.size volume.blocks disk areas) (earlier volume.anchor list) → answer ≡ is_laid volume disk
  unfolding places_laid
  laid_by list answer e f l a =
      a ∙ ap (λ p. list_all (is_passed volume.size volume.blocks disk areas) (earlier volume.anchor p)) l
      ∙ sym (laid_as ∙ ap (λ b. b && places_laid volume disk areas) (sym e)
      ∙ ap (λ b. b && list_all (is_passed volume.size volume.blocks disk areas) (earlier volume.anchor (places volume.blocks))) (sym f))

pub laid_out : (volume : Volume) (areas : List model.Area) → areas ≡ areas_stated volume → true ≡ areas_laid volume areas
    → true ≡ is_outside areas volume.anchor → IsLaidOut volume
laid_out volume areas is laid out = record {
  areas = ap (areas_laid volume) (sym is) ∙ sym laid;
  anchor = ap (λ l. is_outside l volume.anchor) (sym is) ∙ sym out;
}
