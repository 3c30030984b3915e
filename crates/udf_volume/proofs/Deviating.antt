-- The verdict on the sparing tables of a volume.
use Rattle.std.proofs.Common.{◌≡◌, ℕ, zero, suc, ◌+◌, ◌-◌, ◌/◌, ◌<◌, ◌≤◌, ◌==◌, ◌||◌, ◌&&◌, arith, refl, sym, ◌∙◌, ap, inl, inr, List, [], ◌∷◌, length, map, min, Bool, true, false, nat_le, Option, Some, None, Result, Ok, Err}
use Rattle.std.specs.Prelude.{IfOk, IfSome, option_map, slice_index}
use Rattle.std.specs.List.{All, list_all, list_any, range_with_len}
use Rattle.std.proofs.lemmas.Bool.{cases_lt, eq-eqb, le-leb}
use Rattle.std.proofs.lemmas.List.Elements.{All-nil, All-weaker}
use Rattle.std.proofs.Math.Nat.{div-mul-le_self}
use Rattle.std.proofs.lemmas.Nat.{le-div}
use Rattle.udf_outside.specs.Files.{Files}
use Rattle.udf_model.specs.Image.{block_of}
use Rattle.udf_volume_model.specs.Anchor.{blocks_for}
use Rattle.udf_volume_model.specs.Areas as model
use Rattle.udf_volume_model.specs.Areas.{tables_by}
use Rattle.udf_volume_model.specs.SparingTable.{prevailing_area, table_end}
use Rattle.udf_layer.specs.Fronts.{IsTableBytes, table_bytes}
use Rattle.udf_layer.specs.Prevailing.{IsTableMap}
use Rattle.udf_layer.specs.Tables.{map_seen}
use Rattle.udf_layer.specs.Verdict.{IsListed, deviations_by}
use Rattle.udf_layer.specs.declared.agreement.Deviation.{Deviation}
use Rattle.udf_layer.specs.declared.agreement.TableVerdict.{TableVerdict}
use Rattle.udf_layer.specs.declared.maps.SparingMap.{SparingMap}
use Rattle.udf_layer.specs.declared.missing.WorkStop.{WorkStop}
use Rattle.udf_volume.specs.Areas.{tables_stated}
use Rattle.udf_volume.specs.Over.{IsOver}
use Rattle.udf_volume.specs.Verdicts.{HasTables, JudgesTables, deviations_of, prevailing_by}
use Rattle.udf_volume.specs.declared.volume.Volume.{Volume}

abbrev pub area_at : ℕ → SparingMap → ℕ → model.Area
area_at size m at = record { start = at; count = blocks_for size m.bytes }

-- more bytes take no fewer blocks
more_blocks : (size fewer bytes : ℕ) → 0 < size → fewer ≤ bytes → blocks_for size fewer ≤ blocks_for size bytes
unfolding blocks_for
more_blocks size fewer bytes some h =
    le-div ((fewer + (size - 1)) / size) (bytes + (size - 1)) size some (omega (arith, div-mul-le_self (fewer + (size - 1)) size))

or-true : (b : Bool) → (b || true) ≡ true
or-true true = refl
or-true false = refl

if_weaker : {X : Type 0} (P Q : X → Type 0) → ((x : X) → P x → Q x) → (o : Option X) → IfSome o P → IfSome o Q
if_weaker P Q f None t = tt
if_weaker P Q f (Some x) t = f x t

if_none : {X : Type 0} (P : X → Type 0) → (o : Option X) → o ≡ None → IfSome o P
if_none P None e = tt
if_none P (Some x) e = absurd (cc)

all_empty : {X : Type 0} (P : X → Type 0) → (l : List X) → l ≡ [] → All P l
all_empty P [] e = All-nil P
all_empty P (x ∷ l) e = absurd (cc)

-- a volume that is not sparable
module _ (volume : Volume) (verdict : TableVerdict) (none : volume.shape.sparing ≡ None) (nothing : verdict.prevailing ≡ None) (empty : verdict.deviating.items ≡ []) where
  pub no_map_judges : (image : List ℕ) → JudgesTables volume image verdict
  no_map_judges image = record {
    prevailing = ap (option_map (λ v. v.items)) nothing ∙ sym (ap (λ s. prevailing_by volume.size (block_of volume.size image) (option_map map_seen s)) none);
    deviating = empty ∙ sym (ap (λ s. deviations_of volume.size (block_of volume.size image) (option_map map_seen s)) none);
  }

  pub no_map_has : HasTables volume verdict
  no_map_has =
      record {
        ends = if_none _ verdict.prevailing nothing;
        head = if_none _ verdict.prevailing nothing;
        room = if_none _ verdict.prevailing nothing;
        listed = all_empty (λ d. list_any (λ area. area.start == d.at) (tables_stated volume) ≡ true) verdict.deviating.items empty;
      }

-- a sparable volume
module _ (volume : Volume) (m : SparingMap) (is : volume.shape.sparing ≡ Some m) where
  pub map_judges : (verdict : TableVerdict) (image : List ℕ)
      → option_map (λ v. v.items) verdict.prevailing ≡ option_map table_bytes (prevailing_area volume.size (block_of volume.size image) (map_seen m))
      → verdict.deviating.items ≡ deviations_by volume.size (block_of volume.size image) (map_seen m) (prevailing_area volume.size (block_of volume.size image) (map_seen m))
      → JudgesTables volume image verdict
  map_judges verdict image p d = record {
    prevailing = p ∙ sym (ap (λ s. prevailing_by volume.size (block_of volume.size image) (option_map map_seen s)) is);
    deviating = d ∙ sym (ap (λ s. deviations_of volume.size (block_of volume.size image) (option_map map_seen s)) is);
  }

  tables_are : tables_stated volume ≡ map (area_at volume.size m) (map_seen m).tables
  tables_are = ap (λ s. tables_by volume.size (option_map map_seen s)) is

  all_roomy : (bytes : ℕ) (list : List ℕ) → bytes ≤ m.bytes → 0 < volume.size
      → list_all (λ area. nat_le (blocks_for volume.size bytes) area.count) (map (area_at volume.size m) list) ≡ true
  all_roomy bytes [] h some = refl
  all_roomy bytes (at ∷ list) h some =
      ap (λ b. b && list_all (λ area. nat_le (blocks_for volume.size bytes) area.count) (map (area_at volume.size m) list))
      (le-leb _ _ (more_blocks volume.size bytes m.bytes some h))
      ∙ all_roomy bytes list h some

  any_listed : (a n i : ℕ) → a ≤ i → i < a + n
      → list_any (λ area. area.start == slice_index m.at i) (map (area_at volume.size m) (map (slice_index m.at) (range_with_len a n))) ≡ true
  any_listed a zero i low high = absurd (omega arith)
  any_listed a (suc n) i low high = elim (cases_lt a i) [
    | inl less ↦ ap (λ b. (slice_index m.at a == slice_index m.at i) || b) (any_listed (a + 1) n i (omega arith) (omega arith)) ∙ or-true (slice_index m.at a == slice_index m.at i)
    | inr more ↦ ap (λ b. b || list_any (λ area. area.start == slice_index m.at i) (map (area_at volume.size m) (map (slice_index m.at) (range_with_len (a + 1) n))))
        (eq-eqb _ _ (ap (slice_index m.at) (let same : a ≡ i = omega arith in same)))
  ]

  of_listed : (d : Deviation) → m.count ≤ 4 → IsListed m d.at → list_any (λ area. area.start == d.at) (tables_stated volume) ≡ true
  of_listed d few (i, low, at) =
      ap (λ l. list_any (λ area. area.start == d.at) l) tables_are
      ∙ ap (λ n. list_any (λ area. area.start == n) (map (area_at volume.size m) (map_seen m).tables)) at
      ∙ any_listed 0 (min m.count 4) i (omega arith) (omega arith)

  map_has : (verdict : TableVerdict) (files : Files) → IsOver volume files → IsTableMap volume.size files.image.size m → IfSome verdict.prevailing (λ v. IsTableBytes m.bytes v.items)
      → All (λ d. IsListed m d.at) verdict.deviating.items → HasTables volume verdict
  map_has verdict files over map_is table listed =
      let some : 0 < volume.size = omega (arith, over.large) in
      record {
        ends = if_weaker (λ v. IsTableBytes m.bytes v.items) (λ v. length v.items ≡ table_end v.items) (λ v t. t.ends) verdict.prevailing table;
        head = if_weaker (λ v. IsTableBytes m.bytes v.items) (λ v. 56 ≤ length v.items) (λ v t. omega (arith, t.ends)) verdict.prevailing table;
        room = if_weaker (λ v. IsTableBytes m.bytes v.items)
            (λ v. list_all (λ area. nat_le (blocks_for volume.size (length v.items)) area.count) (tables_stated volume) ≡ true)
            (λ v t. ap (list_all (λ area. nat_le (blocks_for volume.size (length v.items)) area.count)) tables_are
            ∙ all_roomy (length v.items) (map_seen m).tables t.fits some) verdict.prevailing table;
        listed = All-weaker (λ d. IsListed m d.at) _ (λ d. of_listed d map_is.few) verdict.deviating.items listed;
      }

  pub all_have : (files : Files) → IsOver volume files → IsTableMap volume.size files.image.size m → (result : Result TableVerdict WorkStop)
      → IfOk result (λ v. IfSome v.prevailing (λ b. IsTableBytes m.bytes b.items)) → IfOk result (λ v. All (λ d. IsListed m d.at) v.deviating.items)
      → IfOk result (HasTables volume)
  all_have files over map_is (Ok verdict) table listed = map_has verdict files over map_is table listed
  all_have files over map_is (Err stop) table listed = tt
