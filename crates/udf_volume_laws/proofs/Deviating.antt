-- The listed tables that do not agree with the prevailing one.
use Rattle.std.proofs.Common.{◌≡◌, ℕ, ◌+◌, ◌<◌, ◌≤◌, arith, refl, sym, ◌∙◌, ap, subst, List, [], ◌∷◌, Bool, true, false, cond, not, Some, map, inl, inr, ◌⊎◌}
use Rattle.std.specs.List.{list_all, filter}
use Rattle.std.proofs.lemmas.Bool.{and_parts, not-true}
use Rattle.udf_volume_model.specs.Sequence.{Descriptor}
use Rattle.udf_volume_model.specs.Anchor.{blocks_for}
use Rattle.udf_volume_model.specs.Kept.{KeptSequence}
use Rattle.udf_volume_model.specs.Stated.{sparing}
use Rattle.udf_volume_model.specs.Maps.{SparingMap}
use Rattle.udf_volume_model.specs.Areas.{Area, areas_of, tables_by, table_areas}
use Rattle.udf_volume_model.specs.Layout.{is_apart, are_apart, are_lawful, are_places_lawful, is_lawful}
use Rattle.udf_volume_model.specs.SparingTable.{prevailing_area}
use Rattle.udf_volume_model.specs.SparingRule.{agrees_with, is_coverable, deviating}
use Rattle.udf_volume_laws.proofs.Members.{IsIn, all_at, mapped_in, kept_in, in_kept}
use Rattle.udf_volume_laws.proofs.Rising.{AreDistinct, filter_distinct}
use Rattle.udf_volume_laws.proofs.Apart.{apart, spread}
use Rattle.udf_volume_laws.proofs.Prevailed.{area_at, prevails, some_blocks}

pub record IsDeviating (size : ℕ) (disk : ℕ → List ℕ) (s : SparingMap) (table : List ℕ) (at : ℕ) : Type 0 where
  pub listed : IsIn at s.tables
  pub coverable : is_coverable table ≡ true
  pub disagrees : agrees_with s.bytes at (area_at size disk s at) table ≡ false

pub deviating_parts : (size : ℕ) (disk : ℕ → List ℕ) (s : SparingMap) (table : List ℕ) (at : ℕ) → IsIn at (deviating size disk s table) → IsDeviating size disk s table at
unfolding deviating
deviating_parts size disk s table at = by_test (is_coverable table) refl where
  by_test : (b : Bool) → is_coverable table ≡ b → IsIn at (cond b (filter (λ n. not (agrees_with s.bytes n (area_at size disk s n) table)) s.tables) []) → IsDeviating size disk s table at
  by_test true t i =
      let k = kept_in (λ n. not (agrees_with s.bytes n (area_at size disk s n) table)) s.tables at i in
      record { listed = k.0; coverable = t; disagrees = not-true _ k.1 }
  by_test false t i = absurd i

pub deviates : (size : ℕ) (disk : ℕ → List ℕ) (s : SparingMap) (table : List ℕ) (at : ℕ) → IsDeviating size disk s table at → IsIn at (deviating size disk s table)
unfolding deviating
deviates size disk s table at d =
    subst (λ (b : Bool). IsIn at (cond b (filter (λ n. not (agrees_with s.bytes n (area_at size disk s n) table)) s.tables) [])) (sym d.coverable)
    (in_kept (λ n. not (agrees_with s.bytes n (area_at size disk s n) table)) s.tables at d.listed (ap not d.disagrees))

-- tables that are apart stand at different sectors
tables_distinct : (count : ℕ) (xs : List ℕ) → 0 < count → are_apart (map (λ at. record { start = at; count = count }) xs) ≡ true → AreDistinct xs
unfolding are_apart
tables_distinct count [] some e = tt
tables_distinct count (x ∷ xs) some e =
    let of : ℕ → Area = λ (at : ℕ). record { start = at; count = count } in
    let parts = and_parts (list_all (is_apart (of x)) (map of xs)) (are_apart (map of xs)) e in (
      (λ i.
          by_side (apart (of x) (of x) (all_at (is_apart (of x)) (map of xs) (of x) parts.0 (mapped_in of xs x i)) some some)),
      tables_distinct count xs some parts.1,
    )
  where
    by_side : (x + count ≤ x) ⊎ (x + count ≤ x) → ⊥
    by_side (inl h) = omega arith
    by_side (inr h) = omega arith

-- tables that are apart stand at one sector, or apart
pub tables_apart : (count : ℕ) (xs : List ℕ) → 0 < count → are_apart (map (λ at. record { start = at; count = count }) xs) ≡ true
    → (a b : ℕ) → IsIn a xs → IsIn b xs → (b ≡ a) ⊎ ((b + count ≤ a) ⊎ (a + count ≤ b))
unfolding are_apart
tables_apart count [] some e a b i j = absurd i
tables_apart count (x ∷ xs) some e a b i j = by_both (tables_apart count xs some parts.1 a b) i j where
  of : ℕ → Area
  of at = record { start = at; count = count }

  parts : (list_all (is_apart (of x)) (map of xs) ≡ true) × (are_apart (map of xs) ≡ true)
  parts = and_parts (list_all (is_apart (of x)) (map of xs)) (are_apart (map of xs)) e

  from_first : (y : ℕ) → IsIn y xs → (x + count ≤ y) ⊎ (y + count ≤ x)
  from_first y k = apart (of x) (of y) (all_at (is_apart (of x)) (map of xs) (of y) parts.0 (mapped_in of xs y k)) some some

  after : a ≡ x → (x + count ≤ b) ⊎ (b + count ≤ x) → (b ≡ a) ⊎ ((b + count ≤ a) ⊎ (a + count ≤ b))
  after is (inl h) = inr (inr (omega arith))
  after is (inr h) = inr (inl (omega arith))

  before : b ≡ x → (x + count ≤ a) ⊎ (a + count ≤ x) → (b ≡ a) ⊎ ((b + count ≤ a) ⊎ (a + count ≤ b))
  before is (inl h) = inr (inl (omega arith))
  before is (inr h) = inr (inr (omega arith))

  by_both : (IsIn a xs → IsIn b xs → (b ≡ a) ⊎ ((b + count ≤ a) ⊎ (a + count ≤ b))) → IsIn a (x ∷ xs) → IsIn b (x ∷ xs) → (b ≡ a) ⊎ ((b + count ≤ a) ⊎ (a + count ≤ b))
  by_both rest (inl is) (inl same) = inl (same ∙ sym is)
  by_both rest (inl is) (inr k) = after is (from_first b k)
  by_both rest (inr k) (inl is) = before is (from_first a k)
  by_both rest (inr k) (inr l) = rest k l

pub areas_lawful : (size blocks : ℕ) (disk : ℕ → List ℕ) (volume : KeptSequence) → is_lawful size blocks disk volume ≡ true
    → are_lawful size blocks volume.list (areas_of size volume.anchor volume.list) ≡ true
unfolding is_lawful
areas_lawful size blocks disk volume e =
    (and_parts (are_lawful size blocks volume.list (areas_of size volume.anchor volume.list))
    (are_places_lawful size blocks disk volume.place (areas_of size volume.anchor volume.list)) e).0

pub table_areas_are : (size : ℕ) (list : List Descriptor) (s : SparingMap) → sparing list ≡ Some s
    → table_areas size list ≡ map (λ at. record { start = at; count = blocks_for size s.bytes }) s.tables
unfolding table_areas
table_areas_are size list s e = ap (tables_by size) e

pub deviating_distinct : (size blocks : ℕ) (disk : ℕ → List ℕ) (volume : KeptSequence) (s : SparingMap) (table : List ℕ) → is_lawful size blocks disk volume ≡ true
    → sparing volume.list ≡ Some s → prevailing_area size disk s ≡ Some table → AreDistinct (deviating size disk s table)
unfolding deviating
deviating_distinct size blocks disk volume s table lawful is found = by_test (is_coverable table) where
  listed : AreDistinct s.tables
  listed =
      tables_distinct (blocks_for size s.bytes) s.tables (some_blocks size disk s table (prevails size disk s table found))
      (ap are_apart (sym (table_areas_are size volume.list s is)) ∙ (spread size blocks volume.anchor volume.list (areas_lawful size blocks disk volume lawful)).tables)

  by_test : (b : Bool) → AreDistinct (cond b (filter (λ n. not (agrees_with s.bytes n (area_at size disk s n) table)) s.tables) [])
  by_test true = filter_distinct (λ n. not (agrees_with s.bytes n (area_at size disk s n) table)) s.tables listed
  by_test false = tt
