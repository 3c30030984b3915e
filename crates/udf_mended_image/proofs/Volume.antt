-- The volume of an image that has, where its volume is read from, what the volume's own mend leaves.
use Rattle.std.proofs.Common.{◌≡◌, ℕ, ◌≤◌, ◌/◌, refl, sym, ◌∙◌, ap, subst, List, [], ◌∷◌, length, true, Option, Some, None, Result, Ok, Err, is_ok, inl, inr}
use Rattle.std.specs.Prelude.{option_map}
use Rattle.std.specs.List.{list_any}
use Rattle.std.proofs.lemmas.Bool.{or_left, or_right}
use Rattle.udf_model.specs.Image.{block_of, blocks_in}
use Rattle.udf_volume_model.specs.Anchor.{blocks_for}
use Rattle.udf_volume_model.specs.Areas.{Area, area_of, covers, layout_of, partition_area, table_areas, table_or_none, used_by, used_table}
use Rattle.udf_volume_model.specs.AllRules.{layout_in}
use Rattle.udf_volume_model.specs.Kept.{KeptSequence, kept_sequence_of}
use Rattle.udf_volume_model.specs.Maps.{SparingMap}
use Rattle.udf_volume_model.specs.Opened.{is_opened, is_volume_unbroken, volume_mended}
use Rattle.udf_volume_model.specs.Same.{IsUnmoved, is_read}
use Rattle.udf_volume_model.specs.Sequence.{Descriptor}
use Rattle.udf_volume_model.specs.SparingTable.{table_area, table_stated, used_of}
use Rattle.udf_volume_model.specs.Stated.{logical, partition, sparing}
use Rattle.udf_volume_laws.proofs.Apart.{covered}
use Rattle.udf_volume_laws.proofs.Cut.{same_from}
use Rattle.udf_volume_laws.proofs.Final.{IsMendedImage, mended_image}
use Rattle.udf_volume_laws.proofs.Members.{IsIn}
use Rattle.udf_volume_laws.proofs.Others.{unmoved}
use Rattle.udf_volume_laws.proofs.Prevailed.{area_at, same_prevailing}
use Rattle.udf_volume_laws.proofs.Spares.{table_area_in}
use Rattle.udf_layer.specs.declared.missing.Missing.{Missing}
use Rattle.udf_volume.specs.Areas.{layout_stated}
use Rattle.udf_volume.specs.Opened.{volume_by}
use Rattle.udf_volume.specs.Taken.{opening}
use Rattle.udf_volume.specs.declared.volume.Volume.{Volume}
use Rattle.udf_volume.proofs.Described.{Describes, layout_in_is, opened_ok}
use Rattle.udf_volume.proofs.Openable.{opened_is}

-- what two volumes have in common that differ at most in their kept anchor and their kept sequence
pub record SameFields (a b : Volume) : Type 0 where
  pub size : a.size ≡ b.size
  pub blocks : a.blocks ≡ b.blocks
  pub shape : a.shape ≡ b.shape
  pub start : a.start ≡ b.start
  pub length : a.length ≡ b.length
  pub bitmap : a.bitmap ≡ b.bitmap
  pub integrity : a.integrity ≡ b.integrity
  pub file_set : a.file_set ≡ b.file_set
  pub access : a.access ≡ b.access
  pub guarded : a.guarded ≡ b.guarded

same_fields : (size m n : ℕ) (s t : KeptSequence) → s.list ≡ t.list → m ≡ n
    → SameFields (volume_by size m s (logical s.list) (partition s.list)) (volume_by size n t (logical t.list) (partition t.list))
unfolding volume_by
same_fields size m n s t e k = record {
  size = refl;
  blocks = k;
  shape = ap (λ l. (volume_by size m s (logical l) (partition l)).shape) e;
  start = ap (λ l. (volume_by size m s (logical l) (partition l)).start) e;
  length = ap (λ l. (volume_by size m s (logical l) (partition l)).length) e;
  bitmap = ap (λ l. (volume_by size m s (logical l) (partition l)).bitmap) e;
  integrity = ap (λ l. (volume_by size m s (logical l) (partition l)).integrity) e;
  file_set = ap (λ l. (volume_by size m s (logical l) (partition l)).file_set) e;
  access = ap (λ l. (volume_by size m s (logical l) (partition l)).access) e;
  guarded = ap (λ l. (volume_by size m s (logical l) (partition l)).guarded) e;
}

-- the used sparing table is read from the areas of the tables
same_table : (size : ℕ) (disk other : ℕ → List ℕ) (list : List Descriptor)
    → ((area : Area) (n : ℕ) → IsIn area (table_areas size list) → covers area n ≡ true → disk n ≡ other n) → used_table size other list ≡ used_table size disk list
unfolding used_table table_stated
same_table size disk other list agree = by (sparing list) refl
  where
    area_stays : (s : SparingMap) (at : ℕ) → sparing list ≡ Some s → IsIn at s.tables → area_at size disk s at ≡ area_at size other s at
    area_stays s at is i =
        let area : Area = record { start = at; count = blocks_for size s.bytes } in
        unfold table_area in
        same_from disk other at (blocks_for size s.bytes) (λ n l h. agree area n (table_area_in size list s at is i) (covered area n l h))

    by : (o : Option SparingMap) → sparing list ≡ o
        → used_by size other (partition_area list).count o ≡ used_by size disk (partition_area list).count o
    by None is = refl
    by (Some s) is =
        ap (λ (o : Option (List ℕ)). table_or_none (option_map (used_of s.packet (partition_area list).count) o))
        (sym (same_prevailing size disk other s (λ at i. area_stays s at is i)))

any_in : (area : Area) (areas : List Area) (n : ℕ) → IsIn area areas → covers area n ≡ true → list_any (λ x. covers x n) areas ≡ true
any_in area [] n i c = absurd i
any_in area (x ∷ xs) n (inl e) c = or_left (covers x n) (list_any (λ y. covers y n) xs) (ap (λ (y : Area). covers y n) (sym e) ∙ c)
any_in area (x ∷ xs) n (inr i) c = or_right (covers x n) (list_any (λ y. covers y n) xs) (any_in area xs n i c)

ok_value : (r : Result Volume Missing) → is_ok r ≡ true → (volume : Volume) × (r ≡ Ok volume)
ok_value (Ok volume) e = (volume, refl)
ok_value (Err missing) e = absurd (cc)

-- The volume that is opened of an image after.
pub record Reopens (size : ℕ) (image after : List ℕ) (volume : Volume) : Type 0 where
  pub found : Volume
  pub opens : opening size after ≡ Ok found
  pub same : SameFields found volume
  pub layout : layout_stated found (block_of size after) ≡ layout_stated volume (block_of size image)
  pub unbroken : is_volume_unbroken size after ≡ true

module _ (size : ℕ) (image after : List ℕ) (volume : Volume) (large : 512 ≤ size) (opens : opening size image ≡ Ok volume) (long : length after ≡ length image)
    (read : (s : KeptSequence) → kept_sequence_of size (volume_mended size image) ≡ Some s → (n : ℕ)
    → is_read size (blocks_in size image) (block_of size (volume_mended size image)) s n ≡ true → block_of size after n ≡ block_of size (volume_mended size image) n) where
  abbrev between : List ℕ
  between = volume_mended size image

  is_open : is_opened size image ≡ true
  is_open = opened_is size image ∙ ap is_ok opens

  law : IsMendedImage size image (volume_mended size image)
  law = mended_image size image large is_open

  counted : blocks_in size (volume_mended size image) ≡ blocks_in size image
  counted = ap (λ n. n / size) law.length_stays

  stays : IsUnmoved size (volume_mended size image) after
  stays =
      unmoved size between after law.after_is large law.opened law.after_volume (long ∙ sym law.length_stays)
      (λ n e. read law.after_is law.after_volume n (ap (λ k. is_read size k (block_of size between) law.after_is n) (sym counted) ∙ e))

  after_found : kept_sequence_of size after ≡ Some law.after_is
  after_found = stays.volume ∙ law.after_volume

  after_ok : (found : Volume) × (opening size after ≡ Ok found)
  after_ok = ok_value (opening size after) (sym (opened_is size after) ∙ stays.opened ∙ law.opened)

  described : (s : KeptSequence) × Describes size after after_ok.0 s
  described = opened_ok size after after_ok.0 after_ok.1

  before : (s : KeptSequence) × Describes size image volume s
  before = opened_ok size image volume opens

  some_same : (a b : KeptSequence) → Some a ≡ Some b → a ≡ b
  some_same a b e = cc

  sequence_is : described.0 ≡ law.after_is
  sequence_is = some_same described.0 law.after_is (sym described.1.found ∙ after_found)

  first_is : before.0 ≡ law.before_is
  first_is = some_same before.0 law.before_is (sym before.1.found ∙ law.before_volume)

  lists_same : described.0.list ≡ before.0.list
  lists_same = ap (λ (s : KeptSequence). s.list) sequence_is ∙ law.same.list ∙ sym (ap (λ (s : KeptSequence). s.list) first_is)

  fields : SameFields after_ok.0 volume
  fields =
      subst (λ (a : Volume). SameFields a volume) (sym described.1.is)
      (subst (λ (b : Volume). SameFields (volume_by size (blocks_in size after) described.0 (logical described.0.list) (partition described.0.list)) b) (sym before.1.is)
      (same_fields size (blocks_in size after) (blocks_in size image) described.0 before.0 lists_same (ap (λ n. n / size) long)))

  tables_read : (area : Area) (n : ℕ) → IsIn area (table_areas size law.after_is.list) → covers area n ≡ true → block_of size between n ≡ block_of size after n
  tables_read area n i c = sym (read law.after_is law.after_volume n by_tables)
    where
      by_tables : is_read size (blocks_in size image) (block_of size between) law.after_is n ≡ true
      by_tables =
          unfold is_read in
          or_right (covers (area_of size law.after_is.anchor.main) n) _ (or_right (covers (area_of size law.after_is.anchor.reserve) n) _
          (or_left (list_any (λ area. covers area n) (table_areas size law.after_is.list)) _ (any_in area (table_areas size law.after_is.list) n i c)))

  layouts_same : layout_stated after_ok.0 (block_of size after) ≡ layout_stated volume (block_of size image)
  layouts_same =
      layout_in_is size after after_ok.0 described.0 described.1
      ∙ ap (λ (s : KeptSequence). layout_in size (block_of size after) s) sequence_is
      ∙ step
      ∙ law.same.layout
      ∙ sym (ap (λ (s : KeptSequence). layout_in size (block_of size image) s) first_is)
      ∙ sym (layout_in_is size image volume before.0 before.1)
    where
      step : layout_in size (block_of size after) law.after_is ≡ layout_in size (block_of size between) law.after_is
      step =
          unfold layout_of in
          ap (λ t. record { areas = (layout_in size (block_of size between) law.after_is).areas; table = t })
          (same_table size (block_of size between) (block_of size after) law.after_is.list tables_read)

  pub reopens : Reopens size image after volume
  reopens = record {
    found = after_ok.0;
    opens = after_ok.1;
    same = fields;
    layout = layouts_same;
    unbroken = stays.unbroken ∙ law.rules;
  }
