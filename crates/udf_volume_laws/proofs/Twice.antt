-- Mending twice is mending once.
use Rattle.std.proofs.Common.{◌≡◌, ℕ, ◌≤◌, refl, sym, ◌∙◌, ap, List, [], ◌++◌, length, true, false, cond, ◌&&◌, Option, Some, None, inl, inr, ◌⊎◌}
use Rattle.std.proofs.lemmas.Bool.{and_parts, cases_Bool}
use Rattle.udf_model.specs.Tag.{relocated}
use Rattle.udf_model.specs.Image.{block_of, blocks_in}
use Rattle.udf_volume_model.specs.Kept.{KeptSequence, kept, other, kept_sequence_of}
use Rattle.udf_volume_model.specs.Sequence.{Descriptor}
use Rattle.udf_volume_model.specs.Stated.{sparing}
use Rattle.udf_volume_model.specs.Maps.{SparingMap}
use Rattle.udf_volume_model.specs.SparingTable.{prevailing_area}
use Rattle.udf_volume_model.specs.Rules.{eligible, bad_of, anchors_hold, sequences_hold}
use Rattle.udf_volume_model.specs.SparingRule.{is_empty, deviating, deviating_by, tables_agree, tables_hold, table_blocks, copies_by, copies_of, table_edits}
use Rattle.udf_volume_model.specs.AllRules.{layout_in, rules_hold}
use Rattle.udf_volume_model.specs.Edits.{put_blocks}
use Rattle.udf_volume_model.specs.Mended.{logical_block, copies, sequence_edits, anchor_edits, edits}
use Rattle.udf_volume_model.specs.Opened.{is_opened, mended_by, volume_mended, is_volume_unbroken_by, is_volume_unbroken}
use Rattle.std.specs.List.{flat_map}
use Rattle.udf_volume_model.specs.Areas.{Layout}
use Rattle.udf_volume_laws.proofs.Puts.{chosen}
use Rattle.udf_volume_laws.proofs.Findings.{empty_is}
use Rattle.udf_volume_laws.proofs.Final.{opened_parts, mended_is, mended_image}

-- where no rule is broken, nothing is put
no_sequence_edits : (size : ℕ) (disk : ℕ → List ℕ) (volume : KeptSequence) → sequences_hold size disk volume ≡ true → sequence_edits size disk volume ≡ []
unfolding sequence_edits
no_sequence_edits size disk volume e =
    ap (λ b. cond b [] (copies size disk (logical_block disk volume) (kept volume).start (other volume).start (length volume.list))) e

no_anchor_edits : (blocks : ℕ) (layout : Layout) (disk : ℕ → List ℕ) (volume : KeptSequence) → anchors_hold blocks layout disk volume ≡ true
    → anchor_edits blocks layout disk volume ≡ []
unfolding anchor_edits
no_anchor_edits blocks layout disk volume e =
    ap (λ b. cond b [] (chosen (λ place. relocated place (disk volume.place)) (bad_of disk volume (eligible blocks layout)))) e

no_table_edits : (size : ℕ) (disk : ℕ → List ℕ) (list : List Descriptor) → tables_hold size disk list ≡ true → table_edits size disk list ≡ []
unfolding tables_hold table_edits
no_table_edits size disk list = by_sparing (sparing list) where
  by_table : (s : SparingMap) (o : Option (List ℕ)) → is_empty (deviating_by size disk s o) ≡ true → copies_by size disk s o ≡ []
  by_table s None e = refl
  by_table s (Some table) e = ap (flat_map (table_blocks size disk table)) (empty_is (deviating size disk s table) e)

  by_sparing : (o : Option SparingMap) → tables_agree size disk o ≡ true → copies_of size disk o ≡ []
  by_sparing None e = refl
  by_sparing (Some s) e = by_table s (prevailing_area size disk s) e

nothing_put : (size : ℕ) (image : List ℕ) (volume : KeptSequence) → is_volume_unbroken_by size image (Some volume) ≡ true
    → mended_by size image (Some volume) ≡ image
unfolding rules_hold edits put_blocks
nothing_put size image volume e =
    let disk : ℕ → List ℕ = block_of size image in
    let blocks : ℕ = blocks_in size image in
    let parts = and_parts (anchors_hold blocks (layout_in size disk volume) disk volume) (sequences_hold size disk volume && tables_hold size disk volume.list) e in
    let further = and_parts (sequences_hold size disk volume) (tables_hold size disk volume.list) parts.1 in
    ap (λ list. put_blocks size (list ++ (anchor_edits blocks (layout_in size disk volume) disk volume ++ table_edits size disk volume.list)) image) (no_sequence_edits size disk volume further.0)
    ∙ ap (λ list. put_blocks size (list ++ table_edits size disk volume.list) image) (no_anchor_edits blocks (layout_in size disk volume) disk volume parts.0)
    ∙ ap (λ list. put_blocks size list image) (no_table_edits size disk volume.list further.1)

opened_stays : (size : ℕ) (image : List ℕ) → is_opened size image ≡ true → is_volume_unbroken size image ≡ true → volume_mended size image ≡ image
unfolding is_volume_unbroken
opened_stays size image a e =
    let parts = opened_parts size image a in
    mended_is size image parts.1.0 a parts.1.1 ∙ nothing_put size image parts.1.0 (ap (is_volume_unbroken_by size image) (sym parts.1.1) ∙ e)

pub unopened : (size : ℕ) (image : List ℕ) → is_opened size image ≡ false → volume_mended size image ≡ image
unfolding volume_mended
unopened size image e = ap (λ b. cond b (mended_by size image (kept_sequence_of size image)) image) e

pub stays : (size : ℕ) (image : List ℕ) → is_volume_unbroken size image ≡ true → volume_mended size image ≡ image
stays size image e = by_opening (cases_Bool (is_opened size image)) where
  by_opening : (is_opened size image ≡ true) ⊎ (is_opened size image ≡ false) → volume_mended size image ≡ image
  by_opening (inl a) = opened_stays size image a e
  by_opening (inr n) = unopened size image n

-- mending twice is mending once
pub mended_twice : (size : ℕ) (image : List ℕ) → 512 ≤ size → volume_mended size (volume_mended size image) ≡ volume_mended size image
mended_twice size image large = by_opening (cases_Bool (is_opened size image)) where
  by_opening : (is_opened size image ≡ true) ⊎ (is_opened size image ≡ false) → volume_mended size (volume_mended size image) ≡ volume_mended size image
  by_opening (inl a) = let m = mended_image size image large a in stays size (volume_mended size image) m.rules
  by_opening (inr n) = ap (volume_mended size) (unopened size image n)
