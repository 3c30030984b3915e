-- The plan of the blocks that the rules want is exactly the difference of the mended image.
use Rattle.std.proofs.Common.{◌≡◌, ℕ, ◌≤◌, sym, ◌∙◌, ap, List, [], ◌++◌, length, Bool, true, cond, ◌&&◌, Option, Some, None, Result, Ok, Err}
use Rattle.std.specs.Prelude.{IfOk}
use Rattle.std.proofs.lemmas.Bool.{and_parts}
use Rattle.udf_model.specs.Image.{block_of, blocks_in}
use Rattle.udf_volume_model.specs.Anchor.{Extent}
use Rattle.udf_volume_model.specs.Kept as model
use Rattle.udf_volume_model.specs.Kept.{kept, other, kept_sequence_of}
use Rattle.udf_volume_model.specs.Rules.{anchors_hold, sequences_hold}
use Rattle.udf_volume_model.specs.Profile.{has_block_size, is_profile}
use Rattle.udf_volume_model.specs.Layout.{is_lawful, is_spared}
use Rattle.udf_volume_model.specs.AllRules.{layout_in}
use Rattle.udf_volume_model.specs.Maps.{SparingMap}
use Rattle.udf_volume_model.specs.SparingRule.{copies_of, table_edits}
use Rattle.udf_volume_model.specs.Mended.{logical_block, copies, sequence_edits, anchor_edits, edits}
use Rattle.udf_volume_model.specs.Opened.{is_opened, volume_mended, plan_of}
use Rattle.udf_volume_model.specs.Edits.{look}
use Rattle.udf_volume_model.specs.Plans.{planned, ClimbsFrom}
use Rattle.udf_volume_laws.proofs.Same.{bytes_same}
use Rattle.udf_volume_laws.proofs.Difference.{mended_block, past_kept}
use Rattle.udf_volume_laws.proofs.OnePlan.{the_plan}
use Rattle.udf_volume_laws.proofs.Final.{held_of}
use Rattle.udf_volume.specs.Spans.{kept_span, other_span}
use Rattle.udf_volume.specs.Opened.{volume_by}
use Rattle.udf_volume.specs.Verdicts.{bad_stated}
use Rattle.udf_volume.specs.Areas.{layout_seen, layout_stated, sparing_seen}
use Rattle.udf_volume.specs.declared.opened.Opened.{Opened}
use Rattle.udf_volume.specs.declared.volume.Volume.{Volume}
use Rattle.udf_volume.proofs.Described.{Describes, size_is, kept_is, other_is, sparing_of_is}
use Rattle.udf_volume.proofs.Judged.{bad_is, suffice_is, agrees_is, logical_is}
use Rattle.udf_wanted.specs.Wanted.{LookAlike, changed}
use Rattle.udf_plan.specs.Stated.{copies_at, anchors_stated, copied_stated, sequence_stated}

-- two facts on what a call gives
pub ok_both : {T E : Type 0} (r : Result T E) (P Q R : T → Type 0) → ((x : T) → P x → Q x → R x) → IfOk r P → IfOk r Q → IfOk r R
ok_both (Ok x) P Q R h p q = h x p q
ok_both (Err e) P Q R h p q = tt

-- the block size that the descriptors of an opened volume state
sized_of : (size : ℕ) (image : List ℕ) (v : model.KeptSequence) → 512 ≤ size → is_opened size image ≡ true → kept_sequence_of size image ≡ Some v
    → has_block_size size v.list ≡ true
unfolding is_profile
sized_of size image v large accepted found =
    let held = held_of size image v large accepted found in
    let profile : is_profile size v.list ≡ true = (and_parts (is_profile size v.list) (is_lawful size (blocks_in size image) (block_of size image) v && is_spared size (blocks_in size image) (block_of size image) v) held.opened).0 in
    (and_parts (has_block_size size v.list) _ profile).0

module _ (size : ℕ) (image : List ℕ) (opened : Opened) (v : model.KeptSequence) (d : Describes size image opened.volume v)
    (lies : layout_seen opened.layout ≡ layout_stated opened.volume (block_of size image)) where
  abbrev volume : Volume
  volume = opened.volume

  abbrev disk : ℕ → List ℕ
  disk = block_of size image

  count_is : volume.count ≡ length v.list
  unfolding volume_by
  count_is = ap (λ (x : Volume). x.count) d.is

  place_is : volume.anchor ≡ v.place
  unfolding volume_by
  place_is = ap (λ (x : Volume). x.anchor) d.is

  -- what each rule puts, by the definitions of the mend
  anchors_are : anchors_stated opened image ≡ anchor_edits (blocks_in size image) (layout_in size disk v) disk v
  unfolding anchors_stated anchor_edits copies_at
  anchors_are =
      let put : List ℕ → List ℕ → List (ℕ × List ℕ) = λ block places. copies_at block places in
      ap (λ b. cond b [] (put (block_of volume.size image volume.anchor) (bad_stated volume opened.layout image))) (suffice_is size image volume v d opened.layout lies)
      ∙ ap (λ s. cond holds [] (put (block_of s image volume.anchor) (bad_stated volume opened.layout image))) (size_is size image volume v d)
      ∙ ap (λ n. cond holds [] (put (disk n) (bad_stated volume opened.layout image))) place_is
      ∙ ap (λ places. cond holds [] (put (disk v.place) places)) (bad_is size image volume v d opened.layout lies) where
        holds : Bool
        holds = anchors_hold (blocks_in size image) (layout_in size (block_of size image) v) (block_of size image) v

  sequence_is : block_of size image volume.lvd ≡ logical_block disk v → sequence_stated volume image ≡ sequence_edits size disk v
  unfolding sequence_stated sequence_edits copied_stated
  sequence_is logical =
      ap (λ b. cond b [] (copied_stated volume image)) (agrees_is size image volume v d)
      ∙ ap (cond (sequences_hold size disk v) [])
      (ap (λ s. copies s (block_of s image) (block_of s image volume.lvd) (kept_span volume).start (other_span volume).start volume.count) (size_is size image volume v d)
      ∙ ap (λ like. copies size disk like (kept_span volume).start (other_span volume).start volume.count) logical
      ∙ ap (λ (e : Extent). copies size disk (logical_block disk v) e.start (other_span volume).start volume.count) (kept_is size image volume v d)
      ∙ ap (λ (e : Extent). copies size disk (logical_block disk v) (kept v).start e.start volume.count) (other_is size image volume v d)
      ∙ ap (copies size disk (logical_block disk v) (kept v).start (other v).start) count_is)

  module _ (large : 512 ≤ size) (accepted : is_opened size image ≡ true) where
    -- all of them, one rule after the other
    edits_are : sequence_stated volume image ++ (anchors_stated opened image ++ copies_of volume.size (block_of volume.size image) (sparing_seen volume)) ≡ edits size (blocks_in size image) disk v
    unfolding edits table_edits
    edits_are =
        let sequence : List (ℕ × List ℕ) = sequence_edits size disk v in
        let tables : List (ℕ × List ℕ) = copies_of volume.size (block_of volume.size image) (sparing_seen volume) in
        ap (λ (e : List (ℕ × List ℕ)). e ++ (anchors_stated opened image ++ tables))
        (sequence_is (logical_is size image volume v d large (sized_of size image v large accepted d.found)))
        ∙ ap (λ (e : List (ℕ × List ℕ)). sequence ++ (e ++ tables)) anchors_are
        ∙ ap (λ n. sequence ++ (anchor_edits (blocks_in size image) (layout_in size disk v) disk v ++ copies_of n (block_of n image) (sparing_seen volume))) (size_is size image volume v d)
        ∙ ap (λ (o : Option SparingMap). sequence ++ (anchor_edits (blocks_in size image) (layout_in size disk v) disk v ++ copies_of size disk o)) (sparing_of_is size image volume v d)

    -- the plan is the difference
    pub exact : (wanted plan : List (ℕ × List ℕ)) → LookAlike wanted ([] ++ (sequence_stated volume image ++ (anchors_stated opened image ++ copies_of volume.size (block_of volume.size image) (sparing_seen volume)))) → ClimbsFrom 0 plan
        → ((n : ℕ) → planned n plan ≡ changed (disk n) (look n wanted (disk n))) → plan ≡ plan_of size image (volume_mended size image)
    exact wanted plan alike climbs has = the_plan size image (volume_mended size image) plan (record {
      ascends = climbs;
      differing = λ n l. after n;
      further = λ n h. after n ∙ ap (changed (block_of size image n)) (past_kept size image n large h) ∙ ap (λ b. cond b None (Some (block_of size image n))) (bytes_same (block_of size image n));
    }) where
      after : (n : ℕ) → planned n plan ≡ changed (block_of size image n) (block_of size (volume_mended size image) n)
      after n =
          has n
          ∙ ap (changed (block_of size image n))
          (alike n (block_of size image n)
          ∙ ap (λ (e : List (ℕ × List ℕ)). look n e (block_of size image n)) edits_are
          ∙ sym (mended_block size image v n large accepted d.found))
