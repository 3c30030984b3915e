-- The laws over images.
use Rattle.std.proofs.Common.{◌≡◌, ℕ, ◌+◌, ◌*◌, ◌/◌, ◌^◌, ◌<◌, ◌≤◌, arith, refl, sym, ◌∙◌, ap, subst, List, [], ◌++◌, length, drop, Bool, true, false, cond, ltb, Option, Some, None}
use mathlib.Core.Path.{fun_ext}
use Rattle.std.proofs.lemmas.Bool.{ltb-true, lt-ltb, and_parts, and_from}
use Rattle.std.proofs.lemmas.List.{length-take-le, length-drop}
use Rattle.udf_model.specs.Tag.{relocated}
use Rattle.udf_model.specs.Image.{block_of, blocks_in}
use Rattle.udf_volume_model.specs.Kept.{KeptSequence, kept, other, kept_sequence_of, limit_of}
use Rattle.udf_volume_model.specs.Rules.{eligible, bad_of, anchors_hold, sequences_hold}
use Rattle.udf_volume_model.specs.SparingRule.{table_edits}
use Rattle.udf_volume_model.specs.AllRules.{layout_in, rules_hold}
use Rattle.udf_volume_model.specs.Edits.{look, put_blocks}
use Rattle.udf_volume_model.specs.Mended.{logical_block, copies, sequence_edits, anchor_edits, edits}
use Rattle.udf_volume_model.specs.Opened.{is_opened_by, is_opened, mended_by, volume_mended, is_volume_unbroken_by, is_volume_unbroken}
use Rattle.udf_volume_model.specs.Same.{IsSame}
use Rattle.udf_model.proofs.Relocated.{relocated_length}
use Rattle.udf_volume_laws.proofs.Ascending.{places_within, ascending_within}
use Rattle.udf_volume_laws.proofs.Puts.{AreWithin, chosen, chosen_within, all_length, block_after}
use Rattle.udf_volume_laws.proofs.Within.{block_ends, both_within, copies_within}
use Rattle.udf_volume_laws.proofs.Led.{IsSequence}
use Rattle.udf_volume_laws.proofs.Taken.{IsOpened, Facts, facts}
use Rattle.udf_volume_laws.proofs.Spares.{spares, tables_within}
use Rattle.udf_volume_laws.proofs.Beside.{bad_parts}
use Rattle.udf_volume_laws.proofs.After.{whole}
use Rattle.udf_volume_laws.proofs.Law.{IsMended, StandsEarlier, mends, volume_after}

pub block_length : (size : ℕ) (image : List ℕ) (n : ℕ) → n < blocks_in size image → length (block_of size image n) ≡ size
unfolding block_of
block_length size image n h =
    let ends : n * size + size ≤ length image = block_ends size (length image) n h in
    length-take-le size (drop (n * size) image) (omega (arith, length-drop (n * size) image))

pub opened_parts : (size : ℕ) (image : List ℕ) → is_opened size image ≡ true
    → (blocks_in size image < 2 ^ 32)
    × ((volume : KeptSequence) × (kept_sequence_of size image ≡ Some volume)
    × (is_opened_by size (blocks_in size image) (block_of size image) (Some volume) ≡ true))
unfolding is_opened
opened_parts size image e = (ltb-true _ _ parts.0, by_volume (kept_sequence_of size image) refl parts.1) where
  parts : (ltb (blocks_in size image) 4294967296 ≡ true)
      × (is_opened_by size (blocks_in size image) (block_of size image) (kept_sequence_of size image) ≡ true)
  parts = and_parts (ltb (blocks_in size image) 4294967296) (is_opened_by size (blocks_in size image) (block_of size image) (kept_sequence_of size image)) e

  by_volume : (found : Option KeptSequence) → kept_sequence_of size image ≡ found
      → is_opened_by size (blocks_in size image) (block_of size image) found ≡ true
      → (volume : KeptSequence) × (kept_sequence_of size image ≡ Some volume)
      × (is_opened_by size (blocks_in size image) (block_of size image) (Some volume) ≡ true)
  by_volume None v a = absurd (cc)
  by_volume (Some volume) v a = (volume, v, a)

pub given : (size : ℕ) (image : List ℕ) (volume : KeptSequence) → 512 ≤ size → blocks_in size image < 2 ^ 32 → kept_sequence_of size image ≡ Some volume
    → is_opened_by size (blocks_in size image) (block_of size image) (Some volume) ≡ true
    → IsOpened size (blocks_in size image) (block_of size image) volume
unfolding kept_sequence_of
given size image volume large small is opened = record {
  large = large;
  small = small;
  full = block_length size image;
  is = is;
  opened = opened;
}

pub held_of : (size : ℕ) (image : List ℕ) (volume : KeptSequence) → 512 ≤ size → is_opened size image ≡ true → kept_sequence_of size image ≡ Some volume
    → IsOpened size (blocks_in size image) (block_of size image) volume
held_of size image volume large a is =
    let parts = opened_parts size image a in
    let same : parts.1.0 ≡ volume = let s : Some parts.1.0 ≡ Some volume = sym parts.1.1 ∙ is in cc in
    subst (λ (v : KeptSequence). IsOpened size (blocks_in size image) (block_of size image) v) same (given size image parts.1.0 large parts.0 parts.1.1 parts.1.2)

-- the edits fit
module _ (size : ℕ) (image : List ℕ) (volume : KeptSequence)
    (held : IsOpened size (blocks_in size image) (block_of size image) volume) where
  known : Facts size (blocks_in size image) (block_of size image) volume
  known = facts size (blocks_in size image) (block_of size image) volume held

  short : IsSequence size (block_of size image) (limit_of size volume.anchor) (kept volume) volume.list
  short = whole size (blocks_in size image) (block_of size image) volume held

  sequence_within : AreWithin size (length image) (sequence_edits size (block_of size image) volume)
  unfolding sequence_edits
  sequence_within = by_rule (sequences_hold size (block_of size image) volume) where
    by_rule : (b : Bool) → AreWithin size (length image) (cond b [] (copies size (block_of size image) (logical_block (block_of size image) volume) (kept volume).start (other volume).start (length volume.list)))
    by_rule true = tt
    by_rule false =
        copies_within size (length image) (block_of size image) (logical_block (block_of size image) volume) (length volume.list) (kept volume).start (other volume).start held.large
        (λ n l h. held.full n (omega (arith, known.pairing.kept_room.within, known.pairing.kept_limit, short.below)))
        (λ n h. block_ends size (length image) n (omega (arith, known.pairing.other_room.within, known.pairing.other_limit, short.below)))

  kept_length : length (block_of size image volume.place) ≡ size
  kept_length = held.full volume.place (places_within (blocks_in size image) volume.place known.member)

  anchors_fit : AreWithin size (length image) (anchor_edits (blocks_in size image) (layout_in size (block_of size image) volume) (block_of size image) volume)
  unfolding anchor_edits
  anchors_fit = by_rule (anchors_hold (blocks_in size image) (layout_in size (block_of size image) volume) (block_of size image) volume) where
    by_rule : (b : Bool) → AreWithin size (length image) (cond b [] (chosen (λ place. relocated place (block_of size image volume.place)) (bad_of (block_of size image) volume (eligible (blocks_in size image) (layout_in size (block_of size image) volume)))))
    by_rule true = tt
    by_rule false =
        chosen_within size (length image) (λ place. relocated place (block_of size image volume.place)) (bad_of (block_of size image) volume (eligible (blocks_in size image) (layout_in size (block_of size image) volume)))
        (λ n i. (
          relocated_length n (block_of size image volume.place) (omega (arith, kept_length, held.large)) ∙ kept_length,
          block_ends size (length image) n (ascending_within (blocks_in size image) n (bad_parts size (blocks_in size image) (block_of size image) volume n i).place),
        ))

  tables_fit : AreWithin size (length image) (table_edits size (block_of size image) volume.list)
  tables_fit =
      tables_within size (blocks_in size image) (block_of size image) volume.list (omega (arith, held.large)) held.full (length image) (block_ends size (length image))
      (spares size (blocks_in size image) (block_of size image) volume.anchor volume.list known.lawful known.table)

  pub edits_within : AreWithin size (length image) (edits size (blocks_in size image) (block_of size image) volume)
  unfolding edits
  edits_within =
      both_within size (length image) (sequence_edits size (block_of size image) volume)
      (anchor_edits (blocks_in size image) (layout_in size (block_of size image) volume) (block_of size image) volume ++ table_edits size (block_of size image) volume.list) sequence_within
      (both_within size (length image) (anchor_edits (blocks_in size image) (layout_in size (block_of size image) volume) (block_of size image) volume)
      (table_edits size (block_of size image) volume.list) anchors_fit tables_fit)

  abbrev pub put : List ℕ
  put = put_blocks size (edits size (blocks_in size image) (block_of size image) volume) image

  pub put_long : length put ≡ length image
  put_long = all_length size (edits size (blocks_in size image) (block_of size image) volume) image edits_within

  abbrev pub put_after : ℕ → List ℕ
  put_after n = look n (edits size (blocks_in size image) (block_of size image) volume) (block_of size image n)

  pub put_disk : block_of size put ≡ put_after
  put_disk = fun_ext (λ n. block_after size (edits size (blocks_in size image) (block_of size image) volume) image n edits_within)

  pub put_count : blocks_in size put ≡ blocks_in size image
  put_count = ap (λ n. n / size) put_long

  pub law : (place : ℕ) × IsMended size (blocks_in size put) (block_of size image) volume
      (volume_after size (blocks_in size image) (block_of size image) volume held place) (block_of size put)
  law =
      let m = mends size (blocks_in size image) (block_of size image) volume held in
      let after : KeptSequence = volume_after size (blocks_in size image) (block_of size image) volume held m.0 in (
        m.0,
        subst (λ (disk : ℕ → List ℕ). IsMended size (blocks_in size put) (block_of size image) volume after disk) (sym put_disk)
            (subst (λ (count : ℕ). IsMended size count (block_of size image) volume after put_after) (sym put_count) m.1),
      )

-- what the law says of images
pub record IsMendedImage (size : ℕ) (image after : List ℕ) : Type 0 where
  pub length_stays : length after ≡ length image
  pub opened : is_opened size after ≡ true
  pub rules : is_volume_unbroken size after ≡ true
  pub before_is : KeptSequence
  pub after_is : KeptSequence
  pub before_volume : kept_sequence_of size image ≡ Some before_is
  pub after_volume : kept_sequence_of size after ≡ Some after_is
  pub same : IsSame size (blocks_in size image) (block_of size image) (block_of size after) before_is after_is

finish : (size : ℕ) (image : List ℕ) (before : KeptSequence) (after : List ℕ) (next : KeptSequence) → kept_sequence_of size image ≡ Some before → length after ≡ length image → blocks_in size after < 2 ^ 32
    → blocks_in size after ≡ blocks_in size image
    → IsMended size (blocks_in size after) (block_of size image) before next (block_of size after) → IsMendedImage size image after
unfolding kept_sequence_of is_opened is_volume_unbroken rules_hold
finish size image before after next is long few count m = record {
  length_stays = long;
  opened = and_from _ _ (lt-ltb _ _ few) (ap (is_opened_by size (blocks_in size after) (block_of size after)) m.is ∙ m.opened);
  rules = ap (is_volume_unbroken_by size after) m.is ∙ and_from _ _ m.anchors (and_from _ _ m.sequences m.tables);
  before_is = before;
  after_is = next;
  before_volume = is;
  after_volume = m.is;
  same = record {
    anchor = m.same_anchor;
    list = m.same_list;
    layout = m.same_layout;
    place = subst (λ (blocks : ℕ). StandsEarlier blocks before.place next.place) count m.place;
    which = m.which;
  };
}

pub mended_is : (size : ℕ) (image : List ℕ) (volume : KeptSequence) → is_opened size image ≡ true → kept_sequence_of size image ≡ Some volume
    → volume_mended size image ≡ mended_by size image (Some volume)
unfolding volume_mended
mended_is size image volume a is = ap (λ b. cond b (mended_by size image (kept_sequence_of size image)) image) a ∙ ap (mended_by size image) is

pub mended_image : (size : ℕ) (image : List ℕ) → 512 ≤ size → is_opened size image ≡ true → IsMendedImage size image (volume_mended size image)
mended_image size image large e =
    let parts = opened_parts size image e in
    let volume = parts.1.0 in
    let held = given size image volume large parts.0 parts.1.1 parts.1.2 in
    let l = law size image volume held in
    let count = put_count size image volume held in
    subst (λ (after : List ℕ). IsMendedImage size image after) (sym (mended_is size image volume e parts.1.1))
    (finish size image volume (mended_by size image (Some volume)) (volume_after size (blocks_in size image) (block_of size image) volume held l.0)
    parts.1.1 (put_long size image volume held) (omega (arith, count, parts.0)) count l.1)
