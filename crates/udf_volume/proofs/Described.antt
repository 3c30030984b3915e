-- A volume that was opened is that of the image, and what its fields tell.
use Rattle.std.proofs.Common.{◌≡◌, ℕ, refl, sym, ◌∙◌, ap, List, Bool, true, false, cond, Option, Some, None, Result, Ok, Err, ltb, length, ◌/◌}
use Rattle.udf_model.specs.Image.{block_of, blocks_in}
use Rattle.udf_volume_model.specs.Anchor.{Anchor, places}
use Rattle.udf_volume_model.specs.Kept.{kept, other, limit_of, has_anchor, kept_sequence_of}
use Rattle.udf_volume_model.specs.Kept as model
use Rattle.udf_volume_model.specs.Stated.{is_built, logical, partition, sparing}
use Rattle.udf_volume_model.specs.Areas.{areas_of}
use Rattle.udf_volume_model.specs.AllRules.{layout_in}
use Rattle.udf_volume_model.specs.Layout.{is_lawful}
use Rattle.udf_layer.specs.declared.missing.Missing.{Missing}
use Rattle.udf_layer.specs.declared.missing.Missing.TheVariants as missing
use Rattle.udf_volume.specs.declared.volume.Volume.{Volume}
use Rattle.udf_volume.specs.Seen.{extent_seen}
use Rattle.udf_volume.specs.Spans.{kept_span, other_span, limit_stated}
use Rattle.udf_volume.specs.Areas.{anchor_stated, areas_stated, layout_stated, sparing_seen}
use Rattle.udf_volume.specs.Taken.{is_spared_stated, by_packets, opening}
use Rattle.udf_volume.specs.Opened.{volume_by, by_profile, unlike_profile, refusal_of, by_refusal, accepted, by_volume, described}
use Rattle.udf_volume.proofs.LaidOut.{areas_same, layout_is, sparing_is}
use Rattle.udf_volume.proofs.Opening.{like_is_built}
use Rattle.udf_layer.specs.declared.missing.ProfileItem.{ProfileItem}

-- the volume has the fields that are stated of a kept sequence of the image
pub record Describes (size : ℕ) (image : List ℕ) (volume : Volume) (v : model.KeptSequence) : Type 0 where
  pub found : kept_sequence_of size image ≡ Some v
  pub built : is_built v.list ≡ true
  pub is : volume ≡ volume_by size (blocks_in size image) v (logical v.list) (partition v.list)

by_refused : (refusal : Option Missing) (fields volume : Volume) → by_refusal refusal fields ≡ Ok volume → (volume ≡ fields) × (refusal ≡ None)
by_refused None fields volume e = (let t : fields ≡ volume = cc in sym t, refl)
by_refused (Some missing) fields volume e = absurd (cc)

like : (item : Option ProfileItem) (lawful : Bool) → by_profile item lawful ≡ None → item ≡ None
like None lawful e = refl
like (Some item) lawful e = absurd (cc)

-- what a volume that is opened states
record IsStated (size blocks : ℕ) (found : Option model.KeptSequence) (volume : Volume) : Type 0 where
  sequence : model.KeptSequence
  is : found ≡ Some sequence
  fields : volume ≡ volume_by size blocks sequence (logical sequence.list) (partition sequence.list)
  built : is_built sequence.list ≡ true

ok_volume : (size blocks : ℕ) (disk : ℕ → List ℕ) (any : Bool) (found : Option model.KeptSequence) (volume : Volume) → by_volume size blocks disk any found ≡ Ok volume
    → IsStated size blocks found volume
unfolding accepted refusal_of
ok_volume size blocks disk true None volume e = absurd (cc)
ok_volume size blocks disk false None volume e = absurd (cc)
ok_volume size blocks disk any (Some v) volume e =
    let t = by_refused (refusal_of size blocks disk v) (volume_by size blocks v (logical v.list) (partition v.list)) volume e in
    record {
      sequence = v;
      is = refl;
      fields = t.0;
      built = (like_is_built size v.list (like (unlike_profile size v.list) (is_lawful size blocks disk v) t.1)).1;
    }

described_ok : (size : ℕ) (image : List ℕ) (volume : Volume) → described size image ≡ Ok volume → (v : model.KeptSequence) × Describes size image volume v
unfolding described
described_ok size image volume = by_size (ltb 4294967295 (length image / size)) where
  rest : Result Volume Missing
  rest = by_volume size (blocks_in size image) (block_of size image) (has_anchor size (blocks_in size image) (block_of size image) (places (blocks_in size image))) (kept_sequence_of size image)

  by_size : (b : Bool) → cond b (Err missing.TooLarge) rest ≡ Ok volume → (v : model.KeptSequence) × Describes size image volume v
  by_size true e = cc
  by_size false e =
      let found = ok_volume size (blocks_in size image) (block_of size image) _ (kept_sequence_of size image) volume e in
      (found.sequence, record { found = found.is; built = found.built; is = found.fields })

by_spared : (one volume : Volume) (b : Bool) → cond b (Ok one) (Err missing.SparingTable) ≡ Ok volume → one ≡ volume
by_spared one volume true e = cc
by_spared one volume false e = absurd (cc)

before_packets : (disk : ℕ → List ℕ) (found : Result Volume Missing) (volume : Volume) → by_packets disk found ≡ Ok volume → found ≡ Ok volume
before_packets disk (Ok one) volume e = ap Ok (by_spared one volume (is_spared_stated one disk) e)
before_packets disk (Err missing) volume e = absurd (cc)

pub opened_ok : (size : ℕ) (image : List ℕ) (volume : Volume) → opening size image ≡ Ok volume → (v : model.KeptSequence) × Describes size image volume v
unfolding opening
opened_ok size image volume e = described_ok size image volume (before_packets (block_of size image) (described size image) volume e)

module _ (size : ℕ) (image : List ℕ) (volume : Volume) (v : model.KeptSequence) (d : Describes size image volume v) where
  pub size_is : volume.size ≡ size
  unfolding volume_by
  size_is = ap (λ (x : Volume). x.size) d.is

  pub blocks_is : volume.blocks ≡ blocks_in size image
  unfolding volume_by
  blocks_is = ap (λ (x : Volume). x.blocks) d.is

  pub anchor_is : anchor_stated volume ≡ v.anchor
  unfolding volume_by
  anchor_is = ap anchor_stated d.is

  pub limit_is : limit_stated volume ≡ limit_of size v.anchor
  unfolding volume_by limit_of
  limit_is = ap limit_stated d.is

  pub areas_is : areas_stated volume ≡ areas_of size v.anchor v.list
  areas_is = ap areas_stated d.is ∙ areas_same size (blocks_in size image) v d.built

  -- what the volume takes of the image
  pub layout_in_is : layout_stated volume (block_of size image) ≡ layout_in size (block_of size image) v
  layout_in_is = ap (λ x. layout_stated x (block_of size image)) d.is ∙ layout_is size (blocks_in size image) v d.built (block_of size image)

  pub sparing_of_is : sparing_seen volume ≡ sparing v.list
  sparing_of_is = ap sparing_seen d.is ∙ sparing_is size (blocks_in size image) v d.built

  by_kept : (w : model.Which) (extents : Anchor) → extent_seen (kept_span (volume_by size (blocks_in size image) (record v { which = w }) (logical v.list) (partition v.list)))
      ≡ model.extent_of w v.anchor
  unfolding volume_by
  by_kept model.Main extents = refl
  by_kept model.Reserve extents = refl

  pub kept_is : extent_seen (kept_span volume) ≡ kept v
  kept_is = ap (λ (x : Volume). extent_seen (kept_span x)) d.is ∙ by_kept v.which v.anchor

  by_other : (w : model.Which) (extents : Anchor) → extent_seen (other_span (volume_by size (blocks_in size image) (record v { which = w }) (logical v.list) (partition v.list)))
      ≡ model.extent_of (model.opposite w) v.anchor
  unfolding volume_by
  by_other model.Main extents = refl
  by_other model.Reserve extents = refl

  pub other_is : extent_seen (other_span volume) ≡ other v
  other_is = ap (λ (x : Volume). extent_seen (other_span x)) d.is ∙ by_other v.which v.anchor
