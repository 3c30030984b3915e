-- The verdicts of the rules, from what was read; and what they say of a volume of the image.
use Rattle.std.proofs.Common.{◌≡◌, ℕ, ◌+◌, ◌-◌, ◌<◌, ◌≤◌, arith, refl, sym, ◌∙◌, ap, List, [], length, Bool, true, false, not, cond, ◌||◌, Option, Some, None, eqb, leb}
use Rattle.std.specs.Prelude.{unwrap_or, option_map}
use Rattle.std.specs.List.{filter}
use Rattle.std.proofs.lemmas.Bool.{le-leb, lt-leb}
use Rattle.udf_model.specs.Image.{block_of, blocks_in}
use Rattle.udf_volume_model.specs.Sequence.{Descriptor, views, front_of, is_spoilt}
use Rattle.udf_volume_model.specs.Prevailing.{prevailing_index}
use Rattle.udf_volume_model.specs.Anchor.{Extent, Anchor, blocks_of, blocks_for}
use Rattle.udf_volume_model.specs.Kept as model
use Rattle.udf_volume_model.specs.Kept.{kept, other, limit_of, whole_by, sequence_at}
use Rattle.udf_volume_model.specs.Areas.{Layout, taken}
use Rattle.udf_volume_model.specs.AllRules.{layout_in}
use Rattle.udf_volume_model.specs.Rules.{ascending_places, is_eligible, eligible, is_good, bad_of, suffice, anchors_hold, agrees, sequences_hold}
use Rattle.udf_volume_model.specs.Profile.{has_block_size}
use Rattle.udf_volume_model.specs.Mended.{block_by, logical_block}
use Rattle.udf_volume_model.proofs.Listed.{listed_is}
use Rattle.udf_volume.specs.Areas.{layout_seen, layout_stated}
use Rattle.udf_volume.specs.declared.taken.Layout as code
use Rattle.udf_volume.specs.Seen.{extent_seen}
use Rattle.udf_volume.specs.Spans.{kept_span, other_span, limit_stated, views_in}
use Rattle.udf_volume.specs.Verdicts.{eligible_stated, bad_stated, anchors_suffice, kept_list, other_list, sequences_agree_in}
use Rattle.udf_volume.specs.Opened.{volume_by, sector_in}
use Rattle.udf_volume.specs.declared.volume.Volume.{Volume}
use Rattle.udf_volume.proofs.KeptList.{kept_front}
use Rattle.udf_volume.proofs.Parted.{parted, none_fails}
use Rattle.udf_volume.proofs.Prevail.{not_found}
use Rattle.udf_volume.proofs.Profiled.{no_block_size}
use Rattle.udf_volume.proofs.Described.{Describes, size_is, blocks_is, anchor_is, limit_is, layout_in_is, kept_is, other_is}

-- the places that are not bad are enough
pub enough : (anchor : Anchor) (disk : ℕ → List ℕ) (eligible bad : List ℕ) → bad ≡ filter (λ place. not (is_good anchor place (disk place))) eligible
    → (leb 2 (length eligible - length bad) || eqb (length bad) 0) ≡ suffice anchor disk eligible
enough anchor disk eligible bad is =
    let good : ℕ → Bool = λ place. is_good anchor place (disk place) in
    let others : List ℕ = filter (λ place. not (is_good anchor place (disk place))) eligible in
    let many : length eligible - length others ≡ length (filter good eligible) = omega (arith, parted good eligible) in
    ap (λ (l : List ℕ). leb 2 (length eligible - length l) || eqb (length l) 0) is
    ∙ ap (λ n. leb 2 n || eqb (length others) 0) many
    ∙ ap (λ b. leb 2 (length (filter good eligible)) || b) (sym (none_fails good eligible))

pub enough_good : (anchor : Anchor) (disk : ℕ → List ℕ) (eligible bad : List ℕ) → bad ≡ filter (λ place. not (is_good anchor place (disk place))) eligible
    → 2 ≤ length eligible - length bad → leb 2 (length eligible - length bad) ≡ suffice anchor disk eligible
enough_good anchor disk eligible bad is two =
    let t : leb 2 (length eligible - length bad) ≡ true = le-leb _ _ two in
    t ∙ sym (ap (λ x. x || eqb (length bad) 0) t) ∙ enough anchor disk eligible bad is

pub enough_all : (anchor : Anchor) (disk : ℕ → List ℕ) (eligible bad : List ℕ) (answer : Bool)
    → bad ≡ filter (λ place. not (is_good anchor place (disk place))) eligible
    → length eligible - length bad < 2 → answer ≡ eqb (length bad) 0 → answer ≡ suffice anchor disk eligible
enough_all anchor disk eligible bad answer is few e =
    let f : leb 2 (length eligible - length bad) ≡ false = lt-leb _ _ few in
    e ∙ sym (ap (λ x. x || eqb (length bad) 0) f) ∙ enough anchor disk eligible bad is

-- the answer of the comparison, by the descriptors that were read
pub compared : (volume : Volume) (image : List ℕ) (kept others : List Descriptor) (spoilt answer : Bool) → kept ≡ kept_list volume image
    → others ≡ other_list volume image → spoilt ≡ is_spoilt (views_in volume.size image (other_span volume))
    → answer ≡ agrees kept (whole_by (limit_stated volume) (cond spoilt None (Some others))) → answer ≡ sequences_agree_in volume image
unfolding sequence_at
compared volume image kept others spoilt answer k o s e =
    e ∙ ap (λ l. agrees l (whole_by (limit_stated volume) (cond spoilt None (Some others)))) k
    ∙ ap (λ l. agrees (kept_list volume image) (whole_by (limit_stated volume) (cond spoilt None (Some l)))) o
    ∙ ap (λ b. agrees (kept_list volume image) (whole_by (limit_stated volume) (cond b None (Some (other_list volume image))))) s
    ∙ ap (λ l. agrees (kept_list volume image) (whole_by (limit_stated volume) l)) (sym (listed_is (views_in volume.size image (other_span volume))))

module _ (size : ℕ) (image : List ℕ) (volume : Volume) (v : model.KeptSequence) (d : Describes size image volume v) where
  abbrev layout : Layout
  layout = layout_in size (block_of size image) v

  module _ (taken_by : code.Layout) (is : layout_seen taken_by ≡ layout_stated volume (block_of size image)) where
    pub eligible_is : eligible_stated volume taken_by ≡ eligible (blocks_in size image) layout
    unfolding eligible
    eligible_is =
        ap (λ l. filter (is_eligible (taken l)) (ascending_places volume.blocks)) (is ∙ layout_in_is size image volume v d)
        ∙ ap (λ n. filter (is_eligible (taken layout)) (ascending_places n)) (blocks_is size image volume v d)

    pub bad_is : bad_stated volume taken_by image ≡ bad_of (block_of size image) v (eligible (blocks_in size image) layout)
    bad_is =
        ap (λ a. filter (λ place. not (is_good a place (block_of volume.size image place))) (eligible_stated volume taken_by)) (anchor_is size image volume v d)
        ∙ ap (λ s. filter (λ place. not (is_good v.anchor place (block_of s image place))) (eligible_stated volume taken_by)) (size_is size image volume v d)
        ∙ ap (λ l. filter (λ place. not (is_good v.anchor place (block_of size image place))) l) eligible_is

    -- the rule on anchors
    pub suffice_is : anchors_suffice volume taken_by image ≡ anchors_hold (blocks_in size image) layout (block_of size image) v
    unfolding anchors_hold
    suffice_is =
        ap (λ a. suffice a (block_of volume.size image) (eligible_stated volume taken_by)) (anchor_is size image volume v d)
        ∙ ap (λ s. suffice v.anchor (block_of s image) (eligible_stated volume taken_by)) (size_is size image volume v d)
        ∙ ap (suffice v.anchor (block_of size image)) eligible_is

  pub kept_list_is : kept_list volume image ≡ v.list
  kept_list_is =
      ap (λ s. front_of (views (block_of s image) (kept_span volume).start (blocks_for s (kept_span volume).length))) (size_is size image volume v d)
      ∙ ap (λ (e : Extent). front_of (views (block_of size image) e.start (blocks_of size e))) (kept_is size image volume v d)
      ∙ kept_front size image v d.found

  pub other_list_is : other_list volume image ≡ front_of (views (block_of size image) (other v).start (blocks_of size (other v)))
  other_list_is =
      ap (λ s. front_of (views (block_of s image) (other_span volume).start (blocks_for s (other_span volume).length))) (size_is size image volume v d)
      ∙ ap (λ (e : Extent). front_of (views (block_of size image) e.start (blocks_of size e))) (other_is size image volume v d)

  -- the rule on sequences
  pub agrees_is : sequences_agree_in volume image ≡ sequences_hold size (block_of size image) v
  unfolding sequences_hold
  agrees_is =
      ap (λ l. agrees l (sequence_at volume.size (block_of volume.size image) (limit_stated volume) (extent_seen (other_span volume)))) kept_list_is
      ∙ ap (λ s. agrees v.list (sequence_at s (block_of s image) (limit_stated volume) (extent_seen (other_span volume)))) (size_is size image volume v d)
      ∙ ap (λ n. agrees v.list (sequence_at size (block_of size image) n (extent_seen (other_span volume)))) (limit_is size image volume v d)
      ∙ ap (λ e. agrees v.list (sequence_at size (block_of size image) (limit_of size v.anchor) e)) (other_is size image volume v d)

  -- the block of the prevailing logical volume descriptor
  pub logical_is : 512 ≤ size → has_block_size size v.list ≡ true → block_of size image volume.lvd ≡ logical_block (block_of size image) v
  unfolding logical_block volume_by sector_in
  logical_is large stated =
      ap (λ (x : Volume). block_of size image x.lvd) d.is ∙ by_index (prevailing_index 6 [] v.list) refl where
        by_index : (o : Option ℕ) → o ≡ prevailing_index 6 [] v.list
            → block_of size image (unwrap_or (option_map (λ index. (kept v).start + index) o) 0) ≡ block_by (block_of size image) (kept v).start o
        by_index (Some index) e = refl
        by_index None e =
            let no : false ≡ has_block_size size v.list = no_block_size v.list size large (not_found 6 [] v.list e) in
            absurd (let f : false ≡ true = no ∙ stated in cc)
