-- Extents that lie in the image.
use Rattle.std.proofs.Common.{◌≡◌, ℕ, ◌+◌, ◌*◌, ◌^◌, ◌<◌, ◌≤◌, arith, refl, sym, ap, subst, inl, ltb, true, false, List, [], ◌∷◌, length, Option, Some, None}
use Rattle.std.proofs.Math.Nat.{mul-le-mul_right}
use Rattle.std.proofs.lemmas.Bool.{and_parts, leb-true, ltb-true}
use Rattle.udf_volume_model.specs.Sequence.{Descriptor}
use Rattle.udf_volume_model.specs.Kept.{kept, extent_of, limit_of, has_id, is_complete}
use Rattle.std.proofs.lemmas.List.Quantifiers.{position-Some}
use Rattle.std.specs.Prelude.{option_map, unwrap_or}
use Rattle.udf_volume_model.specs.Prevailing.{prevailing_index}
use Rattle.udf_volume_model.specs.Stated.{partition_number}
use Rattle.udf_volume_model.specs.Maps.{is_base_lawful}
use Rattle.udf_layer.specs.Tables.{map_seen}
use Rattle.udf_volume.specs.Maps.{sparing_stated}
use Rattle.udf_volume.specs.Seen.{anchor_seen, extent_seen, which_seen}
use Rattle.udf_volume.specs.Led.{IsLed, led_seen}
use Rattle.udf_volume.specs.Opened.{IsBounded, sector_in, volume_by, which_of}
use Rattle.udf_volume.specs.Spans.{span_by, opposite, kept_span, other_span}
use Rattle.udf_volume.specs.declared.volume.Volume.{Volume}
use Rattle.udf_volume.specs.declared.kept.Led.{Led}
use Rattle.udf_volume.specs.declared.volume.Which.{Which}
use Rattle.udf_volume.specs.declared.volume.Which.TheVariants as which
use Rattle.udf_volume.proofs.Leads.{sector_is}
use Rattle.udf_volume_model.specs.Anchor.{Extent, Anchor, blocks_of, blocks_for, is_extent, names_extents}

pub ends_in : (size blocks : ℕ) (extent : Extent) → is_extent size blocks extent ≡ true → extent.start + blocks_of size extent ≤ blocks
unfolding is_extent
ends_in size blocks extent e = leb-true _ _ (and_parts _ _ e).1

pub fits : (size blocks bytes start count whole : ℕ) → is_extent size blocks (record { bytes = bytes; start = start }) ≡ true
    → count ≡ blocks_for size bytes → blocks * size ≤ whole → (start + count) * size ≤ whole
fits size blocks bytes start count whole e is room =
    let h : start + count ≤ blocks = omega (arith, ends_in size blocks _ e) in
    omega (arith, mul-le-mul_right size h)

pub in_numbers : (size blocks bytes start count : ℕ) → is_extent size blocks (record { bytes = bytes; start = start }) ≡ true
    → count ≡ blocks_for size bytes → blocks < 2 ^ 32 → start + count < 2 ^ 32
in_numbers size blocks bytes start count e is small = omega (arith, ends_in size blocks _ e)

pub both : (size blocks : ℕ) (anchor : Anchor) → names_extents size blocks anchor ≡ true
    → (is_extent size blocks anchor.main ≡ true) × (is_extent size blocks anchor.reserve ≡ true)
unfolding names_extents
both size blocks anchor e = and_parts _ _ e

-- one of the extents that an anchor names
pub named : (size blocks : ℕ) (anchor : Anchor) (which : Which) → names_extents size blocks anchor ≡ true
    → is_extent size blocks (extent_of (which_seen which) anchor) ≡ true
named size blocks anchor which.Main e = (both size blocks anchor e).0
named size blocks anchor which.Reserve e = (both size blocks anchor e).1

limits : (size : ℕ) (anchor : Anchor) → (limit_of size anchor ≤ blocks_of size anchor.main) × (limit_of size anchor ≤ blocks_of size anchor.reserve)
unfolding limit_of
limits size anchor = (omega arith, omega arith)

fewer : (limit : ℕ) (list : List Descriptor) → is_complete limit list ≡ true → length list < limit
unfolding is_complete
fewer limit list e = ltb-true _ _ (and_parts _ _ e).0

-- the descriptors of a kept sequence lie in the image
pub descriptors_in : (size blocks : ℕ) (led : Led) → IsLed size blocks led
    → (kept (led_seen led)).start + length led.descriptors.items ≤ blocks
descriptors_in size blocks led is = by_which led.which where
  few : length led.descriptors.items < limit_of size (anchor_seen led.anchor)
  few = fewer (limit_of size (anchor_seen led.anchor)) led.descriptors.items is.complete

  small : (limit_of size (anchor_seen led.anchor) ≤ blocks_of size (extent_seen led.anchor.main))
      × (limit_of size (anchor_seen led.anchor) ≤ blocks_of size (extent_seen led.anchor.reserve))
  small = limits size (anchor_seen led.anchor)

  by_which : (w : Which) → (extent_of (which_seen w) (anchor_seen led.anchor)).start + length led.descriptors.items ≤ blocks
  by_which which.Main = omega (arith, few, small.0, ends_in size blocks _ (both size blocks _ is.extents).0)
  by_which which.Reserve = omega (arith, few, small.1, ends_in size blocks _ (both size blocks _ is.extents).1)

nonempty : (limit : ℕ) (list : List Descriptor) → is_complete limit list ≡ true → 1 ≤ length list
unfolding is_complete has_id
nonempty limit [] e =
    let parts = and_parts (ltb (length {A = Descriptor} []) limit) false e in
    absurd (let no : false ≡ true = parts.1 in cc)
nonempty limit (d ∷ list) e = omega arith

-- a prevailing partition descriptor stands in the image, and so does block 0
prevailing_inside : (size blocks : ℕ) (led : Led) (subject : List ℕ) (found : Option ℕ) → IsLed size blocks led
    → found ≡ prevailing_index 5 subject led.descriptors.items → unwrap_or (sector_in (led_seen led) 5 subject) 0 < blocks
unfolding sector_in prevailing_index
prevailing_inside size blocks led subject None is e =
    let P : ℕ → Type 0 = λ n. n < blocks in
    subst P (ap (λ (o : Option ℕ). unwrap_or (option_map (λ i. (kept (led_seen led)).start + i) o) 0) e) (omega (arith, is.place))
prevailing_inside size blocks led subject (Some i) is e =
    let P : ℕ → Type 0 = λ n. n < blocks in
    let inside : i < length led.descriptors.items = (position-Some _ led.descriptors.items i (record { id = 0; body = [] }) (sym e)).0 in
    subst P (ap (λ (o : Option ℕ). unwrap_or (option_map (λ i. (kept (led_seen led)).start + i) o) 0) e)
    (omega (arith, descriptors_in size blocks led is, inside))

-- what is stated of a kept sequence is bounded
pub bounded : (size blocks : ℕ) (led : Led) (logical partition : List ℕ) → blocks < 2 ^ 32 → IsLed size blocks led
    → is_base_lawful (option_map map_seen (sparing_stated logical)) ≡ true → IsBounded size blocks (volume_by size blocks (led_seen led) logical partition)
unfolding volume_by limit_of
bounded size blocks led logical partition small is spared = record {
  sized = refl;
  counted = refl;
  base = inl refl;
  spared = spared;
  anchored = is.place;
  main_inside = (both size blocks _ is.extents).0;
  reserve_inside = (both size blocks _ is.extents).1;
  few = small;
  some = nonempty _ _ is.complete;
  short = fewer (limit_of size (anchor_seen led.anchor)) led.descriptors.items is.complete;
  descriptors_inside = by_which led.which (descriptors_in size blocks led is);
  primary_inside =
      let P : ℕ → Type 0 = λ n. n < blocks in
      subst P (sector_is (led_seen led) 1 [] led.leading.primary _ is.leading.primary refl)
      (omega (arith, descriptors_in size blocks led is, is.leading.primary_inside));
  logical_inside =
      let P : ℕ → Type 0 = λ n. n < blocks in
      subst P (sector_is (led_seen led) 6 [] led.leading.logical _ is.leading.logical refl)
      (omega (arith, descriptors_in size blocks led is, is.leading.logical_inside));
  partition_inside =
      prevailing_inside size blocks led (partition_number logical) (prevailing_index 5 (partition_number logical) led.descriptors.items) is refl;
} where
  by_which : (w : Which) → (extent_of (which_seen w) (anchor_seen led.anchor)).start + length led.descriptors.items ≤ blocks
      → (span_by (which_of (which_seen w)) (volume_by size blocks (led_seen led) logical partition)).start + length led.descriptors.items ≤ blocks
  by_which which.Main h = h
  by_which which.Reserve h = h

-- both sequences of a bounded volume lie in the image
pub kept_inside : (size blocks : ℕ) (volume : Volume) → IsBounded size blocks volume → is_extent size blocks (extent_seen (kept_span volume)) ≡ true
kept_inside size blocks volume is = by_which volume.kept where
  by_which : (w : Which) → is_extent size blocks (extent_seen (span_by w volume)) ≡ true
  by_which which.Main = is.main_inside
  by_which which.Reserve = is.reserve_inside

pub other_inside : (size blocks : ℕ) (volume : Volume) → IsBounded size blocks volume → is_extent size blocks (extent_seen (other_span volume)) ≡ true
other_inside size blocks volume is = by_which volume.kept where
  by_which : (w : Which) → is_extent size blocks (extent_seen (span_by (opposite w) volume)) ≡ true
  by_which which.Main = is.reserve_inside
  by_which which.Reserve = is.main_inside
