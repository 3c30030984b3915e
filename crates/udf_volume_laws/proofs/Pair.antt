-- The kept extent and the other one.
use Rattle.std.proofs.Common.{◌≡◌, ℕ, ◌+◌, ◌<◌, ◌≤◌, arith, refl, sym, ◌∙◌, ap, subst, List, true, false, Some, inl, inr, ◌⊎◌}
use Rattle.udf_volume_model.specs.Sequence.{Descriptor}
use Rattle.udf_volume_model.specs.Anchor.{Extent, Anchor, blocks_of, names_extents}
use Rattle.udf_volume_model.specs.Kept.{Which, KeptSequence, extent_of, opposite, kept, other, limit_of, sequence_at}
use Rattle.udf_volume_model.specs.Areas.{Area, area_of, areas_of, covers, is_outside}
use Rattle.udf_volume_model.specs.Layout.{are_lawful}
use Rattle.udf_volume_laws.proofs.Led.{IsLed, IsMain, IsReserve, IsRoom, rooms, limits}
use Rattle.udf_volume_laws.proofs.Members.{IsIn}
use Rattle.udf_volume_laws.proofs.Apart.{spread, not_both, further_areas, far, extents_apart}

pub record IsPair (size blocks : ℕ) (anchor : Anchor) (list : List Descriptor) (kept other : Extent) : Type 0 where
  pub kept_room : IsRoom size blocks kept
  pub other_room : IsRoom size blocks other
  pub kept_limit : limit_of size anchor ≤ blocks_of size kept
  pub other_limit : limit_of size anchor ≤ blocks_of size other
  pub apart : (kept.start + blocks_of size kept ≤ other.start) ⊎ (other.start + blocks_of size other ≤ kept.start)
  pub kept_listed : IsIn (area_of size kept) (areas_of size anchor list)
  pub other_listed : IsIn (area_of size other) (areas_of size anchor list)
  pub kept_off : (area : Area) (n : ℕ) → IsIn area (further_areas size list) → covers (area_of size kept) n ≡ true → covers area n ≡ false
  pub other_off : (area : Area) (n : ℕ) → IsIn area (further_areas size list) → covers (area_of size other) n ≡ true → covers area n ≡ false
  pub other_out : (n : ℕ) → is_outside (areas_of size anchor list) n ≡ true → (n < other.start) ⊎ (other.start + blocks_of size other ≤ n)

flipped : {A B : Type 0} → A ⊎ B → B ⊎ A
flipped (inl a) = inr a
flipped (inr b) = inl b

pub pair_main : (size blocks : ℕ) (anchor : Anchor) (list : List Descriptor) → names_extents size blocks anchor ≡ true
    → are_lawful size blocks list (areas_of size anchor list) ≡ true → IsPair size blocks anchor list anchor.main anchor.reserve
unfolding areas_of
pair_main size blocks anchor list within lawful =
    let room = rooms size blocks anchor within in
    let parts = spread size blocks anchor list lawful in
    record {
      kept_room = room.0;
      other_room = room.1;
      kept_limit = (limits size anchor).0;
      other_limit = (limits size anchor).1;
      apart = extents_apart size blocks anchor list lawful (omega (arith, room.0.many)) (omega (arith, room.1.many));
      kept_listed = inl refl;
      other_listed = inr (inl refl);
      kept_off = λ area n i c. not_both (area_of size anchor.main) area n (parts.main area i) c;
      other_off = λ area n i c. not_both (area_of size anchor.reserve) area n (parts.reserve area i) c;
      other_out = λ n e. (far size anchor list n e).second;
    }

pub pair_reserve : (size blocks : ℕ) (anchor : Anchor) (list : List Descriptor) → names_extents size blocks anchor ≡ true
    → are_lawful size blocks list (areas_of size anchor list) ≡ true → IsPair size blocks anchor list anchor.reserve anchor.main
unfolding areas_of
pair_reserve size blocks anchor list within lawful =
    let room = rooms size blocks anchor within in
    let parts = spread size blocks anchor list lawful in
    record {
      kept_room = room.1;
      other_room = room.0;
      kept_limit = (limits size anchor).1;
      other_limit = (limits size anchor).0;
      apart = flipped (extents_apart size blocks anchor list lawful (omega (arith, room.0.many)) (omega (arith, room.1.many)));
      kept_listed = inr (inl refl);
      other_listed = inl refl;
      kept_off = λ area n i c. not_both (area_of size anchor.reserve) area n (parts.reserve area i) c;
      other_off = λ area n i c. not_both (area_of size anchor.main) area n (parts.main area i) c;
      other_out = λ n e. (far size anchor list n e).first;
    }

pub pair : (size blocks : ℕ) (disk : ℕ → List ℕ) (place : ℕ) (volume : KeptSequence) → IsLed size blocks disk place volume → names_extents size blocks volume.anchor ≡ true
    → are_lawful size blocks volume.list (areas_of size volume.anchor volume.list) ≡ true
    → IsPair size blocks volume.anchor volume.list (kept volume) (other volume)
pair size blocks disk place volume l within lawful = by_side l.side where
  by_side : IsMain size disk volume ⊎ IsReserve size disk volume → IsPair size blocks volume.anchor volume.list (kept volume) (other volume)
  by_side (inl m) =
      subst (λ (w : Which). IsPair size blocks volume.anchor volume.list (extent_of w volume.anchor) (extent_of (opposite w) volume.anchor)) (sym m.0)
      (pair_main size blocks volume.anchor volume.list within lawful)
  by_side (inr m) =
      subst (λ (w : Which). IsPair size blocks volume.anchor volume.list (extent_of w volume.anchor) (extent_of (opposite w) volume.anchor)) (sym m.0)
      (pair_reserve size blocks volume.anchor volume.list within lawful)

pub kept_sequence : (size : ℕ) (disk : ℕ → List ℕ) (volume : KeptSequence) → IsMain size disk volume ⊎ IsReserve size disk volume
    → sequence_at size disk (limit_of size volume.anchor) (kept volume) ≡ Some volume.list
kept_sequence size disk volume (inl m) = ap (λ w. sequence_at size disk (limit_of size volume.anchor) (extent_of w volume.anchor)) m.0 ∙ m.1
kept_sequence size disk volume (inr m) = ap (λ w. sequence_at size disk (limit_of size volume.anchor) (extent_of w volume.anchor)) m.0 ∙ m.2
