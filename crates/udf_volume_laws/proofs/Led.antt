-- What it means that an anchor leads to a volume.
use Rattle.std.proofs.Common.{◌≡◌, ℕ, ◌+◌, ◌<◌, ◌≤◌, arith, refl, sym, ◌∙◌, ap, subst, List, [], ◌∷◌, length, Bool, true, false, cond, ◌&&◌, leb, ltb, Option, Some, None, inl, inr, ◌⊎◌}
use Rattle.std.proofs.lemmas.Bool.{and_parts, leb-true, ltb-true}
use Rattle.udf_volume_model.specs.Anchor.{Extent, Anchor, blocks_of, is_extent, anchor_in, names_extents}
use Rattle.udf_volume_model.specs.Sequence.{Descriptor, view_of, views, listed}
use Rattle.udf_volume_model.specs.Kept.{KeptSequence, Main, Reserve, is_complete, has_id, limit_of, whole_by, sequence_at, kept_sequence_by, kept_sequence_at, led_from, or_else, kept_sequence_in}
use Rattle.std.specs.Prelude.{is_none}
use Rattle.udf_volume_model.specs.Areas.{Area, is_outside}
use Rattle.udf_volume_model.specs.Layout.{is_passed}
use Rattle.udf_volume_laws.proofs.Walk.{Walks, walks, listed_as, same_said}
use Rattle.udf_volume_laws.proofs.Members.{IsIn}

-- which of the two sequences is the kept one
abbrev pub IsMain : ℕ → (ℕ → List ℕ) → KeptSequence → Type 0
IsMain size disk volume =
    (volume.which ≡ Main) × (sequence_at size disk (limit_of size volume.anchor) volume.anchor.main ≡ Some volume.list)

abbrev pub IsReserve : ℕ → (ℕ → List ℕ) → KeptSequence → Type 0
IsReserve size disk volume =
    (volume.which ≡ Reserve)
    × (sequence_at size disk (limit_of size volume.anchor) volume.anchor.main ≡ None)
    × (sequence_at size disk (limit_of size volume.anchor) volume.anchor.reserve ≡ Some volume.list)

pub record IsLed (size blocks : ℕ) (disk : ℕ → List ℕ) (place : ℕ) (volume : KeptSequence) : Type 0 where
  pub here : volume.place ≡ place
  pub anchor : anchor_in size blocks place (disk place) ≡ Some volume.anchor
  pub side : IsMain size disk volume ⊎ IsReserve size disk volume

by_volume : (size blocks : ℕ) (disk : ℕ → List ℕ) (place : ℕ) (anchor : Anchor) (volume : KeptSequence) (main reserve : Option (List Descriptor))
    → anchor_in size blocks place (disk place) ≡ Some anchor
    → sequence_at size disk (limit_of size anchor) anchor.main ≡ main
    → sequence_at size disk (limit_of size anchor) anchor.reserve ≡ reserve
    → kept_sequence_by place anchor main reserve ≡ Some volume → IsLed size blocks disk place volume
by_volume size blocks disk place anchor volume (Some list) reserve a m r e =
    let is : record { place = place; anchor = anchor; which = Main; list = list } ≡ volume = cc in
    subst (λ (v : KeptSequence). IsLed size blocks disk place v) is (record { here = refl; anchor = a; side = inl (refl, m) })
by_volume size blocks disk place anchor volume None (Some list) a m r e =
    let is : record { place = place; anchor = anchor; which = Reserve; list = list } ≡ volume = cc in
    subst (λ (v : KeptSequence). IsLed size blocks disk place v) is (record { here = refl; anchor = a; side = inr (refl, m, r) })
by_volume size blocks disk place anchor volume None None a m r e = absurd (cc)

pub led : (size blocks : ℕ) (disk : ℕ → List ℕ) (place : ℕ) (volume : KeptSequence) → led_from size blocks disk place ≡ Some volume → IsLed size blocks disk place volume
unfolding led_from
led size blocks disk place volume = by_anchor (anchor_in size blocks place (disk place)) refl where
  by_anchor : (found : Option Anchor) → anchor_in size blocks place (disk place) ≡ found → kept_sequence_at size disk place found ≡ Some volume → IsLed size blocks disk place volume
  by_anchor None a e = absurd (cc)
  by_anchor (Some anchor) a e = by_volume size blocks disk place anchor volume _ _ a refl refl e

-- an anchor whose main sequence is whole leads there
pub leads : (size blocks : ℕ) (disk : ℕ → List ℕ) (place : ℕ) (anchor : Anchor) (list : List Descriptor) → anchor_in size blocks place (disk place) ≡ Some anchor
    → sequence_at size disk (limit_of size anchor) anchor.main ≡ Some list
    → led_from size blocks disk place ≡ Some (record { place = place; anchor = anchor; which = Main; list = list })
unfolding led_from
leads size blocks disk place anchor list a m =
    ap (kept_sequence_at size disk place) a
    ∙ ap (λ main. kept_sequence_by place anchor main (sequence_at size disk (limit_of size anchor) anchor.reserve)) m

leads_none : (size blocks : ℕ) (disk : ℕ → List ℕ) (place : ℕ) → anchor_in size blocks place (disk place) ≡ None → led_from size blocks disk place ≡ None
unfolding led_from
leads_none size blocks disk place a = ap (kept_sequence_at size disk place) a

no_anchor : (o : Option Anchor) → is_none o ≡ true → o ≡ None
no_anchor None e = refl
no_anchor (Some a) e = absurd (cc)

-- a place that is passed leads to none
pub passed_leads_none : (size blocks : ℕ) (disk : ℕ → List ℕ) (areas : List Area) (place : ℕ) → is_passed size blocks disk areas place ≡ true → led_from size blocks disk place ≡ None
unfolding is_passed
passed_leads_none size blocks disk areas place e =
    leads_none size blocks disk place
    (no_anchor (anchor_in size blocks place (disk place)) (and_parts (is_outside areas place) (is_none (anchor_in size blocks place (disk place))) e).1)

-- the volume is that of one of the places
pub found : (size blocks : ℕ) (disk : ℕ → List ℕ) (places : List ℕ) (volume : KeptSequence) → kept_sequence_in size blocks disk places ≡ Some volume
    → (place : ℕ) × IsIn place places × IsLed size blocks disk place volume
unfolding kept_sequence_in
found size blocks disk [] volume e = absurd (cc)
found size blocks disk (place ∷ places) volume e = by_first (found size blocks disk places volume) (led_from size blocks disk place) refl e where
  by_first : (kept_sequence_in size blocks disk places ≡ Some volume → (at : ℕ) × IsIn at places × IsLed size blocks disk at volume)
      → (first : Option KeptSequence) → led_from size blocks disk place ≡ first → or_else first (kept_sequence_in size blocks disk places) ≡ Some volume
      → (at : ℕ) × IsIn at (place ∷ places) × IsLed size blocks disk at volume
  by_first rest None l f = let r = rest f in (r.0, inr r.1, r.2)
  by_first rest (Some first) l f = (place, inl refl, led size blocks disk place volume (l ∙ f))

-- what a whole sequence is
pub record IsSequence (size : ℕ) (disk : ℕ → List ℕ) (limit : ℕ) (extent : Extent) (list : List Descriptor) : Type 0 where
  pub is : listed (views disk extent.start (blocks_of size extent)) ≡ Some list
  pub complete : is_complete limit list ≡ true
  pub below : length list < limit

pub is_sequence : (size : ℕ) (disk : ℕ → List ℕ) (limit : ℕ) (extent : Extent) (list : List Descriptor) → sequence_at size disk limit extent ≡ Some list
    → IsSequence size disk limit extent list
unfolding sequence_at is_complete
is_sequence size disk limit extent list = by_list (listed (views disk extent.start (blocks_of size extent))) refl where
  by_complete : (read : List Descriptor) (b : Bool) → listed (views disk extent.start (blocks_of size extent)) ≡ Some read → is_complete limit read ≡ b
      → cond b (Some read) None ≡ Some list → IsSequence size disk limit extent list
  by_complete read true l c e =
      let is : read ≡ list = cc in
      let whole : is_complete limit list ≡ true = ap (is_complete limit) (sym is) ∙ c in
      record { is = l ∙ e; complete = whole; below = ltb-true _ _ (and_parts (ltb (length list) limit) (has_id 1 list && (has_id 5 list && has_id 6 list)) whole).0 }
  by_complete read false l c e = absurd (cc)

  by_list : (read : Option (List Descriptor)) → listed (views disk extent.start (blocks_of size extent)) ≡ read → whole_by limit read ≡ Some list
      → IsSequence size disk limit extent list
  by_list None l e = absurd (cc)
  by_list (Some read) l e = by_complete read (is_complete limit read) l refl e

pub sequence_from : (size : ℕ) (disk : ℕ → List ℕ) (limit : ℕ) (extent : Extent) (list : List Descriptor)
    → listed (views disk extent.start (blocks_of size extent)) ≡ Some list → is_complete limit list ≡ true → sequence_at size disk limit extent ≡ Some list
unfolding sequence_at
sequence_from size disk limit extent list l c = ap (whole_by limit) l ∙ ap (λ b. cond b (Some list) None) c

-- sequences are read from their blocks alone
pub same_sequence : (size : ℕ) (disk after : ℕ → List ℕ) (limit : ℕ) (extent : Extent)
    → ((n : ℕ) → extent.start ≤ n → n < extent.start + blocks_of size extent → disk n ≡ after n)
    → sequence_at size disk limit extent ≡ sequence_at size after limit extent
unfolding sequence_at views
same_sequence size disk after limit extent h =
    ap (λ read. whole_by limit (listed read))
    (same_said (λ n. view_of (disk n)) (λ n. view_of (after n)) (blocks_of size extent) extent.start (λ n l k. ap view_of (h n l k)))

pub walks_of : (size : ℕ) (disk : ℕ → List ℕ) (limit : ℕ) (extent : Extent) (list : List Descriptor) → sequence_at size disk limit extent ≡ Some list
    → limit ≤ blocks_of size extent → Walks (λ n. view_of (disk n)) extent.start list
unfolding views
walks_of size disk limit extent list e room =
    let s = is_sequence size disk limit extent list e in
    walks (λ n. view_of (disk n)) (blocks_of size extent) extent.start list s.is (omega arith)

pub sequence_of : (size : ℕ) (disk : ℕ → List ℕ) (limit : ℕ) (extent : Extent) (list : List Descriptor) → Walks (λ n. view_of (disk n)) extent.start list
    → length list < limit → limit ≤ blocks_of size extent → is_complete limit list ≡ true → sequence_at size disk limit extent ≡ Some list
unfolding views
sequence_of size disk limit extent list w below room c =
    sequence_from size disk limit extent list (listed_as (λ n. view_of (disk n)) (blocks_of size extent) extent.start list w (omega arith)) c

pub limits : (size : ℕ) (anchor : Anchor) → (limit_of size anchor ≤ blocks_of size anchor.main) × (limit_of size anchor ≤ blocks_of size anchor.reserve)
unfolding limit_of
limits size anchor = (omega arith, omega arith)

-- an extent of an anchor lies in the image, and has blocks
pub record IsRoom (size blocks : ℕ) (extent : Extent) : Type 0 where
  pub many : 16 ≤ blocks_of size extent
  pub within : extent.start + blocks_of size extent ≤ blocks

pub rooms : (size blocks : ℕ) (anchor : Anchor) → names_extents size blocks anchor ≡ true → IsRoom size blocks anchor.main × IsRoom size blocks anchor.reserve
unfolding names_extents is_extent
rooms size blocks anchor e =
    let both = and_parts (is_extent size blocks anchor.main) (is_extent size blocks anchor.reserve) e in
    let main = and_parts (leb 16 (blocks_of size anchor.main)) (leb (anchor.main.start + blocks_of size anchor.main) blocks) both.0 in
    let reserve = and_parts (leb 16 (blocks_of size anchor.reserve)) (leb (anchor.reserve.start + blocks_of size anchor.reserve) blocks) both.1 in
    (record { many = leb-true _ _ main.0; within = leb-true _ _ main.1 }, record { many = leb-true _ _ reserve.0; within = leb-true _ _ reserve.1 })
