-- The block size that is found in a mended image.
use Rattle.std.proofs.Common.{◌≡◌, ◌==◌, ◌-◌, ne_eqb, ◌⊎◌, inl, inr, ◌≤◌, ◌<◌, ◌+◌, ◌*◌, ◌/◌, ◌^◌, ℕ, zero, suc, arith, refl, sym, ◌∙◌, ap, subst, List, [], ◌∷◌, ◌++◌, length, take, drop, Bool, true, false, cond, ◌&&◌, nat_lt, Option, Some, None}
use Rattle.std.specs.List.{list_all}
use Rattle.std.proofs.lemmas.Bool.{le-ltb, lt-leb, and_parts, and_from, cases_Bool, eq-eqb, eqb-true, ltb-true}
use Rattle.std.proofs.lemmas.List.{take-take, get_or-take}
use Rattle.udf_model.specs.Image.{block_of, blocks_in}
use Rattle.udf_model.specs.Size.{sizes}
use Rattle.udf_model.specs.Tag.{identifier, id_at, is_id, relocated}
use Rattle.udf_model.proofs.Sizes.{large}
use Rattle.udf_model.proofs.Written.{same_number}
use Rattle.udf_volume_model.specs.Sequence.{Descriptor, view_of, is_listed}
use Rattle.udf_volume_model.specs.Anchor.{places, places_by}
use Rattle.udf_volume_model.specs.Size.{has_size, found_size}
use Rattle.udf_volume_model.specs.Kept.{KeptSequence, kept, other, kept_sequence_of}
use Rattle.udf_volume_model.specs.Areas.{is_outside}
use Rattle.udf_volume_model.specs.Layout.{earlier, is_passed}
use Rattle.udf_volume_model.specs.Rules.{is_eligible, anchors_hold, sequences_hold}
use Rattle.udf_volume_model.specs.SparingRule.{table_edits}
use Rattle.udf_volume_model.specs.AllRules.{layout_in}
use Rattle.udf_volume_model.specs.Edits.{look}
use Rattle.udf_volume_model.specs.Mended.{copies, end_block, logical_block, sequence_edits, anchor_edits, edits}
use Rattle.udf_volume_model.specs.Opened.{is_opened_by, is_opened, volume_mended}
use Rattle.udf_volume_laws.proofs.Walk.{Walks}
use Rattle.udf_volume_laws.proofs.Moved.{IsTagged, moved_tagged, listed_tells}
use Rattle.udf_volume_laws.proofs.Copies.{end_tagged}
use Rattle.udf_volume_laws.proofs.Puts.{off, off_both, look_both, look_here, look_past}
use Rattle.udf_volume_laws.proofs.Members.{IsIn}
use Rattle.udf_volume_laws.proofs.Ascending.{to_ascending}
use Rattle.udf_volume_laws.proofs.Places.{two_tagged}
use Rattle.udf_volume_laws.proofs.Difference.{length_kept}
use Rattle.udf_volume_laws.proofs.Taken.{IsOpened, Facts, facts, taken_in}
use Rattle.udf_volume_laws.proofs.Beside.{anchors_off_edits}
use Rattle.udf_volume_laws.proofs.Spares.{spares, tables_off, tables_high}
use Rattle.udf_volume_laws.proofs.After.{after, whole, outside_stays, anchor_there}
use Rattle.udf_volume_laws.proofs.Led.{walks_of}
use Rattle.udf_volume_laws.proofs.Pair.{kept_sequence}
use Rattle.udf_volume_laws.proofs.Final.{opened_parts, given, put_disk, mended_is}

-- no descriptor of a sequence is an anchor
not_two : (id : ℕ) → is_listed id ≡ true → id ≡ 2 → ⊥
unfolding is_listed
not_two id listed two = let no : is_listed 2 ≡ true = subst (λ (n : ℕ). is_listed n ≡ true) two listed in absurd (cc)

-- a block that stays, or becomes one that is no anchor
abbrev IsNoAnchor : List ℕ → List ℕ → Type 0
IsNoAnchor before new = (new ≡ before) ⊎ (identifier new ≡ 2 → ⊥)

no_anchor : (id : ℕ) (before new : List ℕ) → IsTagged id new → (id ≡ 2 → ⊥) → IsNoAnchor before new
no_anchor id before new tagged other = inr (λ two. other (sym tagged.same ∙ two))

put_no_anchor : (k to : ℕ) (put base : List ℕ) (rest : List (ℕ × List ℕ)) → IsNoAnchor base put → IsNoAnchor base (look k rest base)
    → IsNoAnchor base (look k ((to, put) ∷ rest) base)
put_no_anchor k to put base rest here past = elim (cases_Bool (k == to)) [
  | inl same ↦ subst (IsNoAnchor base) (sym (look_here k to put rest base (eqb-true k to same))) here
  | inr other ↦
      subst (IsNoAnchor base)
      (sym (look_past k to put rest base (λ e. absurd (let no : true ≡ false = sym (eq-eqb k to e) ∙ other in cc)))) past
]

copies_no_anchor : (size : ℕ) (disk : ℕ → List ℕ) (like base : List ℕ) (list : List Descriptor) (count from to k : ℕ) → 512 ≤ size → length list ≡ count
    → ((n : ℕ) → from ≤ n → n ≤ from + count → 16 ≤ length (disk n))
    → Walks (λ n. view_of (disk n)) from list
    → IsNoAnchor base (look k (copies size disk like from to count) base)
unfolding copies look
copies_no_anchor size disk like base list zero from to k large many room w =
    put_no_anchor k to (end_block size to (disk from) like) base []
    (no_anchor 8 base (end_block size to (disk from) like) (end_tagged size to (disk from) like large (room from (omega arith) (omega arith))) (λ e. omega arith))
    (inl refl)
copies_no_anchor size disk like base [] (suc count) from to k large many room w = absurd (omega arith)
copies_no_anchor size disk like base (descriptor ∷ list) (suc count) from to k large many room w =
    let told = listed_tells (disk from) descriptor w.0 in
    put_no_anchor k to (relocated to (disk from)) base (copies size disk like (from + 1) (to + 1) count)
    (no_anchor descriptor.id base (relocated to (disk from))
    (moved_tagged to descriptor.id (disk from) (room from (omega arith) (omega arith)) told.tagged)
    (not_two descriptor.id told.listed))
    (copies_no_anchor size disk like base list count (from + 1) (to + 1) k large (omega arith) (λ n l h. room n (omega arith) (omega arith)) w.1)

-- 256 is the first place, where it is in the image
first_place : (blocks : ℕ) → 256 < blocks → (rest : List ℕ) × (places blocks ≡ 256 ∷ rest)
unfolding places places_by
first_place blocks many = by_one (cases_Bool (blocks - 1 == 256)) (cases_Bool (blocks - 1 == 512)) where
  by_one : ((blocks - 1 == 256) ≡ true) ⊎ ((blocks - 1 == 256) ≡ false) → ((blocks - 1 == 512) ≡ true) ⊎ ((blocks - 1 == 512) ≡ false)
      → (rest : List ℕ) × (places blocks ≡ 256 ∷ rest)
  by_one (inl a) b =
      let last : blocks - 1 ≡ 256 = eqb-true _ _ a in
      let is : blocks ≡ 257 = omega arith in
      (0 ∷ [], ap places is)
  by_one (inr a) (inl b) =
      let last : blocks - 1 ≡ 512 = eqb-true _ _ b in
      let is : blocks ≡ 513 = omega arith in
      (512 ∷ [], ap places is)
  by_one (inr a) (inr b) = (
    (blocks - 1) ∷ ((blocks - 1) - 256) ∷ [],
    ap (λ (t : Bool). cond t [] (places_by (blocks - 1))) (ne_eqb blocks 0 (λ e. omega arith))
        ∙ ap (λ (t : Bool). cond t ((blocks - 1) ∷ []) (cond (blocks - 1 == 256) (256 ∷ 0 ∷ []) (cond (blocks - 1 == 512) (256 ∷ 512 ∷ []) (256 ∷ (blocks - 1) ∷ ((blocks - 1) - 256) ∷ [])))) (le-ltb (blocks - 1) 256 (omega arith))
        ∙ ap (λ (t : Bool). cond t (256 ∷ 0 ∷ []) (cond (blocks - 1 == 512) (256 ∷ 512 ∷ []) (256 ∷ (blocks - 1) ∷ ((blocks - 1) - 256) ∷ []))) a
        ∙ ap (λ (t : Bool). cond t (256 ∷ 512 ∷ []) (256 ∷ (blocks - 1) ∷ ((blocks - 1) - 256) ∷ [])) b,
  )

module _ (size blocks : ℕ) (disk : ℕ → List ℕ) (volume : KeptSequence) (held : IsOpened size blocks disk volume) where
  known : Facts size blocks disk volume
  known = facts size blocks disk volume held

  -- 256 lies in no area, since it is the kept place or an earlier one
  outside_first : 256 < blocks → is_outside (taken_in size disk volume) 256 ≡ true
  unfolding earlier is_passed
  outside_first many =
      let first = first_place blocks many in
      let passed : list_all (is_passed size blocks disk (taken_in size disk volume)) (earlier volume.place (256 ∷ first.0)) ≡ true =
      subst (λ (l : List ℕ). list_all (is_passed size blocks disk (taken_in size disk volume)) (earlier volume.place l) ≡ true) first.1 known.passed in
      by_place (cases_Bool (256 == volume.place)) first.0 passed where
        by_place : ((256 == volume.place) ≡ true) ⊎ ((256 == volume.place) ≡ false) → (rest : List ℕ)
            → list_all (is_passed size blocks disk (taken_in size disk volume)) (earlier volume.place (256 ∷ rest)) ≡ true
            → is_outside (taken_in size disk volume) 256 ≡ true
        by_place (inl here) rest passed = ap (is_outside (taken_in size disk volume)) (eqb-true 256 volume.place here) ∙ known.outside
        by_place (inr other) rest passed =
            let shown : list_all (is_passed size blocks disk (taken_in size disk volume)) (256 ∷ earlier volume.place rest) ≡ true =
            ap (λ (b : Bool). list_all (is_passed size blocks disk (taken_in size disk volume)) (cond b [] (256 ∷ earlier volume.place rest))) (sym other) ∙ passed in
            (and_parts _ _ (and_parts _ _ shown).0).0

  -- an anchor at 256 stays one
  anchor_stays : 256 < blocks → is_id 2 (id_at 256 (disk 256)) ≡ true → is_id 2 (id_at 256 (after size blocks disk volume held 256)) ≡ true
  unfolding is_eligible
  anchor_stays many is = by_rule (cases_Bool (anchors_hold blocks (layout_in size disk volume) disk volume)) where
    by_rule : (anchors_hold blocks (layout_in size disk volume) disk volume ≡ true) ⊎ (anchors_hold blocks (layout_in size disk volume) disk volume ≡ false)
        → is_id 2 (id_at 256 (after size blocks disk volume held 256)) ≡ true
    by_rule (inl holds) = ap (λ (b : List ℕ). is_id 2 (id_at 256 b)) (outside_stays size blocks disk volume held holds 256 (outside_first many)) ∙ is
    by_rule (inr broken) =
        let first = first_place blocks many in
        let place : IsIn 256 (places blocks) = subst (λ (l : List ℕ). IsIn 256 l) (sym first.1) (inl refl) in
        (anchor_there size blocks disk volume held broken 256 (to_ascending blocks 256 place) (outside_first many)).tagged

  -- a block up to 128 stays, or becomes one that is no anchor: tables stand higher
  below_first : (k : ℕ) → k ≤ 128 → IsNoAnchor (disk k) (after size blocks disk volume held k)
  unfolding look edits sequence_edits is_eligible
  below_first k low =
      subst (IsNoAnchor (disk k))
      (sym (look_both k (sequence_edits size disk volume) (anchor_edits blocks (layout_in size disk volume) disk volume ++ table_edits size disk volume.list) (disk k)
      ∙ ap (look k (sequence_edits size disk volume))
      (off k (anchor_edits blocks (layout_in size disk volume) disk volume ++ table_edits size disk volume.list) (disk k)
      (off_both k (anchor_edits blocks (layout_in size disk volume) disk volume) (table_edits size disk volume.list)
      (anchors_off_edits size blocks disk volume k (inl (too_low k (omega arith))))
      (tables_off size blocks disk volume.list (omega (arith, held.large)) held.full (spares size blocks disk volume.anchor volume.list known.lawful known.table) k
      (λ area i. inl (omega (arith, tables_high size blocks volume.anchor volume.list known.lawful area i))))))))
      (by_rule (sequences_hold size disk volume)) where
        too_low : (k : ℕ) → k < 256 → is_eligible (taken_in size disk volume) k ≡ false
        too_low k low = ap (λ (b : Bool). b && is_outside (taken_in size disk volume) k) (lt-leb 256 k low)

        by_rule : (b : Bool) → IsNoAnchor (disk k) (look k (cond b [] (copies size disk (logical_block disk volume) (kept volume).start (other volume).start (length volume.list))) (disk k))
        by_rule true = inl refl
        by_rule false =
            copies_no_anchor size disk (logical_block disk volume) (disk k) volume.list (length volume.list) (kept volume).start (other volume).start k held.large refl
            (λ n l h.
            let room : n < blocks = omega (arith, known.pairing.kept_room.within, known.pairing.kept_limit, (whole size blocks disk volume held).below) in
            omega (arith, held.full n room, held.large))
            (walks_of size disk _ (kept volume) volume.list (kept_sequence size disk volume known.side) known.pairing.kept_limit)

-- the front of a block at a greater size is a block at a smaller one
front_block : (small size k : ℕ) (image : List ℕ) → small ≤ size → k * size ≡ 256 * small → block_of small image 256 ≡ take small (block_of size image k)
unfolding block_of
front_block small size k image le at =
    ap (λ (n : ℕ). take small (drop n image)) (sym at) ∙ sym (take-take small size (drop (k * size) image) le)

front_identifier : (small : ℕ) (block : List ℕ) → 2 ≤ small → identifier (take small block) ≡ identifier block
front_identifier small block some = same_number 2 0 (take small block) block (λ j l h. get_or-take small block j 0 (omega arith))

module _ (size : ℕ) (image : List ℕ) (wide : 512 ≤ size) (opened : is_opened size image ≡ true) where
  abbrev mended : List ℕ
  mended = volume_mended size image

  long : length mended ≡ length image
  long = length_kept size image wide

  parts : (blocks_in size image < 2 ^ 32)
      × ((volume : KeptSequence) × (kept_sequence_of size image ≡ Some volume)
      × (is_opened_by size (blocks_in size image) (block_of size image) (Some volume) ≡ true))
  parts = opened_parts size image opened

  held : IsOpened size (blocks_in size image) (block_of size image) parts.1.0
  held = given size image parts.1.0 wide parts.0 parts.1.1 parts.1.2

  disk_after : block_of size mended ≡ after size (blocks_in size image) (block_of size image) parts.1.0 held
  disk_after = ap (block_of size) (mended_is size image parts.1.0 opened parts.1.1) ∙ put_disk size image parts.1.0 held

  -- the size at which the image is opened
  pub size_stays : has_size image size ≡ true → has_size mended size ≡ true
  unfolding has_size
  size_stays has =
      let both = and_parts _ _ has in
      and_from _ _ (ap (λ (n : ℕ). nat_lt 256 (n / size)) long ∙ both.0)
      (ap (λ (disk : ℕ → List ℕ). is_id 2 (id_at 256 (disk 256))) disk_after
      ∙ anchor_stays size (blocks_in size image) (block_of size image) parts.1.0 held (ltb-true _ _ both.0) both.1)

  -- a smaller one, whose block 256 begins a block up to 128
  pub smaller_stays : (small k : ℕ) → 2 ≤ small → small ≤ size → k * size ≡ 256 * small → k ≤ 128 → has_size image small ≡ false → has_size mended small ≡ false
  unfolding has_size
  smaller_stays small k some le at low none = by_test (cases_Bool (has_size mended small)) where
    same_front : block_of size mended k ≡ block_of size image k → has_size mended small ≡ has_size image small
    same_front same =
        ap (λ (n : ℕ). nat_lt 256 (n / small) && is_id 2 (id_at 256 (block_of small mended 256))) long
        ∙ ap (λ (b : List ℕ). nat_lt 256 (blocks_in small image) && is_id 2 (id_at 256 b))
        (front_block small size k mended le at ∙ ap (take small) same ∙ sym (front_block small size k image le at))

    by_block : IsNoAnchor (block_of size image k) (block_of size mended k) → has_size mended small ≡ true → has_size mended small ≡ false
    by_block (inl same) has = same_front same ∙ none
    by_block (inr other) has =
        let both = and_parts _ _ has in
        let tagged : IsTagged 2 (take small (block_of size mended k)) =
        subst (λ (b : List ℕ). IsTagged 2 b) (front_block small size k mended le at) (two_tagged 256 (block_of small mended 256) both.1) in
        absurd (other (sym (front_identifier small (block_of size mended k) some) ∙ tagged.same))

    by_test : (has_size mended small ≡ true) ⊎ (has_size mended small ≡ false) → has_size mended small ≡ false
    by_test (inl has) =
        by_block
        (subst (λ (disk : ℕ → List ℕ). IsNoAnchor (block_of size image k) (disk k)) (sym disk_after)
        (below_first size (blocks_in size image) (block_of size image) parts.1.0 held k low)) has
    by_test (inr none) = none

abbrev found_by : Bool → Bool → Bool → Bool → Option ℕ
found_by a b c d = cond a (Some 512) (cond b (Some 1024) (cond c (Some 2048) (cond d (Some 4096) None)))

found_is : (image : List ℕ) → found_size image ≡ found_by (has_size image 512) (has_size image 1024) (has_size image 2048) (has_size image 4096)
unfolding found_size sizes
found_is image = refl

found_as : (image : List ℕ) (a b c d : Bool) → has_size image 512 ≡ a → has_size image 1024 ≡ b → has_size image 2048 ≡ c → has_size image 4096 ≡ d
    → found_size image ≡ found_by a b c d
found_as image a b c d ea eb ec ed =
    found_is image
    ∙ ap (λ (t : Bool). found_by t (has_size image 1024) (has_size image 2048) (has_size image 4096)) ea
    ∙ ap (λ (t : Bool). found_by a t (has_size image 2048) (has_size image 4096)) eb
    ∙ ap (λ (t : Bool). found_by a b t (has_size image 4096)) ec
    ∙ ap (λ (t : Bool). found_by a b c t) ed

abbrev Stays : List ℕ → ℕ → Type 0
Stays image size = is_opened size image ≡ true → found_size (volume_mended size image) ≡ Some size

module _ (image : List ℕ) where
  stays_512 : has_size image 512 ≡ true → Stays image 512
  stays_512 a opened = found_as (volume_mended 512 image) true _ _ _ (size_stays 512 image (omega arith) opened a) refl refl refl

  stays_1024 : has_size image 512 ≡ false → has_size image 1024 ≡ true → Stays image 1024
  stays_1024 a b opened =
      found_as (volume_mended 1024 image) false true _ _
      (smaller_stays 1024 image (omega arith) opened 512 128 (omega arith) (omega arith) (omega arith) (omega arith) a)
      (size_stays 1024 image (omega arith) opened b) refl refl

  stays_2048 : has_size image 512 ≡ false → has_size image 1024 ≡ false → has_size image 2048 ≡ true → Stays image 2048
  stays_2048 a b c opened =
      found_as (volume_mended 2048 image) false false true _
      (smaller_stays 2048 image (omega arith) opened 512 64 (omega arith) (omega arith) (omega arith) (omega arith) a)
      (smaller_stays 2048 image (omega arith) opened 1024 128 (omega arith) (omega arith) (omega arith) (omega arith) b)
      (size_stays 2048 image (omega arith) opened c) refl

  stays_4096 : has_size image 512 ≡ false → has_size image 1024 ≡ false → has_size image 2048 ≡ false → has_size image 4096 ≡ true → Stays image 4096
  stays_4096 a b c d opened =
      found_as (volume_mended 4096 image) false false false true
      (smaller_stays 4096 image (omega arith) opened 512 32 (omega arith) (omega arith) (omega arith) (omega arith) a)
      (smaller_stays 4096 image (omega arith) opened 1024 64 (omega arith) (omega arith) (omega arith) (omega arith) b)
      (smaller_stays 4096 image (omega arith) opened 2048 128 (omega arith) (omega arith) (omega arith) (omega arith) c)
      (size_stays 4096 image (omega arith) opened d)

-- the size that is found in an image is found in the mended one
pub found_stays : (image : List ℕ) (size : ℕ) → found_size image ≡ Some size → Stays image size
found_stays image size found =
    by_size (has_size image 512) (has_size image 1024) (has_size image 2048) (has_size image 4096) refl refl refl refl (sym (found_is image) ∙ found) where
      by_size : (a b c d : Bool) → has_size image 512 ≡ a → has_size image 1024 ≡ b → has_size image 2048 ≡ c → has_size image 4096 ≡ d
          → found_by a b c d ≡ Some size → Stays image size
      by_size true b c d ea eb ec ed e = let is : 512 ≡ size = cc in subst (Stays image) is (stays_512 image ea)
      by_size false true c d ea eb ec ed e = let is : 1024 ≡ size = cc in subst (Stays image) is (stays_1024 image ea eb)
      by_size false false true d ea eb ec ed e = let is : 2048 ≡ size = cc in subst (Stays image) is (stays_2048 image ea eb ec)
      by_size false false false true ea eb ec ed e = let is : 4096 ≡ size = cc in subst (Stays image) is (stays_4096 image ea eb ec ed)
      by_size false false false false ea eb ec ed e = absurd (cc)
