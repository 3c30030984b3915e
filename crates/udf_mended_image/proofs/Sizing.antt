-- The block size that is found in an image is found in the mended one.
use Rattle.std.proofs.Common.{◌≡◌, ◌⊎◌, inl, inr, ℕ, ◌+◌, ◌-◌, ◌*◌, ◌/◌, ◌<◌, ◌≤◌, ◌&&◌, ◌||◌, ◌==◌, nat_lt, ne_eqb, arith, refl, sym, ◌∙◌, ap, subst, List, [], ◌∷◌, ◌++◌, length, take, drop, codes, Bool, true, false, not, cond, Option, Some, None}
use Rattle.std.specs.List.{list_all, list_any}
use Rattle.std.proofs.lemmas.Bool.{and_parts, and_from, cases_Bool, eqb-true, false≢true, ltb-true, le-ltb, or_left, or_right}
use Rattle.std.proofs.lemmas.List.{take-take, get_or-take}
use Rattle.udf_model.specs.Image.{block_of, blocks_in}
use Rattle.udf_model.specs.Size.{is_size, sizes}
use Rattle.udf_model.specs.Tag.{id_at, identifier, is_id}
use Rattle.udf_model.proofs.Sizes.{large as large_size}
use Rattle.udf_model.proofs.Written.{same_number}
use Rattle.udf_volume_model.specs.Anchor.{Anchor, places, places_by}
use Rattle.udf_volume_model.specs.Areas.{Area, Layout, area_of, covers, is_outside, packets_of, table_areas, tables_by, taken}
use Rattle.udf_volume_model.specs.AllRules.{layout_in}
use Rattle.udf_volume_model.specs.Edits.{look}
use Rattle.udf_volume_model.specs.Kept.{KeptSequence}
use Rattle.udf_volume_model.specs.Layout.{anchor_areas, are_apart, are_packets, earlier, is_apart, is_inside, is_packet, is_passed}
use Rattle.udf_volume_model.specs.Opened.{volume_mended}
use Rattle.udf_volume_model.specs.Same.{is_read}
use Rattle.udf_volume_model.specs.Size.{found_size, has_size}
use Rattle.udf_volume_model.specs.Stated.{sparing}
use Rattle.udf_volume_laws.proofs.Final.{IsMendedImage, mended_image}
use Rattle.udf_volume_laws.proofs.Moved.{IsTagged}
use Rattle.udf_volume_laws.proofs.Places.{two_tagged}
use Rattle.udf_volume_laws.proofs.Puts.{look_both}
use Rattle.udf_volume_laws.proofs.Sizes.{size_stays, smaller_stays}
use Rattle.udf_volume_laws.proofs.Apart.{within_area}
use Rattle.udf_volume.specs.Areas.{anchor_stated, areas_stated, area_stated, integrity_stated, layout_stated, partition_stated, tables_stated}
use Rattle.udf_volume.specs.Laid.{are_high_stated, areas_laid}
use Rattle.udf_volume.specs.declared.volume.Volume.{Volume}
use Rattle.udf_volume.proofs.Described.{anchor_is, layout_in_is, sparing_of_is}
use Rattle.udf_rules_model.specs.Files.{files_in, frame_in}
use Rattle.udf_rules_model.specs.Findings.{recognition_of}
use Rattle.udf_rules_model.specs.Recognition.{Recognition, is_untaken, recognition_holds, slot_at, slot_blocks, wanted_digit}
use Rattle.udf_file_mends.specs.FileSet.{frame_after}
use Rattle.udf_space_mends.specs.IntegrityMend.{CountsFit, origin_of}
use Rattle.udf_space_mends.specs.SlotMend.{recognition_edits, slot_block, slot_edits, volume_name}
use Rattle.udf_space_mends.proofs.Integral.{IsOther, written_other}
use Rattle.udf_space_mends.proofs.Rows.{row_past}
use Rattle.udf_mended_image.proofs.Unbroken.{Accepts}
use Rattle.udf_mended_image.proofs.Following.{FileLaws}
use Rattle.udf_mended_image.proofs.Laid.{blocks_are, describes, known, laid, opened, packets, sequence}
use Rattle.udf_mended_image.proofs.Stands.{Stands}

-- the front of a block at a greater size is a block at a smaller one
front_block : (small size k : ℕ) (image : List ℕ) → small ≤ size → k * size ≡ 256 * small → block_of small image 256 ≡ take small (block_of size image k)
unfolding block_of
front_block small size k image le at =
    ap (λ (n : ℕ). take small (drop n image)) (sym at) ∙ sym (take-take small size (drop (k * size) image) le)

front_identifier : (small : ℕ) (block : List ℕ) → 2 ≤ small → identifier (take small block) ≡ identifier block
front_identifier small block some = same_number 2 0 (take small block) block (λ j l h. get_or-take small block j 0 (omega arith))

-- ---- no slot of the recognition sequence stands behind the third
slot_past : (r : Recognition) (i n : ℕ) (name old : List ℕ) → slot_at r.size i + slot_blocks r.size ≤ n → look n (slot_edits r i name) old ≡ old
unfolding slot_edits
slot_past r i n name old behind =
    row_past (slot_at r.size i) (slot_block r.size name) n 0 (slot_blocks r.size) old (λ j l h same. omega (arith, same, h, behind))

slots_past : (r : Recognition) (partition : List ℕ) (n : ℕ) (old : List ℕ) → slot_at r.size 3 ≤ n → look n (recognition_edits r partition) old ≡ old
unfolding recognition_edits look slot_at
slots_past r partition n old behind = by (recognition_holds r)
  where
    first : List (ℕ × List ℕ)
    first = slot_edits r 0 (codes "BEA01")

    second : List (ℕ × List ℕ)
    second = slot_edits r 1 (volume_name (wanted_digit partition))

    third : List (ℕ × List ℕ)
    third = slot_edits r 2 (codes "TEA01")

    by : (b : Bool) → look n (cond b [] (first ++ (second ++ third))) old ≡ old
    by true = refl
    by false =
        look_both n first (second ++ third) old
        ∙ slot_past r 0 n (codes "BEA01") (look n (second ++ third) old) (omega (arith, behind))
        ∙ look_both n second third old
        ∙ slot_past r 1 n (volume_name (wanted_digit partition)) (look n third old) (omega (arith, behind))
        ∙ slot_past r 2 n (codes "TEA01") old (omega (arith, behind))

-- ---- areas
none_covers : (areas : List Area) (n : ℕ) → list_any (λ area. covers area n) areas ≡ false → is_outside areas n ≡ true
unfolding is_outside
none_covers [] n e = refl
none_covers (x ∷ xs) n e = by (covers x n) (list_any (λ area. covers area n) xs) (λ q. none_covers xs n q) refl refl e
  where
    by : (b c : Bool) → (list_any (λ area. covers area n) xs ≡ false → list_all (λ area. not (covers area n)) xs ≡ true) → covers x n ≡ b → list_any (λ area. covers area n) xs ≡ c → (b || c) ≡ false → (not (covers x n) && list_all (λ area. not (covers area n)) xs) ≡ true
    by false false rest p q k = ap (λ t. not t && list_all (λ area. not (covers area n)) xs) p ∙ rest q
    by true c rest p q k = absurd (false≢true (sym k))
    by false true rest p q k = absurd (false≢true (sym k))

any_joined : (xs ys : List Area) (n : ℕ) → list_any (λ area. covers area n) xs ≡ false → list_any (λ area. covers area n) ys ≡ false → list_any (λ area. covers area n) (xs ++ ys) ≡ false
any_joined [] ys n e k = k
any_joined (x ∷ xs) ys n e k = by (covers x n) (λ h. any_joined xs ys n h k) refl e
  where
    by : (b : Bool) → (list_any (λ area. covers area n) xs ≡ false → list_any (λ area. covers area n) (xs ++ ys) ≡ false) → covers x n ≡ b → (b || list_any (λ area. covers area n) xs) ≡ false → (covers x n || list_any (λ area. covers area n) (xs ++ ys)) ≡ false
    by true rest p h = absurd (false≢true (sym h))
    by false rest p h = ap (λ t. t || list_any (λ area. covers area n) (xs ++ ys)) p ∙ rest h

-- a sector of some area of these that start above 128
all_high : (areas : List Area) (n : ℕ) → list_all (λ area. nat_lt 128 area.start) areas ≡ true → n ≤ 128 → list_any (λ area. covers area n) areas ≡ false
all_high [] n h low = refl
all_high (x ∷ xs) n h low =
    let p = and_parts (nat_lt 128 x.start) (list_all (λ area. nat_lt 128 area.start) xs) h in
    by (covers x n) refl (λ c. within_area x n c) (ltb-true _ _ p.0) (all_high xs n p.1 low)
  where
    by : (b : Bool) → covers x n ≡ b → (covers x n ≡ true → (x.start ≤ n) × (n < x.start + x.count)) → 128 < x.start → list_any (λ area. covers area n) xs ≡ false
        → (covers x n || list_any (λ area. covers area n) xs) ≡ false
    by true c inside high rest = let k = (inside c).0 in absurd (omega (arith, k, high, low))
    by false c inside high rest = ap (λ t. t || list_any (λ area. covers area n) xs) c ∙ rest

any_of : (areas : List Area) (n : ℕ) → is_outside areas n ≡ true → list_any (λ area. covers area n) areas ≡ false
unfolding is_outside
any_of [] n e = refl
any_of (x ∷ xs) n e =
    let p = and_parts (not (covers x n)) (list_all (λ area. not (covers area n)) xs) e in
    by (covers x n) p.0 (any_of xs n p.1)
  where
    by : (b : Bool) → not b ≡ true → list_any (λ area. covers area n) xs ≡ false → (b || list_any (λ area. covers area n) xs) ≡ false
    by true h rest = absurd (false≢true h)
    by false h rest = rest

-- 256 is the first place, where it is in the image
first_place : (blocks : ℕ) → 256 < blocks → (rest : List ℕ) × (places blocks ≡ 256 ∷ rest)
unfolding places places_by
first_place blocks many = by_one (cases_Bool (blocks - 1 == 256)) (cases_Bool (blocks - 1 == 512)) where
  by_one : ((blocks - 1 == 256) ≡ true) ⊎ ((blocks - 1 == 256) ≡ false) → ((blocks - 1 == 512) ≡ true) ⊎ ((blocks - 1 == 512) ≡ false)
      → (rest : List ℕ) × (places blocks ≡ 256 ∷ rest)
  by_one (inl a) b =
      let last : blocks - 1 ≡ 256 = eqb-true _ _ a in
      let is : blocks ≡ 257 = omega arith in
      (0 ∷ [], ap places is)
  by_one (inr a) (inl b) =
      let last : blocks - 1 ≡ 512 = eqb-true _ _ b in
      let is : blocks ≡ 513 = omega arith in
      (512 ∷ [], ap places is)
  by_one (inr a) (inr b) = (
    (blocks - 1) ∷ ((blocks - 1) - 256) ∷ [],
    ap (λ (t : Bool). cond t [] (places_by (blocks - 1))) (ne_eqb blocks 0 (λ e. omega arith))
        ∙ ap (λ (t : Bool). cond t ((blocks - 1) ∷ []) (cond (blocks - 1 == 256) (256 ∷ 0 ∷ []) (cond (blocks - 1 == 512) (256 ∷ 512 ∷ []) (256 ∷ (blocks - 1) ∷ ((blocks - 1) - 256) ∷ [])))) (le-ltb (blocks - 1) 256 (omega arith))
        ∙ ap (λ (t : Bool). cond t (256 ∷ 0 ∷ []) (cond (blocks - 1 == 512) (256 ∷ 512 ∷ []) (256 ∷ (blocks - 1) ∷ ((blocks - 1) - 256) ∷ []))) a
        ∙ ap (λ (t : Bool). cond t (256 ∷ 512 ∷ []) (256 ∷ (blocks - 1) ∷ ((blocks - 1) - 256) ∷ [])) b,
  )

slots_1024 : slot_at 1024 3 ≤ 128
unfolding slot_at slot_blocks
slots_1024 = omega arith

slots_2048 : slot_at 2048 3 ≤ 64
unfolding slot_at slot_blocks
slots_2048 = omega arith

slots_4096 : slot_at 4096 3 ≤ 32
unfolding slot_at slot_blocks
slots_4096 = omega arith

later_2048 : slot_at 2048 3 ≤ 128
later_2048 = let h = slots_2048 in omega (arith, h)

later_4096 : slot_at 4096 3 ≤ 64
later_4096 = let h = slots_4096 in omega (arith, h)

latest_4096 : slot_at 4096 3 ≤ 128
latest_4096 = let h = slots_4096 in omega (arith, h)

abbrev found_by : Bool → Bool → Bool → Bool → Option ℕ
found_by a b c d = cond a (Some 512) (cond b (Some 1024) (cond c (Some 2048) (cond d (Some 4096) None)))

found_is : (image : List ℕ) → found_size image ≡ found_by (has_size image 512) (has_size image 1024) (has_size image 2048) (has_size image 4096)
unfolding found_size sizes
found_is image = refl

found_as : (image : List ℕ) (a b c d : Bool) → has_size image 512 ≡ a → has_size image 1024 ≡ b → has_size image 2048 ≡ c → has_size image 4096 ≡ d
    → found_size image ≡ found_by a b c d
found_as image a b c d ea eb ec ed =
    found_is image
    ∙ ap (λ (t : Bool). found_by t (has_size image 1024) (has_size image 2048) (has_size image 4096)) ea
    ∙ ap (λ (t : Bool). found_by a t (has_size image 2048) (has_size image 4096)) eb
    ∙ ap (λ (t : Bool). found_by a b t (has_size image 4096)) ec
    ∙ ap (λ (t : Bool). found_by a b c t) ed

-- two images with the same block there have the smaller size both or neither
same_size : (small size k : ℕ) (one other : List ℕ) → small ≤ size → k * size ≡ 256 * small → length one ≡ length other → block_of size one k ≡ block_of size other k
    → has_size one small ≡ has_size other small
unfolding has_size
same_size small size k one other le at long same =
    ap (λ (n : ℕ). nat_lt 256 (n / small) && is_id 2 (id_at 256 (block_of small one 256))) long
    ∙ ap (λ (b : List ℕ). nat_lt 256 (blocks_in small other) && is_id 2 (id_at 256 b))
    (front_block small size k one le at ∙ ap (take small) same ∙ sym (front_block small size k other le at))

unlike : (small size k : ℕ) (one : List ℕ) → 2 ≤ small → small ≤ size → k * size ≡ 256 * small → (identifier (block_of size one k) ≡ 2 → ⊥) → has_size one small ≡ false
unfolding has_size
unlike small size k one some le at other = by (nat_lt 256 (blocks_in small one)) (is_id 2 (id_at 256 (block_of small one 256))) refl
  where
    tagged : is_id 2 (id_at 256 (block_of small one 256)) ≡ true → IsTagged 2 (take small (block_of size one k))
    tagged e = subst (λ (b : List ℕ). IsTagged 2 b) (front_block small size k one le at) (two_tagged 256 (block_of small one 256) e)

    by : (b c : Bool) → is_id 2 (id_at 256 (block_of small one 256)) ≡ c → (b && c) ≡ false
    by false c e = refl
    by true false e = refl
    by true true e = absurd (other (sym (front_identifier small (block_of size one k) some) ∙ (tagged e).same))

high_of : (volume : Volume) (areas : List Area) → areas_laid volume areas ≡ true → are_high_stated volume ≡ true
unfolding areas_laid
high_of volume areas h = (and_parts (are_high_stated volume) _ (and_parts (are_apart areas) _ (and_parts (list_all (is_inside volume.blocks) areas) _ h).1).1).0

packets_parts : (blocks kept : ℕ) (areas ps : List Area) → are_packets blocks kept areas ps ≡ true → list_all (is_packet blocks (areas ++ anchor_areas blocks kept)) ps ≡ true
unfolding are_packets
packets_parts blocks kept areas ps h = (and_parts (list_all (is_packet blocks (areas ++ anchor_areas blocks kept)) ps) (are_apart ps) h).0

starts : (blocks : ℕ) (others ps : List Area) → list_all (is_packet blocks others) ps ≡ true → list_all (λ area. nat_lt 128 area.start) ps ≡ true
unfolding is_packet
starts blocks others [] h = refl
starts blocks others (p ∷ ps) h =
    let k = and_parts (is_packet blocks others p) (list_all (is_packet blocks others) ps) h in
    let one = and_parts (is_inside blocks p) (nat_lt 128 p.start && list_all (is_apart p) others) k.0 in
    and_from (nat_lt 128 p.start) (list_all (λ area. nat_lt 128 area.start) ps) (and_parts (nat_lt 128 p.start) (list_all (is_apart p) others) one.1).0 (starts blocks others ps k.1)

module _ (image after : List ℕ) (volume : Volume) (sized : is_size volume.size ≡ true) (is : Accepts volume.size image volume) (long : length after ≡ length image)
    (st : Stands volume.size image after volume)
    (laws : FileLaws (frame_in volume image) (files_in volume image) (block_of volume.size after))
    (fit : CountsFit (frame_in volume image) (files_in volume image) volume.length (origin_of (block_of volume.size image volume.pvd) (block_of volume.size image volume.lvd))) where
  large : 512 ≤ volume.size
  large = large_size volume.size sized

  abbrev disk : ℕ → List ℕ
  disk = block_of volume.size image

  abbrev there : ℕ → List ℕ
  there = block_of volume.size after

  abbrev between : ℕ → List ℕ
  between = block_of volume.size (volume_mended volume.size image)

  abbrev layout : Layout
  layout = layout_stated volume (block_of volume.size image)

  abbrev s : KeptSequence
  s = sequence image volume large is.opens

  law : IsMendedImage volume.size image (volume_mended volume.size image)
  law = mended_image volume.size image large (opened image volume large is.opens)

  some_same : (a b : KeptSequence) → Some a ≡ Some b → a ≡ b
  some_same a b e = cc

  first_is : s ≡ law.before_is
  first_is = some_same s law.before_is (sym (describes image volume large is.opens).found ∙ law.before_volume)

  anchor_same : law.after_is.anchor ≡ anchor_stated volume
  anchor_same =
      law.same.anchor ∙ ap (λ (k : KeptSequence). k.anchor) (sym first_is)
      ∙ sym (anchor_is volume.size image volume s (describes image volume large is.opens))

  tables_same : table_areas volume.size law.after_is.list ≡ tables_stated volume
  unfolding table_areas
  tables_same =
      ap (λ l. tables_by volume.size (sparing l)) (law.same.list ∙ ap (λ (k : KeptSequence). k.list) (sym first_is))
      ∙ ap (tables_by volume.size) (sym (sparing_of_is volume.size image volume s (describes image volume large is.opens)))

  layouts_same : layout_in volume.size between law.after_is ≡ layout
  layouts_same =
      law.same.layout ∙ ap (λ (k : KeptSequence). layout_in volume.size disk k) (sym first_is)
      ∙ sym (layout_in_is volume.size image volume s (describes image volume large is.opens))

  -- what a sector may be that is read for the volume
  abbrev pub is_read_there : ℕ → Bool
  is_read_there n =
      covers (area_stated volume.size volume.main) n
      || (covers (area_stated volume.size volume.reserve) n
      || (list_any (λ area. covers area n) (tables_stated volume)
      || (list_any (λ place. place == n) (places (blocks_in volume.size image)) && is_outside (taken layout) n)))

  read_is : (n : ℕ) → is_read volume.size (blocks_in volume.size image) between law.after_is n ≡ is_read_there n
  unfolding is_read
  read_is n =
      ap (λ (a : Anchor). covers (area_of volume.size a.main) n || (covers (area_of volume.size a.reserve) n || (list_any (λ area. covers area n) (table_areas volume.size law.after_is.list)
      || (list_any (λ place. place == n) (places (blocks_in volume.size image)) && is_outside (taken (layout_in volume.size between law.after_is)) n)))) anchor_same
      ∙ ap (λ t. covers (area_stated volume.size volume.main) n || (covers (area_stated volume.size volume.reserve) n || (list_any (λ area. covers area n) t
      || (list_any (λ place. place == n) (places (blocks_in volume.size image)) && is_outside (taken (layout_in volume.size between law.after_is)) n)))) tables_same
      ∙ ap (λ l. covers (area_stated volume.size volume.main) n || (covers (area_stated volume.size volume.reserve) n || (list_any (λ area. covers area n) (tables_stated volume)
      || (list_any (λ place. place == n) (places (blocks_in volume.size image)) && is_outside (taken l) n)))) layouts_same

  read_there : (n : ℕ) → is_read_there n ≡ true → there n ≡ between n
  read_there n e = st.read law.after_is law.after_volume n (read_is n ∙ e)

  -- ---- block 256
  outside_first : 256 < blocks_in volume.size image → is_outside (taken layout) 256 ≡ true
  unfolding earlier is_passed
  outside_first many =
      let first = first_place (blocks_in volume.size image) many in
      let passed : list_all (is_passed volume.size (blocks_in volume.size image) disk (taken layout)) (earlier s.place (256 ∷ first.0)) ≡ true =
      subst (λ (l : List ℕ). list_all (is_passed volume.size (blocks_in volume.size image) disk (taken layout)) (earlier s.place l) ≡ true) first.1 passed_there in
      by_place (cases_Bool (256 == s.place)) first.0 passed where
        same_taken : taken (layout_in volume.size disk s) ≡ taken layout
        same_taken = ap taken (sym (layout_in_is volume.size image volume s (describes image volume large is.opens)))

        passed_there : list_all (is_passed volume.size (blocks_in volume.size image) disk (taken layout)) (earlier s.place (places (blocks_in volume.size image))) ≡ true
        passed_there =
            ap (λ t. list_all (is_passed volume.size (blocks_in volume.size image) disk t) (earlier s.place (places (blocks_in volume.size image)))) (sym same_taken)
            ∙ (known image volume large is.opens).passed

        by_place : ((256 == s.place) ≡ true) ⊎ ((256 == s.place) ≡ false) → (rest : List ℕ)
            → list_all (is_passed volume.size (blocks_in volume.size image) disk (taken layout)) (earlier s.place (256 ∷ rest)) ≡ true
            → is_outside (taken layout) 256 ≡ true
        by_place (inl here) rest passed =
            ap (is_outside (taken layout)) (eqb-true 256 s.place here) ∙ ap (λ t. is_outside t s.place) (sym same_taken) ∙ (known image volume large is.opens).outside
        by_place (inr other) rest passed =
            let shown : list_all (is_passed volume.size (blocks_in volume.size image) disk (taken layout)) (256 ∷ earlier s.place rest) ≡ true =
            ap (λ (b : Bool). list_all (is_passed volume.size (blocks_in volume.size image) disk (taken layout)) (cond b [] (256 ∷ earlier s.place rest))) (sym other) ∙ passed in
            (and_parts _ _ (and_parts _ _ shown).0).0

  first_stays : 256 < blocks_in volume.size image → there 256 ≡ between 256
  first_stays many =
      let first = first_place (blocks_in volume.size image) many in
      let member : list_any (λ place. place == 256) (places (blocks_in volume.size image)) ≡ true = ap (list_any (λ place. place == 256)) first.1 in
      read_there 256
      (or_right (covers (area_stated volume.size volume.main) 256) _ (or_right (covers (area_stated volume.size volume.reserve) 256) _
      (or_right (list_any (λ area. covers area 256) (tables_stated volume)) _ (and_from _ _ member (outside_first many)))))

  counted : blocks_in volume.size (volume_mended volume.size image) ≡ blocks_in volume.size image
  counted = ap (λ n. n / volume.size) law.length_stays

  finish : has_size (volume_mended volume.size image) volume.size ≡ true → has_size after volume.size ≡ true
  unfolding has_size
  finish m =
      let p = and_parts (nat_lt 256 (blocks_in volume.size (volume_mended volume.size image))) (is_id 2 (id_at 256 (between 256))) m in
      let many : 256 < blocks_in volume.size image = let l = ltb-true _ _ p.0 in omega (arith, l, counted) in
      and_from (nat_lt 256 (blocks_in volume.size after)) (is_id 2 (id_at 256 (there 256)))
      (ap (λ n. nat_lt 256 (n / volume.size)) (long ∙ sym law.length_stays) ∙ p.0)
      (ap (λ b. is_id 2 (id_at 256 b)) (first_stays many) ∙ p.1)

  -- the size at which the image is opened
  pub size_there : has_size image volume.size ≡ true → has_size after volume.size ≡ true
  size_there h = finish (size_stays volume.size image large (opened image volume large is.opens) h)

  -- ---- a block up to 128
  -- it is as before, or as the volume's own mend leaves it, or no anchor
  abbrev IsNoAnchor : ℕ → Type 0
  IsNoAnchor k = (there k ≡ between k) ⊎ ((there k ≡ disk k) ⊎ (identifier (there k) ≡ 2 → ⊥))

  partition_high : (n : ℕ) → n ≤ 128 → covers (partition_stated volume) n ≡ false
  unfolding are_high_stated
  partition_high n low =
      let h : (nat_lt 128 volume.start && list_all (λ area. nat_lt 128 area.start) (tables_stated volume)) ≡ true = high in
      let a : 128 < volume.start = ltb-true _ _ (and_parts (nat_lt 128 volume.start) _ h).0 in
      by (covers (partition_stated volume) n) refl a (λ c. within_area (partition_stated volume) n c)
    where
      high : are_high_stated volume ≡ true
      high = high_of volume (areas_stated volume) (laid image volume large is.opens).areas

      by : (b : Bool) → covers (partition_stated volume) n ≡ b → 128 < volume.start → (covers (partition_stated volume) n ≡ true → (volume.start ≤ n) × (n < volume.start + volume.length)) → b ≡ false
      by true c a inside = let k = (inside c).0 in absurd (omega (arith, k, a, low))
      by false c a inside = refl

  packets_high : (n : ℕ) → n ≤ 128 → list_any (λ area. covers area n) (packets_of layout.table) ≡ false
  packets_high n low = all_high (packets_of layout.table) n (starts volume.blocks (areas_stated volume ++ anchor_areas volume.blocks volume.anchor) (packets_of layout.table) (packets_parts volume.blocks volume.anchor (areas_stated volume) (packets_of layout.table) (packets image volume large is.opens))) low

  -- a sector in no area and no packet
  is_free_there : (n : ℕ) → n ≤ 128 → covers (area_stated volume.size volume.main) n ≡ false → covers (area_stated volume.size volume.reserve) n ≡ false
      → list_any (λ area. covers area n) (tables_stated volume) ≡ false → list_any (λ area. covers area n) (integrity_stated volume) ≡ false → is_outside (taken layout) n ≡ true
  unfolding taken covers
  is_free_there n low a b c d =
      none_covers (taken layout) n
      (any_joined (areas_stated volume) (packets_of layout.table) n
      (ap (λ t. t || (covers (area_stated volume.size volume.reserve) n || list_any (λ area. covers area n) (integrity_stated volume ++ (partition_stated volume ∷ tables_stated volume)))) a
      ∙ ap (λ t. t || list_any (λ area. covers area n) (integrity_stated volume ++ (partition_stated volume ∷ tables_stated volume))) b
      ∙ any_joined (integrity_stated volume) (partition_stated volume ∷ tables_stated volume) n d
      (ap (λ t. t || list_any (λ area. covers area n) (tables_stated volume)) (partition_high n low) ∙ c))
      (packets_high n low))

  integrity_block : (n : ℕ) → list_any (λ area. covers area n) (integrity_stated volume) ≡ true → IsNoAnchor n
  integrity_block n h = by (volume.integrity.length == 0) h
    where
      other : IsOther (frame_in volume image) (frame_after (frame_in volume image) (files_in volume image)) (files_in volume image) there volume.length volume.bitmap
          (origin_of (disk volume.pvd) (disk volume.lvd)) volume.integrity fit st.integrity_placed (laws.counted volume.length) (disk n) (there n) → IsNoAnchor n
      other (inl e) = inr (inl e)
      other (inr (inl e)) = inr (inr (λ two. omega (arith, e, two)))
      other (inr (inr e)) = inr (inr (λ two. omega (arith, e, two)))

      at : covers (area_stated volume.size volume.integrity) n ≡ true → IsNoAnchor n
      at c =
          let w = within_area (area_stated volume.size volume.integrity) n c in
          other
          (subst (λ b. IsOther (frame_in volume image) (frame_after (frame_in volume image) (files_in volume image)) (files_in volume image) there volume.length volume.bitmap
          (origin_of (disk volume.pvd) (disk volume.lvd)) volume.integrity fit st.integrity_placed (laws.counted volume.length) (disk n) b) (sym (st.integrity.each n w.0 w.1))
          (written_other (frame_in volume image) (frame_after (frame_in volume image) (files_in volume image)) (files_in volume image) there volume.length volume.bitmap
          (origin_of (disk volume.pvd) (disk volume.lvd)) volume.integrity fit st.integrity_placed (laws.counted volume.length) n))

      by : (b : Bool) → list_any (λ area. covers area n) (cond b [] (area_stated volume.size volume.integrity ∷ [])) ≡ true → IsNoAnchor n
      by true k = absurd (false≢true k)
      by false k = at (one (covers (area_stated volume.size volume.integrity) n) k)
        where
          one : (t : Bool) → (t || false) ≡ true → t ≡ true
          one true e = refl
          one false e = e

  untaken_there : (k : ℕ) → is_outside (taken layout) k ≡ true → list_any (λ place. place == k) (places (blocks_in volume.size image)) ≡ false → is_untaken (recognition_of volume image) k ≡ true
  unfolding recognition_of
  untaken_there k o p =
      and_from (is_outside (taken layout) k) (not (list_any (λ place. place == k) (places volume.blocks))) o
      (ap (λ n. not (list_any (λ place. place == k) (places n))) (blocks_are image volume large is.opens) ∙ ap not p)

  beyond_there : (k : ℕ) → slot_at volume.size 3 ≤ k → slot_at (recognition_of volume image).size 3 ≤ k
  unfolding recognition_of
  beyond_there k h = h

  low_block : (k : ℕ) → k ≤ 128 → slot_at volume.size 3 ≤ k → IsNoAnchor k
  low_block k low beyond =
      by (covers (area_stated volume.size volume.main) k) (covers (area_stated volume.size volume.reserve) k) (list_any (λ area. covers area k) (tables_stated volume))
      (list_any (λ area. covers area k) (integrity_stated volume)) (list_any (λ place. place == k) (places (blocks_in volume.size image))) refl refl refl refl refl
    where
      free : covers (area_stated volume.size volume.main) k ≡ false → covers (area_stated volume.size volume.reserve) k ≡ false
          → list_any (λ area. covers area k) (tables_stated volume) ≡ false → list_any (λ area. covers area k) (integrity_stated volume) ≡ false → is_outside (taken layout) k ≡ true
      free = is_free_there k low

      untaken : is_outside (taken layout) k ≡ true → list_any (λ place. place == k) (places (blocks_in volume.size image)) ≡ false → IsNoAnchor k
      untaken o p =
          inr (inl (st.recognition k (untaken_there k o p) ∙ slots_past (recognition_of volume image) (disk volume.pd) k (disk k) (beyond_there k beyond)))

      by : (a b c d e : Bool) → covers (area_stated volume.size volume.main) k ≡ a → covers (area_stated volume.size volume.reserve) k ≡ b
          → list_any (λ area. covers area k) (tables_stated volume) ≡ c → list_any (λ area. covers area k) (integrity_stated volume) ≡ d
          → list_any (λ place. place == k) (places (blocks_in volume.size image)) ≡ e → IsNoAnchor k
      by true b c d e p q r s t = inl (read_there k (or_left (covers (area_stated volume.size volume.main) k) _ p))
      by false true c d e p q r s t =
          inl (read_there k (or_right (covers (area_stated volume.size volume.main) k) _ (or_left (covers (area_stated volume.size volume.reserve) k) _ q)))
      by false false true d e p q r s t =
          inl (read_there k (or_right (covers (area_stated volume.size volume.main) k) _ (or_right (covers (area_stated volume.size volume.reserve) k) _
          (or_left (list_any (λ area. covers area k) (tables_stated volume)) _ r))))
      by false false false true e p q r s t = integrity_block k s
      by false false false false true p q r s t =
          inl (read_there k (or_right (covers (area_stated volume.size volume.main) k) _ (or_right (covers (area_stated volume.size volume.reserve) k) _
          (or_right (list_any (λ area. covers area k) (tables_stated volume)) _ (and_from _ _ t (free p q r s))))))
      by false false false false false p q r s t = untaken (free p q r s) t

  -- a smaller size, whose block 256 begins a block up to 128
  smaller_there : (small k : ℕ) → 2 ≤ small → small ≤ volume.size → k * volume.size ≡ 256 * small → k ≤ 128 → slot_at volume.size 3 ≤ k
      → has_size image small ≡ false → has_size after small ≡ false
  smaller_there small k some le at low beyond none = by (low_block k low beyond)
    where
      as_of : (other : List ℕ) → length after ≡ length other → block_of volume.size after k ≡ block_of volume.size other k → has_size other small ≡ false → has_size after small ≡ false
      as_of other same block h = same_size small volume.size k after other le at same block ∙ h

      by : IsNoAnchor k → has_size after small ≡ false
      by (inl e) =
          as_of (volume_mended volume.size image) (long ∙ sym law.length_stays) e
          (smaller_stays volume.size image large (opened image volume large is.opens) small k some le at low none)
      by (inr (inl e)) = as_of image long e none
      by (inr (inr other)) = unlike small volume.size k after some le at other

  -- ---- the size that is found
  found_with : (a b c d : Bool) → has_size after 512 ≡ a → has_size after 1024 ≡ b → has_size after 2048 ≡ c → has_size after 4096 ≡ d → found_size after ≡ found_by a b c d
  found_with = found_as after

  at_size : (n : ℕ) → n ≡ volume.size → has_size image n ≡ true → has_size after n ≡ true
  at_size n e h = subst (λ (m : ℕ). has_size after m ≡ true) (sym e) (size_there (subst (λ (m : ℕ). has_size image m ≡ true) e h))

  below : (n small k : ℕ) → n ≡ volume.size → 2 ≤ small → small ≤ n → k * n ≡ 256 * small → k ≤ 128 → slot_at n 3 ≤ k → has_size image small ≡ false → has_size after small ≡ false
  below n small k e some le at low beyond none =
      smaller_there small k some (subst (λ (m : ℕ). small ≤ m) e le) (subst (λ (m : ℕ). k * m ≡ 256 * small) e at) low
      (subst (λ (m : ℕ). slot_at m 3 ≤ k) e beyond) none

  pub found_there : found_size image ≡ Some volume.size → found_size after ≡ Some volume.size
  found_there found =
      by_size (has_size image 512) (has_size image 1024) (has_size image 2048) (has_size image 4096) refl refl refl refl (sym (found_is image) ∙ found) where
        there_is : (n : ℕ) → n ≡ volume.size → found_size after ≡ Some n → found_size after ≡ Some volume.size
        there_is n e f = f ∙ ap (λ (m : ℕ). Some m) e

        by_size : (a b c d : Bool) → has_size image 512 ≡ a → has_size image 1024 ≡ b → has_size image 2048 ≡ c → has_size image 4096 ≡ d
            → found_by a b c d ≡ Some volume.size → found_size after ≡ Some volume.size
        by_size true b c d ea eb ec ed e = let is_it : 512 ≡ volume.size = cc in there_is 512 is_it (found_with true _ _ _ (at_size 512 is_it ea) refl refl refl)
        by_size false true c d ea eb ec ed e =
            let is_it : 1024 ≡ volume.size = cc in
            there_is 1024 is_it
            (found_with false true _ _ (below 1024 512 128 is_it (omega arith) (omega arith) (omega arith) (omega arith) slots_1024 ea) (at_size 1024 is_it eb) refl refl)
        by_size false false true d ea eb ec ed e =
            let is_it : 2048 ≡ volume.size = cc in
            there_is 2048 is_it
            (found_with false false true _ (below 2048 512 64 is_it (omega arith) (omega arith) (omega arith) (omega arith) slots_2048 ea)
            (below 2048 1024 128 is_it (omega arith) (omega arith) (omega arith) (omega arith) later_2048 eb) (at_size 2048 is_it ec) refl)
        by_size false false false true ea eb ec ed e =
            let is_it : 4096 ≡ volume.size = cc in
            there_is 4096 is_it
            (found_with false false false true (below 4096 512 32 is_it (omega arith) (omega arith) (omega arith) (omega arith) slots_4096 ea)
            (below 4096 1024 64 is_it (omega arith) (omega arith) (omega arith) (omega arith) later_4096 eb)
            (below 4096 2048 128 is_it (omega arith) (omega arith) (omega arith) (omega arith) latest_4096 ec) (at_size 4096 is_it ed))
        by_size false false false false ea eb ec ed e = absurd (cc)
