-- What is known of a volume that is opened: where its areas and used packets lie, and what its own mend leaves as it was.
use Rattle.std.proofs.Common.{◌≡◌, ◌⊎◌, inl, inr, ℕ, ◌^◌, ◌<◌, ◌≤◌, arith, refl, sym, ◌∙◌, ap, subst, List, [], ◌∷◌, ◌++◌, Bool, true, false, cond, ◌&&◌, not, Option, Some, None, Ok, leb}
use Rattle.std.specs.Prelude.{is_ok, is_some, option_map}
use Rattle.std.specs.List.{list_all}
use Rattle.std.proofs.lemmas.Bool.{and_parts, leb-true}
use Rattle.udf_model.specs.Image.{block_of, blocks_in}
use Rattle.udf_model.specs.Tag.{relocated}
use Rattle.udf_volume_model.specs.Anchor.{Anchor}
use Rattle.udf_volume_model.specs.Sequence.{Descriptor}
use Rattle.udf_volume_model.specs.Areas.{Area, Layout, area_of, covers, is_outside, packets_of, table_areas, table_or_none, tables_by, taken, used_by}
use Rattle.udf_volume_model.specs.AllRules.{layout_in}
use Rattle.udf_volume_model.specs.Kept.{KeptSequence, Main, Reserve, Which, extent_of, opposite, other}
use Rattle.udf_volume_model.specs.Layout.{anchor_areas, are_apart, are_packets, are_packets_of, has_table_by, is_apart, is_inside, is_lawful, is_spared}
use Rattle.udf_volume_model.specs.Maps.{Shape, SparingMap, is_base_lawful, is_sparing_lawful, shape_of}
use Rattle.udf_volume_model.specs.Mended.{anchor_edits, edits}
use Rattle.udf_volume_model.specs.Opened.{is_opened, volume_mended}
use Rattle.udf_volume_model.specs.Profile.{has_block_size, has_domain, has_no_tables, has_pointer, has_revision, is_profile}
use Rattle.udf_volume_model.specs.Rules.{anchors_hold, ascending_places, bad_of, eligible, is_eligible}
use Rattle.udf_volume_model.specs.SparingTable.{Table, prevailing_area, table_stated, used_of}
use Rattle.udf_volume_model.specs.Stated.{has_maps, is_built, is_lawful_shape, logical, mapped_partition, sparing, sparing_by}
use Rattle.udf_volume.specs.Areas.{anchor_stated, area_stated, areas_stated, integrity_stated, layout_stated, partition_stated, sparing_seen, table_used, tables_stated}
use Rattle.udf_volume.specs.Laid.{IsLaidOut, areas_laid, is_laid, places_laid}
use Rattle.udf_volume.specs.Taken.{is_spared_stated, opening}
use Rattle.udf_volume.specs.declared.volume.Volume.{Volume}
use Rattle.udf_volume.proofs.Described.{Describes, anchor_is, blocks_is, layout_in_is, opened_ok, sparing_of_is}
use Rattle.udf_volume.proofs.LaidOut.{laid_is, spared_is}
use Rattle.udf_volume.proofs.Openable.{opened_is}
use Rattle.udf_volume_laws.proofs.Apart.{between, tail_apart, uncovered}
use Rattle.udf_volume_laws.proofs.After.{whole}
use Rattle.udf_volume_laws.proofs.Beside.{anchors_off_edits, bad_parts, sequence_off, untouched}
use Rattle.udf_volume_laws.proofs.Final.{edits_within, held_of, mended_is}
use Rattle.udf_volume_laws.proofs.Members.{IsIn, in_front}
use Rattle.udf_volume_laws.proofs.Puts.{IsOff, block_after, chosen, chosen_off}
use Rattle.udf_volume_laws.proofs.Spares.{spares, tables_off}
use Rattle.udf_volume_laws.proofs.Taken.{Facts, IsOpened, facts, packet_apart, taken_in}

-- the areas but for those of the sequences
abbrev pub further_stated : Volume → List Area
further_stated volume = integrity_stated volume ++ (partition_stated volume ∷ tables_stated volume)

-- the packets of a table that maps any have blocks
abbrev pub IsUsable : Table → Type 0
IsUsable table = (table.pairs ≡ []) ⊎ (0 < table.packet)

usable_by : (size blocks : ℕ) (disk : ℕ → List ℕ) (o : Option SparingMap) → is_base_lawful o ≡ true → IsUsable (used_by size disk blocks o)
unfolding table_stated is_sparing_lawful
usable_by size blocks disk None h = inl refl
usable_by size blocks disk (Some s) h = by (prevailing_area size disk s)
  where
    some : 1 ≤ s.packet
    some = leb-true 1 s.packet (and_parts (leb 1 s.packet) (leb 1 s.count && (leb s.count 4 && leb 56 s.bytes)) h).0

    by : (o : Option (List ℕ)) → IsUsable (table_or_none (option_map (used_of s.packet blocks) o))
    by None = inl refl
    by (Some area) = inr (omega (arith, some))

-- the maps of the profile are lawful
sparing_lawful : (size : ℕ) (list : List Descriptor) → is_profile size list ≡ true → is_base_lawful (sparing list) ≡ true
unfolding is_profile has_maps sparing
sparing_lawful size list h =
    let a = and_parts (has_block_size size list) (has_domain list && (has_revision list && (not (has_pointer list) && (has_maps list && (is_built list && has_no_tables list))))) h in
    let b = and_parts (has_domain list) (has_revision list && (not (has_pointer list) && (has_maps list && (is_built list && has_no_tables list)))) a.1 in
    let c = and_parts (has_revision list) (not (has_pointer list) && (has_maps list && (is_built list && has_no_tables list))) b.1 in
    let d = and_parts (not (has_pointer list)) (has_maps list && (is_built list && has_no_tables list)) c.1 in
    let e = and_parts (has_maps list) (is_built list && has_no_tables list) d.1 in
    by (shape_of (logical list)) (and_parts (is_lawful_shape (shape_of (logical list))) (is_some (mapped_partition list)) e.0).0
  where
    by : (o : Option Shape) → is_lawful_shape o ≡ true → is_base_lawful (sparing_by o) ≡ true
    by None k = refl
    by (Some shape) k = k

module _ (image : List ℕ) (volume : Volume) (large : 512 ≤ volume.size) (is : opening volume.size image ≡ Ok volume) where
  abbrev pub size : ℕ
  size = volume.size

  abbrev pub disk : ℕ → List ℕ
  disk = block_of volume.size image

  abbrev pub areas : List Area
  areas = areas_stated volume

  abbrev pub table : Table
  table = table_used volume (block_of volume.size image)

  abbrev pub layout : Layout
  layout = layout_stated volume (block_of volume.size image)

  abbrev pub sequence : KeptSequence
  sequence = (opened_ok volume.size image volume is).0

  pub describes : Describes volume.size image volume sequence
  describes = (opened_ok volume.size image volume is).1

  pub opened : is_opened volume.size image ≡ true
  opened = opened_is volume.size image ∙ ap (λ r. is_ok r) is

  pub held : IsOpened volume.size (blocks_in volume.size image) disk sequence
  held = held_of volume.size image sequence large opened describes.found

  pub known : Facts volume.size (blocks_in volume.size image) disk sequence
  known = facts volume.size (blocks_in volume.size image) disk sequence held

  pub blocks_are : volume.blocks ≡ blocks_in volume.size image
  blocks_are = blocks_is volume.size image volume sequence describes

  pub few : volume.blocks < 2 ^ 32
  few = let h : blocks_in volume.size image < 2 ^ 32 = held.small in omega (arith, h, blocks_are)

  lawful : (is_lawful volume.size (blocks_in volume.size image) disk sequence ≡ true) × (is_spared volume.size (blocks_in volume.size image) disk sequence ≡ true)
  lawful =
      and_parts (is_lawful volume.size (blocks_in volume.size image) disk sequence) (is_spared volume.size (blocks_in volume.size image) disk sequence)
      (and_parts (is_profile volume.size sequence.list) (is_lawful volume.size (blocks_in volume.size image) disk sequence && is_spared volume.size (blocks_in volume.size image) disk sequence) held.opened).1

  is_laid_there : is_laid volume disk ≡ true
  is_laid_there = ap (λ (x : Volume). is_laid x disk) describes.is ∙ laid_is volume.size (blocks_in volume.size image) sequence describes.built disk ∙ lawful.0

  pub laid : IsLaidOut volume
  unfolding is_laid places_laid
  laid =
      let p = and_parts (areas_laid volume areas) (places_laid volume disk areas) is_laid_there in
      record { areas = p.0; anchor = (and_parts (is_outside areas volume.anchor) _ p.1).0 }

  pub packets : are_packets volume.blocks volume.anchor areas (packets_of table) ≡ true
  unfolding is_spared_stated
  packets =
      (and_parts (has_table_by volume.size disk (sparing_seen volume)) (are_packets_of volume.blocks volume.anchor layout)
      (ap (λ (x : Volume). is_spared_stated x disk) describes.is ∙ spared_is volume.size (blocks_in volume.size image) sequence describes.built disk ∙ lawful.1)).1

  pub usable : IsUsable table
  usable =
      usable_by volume.size volume.length disk (sparing_seen volume)
      (ap (λ o. is_base_lawful o) (sparing_of_is volume.size image volume sequence describes) ∙ sparing_lawful volume.size sequence.list known.profile)

  -- ---- what is apart
  all_apart : are_apart areas ≡ true
  unfolding areas_laid
  all_apart = (and_parts (are_apart areas) _ (and_parts (list_all (is_inside volume.blocks) areas) _ laid.areas).1).0

  abbrev pub main : Area
  main = area_stated volume.size volume.main

  abbrev pub reserve : Area
  reserve = area_stated volume.size volume.reserve

  pub main_apart : (area : Area) → IsIn area (further_stated volume) → is_apart main area ≡ true
  main_apart area i = between (main ∷ []) (reserve ∷ further_stated volume) main area all_apart (inl refl) (inr i)

  pub reserve_apart : (area : Area) → IsIn area (further_stated volume) → is_apart reserve area ≡ true
  reserve_apart area i = between (reserve ∷ []) (further_stated volume) reserve area (tail_apart (main ∷ []) (reserve ∷ further_stated volume) all_apart) (inl refl) i

  further_apart : are_apart (further_stated volume) ≡ true
  further_apart = tail_apart (main ∷ reserve ∷ []) (further_stated volume) all_apart

  pub integrity_apart : (a b : Area) → IsIn a (integrity_stated volume) → IsIn b (partition_stated volume ∷ tables_stated volume) → is_apart a b ≡ true
  integrity_apart a b i j = between (integrity_stated volume) (partition_stated volume ∷ tables_stated volume) a b further_apart i j

  pub partition_apart : (b : Area) → IsIn b (tables_stated volume) → is_apart (partition_stated volume) b ≡ true
  partition_apart b j =
      between (partition_stated volume ∷ []) (tables_stated volume) (partition_stated volume) b
      (tail_apart (integrity_stated volume) (partition_stated volume ∷ tables_stated volume) further_apart) (inl refl) j

  pub packets_apart : (packet area : Area) → IsIn packet (packets_of table) → IsIn area areas → is_apart packet area ≡ true
  packets_apart packet area i j =
      packet_apart volume.blocks volume.anchor areas (packets_of table) packet area packets i (in_front areas (anchor_areas volume.blocks volume.anchor) area j)

  -- ---- what the mend of the volume leaves
  -- the tables
  pub tables_are : tables_stated volume ≡ table_areas volume.size sequence.list
  unfolding table_areas
  tables_are = ap (tables_by volume.size) (sparing_of_is volume.size image volume sequence describes)

  other_off : (n : ℕ) → covers main n ≡ false → covers reserve n ≡ false → covers (area_of volume.size (other sequence)) n ≡ false
  other_off n h k = by sequence.which
    where
      anchor : anchor_stated volume ≡ sequence.anchor
      anchor = anchor_is volume.size image volume sequence describes

      by : (w : Which) → covers (area_of volume.size (extent_of (opposite w) sequence.anchor)) n ≡ false
      by Main = sym (ap (λ (a : Anchor). covers (area_of volume.size a.reserve) n) anchor) ∙ k
      by Reserve = sym (ap (λ (a : Anchor). covers (area_of volume.size a.main) n) anchor) ∙ h

  taken_are : taken_in volume.size disk sequence ≡ taken layout
  taken_are = ap taken (sym (layout_in_is volume.size image volume sequence describes))

  abbrev Unplaced : ℕ → Type 0
  Unplaced n = (is_eligible (taken layout) n ≡ false) ⊎ (IsIn n (ascending_places (blocks_in volume.size image)) → ⊥)

  anchors_off : (n : ℕ) → Unplaced n → IsOff n (anchor_edits (blocks_in volume.size image) (layout_in volume.size disk sequence) disk sequence)
  unfolding anchor_edits
  anchors_off n (inl e) = anchors_off_edits volume.size (blocks_in volume.size image) disk sequence n (inl (ap (λ areas. is_eligible areas n) taken_are ∙ e))
  anchors_off n (inr none) = by (anchors_hold (blocks_in volume.size image) (layout_in volume.size disk sequence) disk sequence)
    where
      by : (b : Bool) → IsOff n (cond b [] (chosen (λ place. relocated place (disk sequence.place)) (bad_of disk sequence (eligible (blocks_in volume.size image) (layout_in volume.size disk sequence)))))
      by true = tt
      by false = chosen_off (λ place. relocated place (disk sequence.place)) (bad_of disk sequence (eligible (blocks_in volume.size image) (layout_in volume.size disk sequence))) n
          (λ i. none (bad_parts volume.size (blocks_in volume.size image) disk sequence n i).place)

  -- a sector beside both sequences and the tables, which holds no eligible place
  pub still : (n : ℕ) → covers main n ≡ false → covers reserve n ≡ false → ((area : Area) → IsIn area (tables_stated volume) → covers area n ≡ false) → Unplaced n
      → block_of volume.size (volume_mended volume.size image) n ≡ disk n
  still n h k l u =
      ap (λ (b : List ℕ). block_of volume.size b n) (mended_is volume.size image sequence opened describes.found)
      ∙ block_after volume.size (edits volume.size (blocks_in volume.size image) disk sequence) image n (edits_within volume.size image sequence held)
      ∙ untouched volume.size (blocks_in volume.size image) disk sequence n
      (sequence_off volume.size disk sequence n (whole volume.size (blocks_in volume.size image) disk sequence held).below known.pairing.other_limit
      (uncovered (area_of volume.size (other sequence)) n (other_off n h k)))
      (anchors_off n u)
      (tables_off volume.size (blocks_in volume.size image) disk sequence.list (omega (arith, large)) held.full
      (spares volume.size (blocks_in volume.size image) disk sequence.anchor sequence.list known.lawful known.table) n
      (λ area i. uncovered area n (l area (subst (λ (xs : List Area). IsIn area xs) (sym tables_are) i))))
