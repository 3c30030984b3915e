-- The extents of the space bitmap and of integrity descriptors of an accepted image.
use Rattle.std.proofs.Common.{◌≡◌, inl, inr, ℕ, zero, suc, ◌+◌, ◌-◌, ◌/◌, ◌^◌, ◌<◌, ◌≤◌, arith, refl, sym, ◌∙◌, ap, subst, List, [], ◌∷◌, ◌++◌, drop, map, Bool, true, false, cond, ◌&&◌, leb, Option, Some, None}
use Rattle.std.specs.Prelude.{◌==◌, is_some, option_map}
use Rattle.std.specs.List.{find, list_all, range_with_len}
use Rattle.std.proofs.lemmas.Bool.{and_parts, eqb-true, leb-true, lt-ltb}
use Rattle.udf_field.specs.declared.address.Short.{Short}
use Rattle.udf_field.specs.declared.address.Span.{Span}
use Rattle.udf_field.specs.FieldView.{span_at}
use Rattle.udf_model.specs.Bytes.{IsBytes, number_at}
use Rattle.udf_model.specs.Image.{block_of, is_zeros}
use Rattle.udf_model.specs.Tag.{whole_id}
use Rattle.udf_model.proofs.Parts.{drop_is_bytes}
use Rattle.udf_model.proofs.Written.{number_fits}
use Rattle.udf_file_model.specs.Address.{addr, lone_places}
use Rattle.udf_file_model.specs.CutEntry.{AreBytes}
use Rattle.udf_file_model.specs.Listing as listing
use Rattle.udf_file_model.specs.Listing.{is_placed}
use Rattle.udf_file_model.specs.Place.{or_else, physical_place, sparable_place, spared_to}
use Rattle.udf_volume_model.specs.Anchor as anchor
use Rattle.udf_volume_model.specs.Areas.{Area}
use Rattle.udf_volume_model.specs.Kept.{KeptSequence, is_complete, kept, limit_of, sequence_at, whole_by}
use Rattle.udf_volume_model.specs.Layout.{are_apart, is_bitmap, is_inside}
use Rattle.udf_volume_model.specs.Prevailing.{is_highest, is_of, prevailing}
use Rattle.udf_volume_model.specs.Sequence.{Descriptor, End, Listed, Spoiled, View, is_listed, listed, other_view, view_by, view_of, views}
use Rattle.udf_volume_model.specs.SparingTable.{Table}
use Rattle.udf_volume_model.specs.Stated.{body_of, logical}
use Rattle.udf_volume_laws.proofs.Members.{IsIn, all_at, find_passes}
use Rattle.udf_volume_laws.proofs.Pair.{kept_sequence}
use Rattle.udf_volume.specs.Areas.{area_stated, areas_stated, partition_stated, table_used, tables_stated}
use Rattle.udf_volume.specs.Laid.{are_high_stated, areas_laid, is_bitmap_at}
use Rattle.udf_volume.specs.Opened.{volume_by}
use Rattle.udf_volume.specs.declared.volume.Volume.{Volume}
use Rattle.udf_partitions.proofs.Placing.{partition_inside}
use Rattle.udf_rules_model.specs.Files.{files_in, places_of}
use Rattle.udf_space_mends.specs.BitmapMend.{IsBitmapPlaced}
use Rattle.udf_space_mends.specs.IntegrityMend.{IsExtentPlaced}
use Rattle.udf_mended_image.proofs.Bytes.{no_bytes}
use Rattle.udf_mended_image.proofs.Edited.{no_blocks}
use Rattle.udf_mended_image.proofs.Given.{IsGiven, large, ok, small}
use Rattle.udf_mended_image.proofs.Laid.{describes, few, known, laid, sequence}
use Rattle.udf_mended_image.proofs.Quiet.{IsInExtent}
use Rattle.udf_mended_image.proofs.Sectors.{whole_there}

-- ---- the descriptors that a sequence lists are bytes
abbrev HaveBytes : List Descriptor → Type 0
HaveBytes [] = Unit {0}
HaveBytes (d ∷ ds) = IsBytes d.body × HaveBytes ds

abbrev SayBytes : View → Type 0
SayBytes End = Unit {0}
SayBytes Spoiled = Unit {0}
SayBytes (Listed d) = IsBytes d.body

abbrev AllSay : List View → Type 0
AllSay [] = Unit {0}
AllSay (w ∷ ws) = SayBytes w × AllSay ws

view_says : (block : List ℕ) → IsBytes block → SayBytes (view_of block)
unfolding view_of other_view
view_says block h = by (whole_id block)
  where
    zeros : (b : Bool) → SayBytes (cond b End Spoiled)
    zeros true = tt
    zeros false = tt

    kinds : (id : ℕ) (a b : Bool) → SayBytes (cond a End (cond b (Listed (record { id = id; body = drop 16 block })) (cond (is_zeros block) End Spoiled)))
    kinds id true b = tt
    kinds id false true = drop_is_bytes 16 block h
    kinds id false false = zeros (is_zeros block)

    by : (o : Option ℕ) → SayBytes (view_by block o)
    by None = zeros (is_zeros block)
    by (Some id) = kinds id (id == 8) (is_listed id)

views_say : (disk : ℕ → List ℕ) → AreBytes disk → (start count : ℕ) → AllSay (map (λ n. view_of (disk n)) (range_with_len start count))
views_say disk bytes start zero = tt
views_say disk bytes start (suc count) = (view_says (disk start) (bytes start), views_say disk bytes (start + 1) count)

listed_have : (ws : List View) (list : List Descriptor) → AllSay ws → listed ws ≡ Some list → HaveBytes list
unfolding listed
listed_have [] list h e = subst (λ (ds : List Descriptor). HaveBytes ds) (none_is list e) tt
  where
    none_is : (ds : List Descriptor) → Some [] ≡ Some ds → [] ≡ ds
    none_is ds k = cc
listed_have (End ∷ ws) list h e = subst (λ (ds : List Descriptor). HaveBytes ds) (none_is list e) tt
  where
    none_is : (ds : List Descriptor) → Some [] ≡ Some ds → [] ≡ ds
    none_is ds k = cc
listed_have (Spoiled ∷ ws) list h e = absurd (cc)
listed_have (Listed d ∷ ws) list h e = by (listed ws) (λ ds k. listed_have ws ds h.1 k) e
  where
    by : (o : Option (List Descriptor)) → ((ds : List Descriptor) → o ≡ Some ds → HaveBytes ds) → option_map (λ others. d ∷ others) o ≡ Some list → HaveBytes list
    by None k q = absurd (cc)
    by (Some ds) k q = subst (λ (x : List Descriptor). HaveBytes x) (let p : d ∷ ds ≡ list = cc in p) (h.0, k ds refl)

have_at : (list : List Descriptor) (d : Descriptor) → HaveBytes list → IsIn d list → IsBytes d.body
have_at [] d h i = absurd i
have_at (x ∷ xs) d h (inl e) = subst (λ (z : Descriptor). IsBytes z.body) (sym e) h.0
have_at (x ∷ xs) d h (inr i) = have_at xs d h.1 i

prevailing_have : (kind : ℕ) (subject : List ℕ) (list : List Descriptor) → HaveBytes list → IsBytes (body_of (prevailing kind subject list))
unfolding prevailing
prevailing_have kind subject list h = by (find (λ descriptor. is_of kind subject descriptor && is_highest list descriptor) list) refl
  where
    by : (o : Option Descriptor) → find (λ descriptor. is_of kind subject descriptor && is_highest list descriptor) list ≡ o → IsBytes (body_of o)
    by None e = no_bytes
    by (Some d) e = have_at list d h (find_passes (λ descriptor. is_of kind subject descriptor && is_highest list descriptor) list d e).0

whole_listed : (limit : ℕ) (o : Option (List Descriptor)) (list : List Descriptor) → whole_by limit o ≡ Some list → o ≡ Some list
whole_listed limit None list e = absurd (cc)
whole_listed limit (Some ds) list e = by (is_complete limit ds) e
  where
    by : (b : Bool) → cond b (Some ds) None ≡ Some list → Some ds ≡ Some list
    by true k = k
    by false k = absurd (cc)

module _ (image : List ℕ) (volume : Volume) (g : IsGiven image volume) where
  abbrev v : listing.Volume
  v = files_in volume image

  abbrev disk : ℕ → List ℕ
  disk = block_of volume.size image

  abbrev s : KeptSequence
  s = sequence image volume (large image volume g) g.opened

  list_have : HaveBytes s.list
  unfolding sequence_at views
  list_have =
      listed_have (views disk (kept s).start (anchor.blocks_of volume.size (kept s))) s.list (views_say disk (ok image volume g).bytes (kept s).start (anchor.blocks_of volume.size (kept s)))
      (whole_listed (limit_of volume.size s.anchor) (listed (views disk (kept s).start (anchor.blocks_of volume.size (kept s)))) s.list
      (kept_sequence volume.size disk s (known image volume (large image volume g) g.opened).side))

  logical_have : IsBytes (logical s.list)
  unfolding logical
  logical_have = prevailing_have 6 [] s.list list_have

  integrity_is : volume.integrity ≡ span_at (logical s.list) (432 - 16)
  unfolding volume_by
  integrity_is = ap (λ (x : Volume). x.integrity) (describes image volume (large image volume g) g.opened).is

  start_low : volume.integrity.start < 2 ^ 32
  start_low =
      let h : number_at 4 (logical s.list) (432 - 16 + 4) < 256 ^ 4 = number_fits 4 (432 - 16 + 4) (logical s.list) logical_have in
      let e : volume.integrity.start ≡ number_at 4 (logical s.list) (432 - 16 + 4) = ap (λ (x : Span). x.start) integrity_is in
      omega (arith, h, e)

  area_inside : (area : Area) → IsIn area (areas_stated volume) → area.start + area.count ≤ volume.blocks
  unfolding areas_laid is_inside
  area_inside area i =
      leb-true (area.start + area.count) volume.blocks
      (all_at (is_inside volume.blocks) (areas_stated volume) area (and_parts (list_all (is_inside volume.blocks) (areas_stated volume)) _ (laid image volume (large image volume g) g.opened).areas).0 i)

  pub extent_inside : (n : ℕ) → IsInExtent v volume.integrity n → n < volume.blocks
  extent_inside n i = by (volume.integrity.length == 0) refl (λ area j. area_inside area j)
    where
      by : (b : Bool) → (volume.integrity.length == 0) ≡ b
          → ((area : Area) → IsIn area (area_stated volume.size volume.main ∷ area_stated volume.size volume.reserve ∷ (cond b [] (area_stated volume.size volume.integrity ∷ []) ++ (partition_stated volume ∷ tables_stated volume)))
          → area.start + area.count ≤ volume.blocks) → n < volume.blocks
      by true e h = absurd (no_blocks volume.size volume.integrity.length (large image volume g) (eqb-true volume.integrity.length 0 e) (omega (arith, i.0, i.1)))
      by false e h = let k = h (area_stated volume.size volume.integrity) (inr (inr (inl refl))) in omega (arith, k, i.0, i.1)

  extent_low : volume.integrity.start + anchor.blocks_for volume.size volume.integrity.length ≤ 2 ^ 32
  extent_low = by (anchor.blocks_for volume.size volume.integrity.length) refl
    where
      by : (m : ℕ) → anchor.blocks_for volume.size volume.integrity.length ≡ m → volume.integrity.start + m ≤ 2 ^ 32
      by zero e = omega (arith, start_low)
      by (suc m) e =
          let k = extent_inside (volume.integrity.start + m) (omega arith, omega (arith, e)) in
          omega (arith, k, few image volume (large image volume g) g.opened)

  pub integrity_placed : IsExtentPlaced v volume.integrity
  integrity_placed = record {
    least = large image volume g;
    most = small image volume g;
    low = extent_low;
    whole = λ n a b. whole_there image volume (large image volume g) g.opened n (extent_inside n (a, b));
    bytes = (ok image volume g).bytes;
  }

  -- ---- the extent of the bitmap
  -- a block of the partition is placed
  placed_below : (n : ℕ) → n < volume.length → is_placed v (addr 0 n) ≡ true
  unfolding places_of lone_places sparable_place physical_place
  placed_below n h =
      ap (λ b. is_some (cond b (or_else (spared_to t.packet t.pairs n) (cond b (Some (volume.start + n)) None)) None)) (lt-ltb n volume.length h)
      ∙ by (spared_to t.packet t.pairs n)
    where
      t : Table
      t = table_used volume (block_of volume.size image)

      by : (o : Option ℕ) → is_some (or_else o (Some (volume.start + n))) ≡ true
      by None = refl
      by (Some x) = refl

  bitmap_laid : (extent : Short) → volume.bitmap ≡ Some extent → is_bitmap volume.size volume.length extent.length extent.block ≡ true
  unfolding areas_laid
  bitmap_laid extent e =
      let a = (and_parts (list_all (is_inside volume.blocks) (areas_stated volume)) _ (laid image volume (large image volume g) g.opened).areas).1 in
      let b = (and_parts (are_apart (areas_stated volume)) _ a).1 in
      let c = (and_parts (are_high_stated volume) (is_bitmap_at volume.size volume.length volume.bitmap) b).1 in
      sym (ap (is_bitmap_at volume.size volume.length) e) ∙ c

  partition_low : volume.length < 2 ^ 32
  partition_low =
      let i = partition_inside volume (laid image volume (large image volume g) g.opened) in
      omega (arith, i, few image volume (large image volume g) g.opened)

  pub bitmap_placed : (extent : Short) → volume.bitmap ≡ Some extent → IsBitmapPlaced v volume.length extent
  unfolding is_bitmap anchor.blocks_for
  bitmap_placed extent e =
      let p = and_parts (leb (extent.block + anchor.blocks_for volume.size extent.length) volume.length) (leb (24 + (volume.length + 7) / 8) extent.length) (bitmap_laid extent e) in
      let fits : extent.block + (extent.length + (volume.size - 1)) / volume.size ≤ volume.length = leb-true _ _ p.0 in
      record {
        size = omega (arith, large image volume g);
        few = partition_low;
        low = omega (arith, fits, partition_low);
        room = leb-true (24 + (volume.length + 7) / 8) extent.length p.1;
        placed = λ k h. placed_below (extent.block + k) (omega (arith, h, fits));
        whole = (ok image volume g).whole;
        apart = (ok image volume g).apart;
      }
