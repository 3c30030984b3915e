-- Where the addresses of a volume stand: in its partition or in a used packet, in the image, and at different sectors.
use Rattle.std.proofs.Common.{◌≡◌, inl, inr, ℕ, ◌+◌, ◌%◌, ◌<◌, ◌≤◌, arith, refl, sym, ◌∙◌, List, [], ◌∷◌, length, map, Bool, true, false, cond, Option, Some, None, Ok}
use Rattle.std.specs.Prelude.{nat_lt, ◌==◌, ◌*◌}
use Rattle.std.specs.List.{find}
use Rattle.std.proofs.Math.Nat.{mod-lt}
use Rattle.std.proofs.lemmas.Bool.{and_from, lt-ltb}
use Rattle.udf_field.specs.declared.address.Addr.{Addr}
use Rattle.udf_model.specs.Bytes.{IsBytes}
use Rattle.udf_model.specs.Image.{block_of}
use Rattle.udf_model.specs.Size.{is_size}
use Rattle.udf_model.proofs.Parts.{drop_is_bytes, take_is_bytes}
use Rattle.udf_file_model.specs.CutEntry.{AreBytes}
use Rattle.udf_file_model.specs.Listing.{is_placed}
use Rattle.udf_file_model.specs.Listing as listing
use Rattle.udf_file_model.specs.Place.{Place, moved_to, or_else, packet_start, physical_place, spared_to, sparable_place}
use Rattle.udf_volume_model.specs.Areas.{Area, covers, packets_of}
use Rattle.udf_volume_model.specs.SparingTable.{Table}
use Rattle.udf_volume_laws.proofs.Apart.{covered}
use Rattle.udf_volume_laws.proofs.Final.{block_length}
use Rattle.udf_volume_laws.proofs.Members.{IsIn}
use Rattle.udf_layer.specs.Lone.{lone_is, same_address}
use Rattle.udf_layer.specs.Physicals.{physical_apart, physical_is}
use Rattle.udf_layer.specs.Spared.{sparable_apart, sparable_within}
use Rattle.udf_tree_model.specs.Frame.{Frame, is_address}
use Rattle.udf_tree_model.specs.Refused.{refusal}
use Rattle.udf_tree_model.specs.Stated.{IsFileSetPlaced}
use Rattle.udf_volume.specs.Areas.{partition_stated}
use Rattle.udf_volume.specs.Taken.{opening}
use Rattle.udf_volume.specs.declared.volume.Volume.{Volume}
use Rattle.udf_partitions.proofs.Placing.{partition_inside, spare_there, stands_inside}
use Rattle.udf_rules_model.specs.Files.{files_in, frame_in, places_of}
use Rattle.udf_rules_model.specs.Places.{place_by}
use Rattle.udf_file_mends.specs.Repairable.{IsRepairable}
use Rattle.udf_file_mends.proofs.Disk.{named_by}
use Rattle.udf_mended_image.proofs.Laid.{IsUsable, blocks_are, few, laid, packets, table, usable}

-- a sector of the partition, or of a used packet
pub data IsHeld (volume : Volume) (table : Table) (n : ℕ) : Type 0 where
  InPartition : covers (partition_stated volume) n ≡ true → IsHeld volume table n
  InPacket : (packet : Area) → IsIn packet (packets_of table) → covers packet n ≡ true → IsHeld volume table n

abbrev packet_area : ℕ → ℕ × ℕ → Area
packet_area packet pair = record { start = pair.1; count = packet }

-- a block that an entry maps stands in its packet
pub record IsMappedIn (packet : ℕ) (pairs : List (ℕ × ℕ)) (s : ℕ) : Type 0 where
  area : Area
  among : IsIn area (map (packet_area packet) pairs)
  covered_there : covers area s ≡ true

mapped_in : (packet : ℕ) (pairs : List (ℕ × ℕ)) (n s : ℕ) → 0 < packet → spared_to packet pairs n ≡ Some s → IsMappedIn packet pairs s
unfolding spared_to
mapped_in packet [] n s some h = absurd (cc)
mapped_in packet (pair ∷ pairs) n s some h = by (λ k. mapped_in packet pairs n s some k) (pair.0 == packet_start packet n) h
  where
    some_is : (x y : ℕ) → Some x ≡ Some y → x ≡ y
    some_is x y i = cc

    by : (moved_to (n % packet) (find (λ p. p.0 == packet_start packet n) pairs) ≡ Some s → IsMappedIn packet pairs s) → (b : Bool)
        → moved_to (n % packet) (cond b (Some pair) (find (λ p. p.0 == packet_start packet n) pairs)) ≡ Some s → IsMappedIn packet (pair ∷ pairs) s
    by rec true k =
        let m = mod-lt n some in
        let d = some_is (pair.1 + n % packet) s k in
        record { area = packet_area packet pair; among = inl refl; covered_there = covered (packet_area packet pair) s (omega (arith, d)) (omega (arith, m, d)) }
    by rec false k = let r = rec k in record { area = r.area; among = inr r.among; covered_there = r.covered_there }

-- without entries a block stands as below
unmapped : (packet : ℕ) (pairs : List (ℕ × ℕ)) (count : ℕ) (below : Place) (n s : ℕ) → pairs ≡ [] → sparable_place packet pairs count below n ≡ Some s → below n ≡ Some s
unfolding sparable_place spared_to
unmapped packet (pair ∷ pairs) count below n s e h = absurd (cc)
unmapped packet [] count below n s e h = by (nat_lt n count) h
  where
    by : (b : Bool) → cond b (or_else (moved_to (n % packet) None) (below n)) None ≡ Some s → below n ≡ Some s
    by true k = k
    by false k = absurd (cc)

module _ (image : List ℕ) (volume : Volume) (large : 512 ≤ volume.size) (is : opening volume.size image ≡ Ok volume) where
  abbrev t : Table
  t = table image volume large is

  abbrev below : Place
  below = physical_place volume.start volume.length

  in_partition : (n s : ℕ) → below n ≡ Some s → IsHeld volume t s
  in_partition n s h =
      let p = physical_is volume.start volume.length n s h in
      InPartition (covered (partition_stated volume) s (omega (arith, p.1)) (omega (arith, p.0, p.1)))

  held_by : (n s : ℕ) → IsUsable t → place_by (partition_stated volume) t n ≡ Some s → IsHeld volume t s
  unfolding sparable_place packets_of
  held_by n s (inl e) h = in_partition n s (unmapped t.packet t.pairs volume.length below n s e h)
  held_by n s (inr some) h = by (nat_lt n volume.length) h
    where
      either : (o : Option ℕ) → spared_to t.packet t.pairs n ≡ o → or_else o (below n) ≡ Some s → IsHeld volume t s
      either None e k = in_partition n s k
      either (Some x) e k = let r = mapped_in t.packet t.pairs n s some (e ∙ k) in InPacket r.area r.among r.covered_there

      by : (b : Bool) → cond b (or_else (spared_to t.packet t.pairs n) (below n)) None ≡ Some s → IsHeld volume t s
      by true k = either (spared_to t.packet t.pairs n) refl k
      by false k = absurd (cc)

  inside_by : (n s : ℕ) → IsUsable t → place_by (partition_stated volume) t n ≡ Some s → s < volume.blocks
  inside_by n s (inl e) h =
      let p = physical_is volume.start volume.length n s (unmapped t.packet t.pairs volume.length below n s e h) in
      let i = partition_inside volume (laid image volume large is) in
      omega (arith, p.0, p.1, i)
  inside_by n s (inr some) h = stands_inside volume t (laid image volume large is) some (packets image volume large is) n s h

  apart_by : (m n s : ℕ) → IsUsable t → place_by (partition_stated volume) t m ≡ Some s → place_by (partition_stated volume) t n ≡ Some s → m ≡ n
  apart_by m n s (inl e) h k =
      physical_apart volume.start volume.length m n s (unmapped t.packet t.pairs volume.length below m s e h) (unmapped t.packet t.pairs volume.length below n s e k)
  apart_by m n s (inr some) h k =
      sparable_apart t.packet t.pairs volume.length below some (spare_there volume t (few image volume large is) some (packets image volume large is))
      (λ x y z g i. physical_apart volume.start volume.length x y z g i) m n s h k

  lone : (a : Addr) (s : ℕ) → places_of volume image a ≡ Some s → (a.part ≡ 0) × (place_by (partition_stated volume) t a.block ≡ Some s)
  unfolding places_of
  lone a s h = lone_is 0 (place_by (partition_stated volume) t) a s h

  pub stands_held : (a : Addr) (s : ℕ) → places_of volume image a ≡ Some s → IsHeld volume t s
  stands_held a s h = held_by a.block s (usable image volume large is) (lone a s h).1

  pub stands_in : (a : Addr) (s : ℕ) → places_of volume image a ≡ Some s → s < volume.blocks
  stands_in a s h = inside_by a.block s (usable image volume large is) (lone a s h).1

  pub stands_apart : (a b : Addr) (s : ℕ) → places_of volume image a ≡ Some s → places_of volume image b ≡ Some s → a ≡ b
  stands_apart a b s h k =
      let p = lone a s h in
      let q = lone b s k in
      same_address a b (p.0 ∙ sym q.0) (apart_by a.block b.block s (usable image volume large is) p.1 q.1)

  stands_low : (a : Addr) (s : ℕ) → places_of volume image a ≡ Some s → is_address a ≡ true
  stands_low a s h =
      let p = lone a s h in
      let n = sparable_within t.packet t.pairs volume.length below a.block s p.1 in
      let i = partition_inside volume (laid image volume large is) in
      let l = few image volume large is in
      and_from (nat_lt a.part 65536) (nat_lt a.block 4294967296) (lt-ltb a.part 65536 (omega (arith, p.0))) (lt-ltb a.block 4294967296 (omega (arith, n, i, l)))

  abbrev f : Frame
  f = frame_in volume image

  abbrev v : listing.Volume
  v = files_in volume image

  pub whole_there : (n : ℕ) → n < volume.blocks → length (block_of volume.size image n) ≡ volume.size
  whole_there n h = block_length volume.size image n (let e = blocks_are image volume large is in omega (arith, h, e))

  pub image_bytes : IsBytes image → AreBytes (block_of volume.size image)
  unfolding block_of
  image_bytes bytes n = take_is_bytes volume.size _ (drop_is_bytes (n * volume.size) image bytes)

  -- the volume's files can be repaired where they are not refused
  pub repairable : is_size volume.size ≡ true → IsBytes image → refusal f v ≡ None → IsFileSetPlaced f v → IsRepairable f v
  repairable sized bytes accepted placed = record {
    size = sized;
    bytes = image_bytes bytes;
    whole = λ x n p. whole_there n (stands_in x n p);
    low = λ x p. let s = named_by (places_of volume image x) p in stands_low x s.0 s.1;
    apart = stands_apart;
    accepted = accepted;
    file_set = placed;
  }
