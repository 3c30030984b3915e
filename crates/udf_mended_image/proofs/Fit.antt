-- What is counted of the files of an opened volume fits the fields of an integrity descriptor.
use Rattle.std.proofs.Common.{◌≡◌, inl, inr, ℕ, zero, suc, ◌+◌, ◌*◌, ◌<◌, ◌≤◌, ◌^◌, ◌&&◌, arith, refl, ◌∙◌, ap, List, [], ◌∷◌, length, take, drop, map, get_or, max, Bool, true, false, not, cond, Option, Some, None, Ok}
use Rattle.std.specs.Prelude.{is_some, option_map, unwrap_or, slice_index, count_by}
use Rattle.std.specs.List.{filter, range_with_len}
use Rattle.std.proofs.lemmas.Bool.{and_parts, false≢true, ltb-true}
use Rattle.std.proofs.lemmas.Bool.Decides.{nat_tests}
use Rattle.std.proofs.lemmas.List.{length-take-le, length-drop, get_or-drop}
use Rattle.std.proofs.lemmas.Option.{slice_get_within}
use Rattle.std.proofs.lemmas.List.Sums.{count_by-le-length, length-filter}
use Rattle.udf_field.specs.declared.address.Addr.{Addr}
use Rattle.udf_model.specs.Bytes.{IsBytes, number_at}
use Rattle.udf_model.specs.Image.{block_of, blocks_in}
use Rattle.udf_model.proofs.Written.{number_fits}
use Rattle.udf_file_model.specs.Address.{same_addr}
use Rattle.udf_file_model.specs.Listing.{Volume as Listed, is_placed}
use Rattle.udf_file_model.specs.Place.{physical_place}
use Rattle.udf_layer.specs.Lone.{lone_is}
use Rattle.udf_layer.specs.Spared.{sparable_within}
use Rattle.udf_tree_model.specs.Among.{Member}
use Rattle.udf_tree_model.specs.Chosen.{is_lower}
use Rattle.udf_tree_model.specs.Counts.{free_ids, id_of, is_id_kept, is_kept_directory, is_lawful_id, keeps_id, ordinary_entries, place_among_takers, wanted_id}
use Rattle.udf_tree_model.specs.Frame.{Frame, places}
use Rattle.udf_tree_model.specs.Ordinary.{ordinary_directories, ordinary_files}
use Rattle.udf_tree_model.specs.Parent.{ordinary}
use Rattle.udf_tree_model.proofs.Members.{member_filter, member_of_map}
use Rattle.udf_dues.proofs.Ascending.{Ascending, places_ascend}
use Rattle.udf_volume_model.specs.Kept.{KeptSequence, kept}
use Rattle.udf_volume_model.specs.Prevailing.{prevailing_index}
use Rattle.udf_volume_laws.proofs.After.{whole}
use Rattle.udf_volume_laws.proofs.Prevail.{only_index}
use Rattle.udf_volume.specs.Areas.{partition_stated, table_used}
use Rattle.udf_volume.specs.Opened.{sector_in, volume_by}
use Rattle.udf_volume.specs.Taken.{opening}
use Rattle.udf_volume.specs.declared.volume.Volume.{Volume}
use Rattle.udf_rules_model.specs.Files.{files_in, frame_in, places_of}
use Rattle.udf_rules_model.specs.Integrity.{greatest, greatest_id}
use Rattle.udf_rules_model.specs.Places.{place_by}
use Rattle.udf_files.proofs.Placed.{low_partition}
use Rattle.udf_space_mends.specs.IntegrityMend.{CountsFit, origin_of}
use Rattle.udf_mended_image.proofs.Laid.{describes, few, held, known, laid, sequence}

-- ---- lists of numbers
bytes_take : (n : ℕ) (xs : List ℕ) → IsBytes xs → IsBytes (take n xs)
bytes_take zero xs h i = omega arith
bytes_take (suc n) [] h i = h i
bytes_take (suc n) (x ∷ xs) h zero = h zero
bytes_take (suc n) (x ∷ xs) h (suc i) = bytes_take n xs (λ j. h (suc j)) i

bytes_drop : (n : ℕ) (xs : List ℕ) → IsBytes xs → IsBytes (drop n xs)
bytes_drop n xs h i = let a = get_or-drop n xs i 0 in let b : get_or xs (n + i) 0 < 256 = h (n + i) in omega (arith, a, b)

range_below : (a n x : ℕ) → Member x (range_with_len a n) → x < a + n
range_below a zero x m = absurd m
range_below a (suc n) x (inl e) = omega (arith, e)
range_below a (suc n) x (inr m) = let rest = range_below (a + 1) n x m in omega (arith, rest)

index_below : (xs : List ℕ) (k limit : ℕ) → 0 < limit → ((x : ℕ) → Member x xs → x < limit) → get_or xs k 0 < limit
index_below [] k limit some all = some
index_below (x ∷ xs) zero limit some all = all x (inl refl)
index_below (x ∷ xs) (suc k) limit some all = index_below xs k limit some (λ y m. all y (inr m))

greatest_below : (xs : List ℕ) (limit : ℕ) → 0 < limit → ((x : ℕ) → Member x xs → x < limit) → greatest xs < limit
greatest_below [] limit some all = some
greatest_below (x ∷ xs) limit some all =
    let here = all x (inl refl) in
    let rest = greatest_below xs limit some (λ y m. all y (inr m)) in
    omega (arith, here, rest)

fewer : (p : Addr → Bool) (xs : List Addr) → length (filter p xs) ≤ length xs
fewer p xs = let e : length (filter p xs) ≡ count_by p xs = length-filter p xs in let l : count_by p xs ≤ length xs = count_by-le-length p xs in omega (arith, e, l)

-- ascending addresses of one partition, from one block on below another, are no more than the blocks between
next_block : (a b : Addr) → a.part ≡ 0 → b.part ≡ 0 → is_lower a b ≡ true → a.block + 1 ≤ b.block
next_block a b p q h = grind (arith, nat_tests)

few_between : (xs : List Addr) (low high : ℕ) → Ascending xs → ((a : Addr) → Member a xs → (a.part ≡ 0) × (low ≤ a.block) × (a.block < high)) → low + length xs ≤ max low high
few_between [] low high ascends all = omega arith
few_between (x ∷ xs) low high ascends all =
    let here = all x (inl refl) in
    let rest : x.block + 1 + length xs ≤ max (x.block + 1) high = few_between xs (x.block + 1) high ascends.1
    (λ a m. let k = all a (inr m) in (k.0, next_block x a here.0 k.0 (ascends.0 a m), k.2)) in
    let b = here.1 in
    let c = here.2 in
    omega (arith, rest, b, c)

-- ---- identifiers
module _ (f : Frame) (v : Listed) where
  free_below : (k : ℕ) → slice_index (free_ids f v) k < 16 + length (ordinary_entries f v)
  unfolding free_ids
  free_below k =
      index_below (free_ids f v) k (16 + length (ordinary_entries f v)) (omega arith)
      (λ x m. range_below 16 (length (ordinary_entries f v)) x (member_filter (λ id. not (is_id_kept f v id)) (range_with_len 16 (length (ordinary_entries f v))) x m).0)

  kept_below : (a : Addr) → keeps_id f v a ≡ true → id_of v a < 2 ^ 63
  unfolding keeps_id
  kept_below a h = ltb-true _ _ (and_parts _ _ (and_parts (is_lawful_id (id_of v a)) _ (and_parts (not (same_addr a f.root)) _ h).1).0).1

  is_ordinary : (a : Addr) → Member a (ordinary_entries f v) → ordinary f v a ≡ true
  unfolding ordinary_entries
  is_ordinary a m = (member_filter (ordinary f v) (places v) a m).1

  module _ (few_there : length (ordinary_entries f v) < 2 ^ 32) where
    wanted_below : (a : Addr) → ordinary f v a ≡ true → wanted_id f v a < 2 ^ 63
    unfolding wanted_id
    wanted_below a o = by (same_addr a f.root) (keeps_id f v a) refl (ordinary f v a) o
      where
        by : (r k : Bool) → keeps_id f v a ≡ k → (b : Bool) → b ≡ true
            → cond r 0 (cond (b && (not r && not k)) (slice_index (free_ids f v) (place_among_takers f v a)) (id_of v a)) < 2 ^ 63
        by true k e b h = omega arith
        by false k e false h = absurd (false≢true h)
        by false true e true h = kept_below a e
        by false false e true h = let low = free_below (place_among_takers f v a) in omega (arith, low, few_there)

    pub greatest_fits : greatest_id f v < 2 ^ 63
    unfolding greatest_id
    greatest_fits = greatest_below (map (wanted_id f v) (ordinary_entries f v)) (2 ^ 63) (omega arith) each
      where
        each : (id : ℕ) → Member id (map (wanted_id f v) (ordinary_entries f v)) → id < 2 ^ 63
        each id m =
            let r = member_of_map (wanted_id f v) (ordinary_entries f v) id m in
            let low = wanted_below r.0 (is_ordinary r.0 r.1) in
            omega (arith, r.2, low)

module _ (image : List ℕ) (volume : Volume) (large : 512 ≤ volume.size) (is : opening volume.size image ≡ Ok volume) (bytes : IsBytes image) where
  abbrev f : Frame
  f = frame_in volume image

  abbrev v : Listed
  v = files_in volume image

  blocks_few : volume.blocks < 2 ^ 32
  blocks_few = few image volume large is

  length_few : volume.length < 2 ^ 32
  length_few = let l : volume.length < 4294967296 = low_partition volume (laid image volume large is) (omega (arith, blocks_few)) in omega (arith, l)

  -- a placed address is a block of the partition
  placed_in : (a : Addr) → is_placed v a ≡ true → (a.part ≡ 0) × (a.block < volume.length)
  placed_in a h = by (places_of volume image a) refl h
    where
      at : (s : ℕ) → places_of volume image a ≡ Some s → (a.part ≡ 0) × (a.block < volume.length)
      at s e =
          let t = table_used volume (block_of volume.size image) in
          let p = lone_is 0 (place_by (partition_stated volume) (table_used volume (block_of volume.size image))) a s (unfold places_of in e) in
          let n = sparable_within t.packet t.pairs volume.length (physical_place volume.start volume.length) a.block s p.1 in
          (p.0, n)

      by : (o : Option ℕ) → places_of volume image a ≡ o → is_some o ≡ true → (a.part ≡ 0) × (a.block < volume.length)
      by None e k = absurd (false≢true k)
      by (Some s) e k = at s e

  places_few : length (places v) ≤ volume.length
  unfolding places
  places_few =
      let l : 0 + length (places v) ≤ max 0 volume.length = few_between (places v) 0 volume.length (places_ascend v) each in
      omega (arith, l)
    where
      each : (a : Addr) → Member a (places v) → (a.part ≡ 0) × (0 ≤ a.block) × (a.block < volume.length)
      each a m = let p = placed_in a (member_filter (is_placed v) _ a m).1 in (p.0, omega arith, p.1)

  ordinary_few : length (ordinary_entries f v) < 2 ^ 32
  unfolding ordinary_entries
  ordinary_few = let l = fewer (ordinary f v) (places v) in omega (arith, l, places_few, length_few)

  files_few : length (ordinary_files f v) < 2 ^ 32
  unfolding ordinary_files
  files_few = let l = fewer (λ a. not (is_kept_directory f v a)) (ordinary_entries f v) in omega (arith, l, ordinary_few)

  directories_few : length (ordinary_directories f v) < 2 ^ 32
  unfolding ordinary_directories
  directories_few = let l = fewer (is_kept_directory f v) (ordinary_entries f v) in omega (arith, l, ordinary_few)

  -- ---- the primary volume descriptor stands in the image
  abbrev s : KeptSequence
  s = sequence image volume large is

  primary_low : unwrap_or (sector_in s 1 []) 0 < blocks_in volume.size image
  unfolding sector_in
  primary_low = by (prevailing_index 1 [] s.list) refl
    where
      room : (kept s).start + length s.list < blocks_in volume.size image
      room =
          let k = known image volume large is in
          let w = whole volume.size (blocks_in volume.size image) (block_of volume.size image) s (held image volume large is) in
          omega (arith, k.pairing.kept_room.within, k.pairing.kept_limit, w.below)

      by : (o : Option ℕ) → prevailing_index 1 [] s.list ≡ o → unwrap_or (option_map (λ i. (kept s).start + i) o) 0 < blocks_in volume.size image
      by None e = omega (arith, room)
      by (Some i) e =
          let d = only_index 1 [] s.list i e in
          let l : i < length s.list = slice_get_within s.list i d.0 d.1.stands in
          omega (arith, room, l)

  primary_long : length (block_of volume.size image volume.pvd) ≡ volume.size
  primary_long =
      let e : volume.pvd ≡ unwrap_or (sector_in s 1 []) 0 = pvd_is in
      (held image volume large is).full volume.pvd (omega (arith, e, primary_low))
    where
      pvd_is : volume.pvd ≡ unwrap_or (sector_in s 1 []) 0
      pvd_is = ap (λ (x : Volume). x.pvd) (describes image volume large is).is ∙ (unfold volume_by in refl)

  block_bytes : (n : ℕ) → IsBytes (block_of volume.size image n)
  unfolding block_of
  block_bytes n = bytes_take volume.size (drop (n * volume.size) image) (bytes_drop (n * volume.size) image bytes)

  pub counts_fit : CountsFit f v volume.length (origin_of (block_of volume.size image volume.pvd) (block_of volume.size image volume.lvd))
  unfolding origin_of
  counts_fit = record {
    few = length_few;
    id = greatest_fits f v ordinary_few;
    files = files_few;
    directories = directories_few;
    stamp = length-take-le 12 (drop 376 (block_of volume.size image volume.pvd)) (omega (arith, length-drop 376 (block_of volume.size image volume.pvd), primary_long, large));
    bytes = bytes_take 12 (drop 376 (block_of volume.size image volume.pvd)) (bytes_drop 376 (block_of volume.size image volume.pvd) (block_bytes volume.pvd));
    revision = let h : number_at 2 (block_of volume.size image volume.lvd) 240 < 256 ^ 2 = number_fits 2 240 (block_of volume.size image volume.lvd) (block_bytes volume.lvd) in omega (arith, h);
  }
