-- What is wanted of a kept entry fits its block.
use Rattle.std.proofs.Common.{◌≡◌, ℕ, zero, suc, ◌+◌, ◌-◌, ◌*◌, ◌^◌, ◌<◌, ◌≤◌, ◌&&◌, not, nat_le, Bool, true, false, cond, Option, Some, None, List, [], ◌∷◌, length, get_or, take, drop, refl, sym, ap, ◌∙◌, subst, inl, inr, arith, length-append, length-take, length-drop}
use Rattle.std.specs.Prelude.{◌==◌, min, max, slice_index}
use Rattle.std.specs.List.{filter, flat_map, range_with_len}
use Rattle.std.proofs.lemmas.Bool.Decides.{nat_tests}
use Rattle.std.proofs.lemmas.List.FromFn.{length-map-range_with_len, length-range_with_len}
use Rattle.udf_field.specs.declared.address.Addr.{Addr}
use Rattle.udf_model.specs.Bytes.{IsBytes, number_at}
use Rattle.udf_model.proofs.Parts.{take_is_bytes}
use Rattle.udf_model.proofs.Written.{number_fits}
use Rattle.udf_file_model.specs.Address.{addr, same_addr}
use Rattle.udf_file_model.specs.Content.{block_at}
use Rattle.udf_file_model.specs.Cut.{onward, to_part}
use Rattle.udf_file_model.specs.CutBody.{cut_body}
use Rattle.udf_file_model.specs.Entry.{Entry, attribute_bytes, body_of, descriptor_bytes, entry_in, is_directory}
use Rattle.udf_file_model.specs.Front.{nothing_yet}
use Rattle.udf_file_model.specs.Listing.{Volume, addresses_from, descriptors_in, descriptors_of, flat_for, good_length, is_extent, is_placed, list_for, rules_for}
use Rattle.udf_file_model.specs.Pieces.{bytes_in, further, pieces, size_of}
use Rattle.udf_file_model.specs.Wanted.{Fits}
use Rattle.udf_file_model.proofs.Cutting.{cut_is_bytes, cut_shorter}
use Rattle.udf_file_model.proofs.Left.{inside_fits}
use Rattle.udf_file_model.proofs.Once.{front_fits}
use Rattle.udf_tree_model.specs.Among.{Member}
use Rattle.udf_tree_model.specs.Claimed.{list_stays, mended_length}
use Rattle.udf_tree_model.specs.Content.{mended_content}
use Rattle.udf_tree_model.specs.Counts.{free_ids, high_count, id_by, id_of, is_id_kept, links_by, low_count, ordinary_entries, place_among_takers, takes_id, wanted_id, wanted_links}
use Rattle.udf_tree_model.specs.Frame.{Frame, addresses_below, capacity, entry_at, places, setting_of, tree_of}
use Rattle.udf_tree_model.specs.Ordinary.{is_kept_entry}
use Rattle.udf_tree_model.specs.Parent.{ordinary}
use Rattle.udf_tree_model.specs.Won.{kept_length}
use Rattle.udf_tree_model.proofs.Members.{member_filter}
use Rattle.udf_file_mends.specs.Repairable.{IsRepairable}
use Rattle.udf_file_mends.specs.Wanted.{cut_wanted, wanted}
use Rattle.udf_file_mends.proofs.Contents as contents
use Rattle.udf_file_mends.proofs.Held as held
use Rattle.udf_file_mends.proofs.Wholeness.{entry_is_bytes}

-- ---- identifiers
below_by : (bound : ℕ) → 0 < bound → (xs : List ℕ) → ((x : ℕ) → Member x xs → x < bound) → (i : ℕ) → get_or xs i 0 < bound
below_by bound some [] h i = some
below_by bound some (x ∷ xs) h zero = h x (inl refl)
below_by bound some (x ∷ xs) h (suc i) = below_by bound some xs (λ y m. h y (inr m)) i

in_range : (start n x : ℕ) → Member x (range_with_len start n) → x < start + n
in_range start zero x m = absurd m
in_range start (suc n) x (inl e) = omega (arith, e)
in_range start (suc n) x (inr m) = omega (arith, in_range (start + 1) n x m)

fewer_kept : {X : Type 0} (p : X → Bool) (xs : List X) → length (filter p xs) ≤ length xs
fewer_kept p [] = omega arith
fewer_kept p (x ∷ xs) = by (p x) (fewer_kept p xs)
  where
    by : (b : Bool) → length (filter p xs) ≤ length xs → length (cond b (x ∷ filter p xs) (filter p xs)) ≤ length (x ∷ xs)
    by true l = omega (arith, l)
    by false l = omega (arith, l)

all_long : {X Y : Type 0} (g : X → List Y) (n : ℕ) → ((x : X) → length (g x) ≡ n) → (xs : List X) → length (flat_map g xs) ≡ length xs * n
all_long g n h [] = omega arith
all_long g n h (x ∷ xs) = let r = all_long g n h xs in omega (arith, r, h x, length-append (g x) (flat_map g xs))

addresses_many : (parts blocks : ℕ) → length (addresses_below parts blocks) ≡ parts * blocks
unfolding addresses_below
addresses_many parts blocks =
    all_long (λ part. addresses_from (addr part 0) blocks) blocks (λ part. length-map-range_with_len (λ block. addr part block) 0 blocks) (range_with_len 0 parts)
    ∙ ap (λ n. n * blocks) (length-range_with_len 0 parts)

few_places : (v : Volume) → length (places v) ≤ 281474976710656
unfolding places
few_places v = omega (arith, fewer_kept (is_placed v) (addresses_below 65536 4294967296), addresses_many 65536 4294967296)

free_small : (f : Frame) (v : Volume) (i : ℕ) → slice_index (free_ids f v) i < 256 ^ 8
unfolding free_ids ordinary_entries
free_small f v i =
    below_by (256 ^ 8) (omega arith) (filter (λ id. not (is_id_kept f v id)) (range_with_len 16 (length (filter (ordinary f v) (places v)))))
    (λ x m. let r = in_range 16 (length (filter (ordinary f v) (places v))) x (member_filter (λ (id : ℕ). not (is_id_kept f v id)) (range_with_len 16 (length (filter (ordinary f v) (places v)))) x m).0 in
    omega (arith, r, fewer_kept (ordinary f v) (places v), few_places v)) i

number_is : (m n : ℕ) → (m == n) ≡ true → m ≡ n
number_is m n t = grind (arith, nat_tests)

module _ (f : Frame) (v : Volume) (ok : IsRepairable f v) (a : Addr) (e : Entry) (kept_there : is_kept_entry f v a ≡ true) (reads : entry_at v a ≡ Some e) where
  abbrev block : List ℕ
  block = block_at v a

  block_bytes : IsBytes block
  block_bytes = (held.has_entry f v ok a e kept_there reads).bytes

  abbrev is : entry_in e.header block ≡ e
  is = held.is_entry f v ok a e kept_there reads

  pub body_bytes : IsBytes e.body
  body_bytes = entry_is_bytes v ok.bytes a e reads

  body_short : length e.body ≤ descriptor_bytes e.header block
  unfolding body_of
  body_short =
      let P : Entry → Type 0 = λ z. length z.body ≤ descriptor_bytes e.header block in
      let l : length (take (descriptor_bytes e.header block) (drop (e.header + attribute_bytes e.header block) block)) ≤ descriptor_bytes e.header block =
      omega (arith, length-take (descriptor_bytes e.header block) (drop (e.header + attribute_bytes e.header block) block)) in
      subst P is l

  body_small : length e.body ≤ 4096
  unfolding body_of
  body_small =
      let P : Entry → Type 0 = λ z. length z.body ≤ 4096 in
      let l : length (take (descriptor_bytes e.header block) (drop (e.header + attribute_bytes e.header block) block)) ≤ 4096 =
      omega (
        arith,
        length-take (descriptor_bytes e.header block) (drop (e.header + attribute_bytes e.header block) block),
        length-drop (e.header + attribute_bytes e.header block) block,
        (held.has_entry f v ok a e kept_there reads).most,
      ) in
      subst P is l

  information_small : e.information < 256 ^ 8
  information_small = let P : Entry → Type 0 = λ z. z.information < 256 ^ 8 in subst P is (number_fits 8 56 block block_bytes)

  links_small : e.links < 256 ^ 2
  links_small = let P : Entry → Type 0 = λ z. z.links < 256 ^ 2 in subst P is (number_fits 2 48 block block_bytes)

  id_small : e.id < 256 ^ 8
  id_small = let P : Entry → Type 0 = λ z. z.id < 256 ^ 8 in subst P is (number_fits 8 (e.header - 16) block block_bytes)

  pub good_length_small : good_length v a e < 2 ^ 63
  unfolding good_length
  good_length_small = by (e.kind == 3)
    where
      by : (b : Bool) → cond b (length e.body) (size_of (list_for v a e)) < 2 ^ 63
      by true = omega (arith, body_small)
      by false = held.small f v ok a e kept_there reads

  pub listed_length : (e.kind == 3) ≡ false → good_length v a e ≡ size_of (list_for v a e)
  unfolding good_length
  listed_length h = ap (λ b. cond b (length e.body) (size_of (list_for v a e))) h

  pub embedded_length : (e.kind == 3) ≡ true → good_length v a e ≡ length e.body
  unfolding good_length
  embedded_length h = ap (λ b. cond b (length e.body) (size_of (list_for v a e))) h

  -- no more is left than is kept
  pub length_kept : mended_length f v a e ≤ kept_length (setting_of f v) (tree_of f v) a
  unfolding mended_length
  length_kept = by (is_directory e) refl
    where
      by : (b : Bool) → is_directory e ≡ b → cond b (length (mended_content f v a)) (min e.information (kept_length (setting_of f v) (tree_of f v) a)) ≤ kept_length (setting_of f v) (tree_of f v) a
      by true h = (contents.is_mended_content f v ok a e kept_there reads h).kept
      by false h = omega arith

  pub length_good : mended_length f v a e ≤ good_length v a e
  length_good = omega (arith, length_kept, held.limit_within f v ok a e kept_there reads)

  wanted_length_small : mended_length f v a e < 256 ^ 8
  wanted_length_small = omega (arith, length_good, good_length_small)

  -- what a cut is to leave fits its body
  pub cut_within : (e.kind == 3) ≡ false → onward (mended_length f v a e) (descriptors_of a e) ≡ None → mended_length f v a e ≤ bytes_in (descriptors_of a e)
  unfolding list_for flat_for rules_for
  cut_within h none = by (mended_length f v a e == 0) refl
    where
      some_is : (mended_length f v a e == 0) ≡ false → 0 < mended_length f v a e
      some_is t = grind (arith, nat_tests)

      flat_within : mended_length f v a e ≤ size_of (pieces (further (descriptors_in v e.kind) (2 * v.blocks)) (descriptors_of a e))
      flat_within =
          omega (
            arith,
            length_good,
            listed_length h,
            front_fits (rules_for v a e) (is_extent v) (held.some f v ok a e kept_there reads) (pieces (further (descriptors_in v e.kind) (2 * v.blocks)) (descriptors_of a e)) nothing_yet,
          )

      by : (b : Bool) → (mended_length f v a e == 0) ≡ b → mended_length f v a e ≤ bytes_in (descriptors_of a e)
      by true t = omega (arith, number_is (mended_length f v a e) 0 t)
      by false t = inside_fits (further (descriptors_in v e.kind) (2 * v.blocks)) (descriptors_of a e) (mended_length f v a e) (some_is t) flat_within none

  -- the body that is left
  record FitsBody (body : List ℕ) : Type 0 where
    shorter : length body ≤ length e.body
    bytes : IsBytes body

  cut_fits : FitsBody (cut_wanted f v a e)
  unfolding cut_wanted
  cut_fits = by (e.kind == 3) refl (is_directory e) refl
    where
      embedded_capacity : (e.kind == 3) ≡ true → capacity v.size e (list_for v a e) ≡ length e.body
      embedded_capacity h = unfold capacity in ap (λ b. cond b (length e.body) (to_part v.size (list_for v a e))) h

      by : (b : Bool) → (e.kind == 3) ≡ b → (d : Bool) → is_directory e ≡ d
          → FitsBody (cond b (cond d (mended_content f v a) (take (mended_length f v a e) e.body)) (cut_body e.kind a (mended_length f v a e) e.body))
      by true h true k =
          let c = contents.is_mended_content f v ok a e kept_there reads k in
          record { shorter = omega (arith, c.fits, embedded_capacity h); bytes = c.bytes }
      by true h false k = record { shorter = omega (arith, length-take (mended_length f v a e) e.body); bytes = take_is_bytes (mended_length f v a e) e.body body_bytes }
      by false h d k = record { shorter = cut_shorter a (mended_length f v a e) e.body body_bytes e.kind (cut_within h); bytes = cut_is_bytes a (mended_length f v a e) e.body body_bytes e.kind }

  links_fit : wanted_links f v a < 256 ^ 2
  unfolding wanted_links low_count
  links_fit =
      let P : Option Entry → Type 0 = λ o. links_by f v a o < 256 ^ 2 in
      subst P (sym reads) (by (nat_le (low_count f v a) e.links && nat_le e.links (high_count f v a)))
    where
      by : (b : Bool) → cond b e.links (max 1 (low_count f v a)) < 256 ^ 2
      by true = links_small
      by false = omega arith

  id_fits : wanted_id f v a < 256 ^ 8
  unfolding wanted_id
  id_fits = by (same_addr a f.root) (ordinary f v a && takes_id f v a)
    where
      own : id_of v a < 256 ^ 8
      own = let P : Option Entry → Type 0 = λ o. id_by o < 256 ^ 8 in subst P (sym reads) id_small

      by : (b c : Bool) → cond b 0 (cond c (slice_index (free_ids f v) (place_among_takers f v a)) (id_of v a)) < 256 ^ 8
      by true c = omega arith
      by false true = free_small f v (place_among_takers f v a)
      by false false = own

  pub wanted_fits : Fits e.header (wanted f v a e block) block
  unfolding wanted
  wanted_fits = record {
    information = information (list_stays f v a e);
    object_size = object_size (list_stays f v a e);
    links = links_fit;
    id = id_fits;
    bytes = bytes (list_stays f v a e);
    body = omega (arith, shorter (list_stays f v a e), body_short);
  }
    where
      information : (b : Bool) → cond b e.information (mended_length f v a e) < 256 ^ 8
      information true = information_small
      information false = wanted_length_small

      object_size : (b : Bool) → cond b (number_at 8 block 64) (mended_length f v a e) < 256 ^ 8
      object_size true = number_fits 8 64 block block_bytes
      object_size false = wanted_length_small

      bytes : (b : Bool) → IsBytes (cond b e.body (cut_wanted f v a e))
      bytes true = body_bytes
      bytes false = cut_fits.bytes

      shorter : (b : Bool) → length (cond b e.body (cut_wanted f v a e)) ≤ length e.body
      shorter true = omega arith
      shorter false = cut_fits.shorter
