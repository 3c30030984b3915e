-- How a disk that has the mend of a kept entry reads there where the list is cut.
use Rattle.std.proofs.Common.{◌≡◌, ℕ, ◌*◌, ◌^◌, ◌<◌, ◌≤◌, Bool, true, false, cond, Option, Some, None, List, [], length, take, refl, sym, ap, ◌∙◌, subst, inl, inr, arith}
use Rattle.std.specs.Prelude.{◌==◌, is_some, min}
use Rattle.std.proofs.lemmas.Bool.Decides.{nat_tests}
use Rattle.std.proofs.lemmas.List.{length-take-le, take_all}
use Rattle.udf_field.specs.declared.address.Addr.{Addr}
use Rattle.udf_model.specs.Bytes.{IsBytes}
use Rattle.udf_file_model.specs.Content.{block_at, block_by, content, runs_bytes}
use Rattle.udf_file_model.specs.Cut.{HasRoom, cut_pieces, to_part}
use Rattle.udf_file_model.specs.CutBody.{cut_body}
use Rattle.udf_file_model.specs.CutEntry.{IsCut, cut_entry, extent_left, left_at}
use Rattle.udf_file_model.specs.Descriptors.{Descriptor, descriptors}
use Rattle.udf_file_model.specs.Entry.{Entry, extent_body, is_directory}
use Rattle.udf_file_model.specs.Front.{nothing_yet}
use Rattle.udf_file_model.specs.Listing.{Volume, body_at, descriptors_by, descriptors_in, descriptors_of, extent_at, flat_for, good_length, is_extent, is_good_for, list_for, rules_for, with_disk}
use Rattle.udf_file_model.specs.Pieces.{Piece, IsAmong, extents_of, further, pieces, runs_of, size_of}
use Rattle.udf_file_model.specs.Wanted.{Wanted, mended}
use Rattle.udf_file_model.proofs.CutList.{cut_list_good, cut_list_is}
use Rattle.udf_file_model.proofs.CutReads.{cut_none}
use Rattle.udf_file_model.proofs.Cutting.{cut_is_bytes, cut_shorter}
use Rattle.udf_file_model.proofs.Left.{FitsBody, left_fits}
use Rattle.udf_file_model.proofs.Local.{good_embedded, list_embedded}
use Rattle.udf_file_model.proofs.Once.{front_fits}
use Rattle.udf_tree_model.specs.Among.{Member}
use Rattle.udf_tree_model.specs.Claimed.{list_stays, mended_length, mended_list}
use Rattle.udf_tree_model.specs.Content.{mended_content}
use Rattle.udf_tree_model.specs.Frame.{Frame, capacity, content_to, setting_of, tree_of}
use Rattle.udf_tree_model.specs.Won.{kept_length}
use Rattle.udf_file_mends.specs.Mends.{extent_cut, mended_extent}
use Rattle.udf_file_mends.specs.Repairable.{IsMendOn}
use Rattle.udf_file_mends.specs.Wanted.{cut_wanted, wanted}
use Rattle.udf_file_mends.proofs.Behind.{extent_is_bytes, extent_reads}
use Rattle.udf_file_mends.proofs.Contents as contents
use Rattle.udf_file_mends.proofs.Disk as disks
use Rattle.udf_file_mends.proofs.Filled.{spread_reads}
use Rattle.udf_file_mends.proofs.Fitting as fitting
use Rattle.udf_file_mends.proofs.Held as held
use Rattle.udf_file_mends.proofs.Reach.{cut_capacity, cut_size}
use Rattle.udf_file_mends.proofs.Rereads as rereads
use Rattle.udf_file_mends.proofs.Rereads.{good_by_values, list_by_values, recorded_runs}
use Rattle.udf_file_mends.proofs.Sites.{extent_site, extents_among}

number_is : (m n : ℕ) → (m == n) ≡ true → m ≡ n
number_is m n t = grind (arith, nat_tests)

-- what is read of a placed extent is what its block has
placed_body : (v : Volume) (x : Addr) (n : ℕ) → v.place x ≡ Some n → extent_at v x ≡ extent_body x.block (block_at v x)
unfolding extent_at
placed_body v x n p = ap (body_at v.disk x.block) p ∙ sym (ap (λ o. extent_body x.block (block_by v.disk o)) p)

module _ (f : Frame) (v : Volume) (disk : ℕ → List ℕ) (a : Addr) (e : Entry) (m : IsMendOn f v disk a e) (cut : list_stays f v a e ≡ false) where
  abbrev pub other : Volume
  other = with_disk v disk

  abbrev pub want : Wanted
  want = wanted f v a e (block_at v a)

  abbrev pub new : Entry
  new = mended (wanted f v a e (block_at v a)) e

  abbrev pub left : List Piece
  left = mended_list f v a e

  abbrev pub b : ℕ
  b = mended_length f v a e

  abbrev pub xs : List Piece
  xs = list_for v a e

  some : 0 < v.size
  some = held.some f v m.repairable a e m.kept m.entry

  own_bytes : IsBytes e.body
  own_bytes = rereads.body_bytes f v disk a e m

  pub cut_left : left ≡ cut_pieces b xs
  unfolding mended_list
  cut_left = ap (λ t. cond t xs (cut_pieces b xs)) cut

  pub new_information : want.information ≡ b
  unfolding wanted
  new_information = ap (λ t. cond t e.information b) cut

  pub new_body : want.body ≡ cut_wanted f v a e
  unfolding wanted
  new_body = ap (λ t. cond t e.body (cut_wanted f v a e)) cut

  directory_length : is_directory e ≡ true → b ≡ length (mended_content f v a)
  unfolding mended_length
  directory_length h = ap (λ t. cond t (length (mended_content f v a)) (min e.information (kept_length (setting_of f v) (tree_of f v) a))) h

  pub file_length : is_directory e ≡ false → b ≤ e.information
  unfolding mended_length
  file_length h =
      let k : b ≡ min e.information (kept_length (setting_of f v) (tree_of f v) a) = ap (λ t. cond t (length (mended_content f v a)) (min e.information (kept_length (setting_of f v) (tree_of f v) a))) h in
      omega (arith, k)

  -- ---- of an embedded entry
  module _ (embedded : (e.kind == 3) ≡ true) where
    three : e.kind ≡ 3
    three = number_is e.kind 3 embedded

    embedded_list : list_for other a new ≡ left
    unfolding cut_pieces
    embedded_list = list_embedded other a new three ∙ sym (ap (cut_pieces b) (list_embedded v a e three)) ∙ sym cut_left

    embedded_body : is_directory e ≡ true → want.body ≡ mended_content f v a
    unfolding cut_wanted
    embedded_body h =
        new_body
        ∙ ap (λ t. cond t (cond (is_directory e) (mended_content f v a) (take b e.body)) (cut_body e.kind a b e.body)) embedded
        ∙ ap (λ t. cond t (mended_content f v a) (take b e.body)) h

    embedded_good_length : is_directory e ≡ true → good_length other a new ≡ length (mended_content f v a)
    unfolding good_length
    embedded_good_length h = ap (λ t. cond t (length want.body) (size_of (list_for other a new))) embedded ∙ ap length (embedded_body h)

    embedded_content : is_directory e ≡ true → content_to other new left (good_length other a new) ≡ mended_content f v a
    unfolding content_to content
    embedded_content h =
        ap (λ t. cond t (take (min (good_length other a new) want.information) (cond (e.kind == 3) want.body (runs_bytes other (runs_of left)))) []) h
        ∙ ap (λ t. take (min (good_length other a new) want.information) (cond t want.body (runs_bytes other (runs_of left)))) embedded
        ∙ ap (λ l. take (min (good_length other a new) want.information) l) (embedded_body h)
        ∙ take_all (min (good_length other a new) want.information) (mended_content f v a) (omega (arith, embedded_good_length h, new_information, directory_length h))

    embedded_capacity : is_directory e ≡ true → capacity v.size new left ≡ length (mended_content f v a)
    unfolding capacity
    embedded_capacity h = ap (λ t. cond t (length want.body) (to_part v.size left)) embedded ∙ ap length (embedded_body h)

  -- ---- of an entry with a list
  module _ (plain : (e.kind == 3) ≡ false) where
    pub within : b ≤ size_of xs
    within = omega (arith, fitting.length_good f v m.repairable a e m.kept m.entry, fitting.listed_length f v m.repairable a e m.kept m.entry plain)

    plain_body : want.body ≡ cut_body e.kind a b e.body
    unfolding cut_wanted
    plain_body = new_body ∙ ap (λ t. cond t (cond (is_directory e) (mended_content f v a) (take b e.body)) (cut_body e.kind a b e.body)) plain

    cut_entry_body : want.body ≡ (cut_entry a b e).body
    cut_entry_body = plain_body ∙ sym (ap (λ t. cond t (take b e.body) (cut_body e.kind a b e.body)) plain)

    part_room : is_directory e ≡ true → b ≤ to_part v.size xs
    part_room h =
        omega (
          arith,
          directory_length h,
          (contents.is_mended_content f v m.repairable a e m.kept m.entry h).fits,
          capacity_is,
        )
      where
        capacity_is : capacity v.size e xs ≡ to_part v.size xs
        capacity_is = unfold capacity in ap (λ t. cond t (length e.body) (to_part v.size xs)) plain

    room : HasRoom (rules_for v a e) nothing_yet b xs
    unfolding rules_for
    room = by (is_directory e) refl
      where
        by : (t : Bool) → is_directory e ≡ t → HasRoom (rules_for v a e) nothing_yet b xs
        by true h = inr (refl, part_room h)
        by false h = inl (omega (arith, file_length h))

    flat_within : b ≤ size_of (pieces (further (descriptors_in v e.kind) (2 * v.blocks)) (descriptors_of a e))
    unfolding list_for flat_for rules_for
    flat_within =
        omega (
          arith,
          within,
          front_fits (rules_for v a e) (is_extent v) some (pieces (further (descriptors_in v e.kind) (2 * v.blocks)) (descriptors_of a e)) nothing_yet,
        )

    -- an allocation extent of the cut list
    pub record ExtentThere (x : Addr) : Type 0 where
      pub sector : ℕ
      pub place : v.place x ≡ Some sector
      pub member : Member x (extents_of left)
      pub bytes : IsBytes (block_at v x)
      pub size : length (block_at v x) ≡ v.size
      pub most : length (block_at v x) ≤ 4096
      pub low : x.block < 2 ^ 32
      pub fits : (l : ℕ) → left_at v a e b x ≡ Some l → FitsBody l (descriptors_in v e.kind x)

    pub extent_there : (x : Addr) → IsAmong x (cut_pieces b xs) → ExtentThere x
    unfolding left_at
    extent_there x i =
        let among : IsAmong x left = (let P : List Piece → Type 0 = λ l. IsAmong x l in subst P (sym cut_left) i) in
        let member = extents_among left x among in
        let n = disks.there f v disk a e m x (extent_site v.size left x member) in
        let there = held.block_there v x n.0 n.1 in
        let size = ap length there ∙ m.repairable.whole x n.0 n.1 in
        let P : List ℕ → Type 0 = λ k. IsBytes k in
        record {
          sector = n.0;
          place = n.1;
          member = member;
          bytes = subst P (sym there) (m.repairable.bytes n.0);
          size = size;
          most = omega (arith, size, (held.sizes f v m.repairable a e m.kept m.entry).1);
          low = (held.address_fits x (m.repairable.low x (ap is_some n.1))).1;
          fits = λ l q. left_fits (descriptors_in v e.kind) (2 * v.blocks) b (descriptors_of a e) x l some_left flat_within q;
        }
      where
        some_left : 0 < b
        some_left = by (b == 0) refl
          where
            positive : (b == 0) ≡ false → 0 < b
            positive t = grind (arith, nat_tests)

            by : (t : Bool) → (b == 0) ≡ t → 0 < b
            by true t = absurd (let P : List Piece → Type 0 = λ l. IsAmong x l in subst P (cut_none b xs (number_is b 0 t)) i)
            by false t = positive t

    -- what is left of its body
    pub record BodyLeft (x : Addr) (l : ℕ) (body : List ℕ) : Type 0 where
      pub bytes : IsBytes (cut_body e.kind x l body)
      pub shorter : length (cut_body e.kind x l body) ≤ length body

    pub body_left : (x : Addr) → ExtentThere x → (l : ℕ) → left_at v a e b x ≡ Some l → (body : List ℕ) → extent_body x.block (block_at v x) ≡ Some body → BodyLeft x l body
    unfolding descriptors_in
    body_left x r l q body h =
        let bytes = extent_is_bytes x.block (block_at v x) body r.bytes h in
        let here : descriptors_in v e.kind x ≡ descriptors e.kind x body = ap (descriptors_by e.kind x) (placed_body v x r.sector r.place ∙ h) in
        let P : List Descriptor → Type 0 = λ ds. FitsBody l ds in
        let fit = subst P here (r.fits l q) in
        record { bytes = cut_is_bytes x l body bytes e.kind; shorter = cut_shorter x l body bytes e.kind fit.within }

    extent_is : (x : Addr) → IsAmong x (cut_pieces b xs) → extent_at other x ≡ extent_left e.kind x (left_at v a e b x) (extent_at v x)
    extent_is x i =
        placed_body other x r.sector r.place
        ∙ ap (extent_body x.block) (disks.extent_block f v disk a e m cut x r.member)
        ∙ by_left (left_at v a e b x) refl
        ∙ sym (ap (extent_left e.kind x (left_at v a e b x)) (placed_body v x r.sector r.place))
      where
        r : ExtentThere x
        r = extent_there x i

        by_body : (l : ℕ) → left_at v a e b x ≡ Some l → (o : Option (List ℕ)) → extent_body x.block (block_at v x) ≡ o
            → extent_body x.block (extent_cut e.kind x l (block_at v x) (extent_body x.block (block_at v x))) ≡ extent_left e.kind x (Some l) (extent_body x.block (block_at v x))
        by_body l q None h = ap (λ o. extent_body x.block (extent_cut e.kind x l (block_at v x) o)) h ∙ h ∙ sym (ap (extent_left e.kind x (Some l)) h)
        by_body l q (Some body) h =
            let k = body_left x r l q body h in
            extent_reads e.kind x l (block_at v x) body r.bytes r.most r.low h k.bytes k.shorter ∙ sym (ap (extent_left e.kind x (Some l)) h)

        by_left : (q : Option ℕ) → left_at v a e b x ≡ q
            → extent_body x.block (mended_extent e.kind x (block_at v x) (left_at v a e b x)) ≡ extent_left e.kind x (left_at v a e b x) (extent_body x.block (block_at v x))
        by_left None h =
            ap (λ q. extent_body x.block (mended_extent e.kind x (block_at v x) q)) h ∙ sym (ap (λ q. extent_left e.kind x q (extent_body x.block (block_at v x))) h)
        by_left (Some l) h =
            ap (λ q. extent_body x.block (mended_extent e.kind x (block_at v x) q)) h
            ∙ by_body l h (extent_body x.block (block_at v x)) refl
            ∙ sym (ap (λ q. extent_left e.kind x q (extent_body x.block (block_at v x))) h)

    is_cut : IsCut v disk a e b
    is_cut = record { extents = extent_is }

    plain_list : list_for other a new ≡ left
    plain_list =
        list_by_values other a (cut_entry a b e) want cut_entry_body new_information
        ∙ cut_list_is v disk a e b some m.repairable.bytes own_bytes plain within room is_cut
        ∙ sym cut_left

    plain_good : is_good_for other a new ≡ true
    plain_good =
        good_by_values other a (cut_entry a b e) want cut_entry_body new_information
        ∙ cut_list_good v disk a e b some m.repairable.bytes own_bytes plain within room is_cut

    left_size : size_of left ≡ b
    left_size = ap size_of cut_left ∙ cut_size xs b within

    plain_length : good_length other a new ≡ b
    unfolding good_length
    plain_length = ap (λ t. cond t (length want.body) (size_of (list_for other a new))) plain ∙ ap size_of plain_list ∙ left_size

    module _ (directory : is_directory e ≡ true) where
      written : runs_bytes other (runs_of left) ≡ mended_content f v a
      written =
          spread_reads v disk some (runs_of left) (mended_content f v a)
          (recorded_runs v disk some left (disks.left_recorded f v m.repairable a e m.kept m.entry directory))
          (left_size ∙ directory_length directory)
          (disks.data_block f v disk a e m cut directory)
          (disks.data_whole f v disk a e m cut directory)

      plain_content : content_to other new left (good_length other a new) ≡ mended_content f v a
      unfolding content_to content
      plain_content =
          ap (λ t. cond t (take (min (good_length other a new) want.information) (cond (e.kind == 3) want.body (runs_bytes other (runs_of left)))) []) directory
          ∙ ap (λ t. take (min (good_length other a new) want.information) (cond t want.body (runs_bytes other (runs_of left)))) plain
          ∙ ap (λ l. take (min (good_length other a new) want.information) l) written
          ∙ take_all (min (good_length other a new) want.information) (mended_content f v a) (omega (arith, plain_length, new_information, directory_length directory))

      plain_capacity : length (mended_content f v a) ≤ capacity v.size new left
      unfolding capacity
      plain_capacity =
          let part : b ≤ to_part v.size left = (let P : List Piece → Type 0 = λ l. b ≤ to_part v.size l in subst P (sym cut_left) (cut_capacity v.size xs b (part_room directory))) in
          let is : cond (e.kind == 3) (length want.body) (to_part v.size left) ≡ to_part v.size left = ap (λ t. cond t (length want.body) (to_part v.size left)) plain in
          omega (arith, part, is, directory_length directory)

  -- ---- of each
  pub cut_reads : list_for other a new ≡ left
  cut_reads = by (e.kind == 3) refl
    where
      by : (t : Bool) → (e.kind == 3) ≡ t → list_for other a new ≡ left
      by true h = embedded_list h
      by false h = plain_list h

  pub cut_good : is_good_for other a new ≡ true
  cut_good = by (e.kind == 3) refl
    where
      by : (t : Bool) → (e.kind == 3) ≡ t → is_good_for other a new ≡ true
      by true h = good_embedded other a new (number_is e.kind 3 h)
      by false h = plain_good h

  pub file_wanted : (e.kind == 3) ≡ true → is_directory e ≡ false → cut_wanted f v a e ≡ take b e.body
  unfolding cut_wanted
  file_wanted h k =
      ap (λ t. cond t (cond (is_directory e) (mended_content f v a) (take b e.body)) (cut_body e.kind a b e.body)) h
      ∙ ap (λ t. cond t (mended_content f v a) (take b e.body)) k

  -- the information length is no more than the list has
  pub cut_length : new.information ≤ good_length other a new
  cut_length = by (e.kind == 3) refl (is_directory e) refl
    where
      file_body : (e.kind == 3) ≡ true → is_directory e ≡ false → length want.body ≡ b
      file_body h k =
          ap length (new_body ∙ file_wanted h k)
          ∙ length-take-le b e.body (omega (arith, fitting.length_good f v m.repairable a e m.kept m.entry, fitting.embedded_length f v m.repairable a e m.kept m.entry h))

      embedded_good : (e.kind == 3) ≡ true → good_length other a new ≡ length want.body
      embedded_good h = unfold good_length in ap (λ t. cond t (length want.body) (size_of (list_for other a new))) h

      by : (t : Bool) → (e.kind == 3) ≡ t → (d : Bool) → is_directory e ≡ d → new.information ≤ good_length other a new
      by true h true k = omega (arith, new_information, embedded_good_length h k, directory_length k)
      by true h false k = omega (arith, new_information, embedded_good h, file_body h k)
      by false h d k = omega (arith, new_information, plain_length h)

  -- what a directory holds
  pub record HoldsContent : Type 0 where
    pub reads : content_to (with_disk v disk) (mended (wanted f v a e (block_at v a)) e) (mended_list f v a e) (good_length (with_disk v disk) a (mended (wanted f v a e (block_at v a)) e)) ≡ mended_content f v a
    pub enough : length (mended_content f v a) ≤ good_length (with_disk v disk) a (mended (wanted f v a e (block_at v a)) e)
    pub capacity_enough : length (mended_content f v a) ≤ capacity v.size (mended (wanted f v a e (block_at v a)) e) (mended_list f v a e)

  pub cut_content : is_directory e ≡ true → HoldsContent
  cut_content directory = by (e.kind == 3) refl
    where
      by : (t : Bool) → (e.kind == 3) ≡ t → HoldsContent
      by true h = record { reads = embedded_content h directory; enough = omega (arith, embedded_good_length h directory); capacity_enough = omega (arith, embedded_capacity h directory) }
      by false h = record { reads = plain_content h directory; enough = omega (arith, plain_length h, directory_length directory); capacity_enough = plain_capacity h directory }
