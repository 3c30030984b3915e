-- The list that is read after a cut is the cut list.
use Rattle.std.proofs.Common.{◌≡◌, ℕ, zero, suc, Bool, true, false, cond, ◌+◌, ◌*◌, ◌<◌, ◌≤◌, ◌==◌, ◌&&◌, ◌⊎◌, inl, inr, nat_le, length, drop, Option, Some, None, List, [], take, arith, sym, ◌∙◌, ap, refl, subst}
use Rattle.std.specs.Prelude.{is_some}
use Rattle.std.proofs.lemmas.Bool.Decides.{nat_tests}
use Rattle.udf_field.specs.declared.address.Addr.{Addr}
use Rattle.udf_model.specs.Bytes.{IsBytes, number_at}
use Rattle.udf_model.specs.Tag.{id_at, is_id}
use Rattle.udf_model.proofs.Parts.{take_is_bytes, drop_is_bytes}
use Rattle.udf_file_model.specs.Entry.{Entry, extent_body}
use Rattle.udf_file_model.specs.Descriptors.{Descriptor, descriptors}
use Rattle.udf_file_model.specs.Pieces.{Piece, pieces, further, IsAmong, size_of, bytes_in}
use Rattle.udf_file_model.specs.Front.{Rules, nothing_yet, good_front, is_good}
use Rattle.udf_file_model.specs.Listing.{Volume, with_disk, extent_at, body_at, descriptors_by, descriptors_in, descriptors_of, is_extent, rules_for, flat_for, list_for, is_good_for}
use Rattle.udf_file_model.specs.Cut.{cut_pieces, trim, onward, left_in, HasRoom, with_information}
use Rattle.udf_file_model.specs.CutBody.{cut_body, cut_body_by, cut_descriptors}
use Rattle.udf_file_model.specs.CutEntry.{cut_entry, extent_left, left_at, IsCut, AreBytes}
use Rattle.udf_file_model.proofs.Trimmed.{trimmed}
use Rattle.udf_file_model.proofs.Trimming.{flat_agree, pieces_nil}
use Rattle.udf_file_model.proofs.CutLaws.{good_all}
use Rattle.udf_file_model.proofs.CutReads.{cut_none}
use Rattle.udf_file_model.proofs.Once.{front_fits}
use Rattle.udf_file_model.proofs.Left.{by_left, left_trimmed, inside_fits, left_fits, CutReads, cut_is_read}
use Rattle.udf_file_model.proofs.Cutting.{body_cut, none_in_empty}

extent_is_bytes : (location : ℕ) (block body : List ℕ) → IsBytes block → extent_body location block ≡ Some body → IsBytes body
unfolding extent_body
extent_is_bytes location block body all e =
    choose (is_id 258 (id_at location block) && nat_le (24 + number_at 4 block 20) (length block)) e
  where
    no_some : None ≡ Some body → ⊥
    no_some e = cc

    same : (x : List ℕ) → Some x ≡ Some body → x ≡ body
    same x e = cc

    choose : (t : Bool) → cond t (Some (take (number_at 4 block 20) (drop 24 block))) None ≡ Some body → IsBytes body
    choose true e =
        subst IsBytes (same (take (number_at 4 block 20) (drop 24 block)) e) (take_is_bytes (number_at 4 block 20) (drop 24 block) (drop_is_bytes 24 block all))
    choose false e = absurd (no_some e)

some_test : (b : ℕ) → 0 < b → (b == 0) ≡ false
some_test b h = grind (arith, nat_tests)

cut_some : (b : ℕ) (ds : List Descriptor) → 0 < b → cut_descriptors b ds ≡ trim b ds
unfolding cut_descriptors
cut_some b ds h = ap (λ t. cond t [] (trim b ds)) (some_test b h)

module _ (v : Volume) (disk : ℕ → List ℕ) (a : Addr) (e : Entry) (b : ℕ) (size : 0 < v.size) (bytes : AreBytes v.disk) (own_bytes : IsBytes e.body)
    (listed : (e.kind == 3) ≡ false) (within : b ≤ size_of (list_for v a e)) (room : HasRoom (rules_for v a e) nothing_yet b (list_for v a e)) (cut : IsCut v disk a e b) where
  abbrev w : Volume
  w = with_disk v disk

  abbrev at : Addr → List Descriptor
  at = descriptors_in v e.kind

  abbrev n : ℕ
  n = 2 * v.blocks

  abbrev ds : List Descriptor
  ds = descriptors_of a e

  abbrev r : Rules
  r = rules_for v a e

  abbrev xs : List Piece
  xs = good_front r (is_extent v) nothing_yet (pieces (further at n) ds)

  same_list : list_for v a e ≡ xs
  unfolding list_for flat_for
  same_list = refl

  same_some : (kind : ℕ) (x : Addr) (left : Option ℕ) (found : Option (List ℕ)) → is_some (extent_left kind x left found) ≡ is_some found
  same_some kind x None found = refl
  same_some kind x (Some l) None = refl
  same_some kind x (Some l) (Some body) = refl

  among_list : (x : Addr) → IsAmong x (cut_pieces b xs) → IsAmong x (cut_pieces b (list_for v a e))
  among_list x i = let P : List Piece → Type 0 = λ l. IsAmong x (cut_pieces b l) in subst P (sym same_list) i

  extent_is : (x : Addr) → IsAmong x (cut_pieces b xs) → extent_at w x ≡ extent_left e.kind x (left_in at n b ds x) (extent_at v x)
  unfolding left_at
  extent_is x i = cut.extents x (among_list x i)

  within_list : b ≤ size_of xs
  within_list = let P : List Piece → Type 0 = λ l. b ≤ size_of l in subst P same_list within

  room_list : HasRoom r nothing_yet b xs
  room_list = let P : List Piece → Type 0 = λ l. HasRoom r nothing_yet b l in subst P same_list room

  module _ (some : 0 < b) where
    reads : CutReads r (is_extent w) at n b ds xs
    reads = cut_is_read r (is_extent v) sized (is_extent w) at n ds b some within_list room_list
        (λ x i. sym (ap is_some (extent_is x i) ∙ same_some e.kind x (left_in at n b ds x) (extent_at v x)))
      where
        sized : 0 < r.size
        sized = unfold rules_for in size

    flat_within : b ≤ size_of (pieces (further at n) ds)
    flat_within = omega (arith, within_list, front_fits r (is_extent v) sized (pieces (further at n) ds) nothing_yet)
      where
        sized : 0 < r.size
        sized = unfold rules_for in size

    body_is : descriptors e.kind a (cut_body e.kind a b e.body) ≡ trim b ds
    body_is =
        body_cut a b e.body own_bytes e.kind (λ o. inside_fits (further at n) ds b some flat_within o) ∙ cut_some b ds some

    extent_bytes : (x : Addr) (body : List ℕ) → extent_at v x ≡ Some body → IsBytes body
    unfolding extent_at
    extent_bytes x body h = by_place (v.place x) h
      where
        no_some : None ≡ Some body → ⊥
        no_some e = cc

        by_place : (p : Option ℕ) → body_at v.disk x.block p ≡ Some body → IsBytes body
        by_place None h = absurd (no_some h)
        by_place (Some s) h = extent_is_bytes x.block (v.disk s) body (bytes s) h

    -- what an extent has after the cut is what is trimmed of it
    extent_trimmed : (x : Addr) → IsAmong x (cut_pieces b xs) → descriptors_in w e.kind x ≡ trimmed at n b ds x
    unfolding descriptors_in
    extent_trimmed x i =
        ap (descriptors_by e.kind x) (extent_is x i)
        ∙ by_found (left_in at n b ds x) refl (extent_at v x) refl
        ∙ sym (left_trimmed at n b ds x)
      where
        by_found : (left : Option ℕ) → left_in at n b ds x ≡ left → (found : Option (List ℕ)) → extent_at v x ≡ found
            → descriptors_by e.kind x (extent_left e.kind x left found) ≡ by_left (descriptors_by e.kind x (extent_at v x)) left
        by_found None l found f = ap (descriptors_by e.kind x) (sym f)
        by_found (Some m) l None f = sym (ap (λ q. trim m (descriptors_by e.kind x q)) f ∙ unfold trim in refl)
        by_found (Some m) l (Some body) f =
            let fit = left_fits at n b ds x m some flat_within l in
            let here : descriptors_by e.kind x (extent_at v x) ≡ descriptors e.kind x body = ap (descriptors_by e.kind x) f in
            body_cut x m body (extent_bytes x body f) e.kind
            (λ o. let z : onward m (descriptors_by e.kind x (extent_at v x)) ≡ None = ap (onward m) here ∙ o in omega (arith, fit.within z, ap bytes_in here))
            ∙ cut_some m (descriptors e.kind x body) fit.some
            ∙ sym (ap (trim m) here)

    flat_is : pieces (further (descriptors_in w e.kind) n) (trim b ds) ≡ cut_pieces b xs
    flat_is =
        sym (flat_agree (trimmed at n b ds) (descriptors_in w e.kind) n (trim b ds)
        (λ x i. sym (extent_trimmed x (let P : List Piece → Type 0 = λ l. IsAmong x l in subst P reads.flat_is i))))
        ∙ reads.flat_is

    new_flat : flat_for w a (cut_entry a b e) ≡ cut_pieces b xs
    unfolding flat_for
    new_flat =
        ap (λ t. pieces (further (descriptors_in w e.kind) n) (descriptors e.kind a (cond t (take b e.body) (cut_body e.kind a b e.body)))) listed
        ∙ ap (pieces (further (descriptors_in w e.kind) n)) body_is ∙ flat_is

    new_good : is_good_for w a (cut_entry a b e) ≡ true
    unfolding is_good_for rules_for
    new_good = ap (is_good (with_information r b) (is_extent w) nothing_yet) new_flat ∙ reads.good

    new_front : list_for w a (cut_entry a b e) ≡ flat_for w a (cut_entry a b e)
    unfolding list_for rules_for
    new_front = good_all (with_information r b) (is_extent w) nothing_yet (flat_for w a (cut_entry a b e)) (unfold is_good_for rules_for in new_good)

    new_list : list_for w a (cut_entry a b e) ≡ cut_pieces b (list_for v a e)
    new_list = new_front ∙ new_flat ∙ ap (cut_pieces b) (sym same_list)

  -- where nothing is left the body is empty
  empty_body : b ≡ 0 → cut_body e.kind a b e.body ≡ []
  unfolding cut_body
  empty_body h = ap (λ t. cond t [] (cut_body_by e.kind b ds e.body (onward b ds))) (let z : (b == 0) ≡ true = grind (arith, nat_tests) in z)

  empty_flat : b ≡ 0 → flat_for w a (cut_entry a b e) ≡ []
  unfolding flat_for
  empty_flat h =
      ap (λ t. pieces (further (descriptors_in w e.kind) n) (descriptors e.kind a (cond t (take b e.body) (cut_body e.kind a b e.body)))) listed
      ∙ ap (λ body. pieces (further (descriptors_in w e.kind) n) (descriptors e.kind a body)) (empty_body h)
      ∙ ap (pieces (further (descriptors_in w e.kind) n)) (none_in_empty e.kind a) ∙ pieces_nil (further (descriptors_in w e.kind) n)

  either : (b ≡ 0) ⊎ (0 < b)
  either = zero_or b
    where
      zero_or : (m : ℕ) → (m ≡ 0) ⊎ (0 < m)
      zero_or zero = inl refl
      zero_or (suc m) = inr (omega arith)

  pub cut_list_is : list_for w a (cut_entry a b e) ≡ cut_pieces b (list_for v a e)
  cut_list_is = elim either [
    | inl h ↦ unfold list_for good_front in (ap (good_front (rules_for w a (cut_entry a b e)) (is_extent w) nothing_yet) (empty_flat h) ∙ sym (cut_none b (list_for v a e) h))
    | inr h ↦ new_list h
  ]

  pub cut_list_good : is_good_for w a (cut_entry a b e) ≡ true
  cut_list_good = elim either [
    | inl h ↦ unfold is_good_for is_good in ap (is_good (rules_for w a (cut_entry a b e)) (is_extent w) nothing_yet) (empty_flat h)
    | inr h ↦ new_good h
  ]
