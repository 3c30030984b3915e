-- What a list rests on: the block of its entry, and its allocation extents.
use Rattle.std.proofs.Common.{◌≡◌, ℕ, true, ◌*◌, List, [], sym, ◌∙◌, ap, refl, subst}
use Rattle.std.specs.Prelude.{is_some}
use Rattle.udf_field.specs.declared.address.Addr.{Addr}
use Rattle.udf_file_model.specs.Entry.{Entry}
use Rattle.udf_file_model.specs.Descriptors.{descriptors, descriptor_count, descriptors_from}
use Rattle.udf_file_model.specs.Pieces.{Piece, pieces, further, IsAmong}
use Rattle.udf_file_model.specs.Front.{nothing_yet, good_front, is_good}
use Rattle.udf_file_model.specs.Listing.{Volume, with_disk, extent_at, descriptors_by, descriptors_in, descriptors_of, is_extent, rules_for, flat_for, list_for, is_good_for}
use Rattle.udf_file_model.proofs.Trimming.{flat_agree}
use Rattle.udf_file_model.proofs.CutLaws.{good_all}
use Rattle.udf_file_model.proofs.CutReads.{whole_agree}

module _ (v : Volume) (disk : ℕ → List ℕ) (a : Addr) (e : Entry) (good : is_good_for v a e ≡ true)
    (same : (x : Addr) → IsAmong x (list_for v a e) → extent_at v x ≡ extent_at (with_disk v disk) x) where
  abbrev w : Volume
  w = with_disk v disk

  abbrev n : ℕ
  n = 2 * v.blocks

  abbrev whole_list : List Piece
  whole_list = pieces (further (descriptors_in v e.kind) n) (descriptors_of a e)

  all_good : is_good (rules_for v a e) (is_extent v) nothing_yet whole_list ≡ true
  unfolding is_good_for flat_for
  all_good = good

  all_listed : list_for v a e ≡ whole_list
  unfolding list_for flat_for
  all_listed = good_all (rules_for v a e) (is_extent v) nothing_yet whole_list all_good

  among : (x : Addr) → IsAmong x whole_list → extent_at v x ≡ extent_at w x
  among x i = same x (let P : List Piece → Type 0 = λ l. IsAmong x l in subst P (sym all_listed) i)

  flats : whole_list ≡ pieces (further (descriptors_in w e.kind) n) (descriptors_of a e)
  unfolding descriptors_in
  flats = flat_agree (descriptors_in v e.kind) (descriptors_in w e.kind) n (descriptors_of a e) (λ x i. ap (descriptors_by e.kind x) (among x i))

  moved : is_good (rules_for v a e) (is_extent w) nothing_yet (pieces (further (descriptors_in w e.kind) n) (descriptors_of a e)) ≡ true
  moved =
      ap (is_good (rules_for v a e) (is_extent w) nothing_yet) (sym flats)
      ∙ whole_agree (rules_for v a e) (is_extent v) (is_extent w) whole_list nothing_yet (λ x i. ap is_some (among x i)) all_good

  pub good_local : is_good_for w a e ≡ true
  unfolding is_good_for flat_for rules_for
  good_local = moved

  pub list_local : list_for w a e ≡ list_for v a e
  unfolding list_for flat_for rules_for
  list_local =
      good_all (rules_for v a e) (is_extent w) nothing_yet (pieces (further (descriptors_in w e.kind) n) (descriptors_of a e)) moved
      ∙ sym flats ∙ sym all_listed

-- an entry whose kind has no descriptors has no list
pub no_descriptors : (kind : ℕ) (holder : Addr) (body : List ℕ) → kind ≡ 3 → descriptors kind holder body ≡ []
unfolding descriptors descriptor_count descriptors_from
no_descriptors kind holder body e =
    let P : ℕ → Type 0 = λ k. descriptors k holder body ≡ [] in
    let here : P 3 = refl in
    subst P (sym e) here

pub list_embedded : (v : Volume) (a : Addr) (e : Entry) → e.kind ≡ 3 → list_for v a e ≡ []
unfolding list_for flat_for pieces good_front
list_embedded v a e h =
    ap (λ ds. good_front (rules_for v a e) (is_extent v) nothing_yet (pieces (further (descriptors_in v e.kind) (2 * v.blocks)) ds)) (no_descriptors e.kind a e.body h)

pub good_embedded : (v : Volume) (a : Addr) (e : Entry) → e.kind ≡ 3 → is_good_for v a e ≡ true
unfolding is_good_for flat_for pieces is_good
good_embedded v a e h =
    ap (λ ds. is_good (rules_for v a e) (is_extent v) nothing_yet (pieces (further (descriptors_in v e.kind) (2 * v.blocks)) ds)) (no_descriptors e.kind a e.body h)
