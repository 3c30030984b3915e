-- The parent FID of a mended content: whole, of bytes, and as long as the one that stood there.
use Rattle.std.proofs.Common.{◌≡◌, ℕ, ◌≤◌, ◌&&◌, Bool, true, false, cond, Option, Some, None, List, [], ◌∷◌, ◌++◌, length, replicate, refl, sym, ap, ◌∙◌, subst, inl, inr, arith, length-append, length-drop}
use Rattle.std.specs.Prelude.{find, is_some, slice_index}
use Rattle.std.proofs.lemmas.Bool.{or_left}
use Rattle.std.proofs.lemmas.List.Elements.{All-contains}
use Rattle.udf_field.specs.declared.address.Addr.{Addr}
use Rattle.udf_model.specs.Bytes.{IsBytes, with_number}
use Rattle.udf_model.specs.Tag.{crc_length, location, retagged}
use Rattle.udf_model.proofs.Retagged.{retagged_length}
use Rattle.udf_model.proofs.Written.{number_length}
use Rattle.udf_file_model.specs.Address.{same_addr}
use Rattle.udf_file_model.specs.Anew.{named_anew, readdressed}
use Rattle.udf_file_model.specs.Content.{block_at}
use Rattle.udf_file_model.specs.Entry.{Entry}
use Rattle.udf_file_model.specs.Fid.{is_parent}
use Rattle.udf_file_model.specs.Listing.{Volume}
use Rattle.udf_file_model.specs.Scan.{Placed, fids, fids_of}
use Rattle.udf_file_model.proofs.Fids.{is_long}
use Rattle.udf_file_model.proofs.Greedy.{Stands, is_scan}
use Rattle.udf_tree_model.specs.Among.{Member}
use Rattle.udf_tree_model.specs.Chosen.{Rank}
use Rattle.udf_tree_model.specs.Content.{content_location, fresh_parent, kept_content, kept_fids, parent_fid, parent_fid_by}
use Rattle.udf_tree_model.specs.Frame.{Frame, entry_at, fresh_parent_length, is_start, parent_length, setting_of, tree_of}
use Rattle.udf_tree_model.specs.Node.{Setting, Tree, readable}
use Rattle.udf_tree_model.specs.Ordinary.{is_kept_entry}
use Rattle.udf_tree_model.specs.Parent.{keeping, keeping_rank, parent, parent_by}
use Rattle.udf_tree_model.proofs.Finding.{found_readable}
use Rattle.udf_tree_model.proofs.Keeping.{kept_found, kept_start}
use Rattle.udf_tree_model.proofs.Members.{contains_of}
use Rattle.udf_tree_model.proofs.Parents.{keeping_by}
use Rattle.udf_tree_model.proofs.Places.{address_same, readable_placed}
use Rattle.udf_file_mends.specs.Repairable.{IsRepairable}
use Rattle.udf_file_mends.proofs.Held as held
use Rattle.udf_file_mends.proofs.Wholeness.{FitsFields, IsParentFid, fid_of_bytes, fresh_names, kept_is_bytes, named_parent}

-- ---- the first parent FID
pub member_fid : (ps : List Placed) (fid : List ℕ) → Member fid (fids_of ps) → (p : Placed) × Member p ps × (p.1 ≡ fid)
member_fid [] fid m = absurd m
member_fid (p ∷ ps) fid (inl e) = (p, inl refl, sym e)
member_fid (p ∷ ps) fid (inr m) = let r = member_fid ps fid m in (r.0, inr r.1, r.2)

-- a FID of a content is no longer than that
pub fid_within : (size : ℕ) (content fid : List ℕ) → Member fid (fids_of (fids size content)) → length fid ≤ length content
fid_within size content fid m =
    let r = member_fid (fids size content) fid m in
    let b = (All-contains (Stands size content) (fids size content) r.0 (is_scan size content).whole (contains_of (fids size content) r.0 r.1)).1 in
    omega (arith, ap length b.split, length-append r.0.1 b.rest, length-drop r.0.0 content, ap length r.2)

found_parent : (list : List (List ℕ)) (fid : List ℕ) → find is_parent list ≡ Some fid → Member fid list × (is_parent fid ≡ true)
found_parent [] fid e = cc
found_parent (x ∷ xs) fid e = by (is_parent x) refl e (λ k. found_parent xs fid k)
  where
    some_same : (y : List ℕ) → Some y ≡ Some fid → y ≡ fid
    some_same y k = cc

    by : (b : Bool) → is_parent x ≡ b → cond b (Some x) (find is_parent xs) ≡ Some fid → (find is_parent xs ≡ Some fid → Member fid xs × (is_parent fid ≡ true))
        → Member fid (x ∷ xs) × (is_parent fid ≡ true)
    by true h k on = let same = some_same x k in (inl (sym same), sym (ap is_parent same) ∙ h)
    by false h k on = let r = on k in (inr r.0, r.1)

abbrev length_by : Option (List ℕ) → ℕ
length_by None = fresh_parent_length
length_by (Some fid) = length fid

parent_length_is : (list : List (List ℕ)) → parent_length list ≡ length_by (find is_parent list)
unfolding parent_length
parent_length_is [] = refl
parent_length_is (x ∷ xs) = by (is_parent x) (parent_length_is xs)
  where
    by : (b : Bool) → parent_length xs ≡ length_by (find is_parent xs) → cond b (length x) (parent_length xs) ≡ length_by (cond b (Some x) (find is_parent xs))
    by true e = refl
    by false e = e

named_length : (at : Addr) (fid : List ℕ) → 40 ≤ length fid → length (named_anew at fid) ≡ length fid
unfolding named_anew
named_length at fid l =
    let block = number_length 4 24 at.block fid (omega (arith, l)) in
    let part = number_length 2 28 at.part (with_number 4 24 at.block fid) (omega (arith, l, block)) in
    retagged_length (location fid) (crc_length fid) (readdressed at fid) (omega (arith, l, block, part)) ∙ part ∙ block

module _ (f : Frame) (v : Volume) (ok : IsRepairable f v) (a : Addr) (e : Entry) (kept_there : is_kept_entry f v a ≡ true) (reads : entry_at v a ≡ Some e) where
  abbrev s : Setting
  s = setting_of f v

  abbrev t : Tree
  t = tree_of f v

  kept_fits : (d : Addr) → readable t d ≡ true → FitsFields d
  kept_fits d r = let k = held.address_fits d (readable_placed f v d r).0 in record { part = k.0; block = k.1 }

  root_fits : FitsFields f.root
  root_fits =
      kept_fits f.root
      (found_readable s t (held.within f v ok a e kept_there reads) f.root
      (kept_found s t (held.within f v ok a e kept_there reads) (held.starts f v ok a e kept_there reads) f.root
      (kept_start s t (held.within f v ok a e kept_there reads) (held.starts f v ok a e kept_there reads) f.root is_root)))
    where
      is_root : s.start f.root ≡ true
      is_root = unfold setting_of is_start in or_left (same_addr f.root f.root) (is_some f.system && same_addr f.root f.file_set) (address_same f.root f.root refl)

  -- the parent of a kept entry fits the fields of a FID
  pub parent_fits : FitsFields (parent f v a)
  unfolding parent keeping_rank
  parent_fits = by_root (same_addr a f.root)
    where
      holder : (x : Rank) → keeping s t a ≡ Some x → FitsFields x.holder
      holder x k =
          let r = keeping_by s t a x k in
          let d = kept_fits r.0 (found_readable s t (held.within f v ok a e kept_there reads) r.0
          (kept_found s t (held.within f v ok a e kept_there reads) (held.starts f v ok a e kept_there reads) r.0 r.2.holder)) in
          subst (λ (z : Addr). FitsFields z) (sym (ap (λ (z : Rank). z.holder) r.3)) d

      by_file_set : (x : Rank) → keeping s t a ≡ Some x → (b : Bool) → FitsFields (cond b f.root x.holder)
      by_file_set x k true = root_fits
      by_file_set x k false = holder x k

      by_rank : (o : Option Rank) → keeping s t a ≡ o → FitsFields (parent_by f o)
      by_rank None k = root_fits
      by_rank (Some x) k = by_file_set x k (same_addr x.holder f.file_set)

      by_root : (b : Bool) → FitsFields (cond b f.root (parent_by f (keeping s t a)))
      by_root true = root_fits
      by_root false = by_rank (keeping s t a) refl

  abbrev content : List ℕ
  content = kept_content f v a

  content_bytes : IsBytes content
  content_bytes = kept_is_bytes v ok.bytes f a

  -- the parent FID names the parent
  pub parent_is : IsParentFid v.size (parent_fid f v a) (parent f v a)
  unfolding parent_fid
  parent_is = by (find is_parent (kept_fids f v a)) refl
    where
      by : (o : Option (List ℕ)) → find is_parent (kept_fids f v a) ≡ o → IsParentFid v.size (parent_fid_by f v a o) (parent f v a)
      by None k =
          fresh_names v.size (content_location v a (entry_at v a)) (block_at v a) (omega (arith, (held.sizes f v ok a e kept_there reads).0)) (held.has_entry f v ok a e kept_there reads).bytes
          (parent f v a) parent_fits
      by (Some fid) k =
          let r = found_parent (kept_fids f v a) fid k in
          named_parent v.size fid (parent f v a) (fid_of_bytes v.size content fid content_bytes r.0) parent_fits r.1

  sized_form : ℕ → List ℕ → List ℕ
  sized_form size entry =
      with_number 4 20 size (
      (1 ∷ 1 ∷ slice_index entry 2 ∷ slice_index entry 3 ∷ 0 ∷ 0 ∷ slice_index entry 6 ∷ slice_index entry 7 ∷ replicate 8 0)
      ++ (1 ∷ 0 ∷ 10 ∷ 0 ∷ replicate 20 0))

  sized_length : (size : ℕ) (entry : List ℕ) → length (sized_form size entry) ≡ 40
  unfolding sized_form
  sized_length size entry =
      number_length 4 20 size
      ((1 ∷ 1 ∷ slice_index entry 2 ∷ slice_index entry 3 ∷ 0 ∷ 0 ∷ slice_index entry 6 ∷ slice_index entry 7 ∷ replicate 8 0)
      ++ (1 ∷ 0 ∷ 10 ∷ 0 ∷ replicate 20 0))
      (omega arith)

  fresh_length : (size : ℕ) (entry : List ℕ) (place : ℕ) (at : Addr) → length (fresh_parent size entry place at) ≡ 40
  unfolding fresh_parent sized_form
  fresh_length size entry place at =
      let long : length (retagged place 24 (sized_form size entry)) ≡ length (sized_form size entry) = retagged_length place 24 (sized_form size entry) (omega (arith, sized_length size entry)) in
      named_length at (retagged place 24 (sized_form size entry)) (omega (arith, sized_length size entry, long)) ∙ long ∙ sized_length size entry

  -- its length is that of the first parent FID, or of a fresh one
  pub parent_long : length (parent_fid f v a) ≡ parent_length (kept_fids f v a)
  unfolding parent_fid
  parent_long = by (find is_parent (kept_fids f v a)) refl ∙ sym (parent_length_is (kept_fids f v a))
    where
      by : (o : Option (List ℕ)) → find is_parent (kept_fids f v a) ≡ o → length (parent_fid_by f v a o) ≡ length_by o
      by None k = fresh_length v.size (block_at v a) (content_location v a (entry_at v a)) (parent f v a)
      by (Some fid) k =
          let r = found_parent (kept_fids f v a) fid k in
          named_length (parent f v a) fid (is_long v.size fid (fid_of_bytes v.size content fid content_bytes r.0).is)

  -- a content that is long enough has room for it
  pub parent_within : 40 ≤ length content → parent_length (kept_fids f v a) ≤ length content
  parent_within l = by (find is_parent (kept_fids f v a)) refl
    where
      by : (o : Option (List ℕ)) → find is_parent (kept_fids f v a) ≡ o → parent_length (kept_fids f v a) ≤ length content
      by None k = omega (arith, l, parent_length_is (kept_fids f v a), ap length_by k)
      by (Some fid) k =
          omega (arith, parent_length_is (kept_fids f v a), ap length_by k, fid_within v.size content fid (found_parent (kept_fids f v a) fid k).0)
