-- The blocks that mends make are of bytes, and of the size of a block.
use Rattle.std.proofs.Common.{◌≡◌, ◌⊎◌, ℕ, zero, suc, ◌+◌, Bool, true, false, cond, Option, Some, None, List, [], ◌∷◌, map, length, take, drop, refl, sym, ap, ◌∙◌, subst, inl, inr, arith, length-take}
use Rattle.std.specs.Prelude.{◌==◌}
use Rattle.std.specs.List.{flat_map}
use Rattle.std.specs.Str.{bytes_eq}
use Rattle.std.proofs.lemmas.Bool.Decides.{nat_tests}
use Rattle.udf_field.specs.declared.address.Addr.{Addr}
use Rattle.udf_model.specs.Bytes.{IsBytes, with_number, written_at}
use Rattle.udf_model.proofs.Parts.{drop_is_bytes, take_is_bytes}
use Rattle.udf_model.proofs.Retagged.{retagged_is_bytes}
use Rattle.udf_model.proofs.Written.{number_is_bytes, written_is_bytes, written_length}
use Rattle.udf_file_model.specs.Address.{addr}
use Rattle.udf_file_model.specs.Content.{block_at}
use Rattle.udf_file_model.specs.CutBody.{cut_body, extent_with}
use Rattle.udf_file_model.specs.CutEntry.{AreBytes, left_at}
use Rattle.udf_file_model.specs.Descriptors.{Descriptor}
use Rattle.udf_file_model.specs.Entry.{Entry, extent_body, is_directory}
use Rattle.udf_file_model.specs.Front.{blocks_for}
use Rattle.udf_file_model.specs.Listing.{Volume, list_for}
use Rattle.udf_file_model.specs.Pieces.{Piece, IsAmong, extents_of, runs_of}
use Rattle.udf_file_model.specs.Wanted.{Fits, HasEntry, Wanted, body_with, entry_with}
use Rattle.udf_file_model.specs.Cut.{cut_pieces}
use Rattle.udf_file_model.proofs.Back.{new_is_bytes, new_length, opened}
use Rattle.udf_file_model.proofs.Extents.{extent_opened, new_extent_length}
use Rattle.udf_file_model.proofs.Local.{list_embedded}
use Rattle.udf_volume_model.specs.Edits.{look}
use Rattle.udf_tree_model.specs.Among.{Member}
use Rattle.udf_tree_model.specs.Claimed.{list_stays, mended_length, mended_list}
use Rattle.udf_tree_model.specs.Content.{mended_content}
use Rattle.udf_tree_model.specs.Frame.{Frame}
use Rattle.udf_tree_model.specs.Ordinary.{kept_entries}
use Rattle.udf_tree_model.proofs.Members.{member_append, member_left, member_of_map, member_right}
use Rattle.udf_file_mends.specs.Mends.{edit_by, edits_at, edits_of, extent_cut, file_edits, mend_by, mend_of, mended_blocks, mended_disk, mended_entry, mended_extent, sited_entry, sited_extent}
use Rattle.udf_file_mends.specs.Repairable.{IsMendOn, IsRepairable}
use Rattle.udf_file_mends.specs.Spread.{Sited, spread, spread_from}
use Rattle.udf_file_mends.specs.Wanted.{wanted}
use Rattle.udf_file_mends.proofs.Contents as contents
use Rattle.udf_file_mends.proofs.Cuts as cuts
use Rattle.udf_file_mends.proofs.Disk as disks
use Rattle.udf_file_mends.proofs.Fitting as fitting
use Rattle.udf_file_mends.proofs.Held as held
use Rattle.udf_file_mends.proofs.Joined.{has_entry, unlisted}
use Rattle.udf_file_mends.proofs.Sites.{among_extents}
use Rattle.udf_file_mends.proofs.Wholeness.{block_is_bytes}

-- a block of bytes with the size of a block
pub record IsWhole (size : ℕ) (block : List ℕ) : Type 0 where
  pub bytes : IsBytes block
  pub long : length block ≡ size

abbrev pub AreWhole : ℕ → List Sited → Type 0
AreWhole size bs = (c : Sited) → Member c bs → IsWhole size c.1

-- ---- the entry's own block
entry_whole : (at header : ℕ) (w : Wanted) (block : List ℕ) → HasEntry at header block → Fits header w block → (size : ℕ) → length block ≡ size → IsWhole size (mended_entry at header w block)
unfolding mended_entry
entry_whole at header w block h fit size l = by (bytes_eq (drop 16 (body_with header w block)) (drop 16 block))
  where
    by : (t : Bool) → IsWhole size (cond t block (entry_with at header w block))
    by true = record { bytes = h.bytes; long = l }
    by false = record {
      bytes = new_is_bytes at header w block h.bytes (omega (arith, h.least)) h.most h.low (opened at header block h.readable) fit;
      long = new_length at header w block h.bytes (omega (arith, h.least)) h.most h.low (opened at header block h.readable) fit ∙ l;
    }

-- ---- an allocation extent
extent_with_bytes : (at : ℕ) (body block : List ℕ) → IsBytes body → IsBytes block → IsBytes (extent_with at body block)
unfolding extent_with
extent_with_bytes at body block b k =
    retagged_is_bytes at (8 + length body) (written_at 24 body (with_number 4 20 (length body) block)) (written_is_bytes 24 body (with_number 4 20 (length body) block) b (number_is_bytes 4 20 (length body) block k))

-- ---- the blocks of a content
over_block : (size : ℕ) (bytes block : List ℕ) → IsBytes bytes → IsBytes block → length block ≡ size → IsWhole size (written_at 0 (take size bytes) block)
over_block size bytes block b k l = record {
  bytes = written_is_bytes 0 (take size bytes) block (take_is_bytes size bytes b) k;
  long = written_length 0 (take size bytes) block (omega (arith, length-take size bytes, l)) ∙ l;
}

module _ (v : Volume) (bytes : AreBytes v.disk) where
  -- the blocks that stand at these addresses are whole
  abbrev Stand : List Sited → Type 0
  Stand bs = (c : Sited) → Member c bs → length (block_at v c.0) ≡ v.size

  from_whole : (part n block : ℕ) (content : List ℕ) → IsBytes content → Stand (spread_from v part block n content) → AreWhole v.size (spread_from v part block n content)
  unfolding spread_from
  from_whole part zero block content b h c m = absurd m
  from_whole part (suc n) block content b h c (inl e) =
      let here = over_block v.size content (block_at v (addr part block)) b (block_is_bytes v bytes (addr part block)) (h (addr part block, written_at 0 (take v.size content) (block_at v (addr part block))) (inl refl)) in
      subst (λ (z : Sited). IsWhole v.size z.1) (sym e) here
  from_whole part (suc n) block content b h c (inr m) = from_whole part n (block + 1) (drop v.size content) (drop_is_bytes v.size content b) (λ d k. h d (inr k)) c m

  spread_whole : (ds : List Descriptor) (content : List ℕ) → IsBytes content → Stand (spread v ds content) → AreWhole v.size (spread v ds content)
  unfolding spread
  spread_whole [] content b h c m = absurd m
  spread_whole (d ∷ ds) content b h c m =
      go (λ k. spread_whole ds (drop d.length content) (drop_is_bytes d.length content b) (λ z i. h z (member_right own (spread v ds (drop d.length content)) z i)) c k)
      (member_append own (spread v ds (drop d.length content)) c m)
    where
      own : List Sited
      own = spread_from v d.at.part d.at.block (blocks_for v.size d.length) (take d.length content)

      go : (Member c (spread v ds (drop d.length content)) → IsWhole v.size c.1) → Member c own ⊎ Member c (spread v ds (drop d.length content)) → IsWhole v.size c.1
      go on (inl k) =
          from_whole d.at.part (blocks_for v.size d.length) d.at.block (take d.length content) (take_is_bytes d.length content b) (λ z i. h z (member_left own (spread v ds (drop d.length content)) z i)) c k
      go on (inr k) = on k

-- ---- the blocks of a mend
module _ (f : Frame) (v : Volume) (disk : ℕ → List ℕ) (a : Addr) (e : Entry) (m : IsMendOn f v disk a e) where
  own_whole : IsWhole v.size (sited_entry f v a e).1
  own_whole =
      entry_whole a.block e.header (wanted f v a e (block_at v a)) (block_at v a) (held.has_entry f v m.repairable a e m.kept m.entry) (fitting.wanted_fits f v m.repairable a e m.kept m.entry) v.size
      (held.whole f v m.repairable a e m.kept m.entry)

  module _ (cut : list_stays f v a e ≡ false) where
    extent_whole : (x : Addr) → Member x (extents_of (mended_list f v a e)) → IsWhole v.size (sited_extent f v a e x).1
    extent_whole x i = by_kind (e.kind == 3) refl
      where
        among : IsAmong x (cut_pieces (mended_length f v a e) (list_for v a e))
        among = let P : List Piece → Type 0 = λ l. IsAmong x l in subst P (cuts.cut_left f v disk a e m cut) (among_extents (mended_list f v a e) x i)

        number_is : (p q : ℕ) → (p == q) ≡ true → p ≡ q
        number_is p q t = grind (arith, nat_tests)

        none : e.kind ≡ 3 → ⊥
        none k = let P : List Piece → Type 0 = λ l. IsAmong x (cut_pieces (mended_length f v a e) l) in unfold_none (subst P (list_embedded v a e k) among)
          where
            unfold_none : IsAmong x (cut_pieces (mended_length f v a e) []) → ⊥
            unfold_none j = unfold cut_pieces in j

        by_left : (e.kind == 3) ≡ false → (q : Option ℕ) → left_at v a e (mended_length f v a e) x ≡ q → IsWhole v.size (mended_extent e.kind x (block_at v x) q)
        by_left plain q h = go q h
          where
            r : cuts.ExtentThere f v disk a e m cut plain x
            r = cuts.extent_there f v disk a e m cut plain x among

            as_it_is : IsWhole v.size (block_at v x)
            as_it_is = record { bytes = r.bytes; long = r.size }

            by_body : (l : ℕ) → left_at v a e (mended_length f v a e) x ≡ Some l → (o : Option (List ℕ)) → extent_body x.block (block_at v x) ≡ o → IsWhole v.size (extent_cut e.kind x l (block_at v x) o)
            by_body l k None j = as_it_is
            by_body l k (Some body) j = choose (bytes_eq (cut_body e.kind x l body) body)
              where
                choose : (t : Bool) → IsWhole v.size (cond t (block_at v x) (extent_with x.block (cut_body e.kind x l body) (block_at v x)))
                choose true = as_it_is
                choose false =
                    let z = cuts.body_left f v disk a e m cut plain x r l k body j in
                    record {
                      bytes = extent_with_bytes x.block (cut_body e.kind x l body) (block_at v x) z.bytes r.bytes;
                      long = new_extent_length x.block (cut_body e.kind x l body) (block_at v x) body r.bytes r.most r.low (extent_opened x.block (block_at v x) body j) z.bytes z.shorter ∙ r.size;
                    }

            go : (q : Option ℕ) → left_at v a e (mended_length f v a e) x ≡ q → IsWhole v.size (mended_extent e.kind x (block_at v x) q)
            go None k = as_it_is
            go (Some l) k = by_body l k (extent_body x.block (block_at v x)) refl

        by_kind : (b : Bool) → (e.kind == 3) ≡ b → IsWhole v.size (mended_extent e.kind x (block_at v x) (left_at v a e (mended_length f v a e) x))
        by_kind true h = absurd (none (number_is e.kind 3 h))
        by_kind false h = by_left h (left_at v a e (mended_length f v a e) x) refl

    content_whole : (d : Bool) → is_directory e ≡ d → AreWhole v.size (cond d (spread v (runs_of (mended_list f v a e)) (mended_content f v a)) [])
    content_whole false h c k = absurd k
    content_whole true h c k =
        spread_whole v m.repairable.bytes (runs_of (mended_list f v a e)) (mended_content f v a) (contents.is_mended_content f v m.repairable a e m.kept m.entry h).bytes
        (disks.data_whole f v disk a e m cut h) c k

    blocks_whole : AreWhole v.size (mended_blocks f v a e)
    unfolding mended_blocks
    blocks_whole c k =
        go (member_append (map (sited_extent f v a e) (extents_of (mended_list f v a e))) (cond (is_directory e) (spread v (runs_of (mended_list f v a e)) (mended_content f v a)) []) c k)
      where
        go : Member c (map (sited_extent f v a e) (extents_of (mended_list f v a e))) ⊎ Member c (cond (is_directory e) (spread v (runs_of (mended_list f v a e)) (mended_content f v a)) []) → IsWhole v.size c.1
        go (inl i) =
            let r = member_of_map (sited_extent f v a e) (extents_of (mended_list f v a e)) c i in
            subst (λ (z : Sited). IsWhole v.size z.1) (sym r.2) (extent_whole r.0 r.1)
        go (inr i) = content_whole (is_directory e) refl c i

  pub mend_whole : AreWhole v.size (mend_of f v a)
  unfolding mend_of
  mend_whole c k = let M : Option Entry → Type 0 = λ o. Member c (mend_by f v a o) in by (list_stays f v a e) refl (subst M m.entry k)
    where
      by : (b : Bool) → list_stays f v a e ≡ b → Member c (sited_entry f v a e ∷ cond b [] (mended_blocks f v a e)) → IsWhole v.size c.1
      by b h (inl q) = subst (λ (z : Sited). IsWhole v.size z.1) (sym q) own_whole
      by true h (inr j) = absurd j
      by false h (inr j) = blocks_whole h c j

-- ---- the disk with all of them
look_keeps : (P : List ℕ → Type 0) (n : ℕ) (xs : List (ℕ × List ℕ)) (block : List ℕ) → ((x : ℕ × List ℕ) → Member x xs → P x.1) → P block → P (look n xs block)
unfolding look
look_keeps P n [] block h k = k
look_keeps P n (x ∷ xs) block h k = by (n == x.0) (look_keeps P n xs block (λ y m. h y (inr m)) k)
  where
    by : (t : Bool) → P (look n xs block) → P (cond t x.1 (look n xs block))
    by true r = h x (inl refl)
    by false r = r

edit_of : (v : Volume) (bs : List Sited) (x : ℕ × List ℕ) → Member x (edits_of v bs) → (c : Sited) × Member c bs × (x.1 ≡ c.1)
unfolding edits_of
edit_of v [] x m = absurd m
edit_of v (b ∷ bs) x m = go (λ k. edit_of v bs x k) (member_append (edit_by b.1 (v.place b.0)) (edits_of v bs) x m)
  where
    here : (o : Option ℕ) → Member x (edit_by b.1 o) → x.1 ≡ b.1
    here None k = absurd k
    here (Some n) (inl e) = ap (λ (z : ℕ × List ℕ). z.1) e
    here (Some n) (inr k) = absurd k

    go : (Member x (edits_of v bs) → (c : Sited) × Member c bs × (x.1 ≡ c.1)) → Member x (edit_by b.1 (v.place b.0)) ⊎ Member x (edits_of v bs) → (c : Sited) × Member c (b ∷ bs) × (x.1 ≡ c.1)
    go on (inl k) = (b, inl refl, here (v.place b.0) k)
    go on (inr k) = let r = on k in (r.0, inr r.1, r.2)

of_each : {X Y : Type 0} (g : X → List Y) (xs : List X) (y : Y) → Member y (flat_map g xs) → (x : X) × Member x xs × Member y (g x)
of_each g [] y m = absurd m
of_each {X} {Y} g (x ∷ xs) y m = go (λ k. of_each g xs y k) (member_append (g x) (flat_map g xs) y m)
  where
    go : (Member y (flat_map g xs) → (z : X) × Member z xs × Member y (g z)) → Member y (g x) ⊎ Member y (flat_map g xs) → (z : X) × Member z (x ∷ xs) × Member y (g z)
    go on (inl k) = (x, inl refl, k)
    go on (inr k) = let r = on k in (r.0, inr r.1, r.2)

module _ (f : Frame) (v : Volume) (ok : IsRepairable f v) where
  edits_whole : (x : ℕ × List ℕ) → Member x (file_edits f v) → IsWhole v.size x.1
  unfolding file_edits edits_at
  edits_whole x i =
      let r = of_each (edits_at f v) (kept_entries f v) x i in
      let c = edit_of v (mend_of f v r.0) x r.2 in
      let h = unlisted f v ok r.0 r.1 in
      let e = has_entry f v ok r.0 h in
      subst (λ (z : List ℕ). IsWhole v.size z) (sym c.2)
      (mend_whole f v (λ n. look n (edits_at f v r.0) (v.disk n)) r.0 e.0 (record { repairable = ok; kept = h; entry = e.1; has = record { blocks = λ y n k p. refl } }) c.0 c.1)

  -- the mended disk has bytes alone
  pub mended_bytes : AreBytes (mended_disk f v)
  mended_bytes n = look_keeps (λ z. IsBytes z) n (file_edits f v) (v.disk n) (λ x i. (edits_whole x i).bytes) (ok.bytes n)

  -- and whole blocks
  pub mended_long : (x : Addr) (n : ℕ) → v.place x ≡ Some n → length (mended_disk f v n) ≡ v.size
  mended_long x n p = look_keeps (λ z. length z ≡ v.size) n (file_edits f v) (v.disk n) (λ y i. (edits_whole y i).long) (ok.whole x n p)
