-- What stands at the address after the file set's extent: a terminating descriptor where one stood, and nowhere else, where the extent
-- of the bitmap does not have the address.
use Rattle.std.proofs.Common.{◌≡◌, ◌⊎◌, inl, inr, ℕ, ◌+◌, ◌≤◌, arith, refl, sym, ◌∙◌, ap, subst, List, [], ◌∷◌, ◌++◌, length, take, drop, map, Bool, true, false, cond, ◌&&◌, leb, Option, Some, None, length-append}
use Rattle.std.specs.Prelude.{◌==◌}
use Rattle.std.specs.List.{flat_map}
use Rattle.std.specs.Str.{bytes_eq}
use Rattle.std.proofs.lemmas.Bool.{eqb-true, false≢true}
use Rattle.std.proofs.lemmas.Bool.Decides.{nat_tests}
use Rattle.std.proofs.lemmas.List.{length-take-le}
use Rattle.udf_field.specs.declared.address.Addr.{Addr}
use Rattle.udf_model.specs.Bytes.{number_at, with_number, written_at}
use Rattle.udf_model.specs.Tag.{id_at, identifier, is_id, is_whole, location}
use Rattle.udf_model.proofs.Retagged.{retagged_identifier}
use Rattle.udf_model.proofs.Written.{number_apart, number_length, number_stays}
use Rattle.udf_file_model.specs.Content.{block_at, block_by}
use Rattle.udf_file_model.specs.CutBody.{cut_body, extent_with}
use Rattle.udf_file_model.specs.CutEntry.{left_at}
use Rattle.udf_file_model.specs.Entry.{Entry, entry_header, extent_body, fitting, header_by, is_directory}
use Rattle.udf_file_model.specs.Listing.{Volume, with_disk}
use Rattle.udf_file_model.specs.Pieces.{extents_of, runs_of}
use Rattle.udf_volume_model.specs.Edits.{look}
use Rattle.udf_tree_model.specs.Among.{Member}
use Rattle.udf_tree_model.specs.Claimed.{list_stays, mended_length, mended_list}
use Rattle.udf_tree_model.specs.Content.{mended_content}
use Rattle.udf_tree_model.specs.Frame.{Frame, entry_at}
use Rattle.udf_tree_model.specs.Ordinary.{is_kept_entry, kept_entries}
use Rattle.udf_tree_model.proofs.Members.{member_append, member_of_map}
use Rattle.udf_file_mends.specs.Mends.{edit_by, edits_at, edits_of, extent_cut, file_edits, mend_by, mend_of, mended_blocks, mended_extent, sited_entry, sited_extent}
use Rattle.udf_file_mends.specs.Repairable.{IsMendOn, IsRepairable}
use Rattle.udf_file_mends.specs.Spread.{Sited, spread}
use Rattle.udf_file_mends.proofs.Disk.{own_block}
use Rattle.udf_file_mends.proofs.Held.{block_there, is_read}
use Rattle.udf_file_mends.proofs.Joined.{has_entry, unlisted}
use Rattle.udf_file_mends.proofs.Nodes.{entry_reads}
use Rattle.udf_file_mends.proofs.Sited.{look_joined}

abbrev pub is_end : ℕ → List ℕ → Bool
is_end at block = is_id 8 (id_at at block)

-- what stands whole with an identifier has it
id_stands : (id at : ℕ) (block : List ℕ) → is_id id (id_at at block) ≡ true → identifier block ≡ id
unfolding id_at
id_stands id at block e = by (is_whole block && (location block == at)) e
  where
    by : (b : Bool) → is_id id (cond b (Some (identifier block)) None) ≡ true → identifier block ≡ id
    by true h = eqb-true (identifier block) id h
    by false h = absurd (false≢true h)

other_id : (other at : ℕ) (block : List ℕ) → identifier block ≡ other → (other == 8) ≡ false → is_end at block ≡ false
unfolding id_at
other_id other at block e ne = by (is_whole block && (location block == at))
  where
    by : (b : Bool) → is_id 8 (cond b (Some (identifier block)) None) ≡ false
    by true = ap (λ i. i == 8) e ∙ ne
    by false = refl

-- where an entry stands no list ends
entry_not_end : (v : Volume) (a : Addr) (e : Entry) → entry_at v a ≡ Some e → is_end a.block (block_at v a) ≡ false
unfolding entry_header
entry_not_end v a e h =
    let r = is_read v a e h in
    ap (is_end a.block) (block_there v a r.sector r.place) ∙ by (v.disk r.sector) (id_at a.block (v.disk r.sector)) r.header
  where
    file : (n : ℕ) → (n == 261) ≡ true → (n == 8) ≡ false
    file n t = grind (arith, nat_tests)

    extended : (n : ℕ) → (n == 266) ≡ true → (n == 8) ≡ false
    extended n t = grind (arith, nat_tests)

    by_id : (block : List ℕ) (n : ℕ) (x y : Bool) → (n == 261) ≡ x → (n == 266) ≡ y → fitting block (cond x (Some 176) (cond y (Some 216) None)) ≡ Some e.header → (n == 8) ≡ false
    by_id block n true y p q k = file n p
    by_id block n false true p q k = extended n q
    by_id block n false false p q k = cc

    by : (block : List ℕ) (o : Option ℕ) → fitting block (header_by o) ≡ Some e.header → is_id 8 o ≡ false
    by block None k = refl
    by block (Some n) k = by_id block n (n == 261) (n == 266) refl refl k

-- an allocation extent keeps its identifier
extent_keeps : (at : ℕ) (body block : List ℕ) → 24 ≤ length block → identifier (extent_with at body block) ≡ identifier block
unfolding extent_with
extent_keeps at body block long =
    let sized : length (with_number 4 20 (length body) block) ≡ length block = number_length 4 20 (length body) block (omega (arith, long)) in
    retagged_identifier at (8 + length body) (written_at 24 body (with_number 4 20 (length body) block)) (enough (omega (arith, sized, long)))
    ∙ number_apart 24 (length body) 2 0 body (with_number 4 20 (length body) block) refl (omega (arith, sized, long)) (inl (omega arith))
    ∙ number_stays 4 20 (length body) 2 0 block (omega (arith, long)) (inl (omega arith))
  where
    enough : 24 ≤ length (with_number 4 20 (length body) block) → 16 ≤ length (written_at 24 body (with_number 4 20 (length body) block))
    enough h = unfold written_at in
        omega (
          arith,
          length-append (take 24 (with_number 4 20 (length body) block)) (body ++ drop (24 + length body) (with_number 4 20 (length body) block)),
          length-take-le 24 (with_number 4 20 (length body) block) h,
        )

extent_not_end : (kind : ℕ) (x : Addr) (block : List ℕ) (left : Option ℕ) → 24 ≤ length block → is_end x.block block ≡ false → is_end x.block (mended_extent kind x block left) ≡ false
unfolding extent_body
extent_not_end kind x block None long h = h
extent_not_end kind x block (Some left) long h = by (is_id 258 (id_at x.block block)) (leb (24 + number_at 4 block 20) (length block)) refl
  where
    cut : (body : List ℕ) → is_id 258 (id_at x.block block) ≡ true → (b : Bool)
        → is_end x.block (cond b block (extent_with x.block (cut_body kind x left body) block)) ≡ false
    cut body t true = h
    cut body t false =
        other_id 258 x.block (extent_with x.block (cut_body kind x left body) block)
        (extent_keeps x.block (cut_body kind x left body) block long ∙ id_stands 258 x.block block t) refl

    by : (a b : Bool) → is_id 258 (id_at x.block block) ≡ a → is_end x.block (extent_cut kind x left block (cond (a && b) (Some (take (number_at 4 block 20) (drop 24 block))) None)) ≡ false
    by true true t =
        cut (take (number_at 4 block 20) (drop 24 block)) t
        (bytes_eq (cut_body kind x left (take (number_at 4 block 20) (drop 24 block))) (take (number_at 4 block 20) (drop 24 block)))
    by true false t = h
    by false b t = h

-- ---- what is looked up at a sector
sited_keeps : (P : List ℕ → Type 0) (v : Volume) (n : ℕ) (bs : List Sited) (block : List ℕ) → ((c : Sited) → Member c bs → v.place c.0 ≡ Some n → P c.1) → P block → P (look n (edits_of v bs) block)
unfolding edits_of look
sited_keeps P v n [] block h k = k
sited_keeps P v n (b ∷ bs) block h k =
    subst P (sym (look_joined n (edit_by b.1 (v.place b.0)) (edits_of v bs) block)) (by (v.place b.0) refl (sited_keeps P v n bs block (λ c m p. h c (inr m) p) k))
  where
    at : (m : ℕ) → v.place b.0 ≡ Some m → (t : Bool) → (n == m) ≡ t → P (look n (edits_of v bs) block) → P (cond t b.1 (look n (edits_of v bs) block))
    at m e true t r = h b (inl refl) (e ∙ ap (λ (x : ℕ). Some x) (sym (eqb-true n m t)))
    at m e false t r = r

    by : (o : Option ℕ) → v.place b.0 ≡ o → P (look n (edits_of v bs) block) → P (look n (edit_by b.1 o) (look n (edits_of v bs) block))
    by None e r = r
    by (Some m) e r = at m e (n == m) refl r

each_keeps : (P : List ℕ → Type 0) (n : ℕ) (edits : Addr → List (ℕ × List ℕ)) (cs : List Addr) (block : List ℕ)
    → ((c : Addr) → Member c cs → (b : List ℕ) → P b → P (look n (edits c) b)) → P block → P (look n (flat_map edits cs) block)
unfolding look
each_keeps P n edits [] block h k = k
each_keeps P n edits (c ∷ cs) block h k =
    subst P (sym (look_joined n (edits c) (flat_map edits cs) block)) (h c (inl refl) (look n (flat_map edits cs) block) (each_keeps P n edits cs block (λ d m. h d (inr m)) k))

module _ (f : Frame) (v : Volume) (ok : IsRepairable f v) (large : 512 ≤ v.size) (x : Addr) (n : ℕ) (place : v.place x ≡ Some n) (old : is_end x.block (v.disk n) ≡ false) where
  -- the mended contents of directories do not end a list there
  abbrev pub ContentsKeep : Type 0
  ContentsKeep = (a : Addr) (e : Entry) (c : Sited) → is_kept_entry f v a ≡ true → entry_at v a ≡ Some e → is_directory e ≡ true
      → Member c (spread v (runs_of (mended_list f v a e)) (mended_content f v a)) → c.0 ≡ x → is_end x.block c.1 ≡ false

  module _ (contents : ContentsKeep) (a : Addr) (kept : is_kept_entry f v a ≡ true) (e : Entry) (reads : entry_at v a ≡ Some e) where
    mend : IsMendOn f v (λ m. look m (edits_at f v a) (v.disk m)) a e
    mend = record { repairable = ok; kept = kept; entry = reads; has = record { blocks = λ y m k p. refl } }

    there : block_at v x ≡ v.disk n
    there = ap (block_by v.disk) place

    own_keeps : a ≡ x → is_end x.block (sited_entry f v a e).1 ≡ false
    own_keeps q =
        ap (λ (y : Addr). is_end y.block (sited_entry f v a e).1) (sym q)
        ∙ ap (is_end a.block) (sym (own_block f v (λ m. look m (edits_at f v a) (v.disk m)) a e mend))
        ∙ entry_not_end (with_disk v (λ m. look m (edits_at f v a) (v.disk m))) a _ (entry_reads f v (λ m. look m (edits_at f v a) (v.disk m)) a e mend)

    extent_keeps_there : (y : Addr) → y ≡ x → is_end x.block (sited_extent f v a e y).1 ≡ false
    extent_keeps_there y q =
        ap (λ (z : Addr). is_end x.block (sited_extent f v a e z).1) q
        ∙ extent_not_end e.kind x (block_at v x) (left_at v a e (mended_length f v a e) x)
        (omega (arith, large, ok.whole x n place, ap (λ b. length b) there)) (ap (is_end x.block) there ∙ old)

    pub entry_keeps : (c : Sited) → Member c (mend_of f v a) → c.0 ≡ x → is_end x.block c.1 ≡ false
    unfolding mend_of mended_blocks
    entry_keeps c m q = let M : Option Entry → Type 0 = λ o. Member c (mend_by f v a o) in by (list_stays f v a e) (subst M reads m)
      where
        content_at : (d : Bool) → is_directory e ≡ d → Member c (cond d (spread v (runs_of (mended_list f v a e)) (mended_content f v a)) []) → is_end x.block c.1 ≡ false
        content_at true h j = contents a e c kept reads h j q
        content_at false h j = absurd j

        parts : Member c (map (sited_extent f v a e) (extents_of (mended_list f v a e))) ⊎ Member c (cond (is_directory e) (spread v (runs_of (mended_list f v a e)) (mended_content f v a)) [])
            → is_end x.block c.1 ≡ false
        parts (inl j) =
            let r = member_of_map (sited_extent f v a e) (extents_of (mended_list f v a e)) c j in
            ap (λ (z : Sited). is_end x.block z.1) r.2 ∙ extent_keeps_there r.0 (sym (ap (λ (z : Sited). z.0) r.2) ∙ q)
        parts (inr j) = content_at (is_directory e) refl j

        by : (b : Bool) → Member c (sited_entry f v a e ∷ cond b [] (map (sited_extent f v a e) (extents_of (mended_list f v a e)) ++ cond (is_directory e) (spread v (runs_of (mended_list f v a e)) (mended_content f v a)) []))
            → is_end x.block c.1 ≡ false
        by b (inl j) = ap (λ (z : Sited). is_end x.block z.1) j ∙ own_keeps (sym (ap (λ (z : Sited). z.0) j) ∙ q)
        by true (inr j) = absurd j
        by false (inr j) = parts (member_append (map (sited_extent f v a e) (extents_of (mended_list f v a e))) (cond (is_directory e) (spread v (runs_of (mended_list f v a e)) (mended_content f v a)) []) c j)

  pub files_keep : ContentsKeep → is_end x.block (look n (file_edits f v) (v.disk n)) ≡ false
  unfolding file_edits edits_at
  files_keep contents =
      each_keeps (λ b. is_end x.block b ≡ false) n (edits_at f v) (kept_entries f v) (v.disk n)
      (λ a m b r.
      let k = unlisted f v ok a m in
      let e = has_entry f v ok a k in
      sited_keeps (λ b. is_end x.block b ≡ false) v n (mend_of f v a) b (λ c i p. entry_keeps contents a k e.0 e.1 c i (ok.apart c.0 x n p place)) r) old
