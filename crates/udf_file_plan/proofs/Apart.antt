-- The mends of kept entries that differ from what stands there are all that they change: where two are at one sector they are the same.
use Rattle.std.proofs.Common.{◌≡◌, ◌⊎◌, inl, inr, ℕ, ◌==◌, List, [], ◌∷◌, ◌++◌, map, Bool, true, false, not, cond, Option, Some, None, arith, refl, sym, ap, ◌∙◌, subst}
use Rattle.std.specs.List.{filter, flat_map}
use Rattle.std.specs.Str.{bytes_eq}
use Rattle.std.proofs.lemmas.Bool.Decides.{nat_tests}
use Rattle.udf_field.specs.declared.address.Addr.{Addr}
use Rattle.udf_file_model.specs.Content.{block_at}
use Rattle.udf_file_model.specs.Entry.{Entry, is_directory}
use Rattle.udf_file_model.specs.Listing.{Volume, with_disk}
use Rattle.udf_file_model.specs.Pieces.{extents_of, runs_of}
use Rattle.udf_volume_model.specs.Edits.{look}
use Rattle.udf_volume_laws.proofs.Puts.{look_both}
use Rattle.udf_volume_laws.proofs.Same.{same_bytes}
use Rattle.udf_tree_model.specs.Claimed.{list_stays, mended_list}
use Rattle.udf_tree_model.specs.Content.{mended_content}
use Rattle.udf_tree_model.specs.Frame.{Frame, entry_at}
use Rattle.udf_tree_model.specs.Ordinary.{is_kept_entry, kept_entries}
use Rattle.udf_tree_model.proofs.Members.{Member, member_append, member_of_map}
use Rattle.udf_file_mends.specs.Mends.{edit_by, edits_at, edits_of, file_edits, mend_by, mend_of, mended_blocks, mended_disk, sited_entry, sited_extent}
use Rattle.udf_file_mends.specs.Repairable.{IsMendOn, IsRepairable}
use Rattle.udf_file_mends.specs.Spread.{Sited, spread}
use Rattle.udf_file_mends.proofs.Disk as disks
use Rattle.udf_file_mends.proofs.Joined.{has_each, has_entry, unlisted}
use Rattle.udf_wanted.specs.Wanted.{LookAlike, differing}
use Rattle.udf_file_plan.specs.Alike.{LookAlikeOn}

number_is : (m n : ℕ) → (m == n) ≡ true → m ≡ n
number_is m n t = grind (arith, nat_tests)

-- an edit of a list
abbrev Edit : Type 0
Edit = ℕ × List ℕ

-- all edits at a sector have this block
abbrev AreAll : ℕ → List ℕ → List Edit → Type 0
AreAll n block edits = (c : Edit) → Member c edits → c.0 ≡ n → c.1 ≡ block

look_all : (n : ℕ) (block : List ℕ) (edits : List Edit) → AreAll n block edits → look n edits block ≡ block
unfolding look
look_all n block [] h = refl
look_all n block (c ∷ cs) h = by (n == c.0) refl (look_all n block cs (λ d m. h d (inr m)))
  where
    by : (t : Bool) → (n == c.0) ≡ t → look n cs block ≡ block → cond t c.1 (look n cs block) ≡ block
    by true e k = h c (inl refl) (sym (number_is n c.0 e))
    by false e k = k

module _ (disk : ℕ → List ℕ) (n : ℕ) where
  -- what does not differ is not missed
  differing_same : (edits : List Edit) → ((c d : Edit) → Member c edits → Member d edits → c.0 ≡ n → d.0 ≡ n → c.1 ≡ d.1)
      → look n (differing disk edits) (disk n) ≡ look n edits (disk n)
  unfolding differing look
  differing_same [] h = refl
  differing_same (c ∷ cs) h =
      by (bytes_eq (disk c.0) c.1) refl (n == c.0) refl (differing_same cs (λ d e i j. h d e (inr i) (inr j)))
    where
      rest : List Edit
      rest = filter (λ edit. not (bytes_eq (disk edit.0) edit.1)) cs

      here : bytes_eq (disk c.0) c.1 ≡ true → (n == c.0) ≡ true → c.1 ≡ disk n
      here e k = sym (ap disk (number_is n c.0 k) ∙ same_bytes (disk c.0) c.1 e)

      by : (b : Bool) → bytes_eq (disk c.0) c.1 ≡ b → (t : Bool) → (n == c.0) ≡ t
          → look n (filter (λ edit. not (bytes_eq (disk edit.0) edit.1)) cs) (disk n) ≡ look n cs (disk n)
          → look n (cond (not b) (c ∷ filter (λ edit. not (bytes_eq (disk edit.0) edit.1)) cs) (filter (λ edit. not (bytes_eq (disk edit.0) edit.1)) cs)) (disk n) ≡ cond t c.1 (look n cs (disk n))
      by true e true k on =
          on ∙ look_all n (disk n) cs (λ d m q. h d c (inr m) (inl refl) q (sym (number_is n c.0 k)) ∙ here e k) ∙ sym (here e k)
      by true e false k on = on
      by false e true k on = ap (λ t. cond t c.1 (look n (filter (λ edit. not (bytes_eq (disk edit.0) edit.1)) cs) (disk n))) k
      by false e false k on = ap (λ t. cond t c.1 (look n (filter (λ edit. not (bytes_eq (disk edit.0) edit.1)) cs) (disk n))) k ∙ on

-- an edit of blocks at addresses
record IsEditOf (v : Volume) (bs : List Sited) (c : Edit) : Type 0 where
  block : Sited
  among : Member block bs
  place : v.place block.0 ≡ Some c.0
  is : block.1 ≡ c.1

edit_of : (v : Volume) (bs : List Sited) (c : Edit) → Member c (edits_of v bs) → IsEditOf v bs c
unfolding edits_of
edit_of v [] c m = absurd m
edit_of v (b ∷ bs) c m = go (member_append (edit_by b.1 (v.place b.0)) (edits_of v bs) c m) (λ k. edit_of v bs c k)
  where
    here : (o : Option ℕ) → v.place b.0 ≡ o → Member c (edit_by b.1 o) → IsEditOf v (b ∷ bs) c
    here None e k = absurd k
    here (Some s) e (inr k) = absurd k
    here (Some s) e (inl k) = record { block = b; among = inl refl; place = e ∙ ap (λ (x : Edit). Some x.0) (sym k); is = ap (λ (x : Edit). x.1) (sym k) }

    go : Member c (edit_by b.1 (v.place b.0)) ⊎ Member c (edits_of v bs) → (Member c (edits_of v bs) → IsEditOf v bs c) → IsEditOf v (b ∷ bs) c
    go (inl k) on = here (v.place b.0) refl k
    go (inr k) on = let r = on k in record { block = r.block; among = inr r.among; place = r.place; is = r.is }

in_flat : {X Y : Type 0} (f : X → List Y) (xs : List X) (y : Y) → Member y (flat_map f xs) → (x : X) × Member x xs × Member y (f x)
in_flat f [] y m = absurd m
in_flat {X} {Y} f (x ∷ xs) y m = go (member_append (f x) (flat_map f xs) y m) (λ k. in_flat f xs y k)
  where
    go : Member y (f x) ⊎ Member y (flat_map f xs) → (Member y (flat_map f xs) → (z : X) × Member z xs × Member y (f z)) → (z : X) × Member z (x ∷ xs) × Member y (f z)
    go (inl k) on = (x, inl refl, k)
    go (inr k) on = let r = on k in (r.0, inr r.1, r.2)

module _ (f : Frame) (v : Volume) (ok : IsRepairable f v) where
  abbrev after : ℕ → List ℕ
  after = mended_disk f v

  on : (a : Addr) (e : Entry) → is_kept_entry f v a ≡ true → entry_at v a ≡ Some e → IsMendOn f v (mended_disk f v) a e
  on a e kept reads = record { repairable = ok; kept = kept; entry = reads; has = has_each f v ok a kept }

  -- each block of a mend stands on the disk with all of them
  stands : (a : Addr) (e : Entry) (kept : is_kept_entry f v a ≡ true) (reads : entry_at v a ≡ Some e) (c : Sited) → Member c (mend_of f v a)
      → block_at (with_disk v (mended_disk f v)) c.0 ≡ c.1
  unfolding mend_of mended_blocks
  stands a e kept reads c m =
      by (list_stays f v a e) refl (subst (λ (o : Option Entry). Member c (mend_by f v a o)) reads m)
    where
      extents : List Sited
      extents = map (sited_extent f v a e) (extents_of (mended_list f v a e))

      own : c ≡ sited_entry f v a e → block_at (with_disk v (mended_disk f v)) c.0 ≡ c.1
      own q = ap (λ (z : Sited). block_at (with_disk v (mended_disk f v)) z.0) q ∙ disks.own_block f v (mended_disk f v) a e (on a e kept reads) ∙ sym (ap (λ (z : Sited). z.1) q)

      data_at : list_stays f v a e ≡ false → (d : Bool) → is_directory e ≡ d → Member c (cond d (spread v (runs_of (mended_list f v a e)) (mended_content f v a)) [])
          → block_at (with_disk v (mended_disk f v)) c.0 ≡ c.1
      data_at h true k i = disks.data_block f v (mended_disk f v) a e (on a e kept reads) h k c i
      data_at h false k i = absurd i

      parts : list_stays f v a e ≡ false → Member c (map (sited_extent f v a e) (extents_of (mended_list f v a e)))
          ⊎ Member c (cond (is_directory e) (spread v (runs_of (mended_list f v a e)) (mended_content f v a)) []) → block_at (with_disk v (mended_disk f v)) c.0 ≡ c.1
      parts h (inl i) =
          let r = member_of_map (sited_extent f v a e) (extents_of (mended_list f v a e)) c i in
          ap (λ (z : Sited). block_at (with_disk v (mended_disk f v)) z.0) r.2 ∙ disks.extent_block f v (mended_disk f v) a e (on a e kept reads) h r.0 r.1 ∙ sym (ap (λ (z : Sited). z.1) r.2)
      parts h (inr i) = data_at h (is_directory e) refl i

      by : (b : Bool) → list_stays f v a e ≡ b → Member c (sited_entry f v a e ∷ cond b [] (map (sited_extent f v a e) (extents_of (mended_list f v a e))
          ++ cond (is_directory e) (spread v (runs_of (mended_list f v a e)) (mended_content f v a)) [])) → block_at (with_disk v (mended_disk f v)) c.0 ≡ c.1
      by b h (inl q) = own q
      by true h (inr i) = absurd i
      by false h (inr i) = parts h (member_append (map (sited_extent f v a e) (extents_of (mended_list f v a e))) (cond (is_directory e) (spread v (runs_of (mended_list f v a e)) (mended_content f v a)) []) c i)

  -- an edit of all is what stands on that disk at some address of its sector
  record Stands (c : Edit) : Type 0 where
    address : Addr
    place : v.place address ≡ Some c.0
    is : block_at (with_disk v (mended_disk f v)) address ≡ c.1

  edit_stands : (c : Edit) → Member c (file_edits f v) → Stands c
  unfolding file_edits edits_at
  edit_stands c m =
      let r = in_flat (edits_at f v) (kept_entries f v) c m in
      let kept = unlisted f v ok r.0 r.1 in
      let has = has_entry f v ok r.0 kept in
      let b = edit_of v (mend_of f v r.0) c r.2 in
      record { address = b.block.0; place = b.place; is = stands r.0 has.0 kept has.1 b.block b.among ∙ b.is }

  one_block : (n : ℕ) (c d : Edit) → Member c (file_edits f v) → Member d (file_edits f v) → c.0 ≡ n → d.0 ≡ n → c.1 ≡ d.1
  one_block n c d i j p q =
      let x = edit_stands c i in
      let y = edit_stands d j in
      sym x.is ∙ ap (block_at (with_disk v (mended_disk f v))) (ok.apart x.address y.address n (x.place ∙ ap Some p) (y.place ∙ ap Some q)) ∙ y.is

  pub on_disk : (new old : List Edit) → LookAlike new (old ++ differing v.disk (file_edits f v)) → LookAlikeOn v.disk new (old ++ file_edits f v)
  on_disk new old put n =
      put n (v.disk n) ∙ look_both n old (differing v.disk (file_edits f v)) (v.disk n)
      ∙ ap (look n old) (differing_same v.disk n (file_edits f v) (one_block n)) ∙ sym (look_both n old (file_edits f v) (v.disk n))
