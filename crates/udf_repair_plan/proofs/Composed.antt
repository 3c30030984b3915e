-- What the rules put, one after another, gives the mended image's blocks, though blocks that stay are left out.
use Rattle.std.proofs.Common.{◌≡◌, ◌⊎◌, inl, inr, ℕ, ◌+◌, ◌<◌, not, arith, refl, sym, ◌∙◌, ap, List, [], ◌∷◌, ◌++◌, length, Bool, true, false, cond, Option, Some, None}
use Rattle.std.specs.Prelude.{is_some}
use Rattle.std.specs.List.{filter}
use Rattle.std.specs.Str.{bytes_eq}
use Rattle.std.proofs.lemmas.Bool.{cases_Bool, cases_eq, false≢true}
use Rattle.udf_field.specs.declared.address.Addr.{Addr}
use Rattle.udf_field.specs.declared.address.Short.{Short}
use Rattle.udf_model.specs.Image.{block_of}
use Rattle.udf_file_model.specs.Address.{addr, same_addr}
use Rattle.udf_file_model.specs.Front.{blocks_for}
use Rattle.udf_file_model.specs.Listing as listing
use Rattle.udf_volume_model.specs.Anchor as anchor
use Rattle.udf_volume_model.specs.Edits.{look}
use Rattle.udf_volume_laws.proofs.Puts.{look_here, look_past}
use Rattle.udf_volume_laws.proofs.Same.{same_bytes}
use Rattle.udf_tree_model.specs.Frame.{Frame, places}
use Rattle.udf_tree_model.proofs.Members.{Member}
use Rattle.udf_tree_model.proofs.Places.{address_same, placed_among, same_address}
use Rattle.udf_volume.specs.declared.volume.Volume.{Volume}
use Rattle.udf_rules_model.specs.Files.{files_in, frame_in}
use Rattle.udf_file_mends.specs.FileSet.{file_set_edits, loses_system, mended_set}
use Rattle.udf_file_mends.specs.Mends.{edit_by, edits_of, file_edits}
use Rattle.udf_wanted.specs.Wanted.{differing}
use Rattle.udf_file_plan.proofs.Apart.{on_disk}
use Rattle.udf_mended_image.proofs.Edited.{Held, counted, counted_quiet, filed_quiet, mapped, one_place, own, place_held}
use Rattle.udf_mended_image.proofs.Given.{IsGiven, bitmap_fixed, large, ok, set_fixed, set_unlike}
use Rattle.udf_mended_image.proofs.Quiet.{IsQuiet, bitmap_quiet, set_quiet}
use Rattle.udf_mended_image.proofs.Still.{held_integrity, held_still}

-- ---- what differs
module _ (disk : ℕ → List ℕ) (n : ℕ) where
  no_block : (block : List ℕ) → block ≡ 0 ∷ block → ⊥
  no_block block e = let l : length block ≡ length (0 ∷ block) = ap length e in omega (arith, l)

  quiet_rest : (m : ℕ) (block : List ℕ) (xs : List (ℕ × List ℕ)) → IsQuiet n ((m, block) ∷ xs) → (n ≡ m → ⊥) × IsQuiet n xs
  quiet_rest m block xs h = by (cases_eq n m)
    where
      by : (n ≡ m) ⊎ (n ≡ m → ⊥) → (n ≡ m → ⊥) × IsQuiet n xs
      by (inl e) = absurd (no_block block (sym (look_here n m block xs (0 ∷ block) e) ∙ h (0 ∷ block)))
      by (inr ne) = (ne, λ old. sym (look_past n m block xs old ne) ∙ h old)

  quiet_differing : (xs : List (ℕ × List ℕ)) → IsQuiet n xs → IsQuiet n (differing disk xs)
  unfolding differing look
  quiet_differing [] h old = refl
  quiet_differing (x ∷ xs) h old =
      let r = quiet_rest x.0 x.1 xs h in
      by (bytes_eq (disk x.0) x.1) r.0 (quiet_differing xs r.1 old)
    where
      by : (b : Bool) → (n ≡ x.0 → ⊥) → look n (filter (λ edit. not (bytes_eq (disk edit.0) edit.1)) xs) old ≡ old
          → look n (cond (not b) (x ∷ filter (λ edit. not (bytes_eq (disk edit.0) edit.1)) xs) (filter (λ edit. not (bytes_eq (disk edit.0) edit.1)) xs)) old ≡ old
      by true ne on = on
      by false ne on = look_past n x.0 x.1 (filter (λ edit. not (bytes_eq (disk edit.0) edit.1)) xs) old ne ∙ on

  -- one block that stays may be left out
  one_differs : (m : ℕ) (block : List ℕ) → look n (differing disk ((m, block) ∷ [])) (disk n) ≡ look n ((m, block) ∷ []) (disk n)
  unfolding differing look
  one_differs m block = by (bytes_eq (disk m) block) refl (cases_eq n m)
    where
      by : (b : Bool) → bytes_eq (disk m) block ≡ b → (n ≡ m) ⊎ (n ≡ m → ⊥) → look n (cond (not b) ((m, block) ∷ []) []) (disk n) ≡ look n ((m, block) ∷ []) (disk n)
      by false e k = refl
      by true e (inl k) = ap disk k ∙ same_bytes (disk m) block e ∙ sym (look_here n m block [] (disk n) k)
      by true e (inr ne) = sym (look_past n m block [] (disk n) ne)

module _ (image : List ℕ) (volume : Volume) (g : IsGiven image volume) (n : ℕ) where
  abbrev f : Frame
  f = frame_in volume image

  abbrev v : listing.Volume
  v = files_in volume image

  abbrev disk : ℕ → List ℕ
  disk = block_of volume.size image

  abbrev Files : List (ℕ × List ℕ)
  Files = file_edits f v

  abbrev Head : List (ℕ × List ℕ)
  Head = file_set_edits f v

  abbrev Map : List (ℕ × List ℕ)
  Map = mapped image volume g

  -- an address of the sector, or none
  abbrev Placed : Type 0
  Placed = (x : Addr) × (v.place x ≡ Some n)

  same_sector : (o : Option ℕ) → (o ≡ Some n) ⊎ (o ≡ Some n → ⊥)
  same_sector None = inr (λ e. no e)
    where
      no : None ≡ Some n → ⊥
      no e = cc
  same_sector (Some m) = by (cases_eq m n)
    where
      other : (m ≡ n → ⊥) → Some m ≡ Some n → ⊥
      other ne e = ne (let k : m ≡ n = cc in k)

      by : (m ≡ n) ⊎ (m ≡ n → ⊥) → (Some m ≡ Some n) ⊎ (Some m ≡ Some n → ⊥)
      by (inl e) = inl (ap (λ (k : ℕ). Some k) e)
      by (inr ne) = inr (other ne)

  search : (xs : List Addr) → Placed ⊎ ((x : Addr) → Member x xs → v.place x ≡ Some n → ⊥)
  search [] = inr (λ x m p. absurd m)
  search (y ∷ ys) = by (same_sector (v.place y)) (search ys)
    where
      by : (v.place y ≡ Some n) ⊎ (v.place y ≡ Some n → ⊥) → Placed ⊎ ((x : Addr) → Member x ys → v.place x ≡ Some n → ⊥)
          → Placed ⊎ ((x : Addr) → Member x (y ∷ ys) → v.place x ≡ Some n → ⊥)
      by (inl e) rest = inl (y, e)
      by (inr ne) (inl r) = inl r
      by (inr ne) (inr none) = inr (λ x m p. here x m p)
        where
          here : (x : Addr) → Member x (y ∷ ys) → v.place x ≡ Some n → ⊥
          here x (inl e) p = ne (ap v.place (sym e) ∙ p)
          here x (inr m) p = none x m p

  placed_or_none : Placed ⊎ ((x : Addr) → v.place x ≡ Some n → ⊥)
  placed_or_none = by (search (places v))
    where
      by : Placed ⊎ ((x : Addr) → Member x (places v) → v.place x ≡ Some n → ⊥) → Placed ⊎ ((x : Addr) → v.place x ≡ Some n → ⊥)
      by (inl r) = inl r
      by (inr none) = inr (λ x p.
          let there : is_some (v.place x) ≡ true = ap (λ (o : Option ℕ). is_some o) p in
          none x (placed_among v x ((ok image volume g).low x there) there) p)

  -- what is put for entries and the file set, on what is put for space
  abbrev puts : List ℕ → List ℕ
  puts old = look n (differing disk Files) (look n (differing disk Head) (look n Map old))

  abbrev mends : List ℕ → List ℕ
  mends old = look n Files (look n Head (look n Map old))

  nowhere_same : ((x : Addr) → v.place x ≡ Some n → ⊥) → (old : List ℕ) → puts old ≡ mends old
  nowhere_same none old =
      let a = filed_quiet image volume g n (λ x p. absurd (none x p)) in
      let b = set_quiet f v n (λ p. none f.file_set p) in
      quiet_differing disk n Files a (look n (differing disk Head) (look n Map old)) ∙ quiet_differing disk n Head b (look n Map old)
      ∙ sym (a (look n Head (look n Map old)) ∙ b (look n Map old))

  head_differs : look n (differing disk Head) (disk n) ≡ look n Head (disk n)
  unfolding file_set_edits edits_of differing look
  head_differs = by (loses_system f v) (v.place f.file_set)
    where
      by : (b : Bool) (o : Option ℕ) → look n (differing disk (cond b (edit_by (mended_set f v) o ++ []) [])) (disk n) ≡ look n (cond b (edit_by (mended_set f v) o ++ []) []) (disk n)
      by true (Some m) = one_differs disk n m (mended_set f v)
      by true None = refl
      by false o = refl

  mapped_off : ((extent : Short) → volume.bitmap ≡ Some extent → (k : ℕ) → k < blocks_for volume.size extent.length → v.place (addr 0 (extent.block + k)) ≡ Some n → ⊥) → IsQuiet n Map
  unfolding anchor.blocks_for
  mapped_off off = bitmap_quiet f v (disk volume.lvd) volume.length volume.bitmap n off

  fixed_same : (x : Addr) → v.place x ≡ Some n → f.fixed x ≡ true → puts (disk n) ≡ mends (disk n)
  unfolding anchor.blocks_for
  fixed_same x p fixed = by (cases_Bool (same_addr f.file_set x))
    where
      a : IsQuiet n Files
      a = filed_quiet image volume g n (λ y q. ap f.fixed (one_place image volume g y x n q p) ∙ fixed)

      both : look n (differing disk Head) (look n Map (disk n)) ≡ look n Head (look n Map (disk n)) → puts (disk n) ≡ mends (disk n)
      both e = quiet_differing disk n Files a (look n (differing disk Head) (look n Map (disk n))) ∙ e ∙ sym (a (look n Head (look n Map (disk n))))

      by : (same_addr f.file_set x ≡ true) ⊎ (same_addr f.file_set x ≡ false) → puts (disk n) ≡ mends (disk n)
      by (inl e) =
          let here : v.place f.file_set ≡ Some n = ap v.place (same_address f.file_set x e) ∙ p in
          let m : IsQuiet n Map = mapped_off (λ extent named k l q. set_unlike image volume g extent named k l (one_place image volume g f.file_set (addr 0 (extent.block + k)) n here q)) in
          both (ap (look n (differing disk Head)) (m (disk n)) ∙ head_differs ∙ ap (look n Head) (sym (m (disk n))))
      by (inr ne) =
          let h : IsQuiet n Head = set_quiet f v n (λ q. absurd (false≢true (sym ne ∙ address_same f.file_set x (one_place image volume g f.file_set x n q p)))) in
          both (quiet_differing disk n Head h (look n Map (disk n)) ∙ sym (h (look n Map (disk n))))

  free_same : (x : Addr) → v.place x ≡ Some n → f.fixed x ≡ false → puts (disk n) ≡ mends (disk n)
  unfolding anchor.blocks_for
  free_same x p free =
      let h : IsQuiet n Head = set_quiet f v n (λ q. false≢true (sym free ∙ ap f.fixed (one_place image volume g x f.file_set n p q) ∙ set_fixed image volume g)) in
      let m : IsQuiet n Map = mapped_off (λ extent named k l q. false≢true (sym free ∙ ap f.fixed (one_place image volume g x (addr 0 (extent.block + k)) n p q) ∙ bitmap_fixed image volume g extent named k l)) in
      ap (look n (differing disk Files)) (quiet_differing disk n Head h (look n Map (disk n)) ∙ m (disk n))
      ∙ on_disk f v (ok image volume g) (differing disk Files) [] (λ k block. refl) n
      ∙ ap (look n Files) (sym (h (look n Map (disk n)) ∙ m (disk n)))

  -- the blocks of the volume's own mend, and of integrity, under all that
  abbrev under : List ℕ
  under = look n (counted image volume g) (own image volume g n)

  under_held : Held image volume g n → under ≡ disk n
  under_held h =
      counted_quiet image volume g n (held_integrity image volume (large image volume g) g.opened n h) (own image volume g n)
      ∙ held_still image volume (large image volume g) g.opened n h

  pub same_there : look n (differing disk Files) (look n (differing disk Head) (look n Map under)) ≡ look n Files (look n Head (look n Map under))
  same_there = by placed_or_none
    where
      at : (x : Addr) → v.place x ≡ Some n → puts (disk n) ≡ mends (disk n)
      at x p = fixed_or (f.fixed x) refl
        where
          fixed_or : (b : Bool) → f.fixed x ≡ b → puts (disk n) ≡ mends (disk n)
          fixed_or true e = fixed_same x p e
          fixed_or false e = free_same x p e

      by : Placed ⊎ ((x : Addr) → v.place x ≡ Some n → ⊥) → puts under ≡ mends under
      by (inl r) = let e = under_held (place_held image volume g r.0 n r.1) in ap (λ b. puts b) e ∙ at r.0 r.1 ∙ ap (λ b. mends b) (sym e)
      by (inr none) = nowhere_same none under
