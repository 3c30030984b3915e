-- The mends of an accepted image are whole blocks of bytes, at sectors of the image.
use Rattle.std.proofs.Common.{◌≡◌, ◌⊎◌, inl, inr, ℕ, zero, suc, ◌+◌, ◌<◌, ◌≤◌, arith, refl, sym, ◌∙◌, ap, subst, List, [], ◌∷◌, ◌++◌, length, drop, codes, Bool, true, false, cond, ltb, Option, Some, None}
use Rattle.std.specs.Prelude.{◌==◌, ◌&&◌, ◌/◌}
use Rattle.std.specs.List.{flat_map, range_with_len}
use Rattle.std.proofs.lemmas.Bool.{and_parts, eqb-true, ltb-true}
use Rattle.udf_field.specs.declared.address.Addr.{Addr}
use Rattle.udf_field.specs.declared.address.Short.{Short}
use Rattle.udf_field.specs.declared.address.Span.{Span}
use Rattle.udf_model.specs.Bytes.{IsBytes}
use Rattle.udf_model.specs.Size.{is_size}
use Rattle.udf_model.proofs.Parts.{drop_is_bytes}
use Rattle.udf_file_model.specs.Address.{addr}
use Rattle.udf_file_model.specs.Content.{block_at, block_by}
use Rattle.udf_file_model.specs.Front.{blocks_for}
use Rattle.udf_file_model.specs.Listing.{Volume}
use Rattle.udf_volume_model.specs.Anchor as anchor
use Rattle.udf_volume_model.specs.Edits.{are_edits, look}
use Rattle.udf_volume_model.specs.Mended.{terminator}
use Rattle.udf_volume_laws.proofs.Puts.{AreWithin}
use Rattle.udf_volume_laws.proofs.Within.{block_ends}
use Rattle.udf_tree_model.specs.Among.{Member}
use Rattle.udf_tree_model.specs.Frame.{Frame}
use Rattle.udf_tree_model.specs.Ordinary.{kept_entries}
use Rattle.udf_tree_model.proofs.Members.{all_at, member_append, member_of_map}
use Rattle.udf_rules_model.specs.Bitmap.{bitmap_holds}
use Rattle.udf_rules_model.specs.Integrity.{integrity_holds, is_formed, prevailing_integrity}
use Rattle.udf_rules_model.specs.Recognition.{Recognition, recognition_holds, slot_at, slot_blocks, wanted_digit}
use Rattle.udf_file_mends.specs.FileSet.{cleared_set, file_set_edits, loses_system, mended_set}
use Rattle.udf_file_mends.specs.Mends.{edit_by, edits_at, edits_of, file_edits, mend_of}
use Rattle.udf_file_mends.specs.Repairable.{IsRepairable}
use Rattle.udf_file_mends.specs.Spread.{Sited, spread_from}
use Rattle.udf_file_mends.proofs.Blockwise.{IsWhole, mend_whole}
use Rattle.udf_file_mends.proofs.Joined.{has_entry, unlisted}
use Rattle.udf_file_mends.proofs.Wholeness.{block_is_bytes}
use Rattle.udf_space_mends.specs.BitmapMend.{bitmap_edits, mended_area}
use Rattle.udf_space_mends.specs.IntegrityMend.{Origin, corrected, fresh, fresh_end, integrity_edits, integrity_edits_by}
use Rattle.udf_space_mends.specs.SlotMend.{recognition_edits, slot_block, slot_edits, volume_name}
use Rattle.udf_space_mends.proofs.Slots.{recognition_fits}
use Rattle.udf_mended_image.proofs.Bytes.{area_bytes, cleared_whole, corrected_whole, end_whole, fresh_whole, over_whole, slot_bytes, small_bytes}
use Rattle.udf_mended_image.proofs.Quiet.{IsInExtent, extent_some, prevails_there}

-- a whole block at a sector below a number
pub record IsFit (size blocks : ℕ) (x : ℕ × List ℕ) : Type 0 where
  pub whole : IsWhole size x.1
  pub inside : x.0 < blocks

abbrev pub AreFit : ℕ → ℕ → List (ℕ × List ℕ) → Type 0
AreFit size blocks xs = (x : ℕ × List ℕ) → Member x xs → IsFit size blocks x

pub fit_both : (size blocks : ℕ) (xs ys : List (ℕ × List ℕ)) → AreFit size blocks xs → AreFit size blocks ys → AreFit size blocks (xs ++ ys)
fit_both size blocks xs ys h k x m = by (member_append xs ys x m)
  where
    by : Member x xs ⊎ Member x ys → IsFit size blocks x
    by (inl i) = h x i
    by (inr i) = k x i

pub fit_none : (size blocks : ℕ) → AreFit size blocks []
fit_none size blocks x m = absurd m

pub fit_first : (size blocks : ℕ) (y : ℕ × List ℕ) (xs : List (ℕ × List ℕ)) → IsFit size blocks y → AreFit size blocks xs → AreFit size blocks (y ∷ xs)
fit_first size blocks y xs h k x (inl e) = subst (λ (z : ℕ × List ℕ). IsFit size blocks z) (sym e) h
fit_first size blocks y xs h k x (inr m) = k x m

pub fit_within : (size whole : ℕ) (xs : List (ℕ × List ℕ)) → AreFit size (whole / size) xs → AreWithin size whole xs
fit_within size whole [] h = tt
fit_within size whole (x ∷ xs) h =
    let f = h x (inl refl) in (f.whole.long, block_ends size whole x.0 f.inside, fit_within size whole xs (λ y m. h y (inr m)))

-- what is looked up is a block of bytes
pub fit_bytes : (size blocks n : ℕ) (xs : List (ℕ × List ℕ)) (block : List ℕ) → AreFit size blocks xs → IsBytes block → IsBytes (look n xs block)
unfolding look
fit_bytes size blocks n [] block h k = k
fit_bytes size blocks n (x ∷ xs) block h k = by (n == x.0) (fit_bytes size blocks n xs block (λ y m. h y (inr m)) k)
  where
    by : (t : Bool) → IsBytes (look n xs block) → IsBytes (cond t x.1 (look n xs block))
    by true r = (h x (inl refl)).whole.bytes
    by false r = r

-- and whole
pub fit_long : (size blocks n : ℕ) (xs : List (ℕ × List ℕ)) (block : List ℕ) → AreFit size blocks xs → length block ≡ size → length (look n xs block) ≡ size
unfolding look
fit_long size blocks n [] block h k = k
fit_long size blocks n (x ∷ xs) block h k = by (n == x.0) (fit_long size blocks n xs block (λ y m. h y (inr m)) k)
  where
    by : (t : Bool) → length (look n xs block) ≡ size → length (cond t x.1 (look n xs block)) ≡ size
    by true r = (h x (inl refl)).whole.long
    by false r = r

-- ---- blocks at the sectors of their addresses
pub sited_fit : (v : Volume) (blocks : ℕ) (bs : List Sited) → ((c : Sited) (n : ℕ) → Member c bs → v.place c.0 ≡ Some n → IsFit v.size blocks (n, c.1)) → AreFit v.size blocks (edits_of v bs)
unfolding edits_of
sited_fit v blocks [] h = fit_none v.size blocks
sited_fit v blocks (b ∷ bs) h =
    fit_both v.size blocks (edit_by b.1 (v.place b.0)) (edits_of v bs) (here (v.place b.0) refl) (sited_fit v blocks bs (λ c n m p. h c n (inr m) p))
  where
    here : (o : Option ℕ) → v.place b.0 ≡ o → AreFit v.size blocks (edit_by b.1 o)
    here None e = fit_none v.size blocks
    here (Some n) e = fit_first v.size blocks (n, b.1) [] (h b n (inl refl) e) (fit_none v.size blocks)

each_fit : (size blocks : ℕ) (edits : Addr → List (ℕ × List ℕ)) (cs : List Addr) → ((c : Addr) → Member c cs → AreFit size blocks (edits c)) → AreFit size blocks (flat_map edits cs)
each_fit size blocks edits [] h = fit_none size blocks
each_fit size blocks edits (c ∷ cs) h = fit_both size blocks (edits c) (flat_map edits cs) (h c (inl refl)) (each_fit size blocks edits cs (λ d m. h d (inr m)))

module _ (f : Frame) (v : Volume) (ok : IsRepairable f v) (blocks : ℕ) (large : 512 ≤ v.size)
    (inside : (x : Addr) (n : ℕ) → v.place x ≡ Some n → n < blocks) where
  pub files_fit : AreFit v.size blocks (file_edits f v)
  unfolding file_edits edits_at
  files_fit =
      each_fit v.size blocks (edits_at f v) (kept_entries f v)
      (λ a m.
      let k = unlisted f v ok a m in
      let e = has_entry f v ok a k in
      sited_fit v blocks (mend_of f v a)
      (λ c n i p. record {
        whole = mend_whole f v (λ n. look n (edits_at f v a) (v.disk n)) a e.0 (record { repairable = ok; kept = k; entry = e.1; has = record { blocks = λ y n k p. refl } }) c i;
        inside = inside c.0 n p;
      }))

  long_at : (x : Addr) (n : ℕ) → v.place x ≡ Some n → length (block_at v x) ≡ v.size
  long_at x n p = ap (λ o. length (block_by v.disk o)) p ∙ ok.whole x n p

  pub set_fit : AreFit v.size blocks (file_set_edits f v)
  unfolding file_set_edits
  set_fit = by (loses_system f v) refl
    where
      at : loses_system f v ≡ true → (n : ℕ) → v.place f.file_set ≡ Some n → IsFit v.size blocks (n, mended_set f v)
      at e n p = record {
        whole = subst (λ b. IsWhole v.size (cond b (cleared_set f.file_set.block (block_at v f.file_set)) (block_at v f.file_set))) (sym e)
            (cleared_whole v.size f.file_set.block (block_at v f.file_set) large (block_is_bytes v ok.bytes f.file_set) (long_at f.file_set n p));
        inside = inside f.file_set n p;
      }

      each : loses_system f v ≡ true → (c : Sited) (n : ℕ) → Member c ((f.file_set, mended_set f v) ∷ []) → v.place c.0 ≡ Some n → IsFit v.size blocks (n, c.1)
      each e c n (inl q) p = subst (λ (z : List ℕ). IsFit v.size blocks (n, z)) (sym (ap (λ (z : Sited). z.1) q)) (at e n (sym (ap (λ (z : Sited). v.place z.0) q) ∙ p))
      each e c n (inr m) p = absurd m

      by : (b : Bool) → loses_system f v ≡ b → AreFit v.size blocks (cond b (edits_of v ((f.file_set, mended_set f v) ∷ [])) [])
      by false e = fit_none v.size blocks
      by true e = sited_fit v blocks ((f.file_set, mended_set f v) ∷ []) (each e)

  spread_fit : (part block many : ℕ) (bytes : List ℕ) → IsBytes bytes → (c : Sited) (n : ℕ) → Member c (spread_from v part block many bytes) → v.place c.0 ≡ Some n
      → IsFit v.size blocks (n, c.1)
  unfolding spread_from
  spread_fit part block zero bytes b c n m p = absurd m
  spread_fit part block (suc many) bytes b c n (inl q) p =
      let at : v.place (addr part block) ≡ Some n = sym (ap (λ (z : Sited). v.place z.0) q) ∙ p in
      subst (λ (z : List ℕ). IsFit v.size blocks (n, z)) (sym (ap (λ (z : Sited). z.1) q))
      (record { whole = over_whole v.size bytes (block_at v (addr part block)) b (block_is_bytes v ok.bytes (addr part block)) (long_at (addr part block) n at); inside = inside (addr part block) n at })
  spread_fit part block (suc many) bytes b c n (inr m) p = spread_fit part (block + 1) many (drop v.size bytes) (drop_is_bytes v.size bytes b) c n m p

  pub bitmap_fit : (logical : List ℕ) (count : ℕ) (bitmap : Option Short) → AreFit v.size blocks (bitmap_edits f v logical count bitmap)
  unfolding bitmap_edits
  bitmap_fit logical count None = fit_none v.size blocks
  bitmap_fit logical count (Some extent) = by (bitmap_holds f v count extent)
    where
      by : (b : Bool) → AreFit v.size blocks (cond b [] (edits_of v (spread_from v 0 extent.block (blocks_for v.size extent.length) (mended_area f v logical count extent))))
      by true = fit_none v.size blocks
      by false =
          sited_fit v blocks (spread_from v 0 extent.block (blocks_for v.size extent.length) (mended_area f v logical count extent))
          (λ c n m p. spread_fit 0 extent.block (blocks_for v.size extent.length) (mended_area f v logical count extent) (area_bytes f v logical count extent ok.bytes) c n m p)

  pub integrity_fit : (count : ℕ) (bitmap : Option Short) (origin : Origin) (extent : Span) → IsBytes origin.stamp → length origin.stamp ≤ 12
      → ((n : ℕ) → IsInExtent v extent n → n < blocks) → ((n : ℕ) → n < blocks → length (v.disk n) ≡ v.size)
      → AreFit v.size blocks (integrity_edits f v count bitmap origin extent)
  unfolding integrity_edits
  integrity_fit count bitmap origin extent bytes short within whole = by (integrity_holds f v count bitmap extent) refl
    where
      made : (n : ℕ) → IsWhole v.size (fresh f v count origin n)
      made n = fresh_whole f v count origin n large bytes short

      end : (b : Bool) → ltb 1 (anchor.blocks_for v.size extent.length) ≡ b
          → AreFit v.size blocks (cond b ((extent.start + 1, terminator v.size (extent.start + 1) (fresh f v count origin extent.start)) ∷ []) [])
      end false e = fit_none v.size blocks
      end true e =
          let l = ltb-true 1 (anchor.blocks_for v.size extent.length) e in
          fit_first v.size blocks (extent.start + 1, terminator v.size (extent.start + 1) (fresh f v count origin extent.start)) []
          (record {
            whole = end_whole v.size (extent.start + 1) (fresh f v count origin extent.start) large (made extent.start).bytes;
            inside = within (extent.start + 1) (omega arith, omega (arith, l));
          }) (fit_none v.size blocks)

      new : (n : ℕ) → n < blocks → (b : Bool) → IsWhole v.size (cond b (corrected f v count bitmap n (v.disk n)) (fresh f v count origin n))
      new n l true = corrected_whole f v count bitmap n (v.disk n) large (ok.bytes n) (whole n l)
      new n l false = made n

      at : 1 ≤ anchor.blocks_for v.size extent.length → (o : Option ℕ) → prevailing_integrity v.size v.disk extent ≡ o
          → AreFit v.size blocks (integrity_edits_by f v count bitmap origin extent o)
      at l None e =
          fit_first v.size blocks (extent.start, fresh f v count origin extent.start) (fresh_end v extent.start (fresh f v count origin extent.start) (anchor.blocks_for v.size extent.length))
          (record { whole = made extent.start; inside = within extent.start (omega arith, omega (arith, l)) })
          (end (ltb 1 (anchor.blocks_for v.size extent.length)) refl)
      at l (Some s) e =
          let i = prevails_there v extent s e in
          let low = within s (i.from, i.below) in
          fit_first v.size blocks (s, cond (is_formed (v.disk s)) (corrected f v count bitmap s (v.disk s)) (fresh f v count origin s)) []
          (record { whole = new s low (is_formed (v.disk s)); inside = low }) (fit_none v.size blocks)

      by : (b : Bool) → integrity_holds f v count bitmap extent ≡ b → AreFit v.size blocks (cond b [] (integrity_edits_by f v count bitmap origin extent (prevailing_integrity v.size v.disk extent)))
      by true h = fit_none v.size blocks
      by false h = at (extent_some f v count bitmap extent h (omega (arith, large))) (prevailing_integrity v.size v.disk extent) refl

-- ---- the recognition sequence
abbrev HaveBytes : List (ℕ × List ℕ) → Type 0
HaveBytes xs = (x : ℕ × List ℕ) → Member x xs → IsBytes x.1

have_both : (xs ys : List (ℕ × List ℕ)) → HaveBytes xs → HaveBytes ys → HaveBytes (xs ++ ys)
have_both xs ys h k x m = by (member_append xs ys x m)
  where
    by : Member x xs ⊎ Member x ys → IsBytes x.1
    by (inl i) = h x i
    by (inr i) = k x i

slot_have : (r : Recognition) (i : ℕ) (text : List ℕ) → IsBytes text → HaveBytes (slot_edits r i text)
unfolding slot_edits
slot_have r i text h x m =
    let z = member_of_map (λ j. (slot_at r.size i + j, slot_block r.size text j)) (range_with_len 0 (slot_blocks r.size)) x m in
    subst (λ (y : ℕ × List ℕ). IsBytes y.1) (sym z.2) (slot_bytes r.size text z.0 h)

name_bytes : (digit : ℕ) → IsBytes (volume_name digit)
name_bytes digit = by (digit == 2)
  where
    by : (b : Bool) → IsBytes (cond b (codes "NSR02") (codes "NSR03"))
    by true = small_bytes (codes "NSR02") refl
    by false = small_bytes (codes "NSR03") refl

recognition_have : (r : Recognition) (partition : List ℕ) → HaveBytes (recognition_edits r partition)
unfolding recognition_edits
recognition_have r partition = by (recognition_holds r)
  where
    by : (b : Bool) → HaveBytes (cond b [] (slot_edits r 0 (codes "BEA01") ++ (slot_edits r 1 (volume_name (wanted_digit partition)) ++ slot_edits r 2 (codes "TEA01"))))
    by true = λ x m. absurd m
    by false =
        have_both (slot_edits r 0 (codes "BEA01")) (slot_edits r 1 (volume_name (wanted_digit partition)) ++ slot_edits r 2 (codes "TEA01"))
        (slot_have r 0 (codes "BEA01") (small_bytes (codes "BEA01") refl))
        (have_both (slot_edits r 1 (volume_name (wanted_digit partition))) (slot_edits r 2 (codes "TEA01"))
        (slot_have r 1 (volume_name (wanted_digit partition)) (name_bytes (wanted_digit partition))) (slot_have r 2 (codes "TEA01") (small_bytes (codes "TEA01") refl)))

pub recognition_fit : (r : Recognition) (partition : List ℕ) → is_size r.size ≡ true → AreFit r.size r.blocks (recognition_edits r partition)
unfolding are_edits
recognition_fit r partition sized x m =
    let e = all_at (λ (edit : ℕ × List ℕ). (length edit.1 == r.size) && ltb edit.0 r.blocks) (recognition_edits r partition) x (recognition_fits r partition sized) m in
    let p = and_parts (length x.1 == r.size) (ltb x.0 r.blocks) e in
    record { whole = record { bytes = recognition_have r partition x m; long = eqb-true (length x.1) r.size p.0 }; inside = ltb-true x.0 r.blocks p.1 }
