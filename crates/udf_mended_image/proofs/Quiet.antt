-- Where the mends of files and of space do not write.
use Rattle.std.proofs.Common.{◌≡◌, ◌⊎◌, inl, inr, ℕ, zero, suc, ◌+◌, ◌-◌, ◌<◌, ◌≤◌, arith, refl, sym, ◌∙◌, ap, List, [], ◌∷◌, ◌++◌, drop, Bool, true, false, cond, ◌||◌, ltb, Option, Some, None}
use Rattle.std.specs.Prelude.{◌==◌}
use Rattle.std.specs.List.{flat_map}
use Rattle.std.proofs.lemmas.Bool.{cases_eq, eq-eqb, false≢true, ltb-true, true_from_ne_false}
use Rattle.std.proofs.lemmas.Nat.{le-div}
use Rattle.udf_field.specs.declared.address.Addr.{Addr}
use Rattle.udf_field.specs.declared.address.Short.{Short}
use Rattle.udf_field.specs.declared.address.Span.{Span}
use Rattle.udf_model.specs.Size.{is_size}
use Rattle.udf_file_model.specs.Address.{addr}
use Rattle.udf_file_model.specs.Front.{blocks_for}
use Rattle.udf_file_model.specs.Listing.{Volume}
use Rattle.udf_volume_model.specs.Anchor as anchor
use Rattle.udf_volume_model.specs.Edits.{is_off, look}
use Rattle.udf_volume_model.specs.Mended.{terminator}
use Rattle.udf_volume_laws.proofs.Others.{look_off}
use Rattle.udf_volume_laws.proofs.Puts.{look_past}
use Rattle.udf_tree_model.specs.Among.{Member}
use Rattle.udf_tree_model.specs.Claimed.{claims}
use Rattle.udf_tree_model.specs.Frame.{Frame}
use Rattle.udf_tree_model.specs.Ordinary.{is_kept_entry, kept_entries}
use Rattle.udf_tree_model.proofs.Members.{member_map}
use Rattle.udf_rules_model.specs.Bitmap.{bitmap_holds}
use Rattle.udf_rules_model.specs.Integrity.{integrity_front, integrity_holds, is_integrity, is_stated_by, prevailing_integrity}
use Rattle.udf_rules_model.specs.Recognition.{Recognition, is_untaken}
use Rattle.udf_file_mends.specs.FileSet.{file_set_edits, loses_system, mended_set}
use Rattle.udf_file_mends.specs.Mends.{edits_at, edits_of, file_edits, mend_of}
use Rattle.udf_file_mends.specs.Repairable.{IsRepairable}
use Rattle.udf_file_mends.specs.Spread.{Sited, spread_from}
use Rattle.udf_file_mends.proofs.Disk.{mend_claimed}
use Rattle.udf_file_mends.proofs.Joined.{has_entry, unlisted}
use Rattle.udf_file_mends.proofs.Sited.{look_absent, look_joined}
use Rattle.udf_space_mends.specs.BitmapMend.{bitmap_edits, mended_area}
use Rattle.udf_space_mends.specs.IntegrityMend.{Origin, fresh, fresh_end, integrity_edits, integrity_edits_by}
use Rattle.udf_space_mends.specs.SlotMend.{recognition_edits}
use Rattle.udf_space_mends.proofs.Prevailing.{IsIn, last_in}
use Rattle.udf_space_mends.proofs.Slots.{recognition_untaken}

-- these edits leave each block that stands at the sector
abbrev pub IsQuiet : ℕ → List (ℕ × List ℕ) → Type 0
IsQuiet n xs = (block : List ℕ) → look n xs block ≡ block

pub quiet_both : (n : ℕ) (xs ys : List (ℕ × List ℕ)) → IsQuiet n xs → IsQuiet n ys → IsQuiet n (xs ++ ys)
quiet_both n xs ys h k block = look_joined n xs ys block ∙ h (look n ys block) ∙ k block

pub quiet_none : (n : ℕ) → IsQuiet n []
unfolding look
quiet_none n block = refl

-- ---- the mends of kept entries
quiet_each : (n : ℕ) (edits : Addr → List (ℕ × List ℕ)) (cs : List Addr) → ((c : Addr) → Member c cs → IsQuiet n (edits c)) → IsQuiet n (flat_map edits cs)
quiet_each n edits [] h block = quiet_none n block
quiet_each n edits (c ∷ cs) h block = quiet_both n (edits c) (flat_map edits cs) (h c (inl refl)) (quiet_each n edits cs (λ d m. h d (inr m))) block

pub files_quiet : (f : Frame) (v : Volume) → IsRepairable f v → (n : ℕ)
    → ((a x : Addr) → is_kept_entry f v a ≡ true → claims f v a x ≡ true → v.place x ≡ Some n → ⊥) → IsQuiet n (file_edits f v)
unfolding file_edits edits_at
files_quiet f v ok n off =
    quiet_each n (edits_at f v) (kept_entries f v)
    (λ c m block.
    let k = unlisted f v ok c m in
    let e = has_entry f v ok c k in
    look_absent v n (mend_of f v c) block (λ d i p. off c d.0 k (mend_claimed f v ok c e.0 k e.1 d.0 (member_map (λ (z : Sited). z.0) (mend_of f v c) d i)) p))

-- ---- the mend of the file set
pub set_quiet : (f : Frame) (v : Volume) (n : ℕ) → (v.place f.file_set ≡ Some n → ⊥) → IsQuiet n (file_set_edits f v)
unfolding file_set_edits
set_quiet f v n off = by (loses_system f v)
  where
    by : (b : Bool) → IsQuiet n (cond b (edits_of v ((f.file_set, mended_set f v) ∷ [])) [])
    by false = quiet_none n
    by true = λ block. look_absent v n ((f.file_set, mended_set f v) ∷ []) block there
      where
        there : (c : Sited) → Member c ((f.file_set, mended_set f v) ∷ []) → v.place c.0 ≡ Some n → ⊥
        there c (inl e) p = off (sym (ap (λ (z : Sited). v.place z.0) e) ∙ p)
        there c (inr m) p = absurd m

-- ---- the mend of the bitmap
-- the addresses of a row of blocks
pub spread_site : (v : Volume) (part block many : ℕ) (bytes : List ℕ) (c : Sited) → Member c (spread_from v part block many bytes)
    → (k : ℕ) × (k < many) × (c.0 ≡ addr part (block + k))
unfolding spread_from
spread_site v part block zero bytes c m = absurd m
spread_site v part block (suc many) bytes c (inl e) =
    (0, omega arith, ap (λ (z : Sited). z.0) e ∙ ap (λ n. addr part n) (let z : block ≡ block + 0 = omega arith in z))
spread_site v part block (suc many) bytes c (inr m) =
    let r = spread_site v part (block + 1) many (drop v.size bytes) c m in
    (suc r.0, omega (arith, r.1), r.2 ∙ ap (λ n. addr part n) (let z : block + 1 + r.0 ≡ block + suc r.0 = omega arith in z))

pub bitmap_quiet : (f : Frame) (v : Volume) (logical : List ℕ) (blocks : ℕ) (bitmap : Option Short) (n : ℕ)
    → ((extent : Short) → bitmap ≡ Some extent → (k : ℕ) → k < blocks_for v.size extent.length → v.place (addr 0 (extent.block + k)) ≡ Some n → ⊥)
    → IsQuiet n (bitmap_edits f v logical blocks bitmap)
unfolding bitmap_edits
bitmap_quiet f v logical blocks None n off = quiet_none n
bitmap_quiet f v logical blocks (Some extent) n off = by (bitmap_holds f v blocks extent)
  where
    by : (b : Bool) → IsQuiet n (cond b [] (edits_of v (spread_from v 0 extent.block (blocks_for v.size extent.length) (mended_area f v logical blocks extent))))
    by true = quiet_none n
    by false = λ block.
        look_absent v n (spread_from v 0 extent.block (blocks_for v.size extent.length) (mended_area f v logical blocks extent)) block
        (λ c m p.
        let r = spread_site v 0 extent.block (blocks_for v.size extent.length) (mended_area f v logical blocks extent) c m in
        off extent refl r.0 r.1 (sym (ap v.place r.2) ∙ p))

-- ---- the mend of the integrity descriptor
pub extent_some : (f : Frame) (v : Volume) (blocks : ℕ) (bitmap : Option Short) (extent : Span) → integrity_holds f v blocks bitmap extent ≡ false
    → 0 < v.size → 1 ≤ anchor.blocks_for v.size extent.length
unfolding integrity_holds anchor.blocks_for
extent_some f v blocks bitmap extent bad some =
    le-div 1 (extent.length + (v.size - 1)) v.size some (omega (arith, positive))
  where
    first : (b : Bool) → (b || is_stated_by f v blocks bitmap (prevailing_integrity v.size v.disk extent)) ≡ false → b ≡ false
    first true e = e
    first false e = refl

    by : (extent.length ≡ 0) ⊎ (extent.length ≡ 0 → ⊥) → 0 < extent.length
    by (inl h) = absurd (false≢true (sym (first (extent.length == 0) bad) ∙ eq-eqb extent.length 0 h))
    by (inr h) = omega (arith, h)

    positive : 0 < extent.length
    positive = by (cases_eq extent.length 0)

-- the sectors of the edits are those of the extent
abbrev pub IsInExtent : Volume → Span → ℕ → Type 0
IsInExtent v extent n = (extent.start ≤ n) × (n < extent.start + anchor.blocks_for v.size extent.length)

pub prevails_there : (v : Volume) (extent : Span) (s : ℕ) → prevailing_integrity v.size v.disk extent ≡ Some s
    → IsIn (λ n. is_integrity v.size n (v.disk n)) extent.start (anchor.blocks_for v.size extent.length) s
unfolding prevailing_integrity integrity_front
prevails_there v extent s e = last_in (λ n. is_integrity v.size n (v.disk n)) extent.start (anchor.blocks_for v.size extent.length) s e

pub integrity_quiet : (f : Frame) (v : Volume) (blocks : ℕ) (bitmap : Option Short) (origin : Origin) (extent : Span) (n : ℕ) → 0 < v.size
    → (IsInExtent v extent n → ⊥) → IsQuiet n (integrity_edits f v blocks bitmap origin extent)
unfolding integrity_edits
integrity_quiet f v blocks bitmap origin extent n some off = by (integrity_holds f v blocks bitmap extent) refl
  where
    end : (b : Bool) → ltb 1 (anchor.blocks_for v.size extent.length) ≡ b → (like : List ℕ)
        → IsQuiet n (cond b ((extent.start + 1, terminator v.size (extent.start + 1) like) ∷ []) [])
    end false e like = quiet_none n
    end true e like = λ block.
        look_past n (extent.start + 1) (terminator v.size (extent.start + 1) like) [] block
        (λ q. let l = ltb-true 1 (anchor.blocks_for v.size extent.length) e in off (omega (arith, q), omega (arith, q, l)))
        ∙ quiet_none n block

    at : 1 ≤ anchor.blocks_for v.size extent.length → (o : Option ℕ) → prevailing_integrity v.size v.disk extent ≡ o → IsQuiet n (integrity_edits_by f v blocks bitmap origin extent o)
    at l None e = λ block.
        look_past n extent.start (fresh f v blocks origin extent.start) (fresh_end v extent.start (fresh f v blocks origin extent.start) (anchor.blocks_for v.size extent.length)) block
        (λ q. off (omega (arith, q), omega (arith, q, l)))
        ∙ end (ltb 1 (anchor.blocks_for v.size extent.length)) refl (fresh f v blocks origin extent.start) block
    at l (Some s) e = λ block.
        let i = prevails_there v extent s e in
        look_past n s _ [] block (λ q. off (omega (arith, q, i.from), omega (arith, q, i.below))) ∙ quiet_none n block

    by : (b : Bool) → integrity_holds f v blocks bitmap extent ≡ b → IsQuiet n (cond b [] (integrity_edits_by f v blocks bitmap origin extent (prevailing_integrity v.size v.disk extent)))
    by true h = quiet_none n
    by false h = at (extent_some f v blocks bitmap extent h some) (prevailing_integrity v.size v.disk extent) refl

-- ---- the mend of the recognition sequence
pub recognition_quiet : (r : Recognition) (partition : List ℕ) (n : ℕ) → is_size r.size ≡ true → is_untaken r n ≡ false → IsQuiet n (recognition_edits r partition)
recognition_quiet r partition n sized taken block =
    look_off n (recognition_edits r partition) block
    (true_from_ne_false (is_off n (recognition_edits r partition)) (λ e. false≢true (sym taken ∙ recognition_untaken r partition n sized e)))
