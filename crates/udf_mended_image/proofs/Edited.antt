-- What a disk with all mends has at the sectors of an accepted image.
use Rattle.std.proofs.Common.{◌≡◌, inl, ℕ, ◌+◌, ◌-◌, ◌*◌, ◌<◌, ◌≤◌, arith, refl, sym, ◌∙◌, ap, List, [], ◌∷◌, ◌++◌, Bool, true, false, cond, Option, Some, None}
use Rattle.std.specs.Prelude.{◌==◌}
use Rattle.std.proofs.Math.Nat.{le-div_iff_mul-le}
use Rattle.std.proofs.lemmas.Bool.{eqb-true, false≢true}
use Rattle.udf_field.specs.declared.address.Addr.{Addr}
use Rattle.udf_field.specs.declared.address.Short.{Short}
use Rattle.udf_model.specs.Image.{block_of}
use Rattle.udf_model.specs.Tag.{is_id}
use Rattle.udf_file_model.specs.Address.{addr}
use Rattle.udf_file_model.specs.Content.{block_at, block_by}
use Rattle.udf_file_model.specs.Front.{blocks_for}
use Rattle.udf_file_model.specs.Listing as listing
use Rattle.udf_file_model.specs.Listing.{with_disk}
use Rattle.udf_volume_model.specs.Anchor as anchor
use Rattle.udf_volume_model.specs.Areas.{Area, covers}
use Rattle.udf_volume_model.specs.Edits.{look}
use Rattle.udf_volume_model.specs.FileSet.{id_by}
use Rattle.udf_volume_model.specs.Kept.{KeptSequence, kept_sequence_of}
use Rattle.udf_volume_model.specs.Opened.{volume_mended}
use Rattle.udf_volume_model.specs.Same.{is_read}
use Rattle.udf_model.specs.Image.{blocks_in}
use Rattle.udf_volume_laws.proofs.Apart.{covered}
use Rattle.udf_volume_laws.proofs.Members.{IsIn}
use Rattle.udf_tree_model.specs.Claimed.{claims}
use Rattle.udf_tree_model.specs.Frame.{Frame}
use Rattle.udf_tree_model.specs.Ordinary.{is_kept_entry}
use Rattle.udf_volume.specs.Areas.{area_stated, integrity_stated}
use Rattle.udf_volume.specs.declared.volume.Volume.{Volume}
use Rattle.udf_rules_model.specs.Files.{files_in, frame_in, places_of}
use Rattle.udf_rules_model.specs.Findings.{recognition_of}
use Rattle.udf_rules_model.specs.Recognition.{is_untaken}
use Rattle.udf_file_mends.specs.FileSet.{cleared_set, file_set_edits, loses_system, mended_set}
use Rattle.udf_file_mends.specs.Mends.{edits_at, edits_of, file_edits}
use Rattle.udf_file_mends.proofs.Joined.{claims_free, has_each}
use Rattle.udf_file_mends.proofs.Sited.{look_first, look_joined}
use Rattle.udf_space_mends.specs.BitmapMend.{bitmap_edits}
use Rattle.udf_space_mends.specs.IntegrityMend.{integrity_edits, origin_of}
use Rattle.udf_space_mends.specs.SlotMend.{recognition_edits}
use Rattle.udf_mended_image.specs.Further.{further_edits}
use Rattle.udf_mended_image.proofs.Given.{IsGiven, bitmap_fixed, large, ok, set_fixed, set_stands, set_unlike}
use Rattle.udf_mended_image.proofs.Laid.{table}
use Rattle.udf_mended_image.proofs.Quiet.{IsInExtent, IsQuiet, bitmap_quiet, files_quiet, integrity_quiet, recognition_quiet, set_quiet}
use Rattle.udf_mended_image.proofs.Reading.{read_integrity, read_taken, read_unheld}
use Rattle.udf_mended_image.proofs.Sectors.{IsHeld, stands_apart, stands_held}
use Rattle.udf_mended_image.proofs.Still.{held_integrity, held_still, held_taken, integrity_still, integrity_taken, integrity_unheld, untaken_integrity, untaken_still, untaken_unheld}

-- no bytes take no block
pub no_blocks : (size length : ℕ) → 512 ≤ size → length ≡ 0 → 1 ≤ anchor.blocks_for size length → ⊥
unfolding anchor.blocks_for
no_blocks size length large e h =
    let some : 0 < size = omega (arith, large) in
    let m : 1 * size ≤ length + (size - 1) = (le-div_iff_mul-le some).0 h in
    omega (arith, m, e, large)

module _ (image : List ℕ) (volume : Volume) (g : IsGiven image volume) where
  abbrev f : Frame
  f = frame_in volume image

  abbrev v : listing.Volume
  v = files_in volume image

  abbrev disk : ℕ → List ℕ
  disk = block_of volume.size image

  abbrev pub own : ℕ → List ℕ
  own = block_of volume.size (volume_mended volume.size image)

  abbrev pub recognised : List (ℕ × List ℕ)
  recognised = recognition_edits (recognition_of volume image) (block_of volume.size image volume.pd)

  abbrev pub filed : List (ℕ × List ℕ)
  filed = file_edits f v

  abbrev pub headed : List (ℕ × List ℕ)
  headed = file_set_edits f v

  abbrev pub mapped : List (ℕ × List ℕ)
  mapped = bitmap_edits f v (disk volume.lvd) volume.length volume.bitmap

  abbrev pub counted : List (ℕ × List ℕ)
  counted = integrity_edits f v volume.length volume.bitmap (origin_of (disk volume.pvd) (disk volume.lvd)) volume.integrity

  -- a disk with all mends
  abbrev pub made : ℕ → List ℕ
  made n = look n (further_edits volume image) (block_of volume.size (volume_mended volume.size image) n)

  pub made_is : (n : ℕ) → made n ≡ look n recognised (look n filed (look n headed (look n mapped (look n counted (own n)))))
  unfolding further_edits
  made_is n =
      look_joined n recognised (filed ++ (headed ++ (mapped ++ counted))) (own n)
      ∙ ap (look n recognised) (look_joined n filed (headed ++ (mapped ++ counted)) (own n)
      ∙ ap (look n filed) (look_joined n headed (mapped ++ counted) (own n)
      ∙ ap (look n headed) (look_joined n mapped counted (own n))))

  abbrev pub Held : ℕ → Type 0
  Held n = IsHeld volume (table image volume (large image volume g) g.opened) n

  pub place_held : (x : Addr) (n : ℕ) → v.place x ≡ Some n → Held n
  place_held x n p = stands_held image volume (large image volume g) g.opened x n p

  pub one_place : (x y : Addr) (n : ℕ) → v.place x ≡ Some n → v.place y ≡ Some n → x ≡ y
  one_place x y n p q = stands_apart image volume (large image volume g) g.opened x y n p q

  -- ---- where each kind does not write
  pub counted_quiet : (n : ℕ) → ((area : Area) → IsIn area (integrity_stated volume) → covers area n ≡ false) → IsQuiet n counted
  counted_quiet n off =
      integrity_quiet f v volume.length volume.bitmap (origin_of (disk volume.pvd) (disk volume.lvd)) volume.integrity n (omega (arith, large image volume g))
      (λ i. by (volume.integrity.length == 0) refl i off)
    where
      by : (b : Bool) → (volume.integrity.length == 0) ≡ b → IsInExtent v volume.integrity n
          → ((area : Area) → IsIn area (cond b [] (area_stated volume.size volume.integrity ∷ [])) → covers area n ≡ false) → ⊥
      by true e i h = no_blocks volume.size volume.integrity.length (large image volume g) (eqb-true volume.integrity.length 0 e) (omega (arith, i.0, i.1))
      by false e i h =
          false≢true (sym (h (area_stated volume.size volume.integrity) (inl refl)) ∙ covered (area_stated volume.size volume.integrity) n i.0 i.1)

  recognised_quiet : (n : ℕ) → is_untaken (recognition_of volume image) n ≡ false → IsQuiet n recognised
  recognised_quiet n e = recognition_quiet (recognition_of volume image) (disk volume.pd) n (unfold recognition_of in g.sized) e

  pub filed_quiet : (n : ℕ) → ((x : Addr) → v.place x ≡ Some n → f.fixed x ≡ true) → IsQuiet n filed
  filed_quiet n fixed =
      files_quiet f v (ok image volume g) n
      (λ a x k c p. false≢true (sym (claims_free f v (ok image volume g) a x k c) ∙ fixed x p))

  unheld_filed : (n : ℕ) → (Held n → ⊥) → IsQuiet n filed
  unheld_filed n h = filed_quiet n (λ x p. absurd (h (place_held x n p)))

  unheld_headed : (n : ℕ) → (Held n → ⊥) → IsQuiet n headed
  unheld_headed n h = set_quiet f v n (λ p. h (place_held f.file_set n p))

  unheld_mapped : (n : ℕ) → (Held n → ⊥) → IsQuiet n mapped
  unheld_mapped n h = bitmap_quiet f v (disk volume.lvd) volume.length volume.bitmap n (λ extent e k l p. h (place_held (addr 0 (extent.block + k)) n p))

  -- ---- the sectors of addresses
  pub held_made : (n : ℕ) → Held n → made n ≡ look n filed (look n headed (look n mapped (disk n)))
  held_made n h =
      made_is n
      ∙ recognised_quiet n (held_taken image volume (large image volume g) g.opened n h) (look n filed (look n headed (look n mapped (look n counted (own n)))))
      ∙ ap (λ b. look n filed (look n headed (look n mapped b)))
      (counted_quiet n (held_integrity image volume (large image volume g) g.opened n h) (own n) ∙ held_still image volume (large image volume g) g.opened n h)

  -- at an address that a kept entry claims
  pub claimed_made : (a x : Addr) (n : ℕ) → is_kept_entry f v a ≡ true → claims f v a x ≡ true → v.place x ≡ Some n → made n ≡ look n (edits_at f v a) (disk n)
  unfolding anchor.blocks_for
  claimed_made a x n k c p =
      held_made n (place_held x n p)
      ∙ ap (look n filed)
      (set_quiet f v n (λ q. false≢true (sym free ∙ ap f.fixed (one_place x f.file_set n p q) ∙ set_fixed image volume g)) (look n mapped (disk n))
      ∙ bitmap_quiet f v (disk volume.lvd) volume.length volume.bitmap n
      (λ extent e j l q. false≢true (sym free ∙ ap f.fixed (one_place x (addr 0 (extent.block + j)) n p q) ∙ bitmap_fixed image volume g extent e j l)) (disk n))
      ∙ (has_each f v (ok image volume g) a k).blocks x n c p
    where
      free : f.fixed x ≡ false
      free = claims_free f v (ok image volume g) a x k c

  -- at an address of the bitmap's extent
  pub bitmap_made : (extent : Short) → volume.bitmap ≡ Some extent → (k n : ℕ) → k < blocks_for volume.size extent.length → v.place (addr 0 (extent.block + k)) ≡ Some n
      → made n ≡ look n mapped (disk n)
  unfolding anchor.blocks_for
  bitmap_made extent e k n l p =
      held_made n (place_held (addr 0 (extent.block + k)) n p)
      ∙ filed_quiet n (λ x q. ap f.fixed (one_place x (addr 0 (extent.block + k)) n q p) ∙ bitmap_fixed image volume g extent e k l) (look n headed (look n mapped (disk n)))
      ∙ set_quiet f v n (λ q. set_unlike image volume g extent e k l (one_place f.file_set (addr 0 (extent.block + k)) n q p)) (look n mapped (disk n))

  -- at that of the file set
  pub set_made : (n : ℕ) → v.place f.file_set ≡ Some n → made n ≡ look n headed (disk n)
  unfolding anchor.blocks_for
  set_made n p =
      held_made n (place_held f.file_set n p)
      ∙ filed_quiet n (λ x q. ap f.fixed (one_place x f.file_set n q p) ∙ set_fixed image volume g) (look n headed (look n mapped (disk n)))
      ∙ ap (look n headed)
      (bitmap_quiet f v (disk volume.lvd) volume.length volume.bitmap n
      (λ extent e k l q. set_unlike image volume g extent e k l (one_place f.file_set (addr 0 (extent.block + k)) n p q)) (disk n))

  -- ---- the other sectors
  unheld_made : (n : ℕ) → (Held n → ⊥) → made n ≡ look n recognised (look n counted (own n))
  unheld_made n h =
      made_is n
      ∙ ap (look n recognised)
      (unheld_filed n h (look n headed (look n mapped (look n counted (own n))))
      ∙ unheld_headed n h (look n mapped (look n counted (own n)))
      ∙ unheld_mapped n h (look n counted (own n)))

  -- in the extent of integrity descriptors
  pub integrity_made : (n : ℕ) → IsInExtent v volume.integrity n → made n ≡ look n counted (disk n)
  integrity_made n i = by (volume.integrity.length == 0) refl (λ area j c. inside area j c)
    where
      inside : (area : Area) → IsIn area (integrity_stated volume) → covers area n ≡ true → made n ≡ look n counted (disk n)
      inside area j c =
          unheld_made n (integrity_unheld image volume (large image volume g) g.opened area j n c)
          ∙ recognised_quiet n (integrity_taken image volume (large image volume g) g.opened area j n c) (look n counted (own n))
          ∙ ap (look n counted) (integrity_still image volume (large image volume g) g.opened area j n c)

      by : (b : Bool) → (volume.integrity.length == 0) ≡ b
          → ((area : Area) → IsIn area (cond b [] (area_stated volume.size volume.integrity ∷ [])) → covers area n ≡ true → made n ≡ look n counted (disk n)) → made n ≡ look n counted (disk n)
      by true e h = absurd (no_blocks volume.size volume.integrity.length (large image volume g) (eqb-true volume.integrity.length 0 e) (omega (arith, i.0, i.1)))
      by false e h = h (area_stated volume.size volume.integrity) (inl refl) (covered (area_stated volume.size volume.integrity) n i.0 i.1)

  -- where the volume takes nothing
  pub untaken_made : (n : ℕ) → is_untaken (recognition_of volume image) n ≡ true → made n ≡ look n recognised (disk n)
  untaken_made n u =
      unheld_made n (untaken_unheld image volume (large image volume g) g.opened n u)
      ∙ ap (look n recognised)
      (counted_quiet n (untaken_integrity image volume (large image volume g) g.opened n u) (own n) ∙ untaken_still image volume (large image volume g) g.opened n u)

  -- where the mended volume is read
  pub read_made : (s : KeptSequence) → kept_sequence_of volume.size (volume_mended volume.size image) ≡ Some s → (n : ℕ)
      → is_read volume.size (blocks_in volume.size image) own s n ≡ true → made n ≡ own n
  read_made s found n h =
      unheld_made n (read_unheld image volume (large image volume g) g.opened s found n h)
      ∙ recognised_quiet n (read_taken image volume (large image volume g) g.opened s found n h) (look n counted (own n))
      ∙ counted_quiet n (read_integrity image volume (large image volume g) g.opened s found n h) (own n)

  -- ---- the file set
  set_sector : (n : ℕ) × (v.place f.file_set ≡ Some n)
  set_sector = by (places_of volume image volume.file_set.at) refl (set_stands image volume g)
    where
      by : (o : Option ℕ) → places_of volume image volume.file_set.at ≡ o → is_id 256 (id_by disk volume.file_set.at.block o) ≡ true → (n : ℕ) × (v.place f.file_set ≡ Some n)
      by None e h = absurd (false≢true h)
      by (Some n) e h = (n, unfold frame_in in e)

  pub set_mended : (there : ℕ → List ℕ) → ((n : ℕ) → there n ≡ made n) → block_at (with_disk v there) f.file_set ≡ mended_set f v
  unfolding file_set_edits look
  set_mended there same =
      ap (block_by there) set_sector.1 ∙ same set_sector.0 ∙ set_made set_sector.0 set_sector.1
      ∙ by (loses_system f v) refl
    where
      by : (b : Bool) → loses_system f v ≡ b → look set_sector.0 (cond b (edits_of v ((f.file_set, mended_set f v) ∷ [])) []) (disk set_sector.0) ≡ mended_set f v
      by true e =
          look_first v one_place f.file_set set_sector.0 set_sector.1 (f.file_set, mended_set f v) [] (disk set_sector.0) refl
      by false e = sym (ap (block_by disk) set_sector.1) ∙ sym (ap (λ b. cond b (cleared_set f.file_set.block (block_at v f.file_set)) (block_at v f.file_set)) e)
