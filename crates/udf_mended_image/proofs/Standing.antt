-- An image with the mends of all rules has them, and nothing else, at its sectors.
use Rattle.std.proofs.Common.{◌≡◌, inl, inr, ℕ, ◌/◌, ◌<◌, ◌≤◌, arith, refl, sym, ◌∙◌, ap, subst, List, [], ◌∷◌, ◌++◌, length, Bool, true, false, cond, ◌&&◌, Option, Some, None}
use Rattle.std.specs.Prelude.{◌==◌, is_some, slice_index}
use Rattle.std.proofs.lemmas.Bool.{and_parts, eqb-true, false≢true}
use Rattle.udf_field.specs.declared.address.Addr.{Addr}
use Rattle.udf_model.specs.Image.{block_of}
use Rattle.udf_model.specs.Tag.{id_at, is_id}
use Rattle.udf_file_model.specs.Address.{same_addr}
use Rattle.udf_file_model.specs.Content.{block_at, block_by}
use Rattle.udf_file_model.specs.CutEntry.{AreBytes}
use Rattle.udf_file_model.specs.Listing as listing
use Rattle.udf_file_model.specs.Listing.{is_placed, with_disk}
use Rattle.udf_volume_model.specs.Edits.{look, put_blocks}
use Rattle.udf_volume_model.specs.FileSet.{in_bitmap, id_by}
use Rattle.udf_volume_model.specs.Opened.{volume_mended}
use Rattle.udf_volume_model.specs.Plans.{IsRewrite}
use Rattle.udf_volume_laws.proofs.Applied.{mended_rewrites}
use Rattle.udf_volume_laws.proofs.Final.{block_length}
use Rattle.udf_volume_laws.proofs.Puts.{AreWithin, all_length, block_after}
use Rattle.udf_tree_model.specs.Frame.{Frame, is_address, is_file_set, is_holder}
use Rattle.udf_tree_model.proofs.Places.{same_address}
use Rattle.udf_volume.specs.declared.volume.Volume.{Volume}
use Rattle.udf_rules_model.specs.Files.{files_in, frame_in, places_of, site_in}
use Rattle.udf_rules_model.specs.Findings.{recognition_of}
use Rattle.udf_file_mends.specs.FileSet.{file_set_edits}
use Rattle.udf_file_mends.specs.Mends.{file_edits}
use Rattle.udf_space_mends.specs.BitmapMend.{bitmap_edits}
use Rattle.udf_space_mends.specs.IntegrityMend.{integrity_edits, origin_of}
use Rattle.udf_space_mends.specs.SlotMend.{recognition_edits}
use Rattle.udf_mended_image.specs.Further.{further_edits}
use Rattle.udf_mended_image.proofs.Bytes.{origin_bytes, origin_short}
use Rattle.udf_mended_image.proofs.Edited.{bitmap_made, claimed_made, integrity_made, made, read_made, set_mended, untaken_made}
use Rattle.udf_mended_image.proofs.Extents.{bitmap_placed, extent_inside, integrity_placed}
use Rattle.udf_mended_image.proofs.Fits.{AreFit, bitmap_fit, files_fit, fit_both, fit_bytes, fit_long, fit_within, integrity_fit, recognition_fit, set_fit}
use Rattle.udf_mended_image.proofs.Given.{IsGiven, large, ok, set_stands}
use Rattle.udf_mended_image.proofs.Laid.{blocks_are}
use Rattle.udf_mended_image.proofs.OwnBytes.{own_bytes}
use Rattle.udf_mended_image.proofs.Sectors.{stands_in, whole_there}
use Rattle.udf_mended_image.proofs.Stands.{Stands}
use Rattle.udf_mended_rules.specs.AllMends.{HasAllMends}

-- past the image nothing is put
fit_past : (size blocks n : ℕ) (xs : List (ℕ × List ℕ)) (block : List ℕ) → AreFit size blocks xs → blocks ≤ n → look n xs block ≡ block
unfolding look
fit_past size blocks n [] block h l = refl
fit_past size blocks n (x ∷ xs) block h l = by (n == x.0) refl (fit_past size blocks n xs block (λ y m. h y (inr m)) l)
  where
    by : (t : Bool) → (n == x.0) ≡ t → look n xs block ≡ block → cond t x.1 (look n xs block) ≡ block
    by true e r = absurd (let i = (h x (inl refl)).inside in let q = eqb-true n x.0 e in omega (arith, i, q, l))
    by false e r = r

tag_of : (o : Option ℕ) (id : ℕ) → is_id id o ≡ true → o ≡ Some id
tag_of None id h = absurd (false≢true h)
tag_of (Some n) id h = ap (λ m. Some m) (eqb-true n id h)

module _ (image : List ℕ) (volume : Volume) (g : IsGiven image volume) where
  abbrev f : Frame
  f = frame_in volume image

  abbrev v : listing.Volume
  v = files_in volume image

  abbrev disk : ℕ → List ℕ
  disk = block_of volume.size image

  abbrev own : List ℕ
  own = volume_mended volume.size image

  abbrev pub after : List ℕ
  after = put_blocks volume.size (further_edits volume image) (volume_mended volume.size image)

  abbrev there : ℕ → List ℕ
  there = block_of volume.size after

  inside : (x : Addr) (n : ℕ) → v.place x ≡ Some n → n < volume.blocks
  inside x n p = stands_in image volume (large image volume g) g.opened x n p

  all_fit : AreFit volume.size volume.blocks (further_edits volume image)
  unfolding further_edits recognition_of
  all_fit =
      let bitmap = bitmap_edits f v (disk volume.lvd) volume.length volume.bitmap in
      let counts = integrity_edits f v volume.length volume.bitmap (origin_of (disk volume.pvd) (disk volume.lvd)) volume.integrity in
      fit_both volume.size volume.blocks (recognition_edits (recognition_of volume image) (block_of volume.size image volume.pd)) (file_edits f v ++ (file_set_edits f v ++ (bitmap ++ counts)))
      (recognition_fit (recognition_of volume image) (block_of volume.size image volume.pd) g.sized)
      (fit_both volume.size volume.blocks (file_edits f v) (file_set_edits f v ++ (bitmap ++ counts)) (files_fit f v (ok image volume g) volume.blocks (large image volume g) inside)
      (fit_both volume.size volume.blocks (file_set_edits f v) (bitmap ++ counts) (set_fit f v (ok image volume g) volume.blocks (large image volume g) inside)
      (fit_both volume.size volume.blocks bitmap counts
      (bitmap_fit f v (ok image volume g) volume.blocks (large image volume g) inside (disk volume.lvd) volume.length volume.bitmap)
      (integrity_fit f v (ok image volume g) volume.blocks (large image volume g) inside volume.length volume.bitmap (origin_of (disk volume.pvd) (disk volume.lvd)) volume.integrity
      (origin_bytes (disk volume.pvd) (disk volume.lvd) ((ok image volume g).bytes volume.pvd)) (origin_short (disk volume.pvd) (disk volume.lvd))
      (extent_inside image volume g) (whole_there image volume (large image volume g) g.opened)))))

  same_blocks : volume.blocks ≡ length own / volume.size
  same_blocks =
      blocks_are image volume (large image volume g) g.opened
      ∙ sym (ap (λ n. n / volume.size) (mended_rewrites volume.size image (large image volume g)).same_length)

  fits : AreWithin volume.size (length own) (further_edits volume image)
  fits = fit_within volume.size (length own) (further_edits volume image) (subst (λ b. AreFit volume.size b (further_edits volume image)) same_blocks all_fit)

  pub there_is : (n : ℕ) → there n ≡ made image volume g n
  there_is n = block_after volume.size (further_edits volume image) own n fits

  rewrites : IsRewrite volume.size image after
  rewrites =
      let own_rewrites = mended_rewrites volume.size image (large image volume g) in
      record {
        same_length = all_length volume.size (further_edits volume image) own fits ∙ own_rewrites.same_length;
        same_past = λ n h.
            there_is n
            ∙ fit_past volume.size volume.blocks n (further_edits volume image) (block_of volume.size own n) all_fit (let e = blocks_are image volume (large image volume g) g.opened in omega (arith, e, h))
            ∙ own_rewrites.same_past n h;
      }

  there_bytes : AreBytes there
  there_bytes n =
      subst (λ (b : List ℕ). (i : ℕ) → slice_index b i < 256) (sym (there_is n))
      (fit_bytes volume.size volume.blocks n (further_edits volume image) (block_of volume.size own n) all_fit
      (own_bytes image volume (large image volume g) g.opened (ok image volume g).bytes n))

  there_long : (x : Addr) (n : ℕ) → v.place x ≡ Some n → length (there n) ≡ volume.size
  there_long x n p =
      ap (λ b. length b) (there_is n)
      ∙ fit_long volume.size volume.blocks n (further_edits volume image) (block_of volume.size own n) all_fit
      (block_length volume.size own n (let i = inside x n p in omega (arith, i, same_blocks)))

  holder_is : (a : Addr) → is_holder f v a ≡ true → a ≡ f.file_set
  unfolding is_holder
  holder_is a h =
      let p = and_parts (is_some f.system) (is_file_set f v a) h in
      same_address a f.file_set (and_parts (same_addr a f.file_set) (is_address a && is_placed v a) p.1).0

  set_tagged : id_at f.file_set.block (block_at v f.file_set) ≡ Some 256
  unfolding frame_in
  set_tagged = by (places_of volume image volume.file_set.at) (set_stands image volume g)
    where
      by : (o : Option ℕ) → is_id 256 (id_by disk volume.file_set.at.block o) ≡ true → id_at volume.file_set.at.block (block_by disk o) ≡ Some 256
      by None h = absurd (false≢true h)
      by (Some n) h = tag_of (id_at volume.file_set.at.block (disk n)) 256 h

  pub files : HasAllMends f v there
  files = record {
    repairable = ok image volume g;
    each = λ a k. record { blocks = λ x n c p. there_is n ∙ claimed_made image volume g a x n k c p };
    set = λ a h. ap (block_at (with_disk v there)) (holder_is a h) ∙ set_mended image volume g there there_is;
    stands = λ a h. ap (λ (z : Addr). id_at z.block (block_at v z)) (holder_is a h) ∙ set_tagged;
  }

  -- all but what stands behind the file set
  pub standing : (in_bitmap (site_in volume image) f.after ≡ false → (n : ℕ) → v.place f.after ≡ Some n → is_id 8 (id_at f.after.block (there n)) ≡ is_id 8 (id_at f.after.block (disk n)))
      → Stands volume.size image after volume
  standing behind = record {
    rewrites = rewrites;
    bytes = there_bytes;
    whole = there_long;
    files = files;
    set = set_mended image volume g there there_is;
    bitmap_placed = bitmap_placed image volume g;
    bitmap = λ extent e. record {
      each = λ k n l p. there_is n ∙ bitmap_made image volume g extent e k n l p
          ∙ ap (λ o. look n (bitmap_edits f v (disk volume.lvd) volume.length o) (disk n)) e;
    };
    integrity_placed = integrity_placed image volume g;
    integrity = record { each = λ n a b. there_is n ∙ integrity_made image volume g n (a, b) };
    recognition = λ n u. there_is n ∙ untaken_made image volume g n u;
    read = λ s found n h. there_is n ∙ read_made image volume g s found n h;
    behind = behind;
  }
