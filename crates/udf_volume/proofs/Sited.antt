-- What stands in the first block of a file set's extent and after it, and what follows of that.
use Rattle.std.proofs.Common.{◌≡◌, ℕ, ◌+◌, ◌-◌, ◌*◌, ◌/◌, ◌<◌, ◌≤◌, ◌==◌, ◌&&◌, ◌||◌, arith, refl, sym, ap, ◌∙◌, subst, List, Bool, true, false, not, cond, Option, Some, None}
use Rattle.std.proofs.lemmas.Bool.Decides.{nat_tests}
use Rattle.std.proofs.lemmas.Nat.{le-div}
use Rattle.std.proofs.Math.Nat.{mul-le-mul_right}
use Rattle.udf_field.specs.declared.address.Addr.{Addr}
use Rattle.udf_field.specs.declared.address.Short.{Short}
use Rattle.udf_model.specs.Tag.{id_at, is_id}
use Rattle.udf_volume_model.specs.Anchor.{blocks_for}
use Rattle.udf_volume_model.specs.FileSet.{Site, FileSet, FileSets, address, after, bytes_by, first_block, has_file_set, id_by, id_of, in_bitmap, in_bitmap_by, in_extent, is_clear, is_fixed, is_terminator, names_further, refusal, stretch_has}
use Rattle.udf_layer.specs.declared.missing.Missing.TheVariants as missing
use Rattle.udf_layer.specs.declared.missing.ProfileItem.TheVariants as item
use Rattle.udf_volume.specs.declared.site.Head.{Head}
use Rattle.udf_volume.specs.declared.stretch.Stretch.{Stretch}
use Rattle.udf_volume.specs.declared.volume.Volume.{Volume}
use Rattle.udf_volume.specs.FileSet.{AreFixed, AreTaken, HeadsBy, IsFileSet, IsHead, after_stated, bitmap_by, bitmap_stated, extent_stated, missing_of, site_of}
use Rattle.udf_volume.specs.Fixed.{FixedAddresses, in_stretch, stretches_over}
use Rattle.udf_volume.proofs.Opening.{whole_blocks}

-- a sector before the number of whole blocks lies in the image
pub in_image : (bytes size s : ℕ) → s < bytes / size → (s + 1) * size ≤ bytes
in_image bytes size s h = omega (arith, mul-le-mul_right size (more h), whole_blocks bytes size (bytes / size) refl) where
  more : s < bytes / size → s + 1 ≤ bytes / size
  more h = omega arith

-- bytes take a block
pub some_blocks : (size bytes : ℕ) → 512 ≤ size → 0 < bytes → 0 < blocks_for size bytes
unfolding blocks_for
some_blocks size bytes large some = omega (arith, le-div 1 (bytes + (size - 1)) size (omega arith) (omega arith))

and_none : (b : Bool) → (b && false) ≡ false
and_none true = refl
and_none false = refl

-- a block with an identifier is the one at its place
held_by : (disk : ℕ → List ℕ) (location n : ℕ) (place : Option ℕ) (block : List ℕ) → id_by disk location place ≡ Some n
    → ((s : ℕ) → place ≡ Some s → block ≡ disk s) → block ≡ bytes_by disk place
held_by disk location n None block e read = absurd (cc)
held_by disk location n (Some s) block e read = read s refl

id_there : (disk : ℕ → List ℕ) (location n : ℕ) (place : Option ℕ) → id_by disk location place ≡ Some n → (s : ℕ) → place ≡ Some s → id_at location (disk s) ≡ Some n
id_there disk location n place e s at = sym (ap (id_by disk location) at) ∙ e

is_number : (wanted : ℕ) (id : Option ℕ) → is_id wanted id ≡ true → id ≡ Some wanted
is_number wanted None e = absurd (cc)
is_number wanted (Some n) e = ap (λ (k : ℕ). Some k) (grind (arith, nat_tests))

both : (b c : Bool) → (b && c) ≡ true → c ≡ true
both true c e = e
both false c e = absurd (cc)

on_bitmap : (size base : ℕ) (bitmap : Option Short) (a : Addr) → in_stretch (bitmap_by size base bitmap) a ≡ in_bitmap_by size base bitmap a
on_bitmap size base None a = refl
on_bitmap size base (Some bitmap) a = refl

-- the addresses of three stretches after one another
pub joined : (none bitmap extent end with_bitmap with_extent all : Bool) → none ≡ false → with_bitmap ≡ (none || bitmap) → with_extent ≡ (with_bitmap || extent)
    → all ≡ (with_extent || end) → all ≡ (bitmap || (extent || end))
joined none true extent end with_bitmap with_extent all a b c d = d ∙ ap (λ w. w || end) (c ∙ ap (λ w. w || extent) (b ∙ ap (λ w. w || true) a))
joined none false extent end with_bitmap with_extent all a b c d = d ∙ ap (λ w. w || end) (c ∙ ap (λ w. w || extent) (b ∙ ap (λ w. w || false) a))

module _ (volume : Volume) (disk : ℕ → List ℕ) (place : Addr → Option ℕ) (inner : Addr → Bool) where
  abbrev site : Site
  site = site_of volume disk place inner

  module _ (some : 0 < volume.file_set.length) (stands : Bool) (is : stands ≡ is_id 256 (id_by disk volume.file_set.at.block (place volume.file_set.at))) where
    first_is : has_file_set site ≡ stands
    unfolding has_file_set id_of
    first_is =
        let long : (volume.file_set.length == 0) ≡ false = grind (arith, nat_tests) in
        ap (λ (b : Bool). not b && is_id 256 (id_by disk volume.file_set.at.block (place volume.file_set.at))) long ∙ sym is

    pub head_found : (block : List ℕ) (h : Head) → ((s : ℕ) → place volume.file_set.at ≡ Some s → block ≡ disk s) → stands ≡ true → IsHead block h
        → (has_file_set site ≡ true) × IsHead (first_block site) h
    unfolding first_block
    head_found block h read there states =
        let P : List ℕ → Type 0 = λ bytes. IsHead bytes h in
        let id = is_number 256 (id_by disk volume.file_set.at.block (place volume.file_set.at)) (sym is ∙ there) in
        (first_is ∙ there, subst P (held_by disk volume.file_set.at.block 256 (place volume.file_set.at) block id read) states)

    pub head_missing : stands ≡ false → has_file_set site ≡ false
    head_missing off = first_is ∙ off

  pub headed : (found : Option Head) (h : Head) → HeadsBy site found → found ≡ Some h → (has_file_set site ≡ true) × IsHead (first_block site) h
  headed found h by is = let P : Option Head → Type 0 = λ o. HeadsBy site o in subst P is by

  pub headless : (found : Option Head) → HeadsBy site found → found ≡ None → has_file_set site ≡ false
  headless found by is = let P : Option Head → Type 0 = λ o. HeadsBy site o in subst P is by

  module _ (at : Addr) (here : at ≡ after_stated volume) (ended : Bool) (is : ended ≡ is_id 8 (id_by disk at.block (place at))) (a : Addr) where
    terminator_as : is_terminator site a ≡ (stretch_has at 1 a && ended)
    unfolding is_terminator after id_of
    terminator_as =
        ap (λ (b : Addr). stretch_has b 1 a && is_id 8 (id_by disk b.block (place b))) (sym here)
        ∙ ap (λ (b : Bool). stretch_has at 1 a && b) (sym is)

  module _ (x : Stretch) (bitmap end : Option Stretch) (at : Addr) (ended : Bool) (f : FixedAddresses) (extent : x ≡ extent_stated volume) (stated : bitmap ≡ bitmap_stated volume)
      (next : at ≡ address x.at.part (x.at.block + x.blocks)) (last : f.after ≡ at)
      (all : (a : Addr) → stretches_over f.stretches a ≡ (in_stretch bitmap a || (stretch_has x.at x.blocks a || in_stretch end a)))
      (ends : (a : Addr) → in_stretch end a ≡ (stretch_has at 1 a && ended)) where
    at_stated : at ≡ after_stated volume
    at_stated = next ∙ ap (λ (y : Stretch). address y.at.part (y.at.block + y.blocks)) extent

    pub taken_by : AreTaken volume f
    taken_by = record {
      after_is = last ∙ at_stated;
      ended = ended;
      taken_are = λ a.
          all a
          ∙ ap (λ (o : Option Stretch). in_stretch o a || (stretch_has x.at x.blocks a || in_stretch end a)) stated
          ∙ ap (λ (y : Stretch). in_stretch (bitmap_stated volume) a || (stretch_has y.at y.blocks a || in_stretch end a)) extent
          ∙ ap (λ (b : Bool). in_stretch (bitmap_stated volume) a || (in_stretch (Some (extent_stated volume)) a || b))
          (ends a ∙ ap (λ (b : Addr). stretch_has b 1 a && ended) at_stated);
    }

    pub are_fixed : ended ≡ is_id 8 (id_by disk at.block (place at)) → AreFixed site f
    unfolding after is_fixed in_bitmap taken_by
    are_fixed is = record {
      after_is = last ∙ at_stated;
      fixed_are = λ a.
          taken_by.taken_are a
          ∙ ap (λ (b : Bool). b || (in_extent site a || (stretch_has (after_stated volume) 1 a && ended))) (on_bitmap volume.size volume.shape.base volume.bitmap a)
          ∙ ap (λ (b : Bool). in_bitmap_by volume.size volume.shape.base volume.bitmap a || (in_extent site a || b))
          (ap (λ (b : Addr). stretch_has b 1 a && ended) (sym at_stated) ∙ sym (terminator_as at at_stated ended is a));
    }

  refused_by : (clear head further : Bool) → is_clear site ≡ clear → has_file_set site ≡ head → names_further (first_block site) ≡ further
      → refusal site ≡ cond (clear && head) (cond further (Some FileSets) None) (Some FileSet)
  unfolding refusal
  refused_by clear head further c h f =
      ap (λ (b : Bool). cond (b && has_file_set site) (cond (names_further (first_block site)) (Some FileSets) None) (Some FileSet)) c
      ∙ ap (λ (b : Bool). cond (clear && b) (cond (names_further (first_block site)) (Some FileSets) None) (Some FileSet)) h
      ∙ ap (λ (b : Bool). cond (clear && head) (cond b (Some FileSets) None) (Some FileSet)) f

  pub unheaded : has_file_set site ≡ false → missing_of (refusal site) ≡ Some missing.FileSet
  unheaded h =
      ap missing_of (refused_by (is_clear site) false (names_further (first_block site)) refl h refl
      ∙ ap (λ (b : Bool). cond b (cond (names_further (first_block site)) (Some FileSets) None) (Some FileSet)) (and_none (is_clear site)))

  empty : volume.file_set.length ≡ 0 → has_file_set site ≡ false
  unfolding has_file_set
  empty none = ap (λ (n : ℕ). not (n == 0) && is_id 256 (id_of site volume.file_set.at)) none

  pub no_extent : volume.file_set.length ≡ 0 → missing_of (refusal site) ≡ Some missing.FileSet
  no_extent none = unheaded (empty none)

  pub unclear : (clear : Bool) → clear ≡ is_clear site → clear ≡ false → missing_of (refusal site) ≡ Some missing.FileSet
  unclear clear is off = ap missing_of (refused_by false (has_file_set site) (names_further (first_block site)) (sym is ∙ off) refl refl)

  module _ (h : Head) (clear : Bool) (is : clear ≡ is_clear site) (on : clear ≡ true) (head : has_file_set site ≡ true) (states : IsHead (first_block site) h) where
    pub furthered : h.further ≡ true → missing_of (refusal site) ≡ Some (missing.Profile item.FileSets)
    furthered f = ap missing_of (refused_by true true true (sym is ∙ on) head (sym states.further ∙ f))

    whole_at : (sector : ℕ) → place volume.file_set.at ≡ Some sector → id_at volume.file_set.at.block (disk sector) ≡ Some 256
    unfolding has_file_set id_of
    whole_at =
        id_there disk volume.file_set.at.block 256 (place volume.file_set.at)
        (is_number 256 (id_by disk volume.file_set.at.block (place volume.file_set.at))
        (both (not (volume.file_set.length == 0)) (is_id 256 (id_by disk volume.file_set.at.block (place volume.file_set.at))) head))

    pub found : h.further ≡ false → (f : FixedAddresses) → AreFixed site f
        → (refusal site ≡ None) × IsFileSet site (record { at = volume.file_set.at; root = h.root; system = h.system; guarded = h.guarded; fixed = f })
    found f fixed are = (
      refused_by true true false (sym is ∙ on) head (sym states.further ∙ f),
      record { at = refl; root = states.root; system = states.system; guarded = states.guarded; fixed = are; whole = whole_at },
    )
