-- Where the extent of a file set lies: placed, apart from another extent, apart from upper partitions.
use Rattle.std.proofs.Common.{◌≡◌, ℕ, zero, suc, ◌+◌, ◌-◌, ◌<◌, ◌≤◌, ◌==◌, ◌&&◌, ◌||◌, nat_le, nat_lt, min, max, arith, refl, sym, ap, ◌∙◌, List, Bool, true, false, not, cond, Option, Some, None, is_some}
use Rattle.std.specs.List.{list_all, list_any, prefix_len, range_with_len}
use Rattle.std.proofs.lemmas.Bool.Decides.{nat_tests}
use Rattle.udf_field.specs.declared.address.Addr.{Addr}
use Rattle.udf_field.specs.declared.address.Short.{Short}
use Rattle.udf_file_model.specs.Address.{addr, part_place, placed_blocks}
use Rattle.udf_file_model.specs.Place.{placed_front}
use Rattle.udf_file_model.proofs.Fronts.{front_placed}
use Rattle.udf_volume_model.specs.FileSet.{in_bitmap, in_bitmap_by, is_clear, is_within, stretch_has, touches}
use Rattle.udf_volume.specs.FileSet.{bitmap_by, bitmap_stated, extent_stated, site_of}
use Rattle.udf_volume.specs.Fixed.{in_stretch}
use Rattle.udf_volume.specs.declared.stretch.Stretch.{Stretch}
use Rattle.udf_volume.specs.declared.volume.Volume.{Volume}

or_right : (b c : Bool) → c ≡ true → (b || c) ≡ true
or_right true c e = refl
or_right false c e = e

more_front : (b c : Bool) (n many : ℕ) → (n == many) ≡ c → (cond b (1 + n) 0 == suc many) ≡ (b && c)
more_front true c n many e = grind (arith, nat_tests)
more_front false c n many e = grind (arith, nat_tests)

-- a test over a run of numbers
module _ (test : ℕ → Bool) where
  none_below : (first many : ℕ) → ((i : ℕ) → i < many → test (first + i) ≡ false) → list_any test (range_with_len first many) ≡ false
  none_below first zero off = refl
  none_below first (suc many) off =
      let here : test first ≡ false = ap test (omega arith) ∙ off 0 (omega arith) in
      ap (λ b. b || list_any test (range_with_len (first + 1) many)) here
      ∙ none_below (first + 1) many (λ i h. ap test (omega arith) ∙ off (suc i) (omega arith))

  one_below : (first many i : ℕ) → i < many → test (first + i) ≡ true → list_any test (range_with_len first many) ≡ true
  one_below first zero i h on = absurd (omega arith)
  one_below first (suc many) zero h on =
      let here : test first ≡ true = ap test (omega arith) ∙ on in
      ap (λ b. b || list_any test (range_with_len (first + 1) many)) here
  one_below first (suc many) (suc i) h on =
      or_right (test first) (list_any test (range_with_len (first + 1) many))
      (one_below (first + 1) many i (omega arith) (ap test (omega arith) ∙ on))

  all_below : (first many : ℕ) → (prefix_len test (range_with_len first many) == many) ≡ list_all test (range_with_len first many)
  all_below first zero = refl
  all_below first (suc many) =
      more_front (test first) (list_all test (range_with_len (first + 1) many)) (prefix_len test (range_with_len (first + 1) many)) many (all_below (first + 1) many)

-- the extent is placed whole where its front is all of it
pub placed_whole : (place : Addr → Option ℕ) (at : Addr) (blocks : ℕ) → (placed_blocks place at blocks == blocks) ≡ is_within (λ a. is_some (place a)) at blocks
unfolding placed_blocks placed_front is_within
placed_whole place at blocks = all_below (λ n. is_some (place (addr at.part n))) at.block blocks

stands : (o : Option ℕ) → is_some o ≡ true → (s : ℕ) × (o ≡ Some s)
stands None h = absurd (cc)
stands (Some s) h = (s, refl)

-- an extent that ends past its partition is not
module _ (place : Addr → Option ℕ) (at : Addr) (blocks limit : ℕ) (within : (a : Addr) (s : ℕ) → place a ≡ Some s → a.part ≡ at.part → a.block < limit) (some : 0 < blocks) where
  ends_low : (placed_blocks place at blocks == blocks) ≡ true → at.block + blocks ≤ limit
  unfolding placed_blocks
  ends_low h =
      let whole : placed_blocks place at blocks ≡ blocks = grind (arith, nat_tests) in
      let (s, here) = stands (place (addr at.part (at.block + (blocks - 1)))) (front_placed (part_place place at.part) at.block blocks (blocks - 1) (omega (arith, whole))) in
      omega (arith, within (addr at.part (at.block + (blocks - 1))) s here refl)

  by_front : limit < at.block + blocks → (b : Bool) → (placed_blocks place at blocks == blocks) ≡ b → b ≡ false
  by_front past false h = refl
  by_front past true h = absurd (omega (arith, ends_low h))

  pub past_end : limit < at.block + blocks → is_within (λ a. is_some (place a)) at blocks ≡ false
  past_end past = sym (placed_whole place at blocks) ∙ by_front past (placed_blocks place at blocks == blocks) refl

one_more_shared : (first many other more : ℕ) → ((nat_le other first && nat_lt first (other + more)) || nat_lt (max (first + 1) other) (min (first + 1 + many) (other + more)))
    ≡ nat_lt (max first other) (min (first + suc many) (other + more))
one_more_shared first many other more = grind (arith, nat_tests)

-- two runs of numbers share one where the later of their starts comes before the earlier of their ends
shared : (first many other more : ℕ) → list_any (λ n. nat_le other n && nat_lt n (other + more)) (range_with_len first many)
    ≡ nat_lt (max first other) (min (first + many) (other + more))
shared first zero other more = grind (arith, nat_tests)
shared first (suc many) other more =
    ap (λ b. (nat_le other first && nat_lt first (other + more)) || b) (shared (first + 1) many other more)
    ∙ one_more_shared first many other more

-- extents share an address where they have one partition, and their blocks share one
pub overlapping : (at other : Addr) (blocks more : ℕ) → touches (stretch_has other more) at blocks
    ≡ ((other.part == at.part) && nat_lt (max at.block other.block) (min (at.block + blocks) (other.block + more)))
unfolding touches stretch_has
overlapping at other blocks more = by (other.part == at.part) where
  by : (b : Bool) → list_any (λ n. b && (nat_le other.block n && nat_lt n (other.block + more))) (range_with_len at.block blocks)
      ≡ (b && nat_lt (max at.block other.block) (min (at.block + blocks) (other.block + more)))
  by true = shared at.block blocks other.block more
  by false = none_below (λ n. false) at.block blocks (λ i h. refl)

-- where there is no stretch nothing is shared
pub no_stretch : (at : Addr) (blocks : ℕ) → touches (λ a. false) at blocks ≡ false
unfolding touches
no_stretch at blocks = none_below (λ n. false) at.block blocks (λ i h. refl)

module _ (inner : Addr → Bool) (at : Addr) (blocks : ℕ) where
  pub one_inner : (i : ℕ) → i < blocks → inner (addr at.part (at.block + i)) ≡ true → touches inner at blocks ≡ true
  unfolding touches
  one_inner i h on = one_below (λ n. inner (addr at.part n)) at.block blocks i h on

  pub none_inner : ((i : ℕ) → i < blocks → inner (addr at.part (at.block + i)) ≡ false) → touches inner at blocks ≡ false
  unfolding touches
  none_inner off = none_below (λ n. inner (addr at.part n)) at.block blocks off

module _ (at other : Addr) (blocks more first end : ℕ) where
  pub overlap_in_part : other.part ≡ at.part → first ≡ max at.block other.block → end ≡ min (at.block + blocks) (other.block + more)
      → nat_lt first end ≡ touches (stretch_has other more) at blocks
  overlap_in_part same starts ends =
      let part : (other.part == at.part) ≡ true = grind (arith, nat_tests) in
      ap (λ (n : ℕ). nat_lt n end) starts ∙ ap (λ (n : ℕ). nat_lt (max at.block other.block) n) ends
      ∙ ap (λ (b : Bool). b && nat_lt (max at.block other.block) (min (at.block + blocks) (other.block + more))) (sym part)
      ∙ sym (overlapping at other blocks more)

  pub apart_by_part : (b : Bool) → b ≡ (other.part == at.part) → b ≡ false → b ≡ touches (stretch_has other more) at blocks
  apart_by_part b is off =
      off ∙ ap (λ (b : Bool). b && nat_lt (max at.block other.block) (min (at.block + blocks) (other.block + more))) (sym off ∙ is)
      ∙ sym (overlapping at other blocks more)

by_bitmap : (size base : ℕ) (bitmap : Option Short) (at : Addr) (blocks : ℕ) → touches (in_bitmap_by size base bitmap) at blocks ≡ touches (in_stretch (bitmap_by size base bitmap)) at blocks
by_bitmap size base None at blocks = refl
by_bitmap size base (Some bitmap) at blocks = refl

not_both : (b c : Bool) → (b && (not true && c)) ≡ false
not_both true c = refl
not_both false c = refl

-- an extent is clear where it is placed and touches neither
module _ (volume : Volume) (x : Stretch) (same : x ≡ extent_stated volume) (place : Addr → Option ℕ) (inner : Addr → Bool) (disk : ℕ → List ℕ) where
  clear_as : is_clear (site_of volume disk place inner)
      ≡ (is_within (λ a. is_some (place a)) x.at x.blocks && (not (touches (in_stretch (bitmap_stated volume)) x.at x.blocks) && not (touches inner x.at x.blocks)))
  unfolding is_clear in_bitmap
  clear_as =
      ap (λ (b : Bool). is_within (λ a. is_some (place a)) (extent_stated volume).at (extent_stated volume).blocks && (not b && not (touches inner (extent_stated volume).at (extent_stated volume).blocks)))
      (by_bitmap volume.size volume.shape.base volume.bitmap (extent_stated volume).at (extent_stated volume).blocks)
      ∙ ap (λ (y : Stretch). is_within (λ a. is_some (place a)) y.at y.blocks && (not (touches (in_stretch (bitmap_stated volume)) y.at y.blocks) && not (touches inner y.at y.blocks))) (sym same)

  pub unplaced : is_within (λ a. is_some (place a)) x.at x.blocks ≡ false → false ≡ is_clear (site_of volume disk place inner)
  unplaced h =
      sym (clear_as ∙ ap (λ (b : Bool). b && (not (touches (in_stretch (bitmap_stated volume)) x.at x.blocks) && not (touches inner x.at x.blocks))) h)

  pub touching : touches (in_stretch (bitmap_stated volume)) x.at x.blocks ≡ true → false ≡ is_clear (site_of volume disk place inner)
  touching h =
      sym (clear_as ∙ ap (λ (b : Bool). is_within (λ a. is_some (place a)) x.at x.blocks && (not b && not (touches inner x.at x.blocks))) h
      ∙ not_both (is_within (λ a. is_some (place a)) x.at x.blocks) (not (touches inner x.at x.blocks)))

  pub cleared : (b : Bool) → b ≡ touches inner x.at x.blocks → is_within (λ a. is_some (place a)) x.at x.blocks ≡ true
      → touches (in_stretch (bitmap_stated volume)) x.at x.blocks ≡ false → not b ≡ is_clear (site_of volume disk place inner)
  cleared b is h k =
      ap (λ (b : Bool). not b) is
      ∙ sym (clear_as ∙ ap (λ (b : Bool). b && (not (touches (in_stretch (bitmap_stated volume)) x.at x.blocks) && not (touches inner x.at x.blocks))) h
      ∙ ap (λ (b : Bool). not b && not (touches inner x.at x.blocks)) k)
