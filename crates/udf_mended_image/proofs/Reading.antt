-- The sectors from which a mended volume is read: none of them is one of an address, of the integrity extent, or untaken.
use Rattle.std.proofs.Common.{◌≡◌, ◌⊎◌, inl, inr, ℕ, ◌≤◌, refl, sym, ◌∙◌, ap, subst, List, Bool, true, false, not, ◌&&◌, ◌||◌, Some, Ok}
use Rattle.std.specs.Prelude.{◌==◌}
use Rattle.std.specs.List.{list_any}
use Rattle.std.proofs.lemmas.Bool.{and_parts, and_right, false≢true, or_cases}
use Rattle.udf_model.specs.Image.{block_of, blocks_in}
use Rattle.udf_volume_model.specs.Anchor.{Anchor, places}
use Rattle.udf_volume_model.specs.Areas.{Area, Layout, area_of, covers, is_outside, table_areas, taken}
use Rattle.udf_volume_model.specs.AllRules.{layout_in}
use Rattle.udf_volume_model.specs.Kept.{KeptSequence, kept_sequence_of}
use Rattle.udf_volume_model.specs.Opened.{volume_mended}
use Rattle.udf_volume_model.specs.Same.{IsSame, is_read}
use Rattle.udf_volume_model.specs.SparingTable.{Table}
use Rattle.udf_volume.specs.Areas.{anchor_stated, integrity_stated, tables_stated}
use Rattle.udf_volume.specs.Taken.{opening}
use Rattle.udf_volume.specs.declared.volume.Volume.{Volume}
use Rattle.udf_volume.proofs.Described.{anchor_is, layout_in_is}
use Rattle.udf_volume_laws.proofs.Apart.{apart_back, not_both}
use Rattle.udf_volume_laws.proofs.Final.{IsMendedImage, mended_image}
use Rattle.udf_volume_laws.proofs.Members.{IsIn, any_passes}
use Rattle.udf_rules_model.specs.Findings.{recognition_of}
use Rattle.udf_rules_model.specs.Recognition.{is_untaken}
use Rattle.udf_mended_image.proofs.Laid.{blocks_are, describes, integrity_apart, layout, main, main_apart, opened, reserve, reserve_apart, sequence, table, tables_are}
use Rattle.udf_mended_image.proofs.Sectors.{IsHeld}
use Rattle.udf_mended_image.proofs.Still.{area_taken, covered_taken, covered_untaken, further_in, held_covered, held_main, held_reserve, held_table, integrity_in, table_in, untaken_off}

-- of these sequences, areas and places
pub data IsReadAt (main reserve : Area) (tables : List Area) (places : List ℕ) (outside : Bool) (n : ℕ) : Type 0 where
  OfMain : covers main n ≡ true → IsReadAt main reserve tables places outside n
  OfReserve : covers reserve n ≡ true → IsReadAt main reserve tables places outside n
  OfTable : (area : Area) → IsIn area tables → covers area n ≡ true → IsReadAt main reserve tables places outside n
  OfPlace : list_any (λ place. place == n) places ≡ true → outside ≡ true → IsReadAt main reserve tables places outside n

abbrev reads : Area → Area → List Area → List ℕ → Bool → ℕ → Bool
reads main reserve tables places outside n =
    covers main n || (covers reserve n || (list_any (λ area. covers area n) tables || (list_any (λ place. place == n) places && outside)))

read_at : (main reserve : Area) (tables : List Area) (places : List ℕ) (outside : Bool) (n : ℕ) → reads main reserve tables places outside n ≡ true
    → IsReadAt main reserve tables places outside n
read_at main reserve tables places outside n h = first (or_cases (covers main n) _ h)
  where
    third : (list_any (λ area. covers area n) tables ≡ true) ⊎ ((list_any (λ place. place == n) places && outside) ≡ true) → IsReadAt main reserve tables places outside n
    third (inl e) = let p = any_passes (λ area. covers area n) tables e in OfTable p.0 p.1 p.2
    third (inr e) = let p = and_parts (list_any (λ place. place == n) places) outside e in OfPlace p.0 p.1

    second : (covers reserve n ≡ true) ⊎ ((list_any (λ area. covers area n) tables || (list_any (λ place. place == n) places && outside)) ≡ true) → IsReadAt main reserve tables places outside n
    second (inl e) = OfReserve e
    second (inr e) = third (or_cases (list_any (λ area. covers area n) tables) _ e)

    first : (covers main n ≡ true) ⊎ ((covers reserve n || (list_any (λ area. covers area n) tables || (list_any (λ place. place == n) places && outside))) ≡ true)
        → IsReadAt main reserve tables places outside n
    first (inl e) = OfMain e
    first (inr e) = second (or_cases (covers reserve n) _ e)

same_of : (size blocks : ℕ) (disk after : ℕ → List ℕ) (a b c d : KeptSequence) → Some a ≡ Some b → Some c ≡ Some d → IsSame size blocks disk after a c → IsSame size blocks disk after b d
same_of size blocks disk after a b c d e g h =
    let p : a ≡ b = cc in
    let q : c ≡ d = cc in
    subst (λ (x : KeptSequence). IsSame size blocks disk after x d) p (subst (λ (x : KeptSequence). IsSame size blocks disk after a x) q h)

module _ (image : List ℕ) (volume : Volume) (large : 512 ≤ volume.size) (is : opening volume.size image ≡ Ok volume) (s : KeptSequence)
    (found : kept_sequence_of volume.size (volume_mended volume.size image) ≡ Some s) where
  abbrev t : Table
  t = table image volume large is

  abbrev m : Area
  m = main image volume large is

  abbrev r : Area
  r = reserve image volume large is

  abbrev l : Layout
  l = layout image volume large is

  abbrev old : KeptSequence
  old = sequence image volume large is

  abbrev disk : ℕ → List ℕ
  disk = block_of volume.size image

  abbrev after : ℕ → List ℕ
  after = block_of volume.size (volume_mended volume.size image)

  mend : IsMendedImage volume.size image (volume_mended volume.size image)
  mend = mended_image volume.size image large (opened image volume large is)

  same : IsSame volume.size (blocks_in volume.size image) disk after old s
  same =
      same_of volume.size (blocks_in volume.size image) disk after mend.before_is old mend.after_is s
      (sym mend.before_volume ∙ (describes image volume large is).found) (sym mend.after_volume ∙ found) mend.same

  anchor_same : s.anchor ≡ anchor_stated volume
  anchor_same = same.anchor ∙ sym (anchor_is volume.size image volume old (describes image volume large is))

  tables_same : table_areas volume.size s.list ≡ tables_stated volume
  tables_same = ap (table_areas volume.size) same.list ∙ sym (tables_are image volume large is)

  layout_same : layout_in volume.size after s ≡ l
  layout_same = same.layout ∙ sym (layout_in_is volume.size image volume old (describes image volume large is))

  module _ (n : ℕ) (h : is_read volume.size (blocks_in volume.size image) after s n ≡ true) where
    abbrev IsRead : Type 0
    IsRead = IsReadAt m r (tables_stated volume) (places volume.blocks) (is_outside (taken l) n) n

    kind : IsRead
    unfolding is_read
    kind =
        read_at m r (tables_stated volume) (places volume.blocks) (is_outside (taken l) n) n
        (ap (λ b. reads m r (tables_stated volume) (places b) (is_outside (taken l) n) n) (blocks_are image volume large is)
        ∙ ap (λ (x : Layout). reads m r (tables_stated volume) (places (blocks_in volume.size image)) (is_outside (taken x) n) n) (sym layout_same)
        ∙ ap (λ (x : List Area). reads m r x (places (blocks_in volume.size image)) (is_outside (taken (layout_in volume.size after s)) n) n) (sym tables_same)
        ∙ ap (λ (x : Anchor). reads (area_of volume.size x.main) (area_of volume.size x.reserve) (table_areas volume.size s.list) (places (blocks_in volume.size image)) (is_outside (taken (layout_in volume.size after s)) n) n) (sym anchor_same)
        ∙ h)

    off_by : (area : Area) → covers area n ≡ false → covers area n ≡ true → ⊥
    off_by area e c = false≢true (sym e ∙ c)

    unheld_by : IsRead → IsHeld volume t n → ⊥
    unheld_by (OfMain c) k = off_by m (held_main image volume large is n k) c
    unheld_by (OfReserve c) k = off_by r (held_reserve image volume large is n k) c
    unheld_by (OfTable area i c) k = off_by area (held_table image volume large is n k area i) c
    unheld_by (OfPlace p o) k = false≢true (sym (covered_taken image volume large is n (held_covered image volume large is n k)) ∙ o)

    pub read_unheld : IsHeld volume t n → ⊥
    read_unheld k = unheld_by kind k

    integrity_by : IsRead → (area : Area) → IsIn area (integrity_stated volume) → covers area n ≡ false
    integrity_by (OfMain c) area i = not_both m area n (main_apart image volume large is area (integrity_in image volume large is area i)) c
    integrity_by (OfReserve c) area i = not_both r area n (reserve_apart image volume large is area (integrity_in image volume large is area i)) c
    integrity_by (OfTable other j c) area i = not_both other area n (apart_back area other (integrity_apart image volume large is area other i (inr j))) c
    integrity_by (OfPlace p o) area i = untaken_off image volume large is n area o (area_taken image volume large is area (further_in image volume large is area (integrity_in image volume large is area i)))

    pub read_integrity : (area : Area) → IsIn area (integrity_stated volume) → covers area n ≡ false
    read_integrity area i = integrity_by kind area i

    taken_by : IsRead → is_untaken (recognition_of volume image) n ≡ false
    unfolding recognition_of
    taken_by (OfMain c) = covered_untaken image volume large is n (m, area_taken image volume large is m (inl refl), c)
    taken_by (OfReserve c) = covered_untaken image volume large is n (r, area_taken image volume large is r (inr (inl refl)), c)
    taken_by (OfTable area i c) = covered_untaken image volume large is n (area, area_taken image volume large is area (further_in image volume large is area (table_in image volume large is area i)), c)
    taken_by (OfPlace p o) = and_right (is_outside (taken l) n) (not (list_any (λ place. place == n) (places volume.blocks))) (ap (λ b. not b) p)

    pub read_taken : is_untaken (recognition_of volume image) n ≡ false
    read_taken = taken_by kind
