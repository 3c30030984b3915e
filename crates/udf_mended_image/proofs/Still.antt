-- What the mend of a volume leaves: the sectors of addresses, those of the integrity extent, and those that the volume does not take.
use Rattle.std.proofs.Common.{◌≡◌, inl, inr, ℕ, ◌≤◌, refl, sym, ◌∙◌, ap, subst, List, [], ◌∷◌, Bool, true, false, not, ◌||◌, Ok}
use Rattle.std.specs.Prelude.{◌==◌}
use Rattle.std.specs.List.{list_any}
use Rattle.std.proofs.lemmas.Bool.{and_left, and_parts, eq-eqb, false_from_ne_true, false≢true}
use Rattle.udf_model.specs.Image.{block_of, blocks_in}
use Rattle.udf_volume_model.specs.Anchor.{places}
use Rattle.udf_volume_model.specs.Areas.{Area, Layout, covers, is_outside, packets_of, taken}
use Rattle.udf_volume_model.specs.Layout.{is_apart}
use Rattle.udf_volume_model.specs.Opened.{volume_mended}
use Rattle.udf_volume_model.specs.SparingTable.{Table}
use Rattle.udf_volume.specs.Areas.{areas_stated, integrity_stated, partition_stated, tables_stated}
use Rattle.udf_volume.specs.Taken.{opening}
use Rattle.udf_volume.specs.declared.volume.Volume.{Volume}
use Rattle.udf_volume_laws.proofs.Apart.{apart_back, not_both, not_eligible, outside_at}
use Rattle.udf_volume_laws.proofs.Ascending.{from_ascending}
use Rattle.udf_volume_laws.proofs.Members.{IsIn, in_back, in_front}
use Rattle.udf_rules_model.specs.Findings.{recognition_of}
use Rattle.udf_rules_model.specs.Recognition.{is_untaken}
use Rattle.udf_mended_image.proofs.Laid.{blocks_are, further_stated, integrity_apart, layout, main, main_apart, packets_apart, partition_apart, reserve, reserve_apart, still, table}
use Rattle.udf_mended_image.proofs.Sectors.{IsHeld, InPacket, InPartition}

any_from : (xs : List ℕ) (n : ℕ) → IsIn n xs → list_any (λ place. place == n) xs ≡ true
any_from (x ∷ xs) n (inl e) = or_first (x == n) (list_any (λ place. place == n) xs) (eq-eqb x n (sym e))
  where
    or_first : (a b : Bool) → a ≡ true → (a || b) ≡ true
    or_first true b h = refl
    or_first false b h = absurd (false≢true h)
any_from (x ∷ xs) n (inr i) = or_second (x == n) (list_any (λ place. place == n) xs) (any_from xs n i)
  where
    or_second : (a b : Bool) → b ≡ true → (a || b) ≡ true
    or_second true b h = refl
    or_second false b h = h
any_from [] n i = absurd i

module _ (image : List ℕ) (volume : Volume) (large : 512 ≤ volume.size) (is : opening volume.size image ≡ Ok volume) where
  abbrev t : Table
  t = table image volume large is

  abbrev m : Area
  m = main image volume large is

  abbrev r : Area
  r = reserve image volume large is

  abbrev l : Layout
  l = layout image volume large is

  abbrev disk : ℕ → List ℕ
  disk = block_of volume.size image

  abbrev pub mended_block : ℕ → List ℕ
  mended_block = block_of volume.size (volume_mended volume.size image)

  -- ---- the places of areas in the lists
  pub integrity_in : (area : Area) → IsIn area (integrity_stated volume) → IsIn area (further_stated volume)
  integrity_in area i = in_front (integrity_stated volume) (partition_stated volume ∷ tables_stated volume) area i

  partition_in : IsIn (partition_stated volume) (further_stated volume)
  partition_in = in_back (integrity_stated volume) (partition_stated volume ∷ tables_stated volume) (partition_stated volume) (inl refl)

  pub table_in : (area : Area) → IsIn area (tables_stated volume) → IsIn area (further_stated volume)
  table_in area i = in_back (integrity_stated volume) (partition_stated volume ∷ tables_stated volume) area (inr i)

  pub further_in : (area : Area) → IsIn area (further_stated volume) → IsIn area (areas_stated volume)
  further_in area i = inr (inr i)

  pub area_taken : (area : Area) → IsIn area (areas_stated volume) → IsIn area (taken l)
  unfolding taken
  area_taken area i = in_front (areas_stated volume) (packets_of t) area i

  packet_taken : (area : Area) → IsIn area (packets_of t) → IsIn area (taken l)
  unfolding taken
  packet_taken area i = in_back (areas_stated volume) (packets_of t) area i

  pub untaken_off : (n : ℕ) (area : Area) → is_outside (taken l) n ≡ true → IsIn area (taken l) → covers area n ≡ false
  untaken_off n area e i = outside_at (taken l) n area e i

  -- ---- the sectors of addresses
  held_off : (n : ℕ) (area : Area) → is_apart (partition_stated volume) area ≡ true → IsIn area (areas_stated volume) → IsHeld volume t n → covers area n ≡ false
  held_off n area e i (InPartition c) = not_both (partition_stated volume) area n e c
  held_off n area e i (InPacket packet j c) = not_both packet area n (packets_apart image volume large is packet area j i) c

  pub held_main : (n : ℕ) → IsHeld volume t n → covers m n ≡ false
  held_main n h = held_off n m (apart_back m (partition_stated volume) (main_apart image volume large is (partition_stated volume) partition_in)) (inl refl) h

  pub held_reserve : (n : ℕ) → IsHeld volume t n → covers r n ≡ false
  held_reserve n h = held_off n r (apart_back r (partition_stated volume) (reserve_apart image volume large is (partition_stated volume) partition_in)) (inr (inl refl)) h

  pub held_table : (n : ℕ) → IsHeld volume t n → (area : Area) → IsIn area (tables_stated volume) → covers area n ≡ false
  held_table n h area i = held_off n area (partition_apart image volume large is area i) (further_in area (table_in area i)) h

  pub held_integrity : (n : ℕ) → IsHeld volume t n → (area : Area) → IsIn area (integrity_stated volume) → covers area n ≡ false
  held_integrity n h area i =
      held_off n area (apart_back area (partition_stated volume) (integrity_apart image volume large is area (partition_stated volume) i (inl refl))) (further_in area (integrity_in area i)) h

  abbrev IsCovered : ℕ → Type 0
  IsCovered n = (area : Area) × IsIn area (taken l) × (covers area n ≡ true)

  pub held_covered : (n : ℕ) → IsHeld volume t n → IsCovered n
  held_covered n (InPartition c) = (partition_stated volume, area_taken (partition_stated volume) (further_in (partition_stated volume) partition_in), c)
  held_covered n (InPacket packet i c) = (packet, packet_taken packet i, c)

  pub covered_taken : (n : ℕ) → IsCovered n → is_outside (taken l) n ≡ false
  covered_taken n c = false_from_ne_true (is_outside (taken l) n) (λ e. false≢true (sym (untaken_off n c.0 e c.1) ∙ c.2))

  pub held_still : (n : ℕ) → IsHeld volume t n → mended_block n ≡ disk n
  held_still n h =
      let c = held_covered n h in
      still image volume large is n (held_main n h) (held_reserve n h) (held_table n h) (inl (not_eligible (taken l) c.0 n c.1 c.2))

  pub covered_untaken : (n : ℕ) → IsCovered n → is_untaken (recognition_of volume image) n ≡ false
  unfolding recognition_of
  covered_untaken n c = and_left (is_outside (taken l) n) (not (list_any (λ place. place == n) (places volume.blocks))) (covered_taken n c)

  pub held_taken : (n : ℕ) → IsHeld volume t n → is_untaken (recognition_of volume image) n ≡ false
  held_taken n h = covered_untaken n (held_covered n h)

  -- ---- the sectors of the integrity extent
  module _ (area : Area) (i : IsIn area (integrity_stated volume)) (n : ℕ) (c : covers area n ≡ true) where
    integrity_covered : IsCovered n
    integrity_covered = (area, area_taken area (further_in area (integrity_in area i)), c)

    pub integrity_still : mended_block n ≡ disk n
    integrity_still =
        still image volume large is n
        (not_both area m n (apart_back m area (main_apart image volume large is area (integrity_in area i))) c)
        (not_both area r n (apart_back r area (reserve_apart image volume large is area (integrity_in area i))) c)
        (λ other j. not_both area other n (integrity_apart image volume large is area other i (inr j)) c)
        (inl (not_eligible (taken l) area n (area_taken area (further_in area (integrity_in area i))) c))

    pub integrity_unheld : IsHeld volume t n → ⊥
    integrity_unheld h = false≢true (sym (held_integrity n h area i) ∙ c)

    pub integrity_taken : is_untaken (recognition_of volume image) n ≡ false
    integrity_taken = covered_untaken n integrity_covered

  -- ---- the sectors that the volume does not take
  module _ (n : ℕ) (u : is_untaken (recognition_of volume image) n ≡ true) where
    untaken_parts : (is_outside (taken l) n ≡ true) × (not (list_any (λ place. place == n) (places volume.blocks)) ≡ true)
    unfolding recognition_of
    untaken_parts = and_parts (is_outside (taken l) n) (not (list_any (λ place. place == n) (places volume.blocks))) u

    pub untaken_still : mended_block n ≡ disk n
    untaken_still =
        still image volume large is n (untaken_off n m untaken_parts.0 (area_taken m (inl refl))) (untaken_off n r untaken_parts.0 (area_taken r (inr (inl refl))))
        (λ area i. untaken_off n area untaken_parts.0 (area_taken area (further_in area (table_in area i))))
        (inr (λ j.
        let k = any_from (places volume.blocks) n (subst (λ b. IsIn n (places b)) (sym (blocks_are image volume large is)) (from_ascending (blocks_in volume.size image) n j)) in
        false≢true (sym (ap (λ b. not b) k) ∙ untaken_parts.1)))

    pub untaken_unheld : IsHeld volume t n → ⊥
    untaken_unheld h = false≢true (sym (held_taken n h) ∙ u)

    pub untaken_integrity : (area : Area) → IsIn area (integrity_stated volume) → covers area n ≡ false
    untaken_integrity area i = untaken_off n area untaken_parts.0 (area_taken area (further_in area (integrity_in area i)))
