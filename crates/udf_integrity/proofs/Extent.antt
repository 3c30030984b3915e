-- The extent of the integrity sequence lies in the image, and which descriptor of it prevails.
use Rattle.std.proofs.Common.{◌≡◌, ℕ, zero, suc, ◌+◌, ◌-◌, ◌*◌, ◌<◌, ◌≤◌, arith, refl, sym, ap, ◌∙◌, subst, List, [], ◌∷◌, ◌++◌, length, Bool, true, false, cond, not, Some, None}
use Rattle.std.specs.Prelude.{◌==◌}
use Rattle.std.specs.List.{list_all, range_with_len}
use Rattle.std.proofs.Math.Nat.{div-eq_of_lt, mul-le-mul_right}
use Rattle.std.proofs.lemmas.Bool.{and_parts, eqb-true, leb-true}
use Rattle.std.proofs.lemmas.List.FromFn.{length-range_with_len}
use Rattle.udf_field.specs.declared.address.Span.{Span}
use Rattle.udf_volume_model.specs.Anchor.{blocks_for}
use Rattle.udf_volume_model.specs.Layout.{is_inside}
use Rattle.udf_volume.specs.Areas.{area_stated, areas_stated, partition_stated, tables_stated}
use Rattle.udf_volume.specs.Laid.{IsLaidOut, areas_laid}
use Rattle.udf_volume.specs.declared.volume.Volume.{Volume}
use Rattle.udf_rules_model.specs.Integrity.{chains_by, integrity_front, is_integrity, last_of, names_chain, next_extent_in, prevailing_integrity}
use Rattle.udf_rules_model.proofs.Fronts.{front_ends, front_run, front_stops}

no_blocks : (size : ℕ) → 512 ≤ size → blocks_for size 0 ≡ 0
unfolding blocks_for
no_blocks size large = div-eq_of_lt (omega arith)

-- a block of the extent is one of the image
pub inside : (volume : Volume) (i : ℕ) → IsLaidOut volume → 512 ≤ volume.size → i < blocks_for volume.size volume.integrity.length → volume.integrity.start + i < volume.blocks
unfolding areas_laid is_inside
inside volume i laid large below = by (volume.integrity.length == 0) refl (and_parts _ _ (and_parts _ _ all).1).1
  where
    all : list_all (is_inside volume.blocks) (areas_stated volume) ≡ true
    all = (and_parts (list_all (is_inside volume.blocks) (areas_stated volume)) _ laid.areas).0

    by : (b : Bool) → (volume.integrity.length == 0) ≡ b
        → list_all (is_inside volume.blocks) (cond b [] (area_stated volume.size volume.integrity ∷ []) ++ (partition_stated volume ∷ tables_stated volume)) ≡ true
        → volume.integrity.start + i < volume.blocks
    by true e h =
        let none = no_blocks volume.size large in
        let some : i < blocks_for volume.size 0 = subst (λ (n : ℕ). i < blocks_for volume.size n) (eqb-true _ _ e) below in
        absurd (omega (arith, none, some))
    by false e h =
        let end : volume.integrity.start + blocks_for volume.size volume.integrity.length ≤ volume.blocks = leb-true _ _ (and_parts _ _ h).0 in
        omega (arith, end, below)

last_run : (a n : ℕ) → last_of (range_with_len a (suc n)) ≡ Some (a + n)
last_run a zero = let same : a ≡ a + 0 = omega arith in ap Some same
last_run a (suc n) = let same : a + 1 + n ≡ a + suc n = omega arith in last_run (a + 1) n ∙ ap Some same

-- the block of such a sector lies in the image's bytes
pub within : (volume : Volume) (sector whole : ℕ) → sector < volume.blocks → volume.blocks * volume.size ≤ whole → (sector + 1) * volume.size ≤ whole
within volume sector whole below room = let up : sector + 1 ≤ volume.blocks = omega arith in omega (arith, room, mul-le-mul_right volume.size up)

module _ (size : ℕ) (disk : ℕ → List ℕ) (extent : Span) where
  -- the first blocks of the extent hold descriptors
  abbrev pub HoldDescriptors : ℕ → Type 0
  HoldDescriptors n = (k : ℕ) → k < n → is_integrity size (extent.start + k) (disk (extent.start + k)) ≡ true

  pub stops : (i : ℕ) → HoldDescriptors i → i < blocks_for size extent.length → is_integrity size (extent.start + i) (disk (extent.start + i)) ≡ false
      → i ≡ length (integrity_front size disk extent)
  unfolding integrity_front
  stops i all l e =
      sym (ap length (front_stops (λ sector. is_integrity size sector (disk sector)) extent.start (blocks_for size extent.length) i all l e)
      ∙ length-range_with_len extent.start i)

  pub ends : (n : ℕ) → HoldDescriptors n → n ≡ blocks_for size extent.length → n ≡ length (integrity_front size disk extent)
  unfolding integrity_front
  ends n all e =
      e ∙ sym (ap length (front_ends (λ sector. is_integrity size sector (disk sector)) extent.start (blocks_for size extent.length) (subst HoldDescriptors e all))
      ∙ length-range_with_len extent.start (blocks_for size extent.length))

  run : integrity_front size disk extent ≡ range_with_len extent.start (length (integrity_front size disk extent))
  unfolding integrity_front
  run = front_run (λ sector. is_integrity size sector (disk sector)) extent.start (blocks_for size extent.length)

  pub none_prevails : (n : ℕ) → n ≡ length (integrity_front size disk extent) → n ≡ 0 → None ≡ prevailing_integrity size disk extent
  unfolding prevailing_integrity
  none_prevails n e z = sym (ap last_of (run ∙ ap (range_with_len extent.start) (sym e ∙ z)))

  pub last_prevails : (n : ℕ) → n ≡ length (integrity_front size disk extent) → (n ≡ 0 → ⊥) → Some (extent.start + (n - 1)) ≡ prevailing_integrity size disk extent
  unfolding prevailing_integrity
  last_prevails zero e nz = absurd (nz refl)
  last_prevails (suc n) e nz =
      let same : suc n - 1 ≡ n = omega arith in
      ap (λ k. Some (extent.start + k)) same ∙ sym (ap last_of (run ∙ ap (range_with_len extent.start) (sym e)) ∙ last_run extent.start n)

  pub chain_is : (sector : ℕ) (b : Bool) → Some sector ≡ prevailing_integrity size disk extent → b ≡ not (next_extent_in (disk sector) == 0) → names_chain size disk extent ≡ b
  unfolding names_chain
  chain_is sector b e is = sym (ap (chains_by disk) e) ∙ sym is

  pub no_chain : None ≡ prevailing_integrity size disk extent → names_chain size disk extent ≡ false
  unfolding names_chain
  no_chain e = sym (ap (chains_by disk) e)
