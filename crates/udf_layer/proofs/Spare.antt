-- A lawful table with the base partition among the areas may stand over it.
use Rattle.std.proofs.Common.{◌≡◌, ℕ, Bool, true, false, not, ◌+◌, ◌<◌, ◌≤◌, ◌&&◌, nat_lt, nat_le, arith, ap, refl, sym, ◌∙◌, List, [], ◌∷◌}
use Rattle.std.specs.List.{list_all, Contains}
use Rattle.std.proofs.lemmas.List.Sums.{AllPass-from_list_all}
use Rattle.std.proofs.lemmas.Bool.Decides.{nat_tests}
use Rattle.udf_file_model.specs.Place.{physical_place}
use Rattle.udf_layer.specs.Packets.{in_packet, packets_apart, packets_fit, outside_packets, AreSpare}
use Rattle.udf_layer.specs.Physicals.{physical_is}
use Rattle.udf_layer.specs.Lawful.{area_apart, is_free, is_lawful}
use Rattle.udf_layer.specs.declared.area.Area.{Area}

both : (a b : Bool) → (a && b) ≡ true → (a ≡ true) × (b ≡ true)
both true true h = (refl, refl)
both true false h = absurd (cc)
both false b h = absurd (cc)

is_true_below : (a b : ℕ) → a < b → nat_lt a b ≡ true
is_true_below a b h = grind (arith, nat_tests)

at_most : (a b : ℕ) → nat_le a b ≡ true → a ≤ b
at_most a b h = grind (arith, nat_tests)

among : (packet first : ℕ) (area : Area) (areas : List Area) → Contains areas area → list_all (area_apart packet first) areas ≡ true → area_apart packet first area ≡ true
among packet first area areas w h =
    ap (area_apart packet first) (sym w.2) ∙ AllPass-from_list_all (area_apart packet first) areas h w.0 area w.1

apart_means : (packet first s : ℕ) (area : Area) → area_apart packet first area ≡ true → area.start ≤ s → s < area.start + area.blocks → not (in_packet packet first s) ≡ true
unfolding area_apart in_packet
apart_means packet first s area h l u = grind (arith, nat_tests)

module _ (packet : ℕ) (areas : List Area) (image : ℕ) where
  free_means : (first : ℕ) → is_free packet areas image first ≡ true → (first + packet ≤ image) × (list_all (area_apart packet first) areas ≡ true)
  unfolding is_free
  free_means first h =
      let t = both (nat_le (first + packet) image) (nat_lt 128 first && list_all (area_apart packet first) areas) h in
      (at_most (first + packet) image t.0, (both (nat_lt 128 first) (list_all (area_apart packet first) areas) t.1).1)

  all_fit : image < 4294967296 → (pairs : List (ℕ × ℕ)) → list_all (λ pair. is_free packet areas image pair.1) pairs ≡ true → packets_fit packet pairs ≡ true
  unfolding packets_fit
  all_fit small [] h = refl
  all_fit small (pair ∷ pairs) h =
      let t = both (is_free packet areas image pair.1) (list_all (λ p. is_free packet areas image p.1) pairs) h in
      and_true (nat_lt (pair.1 + packet) 4294967296) (list_all (λ p. nat_lt (p.1 + packet) 4294967296) pairs)
      (is_true_below (pair.1 + packet) 4294967296 (omega (arith, (free_means pair.1 t.0).0))) (all_fit small pairs t.1)
    where
      and_true : (a b : Bool) → a ≡ true → b ≡ true → (a && b) ≡ true
      and_true true b e f = f
      and_true false b e f = e

  all_outside : (area : Area) → Contains areas area → (s : ℕ) → area.start ≤ s → s < area.start + area.blocks
      → (pairs : List (ℕ × ℕ)) → list_all (λ pair. is_free packet areas image pair.1) pairs ≡ true → outside_packets packet pairs s ≡ true
  unfolding outside_packets
  all_outside area i s l u [] h = refl
  all_outside area i s l u (pair ∷ pairs) h =
      let t = both (is_free packet areas image pair.1) (list_all (λ p. is_free packet areas image p.1) pairs) h in
      and_true (not (in_packet packet pair.1 s)) (list_all (λ p. not (in_packet packet p.1 s)) pairs)
      (apart_means packet pair.1 s area (among packet pair.1 area areas i (free_means pair.1 t.0).1) l u) (all_outside area i s l u pairs t.1)
    where
      and_true : (a b : Bool) → a ≡ true → b ≡ true → (a && b) ≡ true
      and_true true b e f = f
      and_true false b e f = e

  pub lawful_spare : (pairs : List (ℕ × ℕ)) (area : Area) → image < 4294967296 → Contains areas area → is_lawful packet pairs areas image ≡ true
      → AreSpare packet pairs (physical_place area.start area.blocks)
  unfolding is_lawful
  lawful_spare pairs area small i h =
      let t = both (list_all (λ pair. is_free packet areas image pair.1) pairs) (packets_apart packet pairs) h in
      record {
        apart = t.1;
        fit = all_fit small pairs t.0;
        outside = λ n s e. let p = physical_is area.start area.blocks n s e in all_outside area i s (omega (arith, p.1)) (omega (arith, p.0, p.1)) pairs t.0;
      }
