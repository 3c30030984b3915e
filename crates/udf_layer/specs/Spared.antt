-- A sparable layer is lawful where its packets are spare.
use Rattle.std.specs.Prelude.{◌≡◌, ℕ, Bool, true, false, not, ◌+◌, ◌%◌, ◌<◌, ◌≤◌, ◌⊎◌, ◌&&◌, ◌==◌, nat_lt, cond, Option, Some, None, List, [], ◌∷◌}
use Rattle.std.specs.List.{list_all, find}
use Rattle.std.proofs.Common.{arith, refl, inl, inr}
use Rattle.std.proofs.lemmas.Bool.Decides.{nat_tests}
use Rattle.udf_file_model.specs.Place.{Place, packet_start, moved_to, spared_to, or_else, sparable_place}
use Rattle.udf_layer.specs.Packets.{in_packet, packet_apart, packets_apart, outside_packets, AreSpare}

-- the test of an entry, remembered
spared_by : (b : Bool) (packet n : ℕ) (pair : ℕ × ℕ) (other : Option (ℕ × ℕ)) (s : ℕ) → (pair.0 == packet_start packet n) ≡ b
    → moved_to (n % packet) (cond b (Some pair) other) ≡ Some s
    → ((pair.0 ≡ packet_start packet n) × (pair.1 + n % packet ≡ s)) ⊎ (moved_to (n % packet) other ≡ Some s)
spared_by true packet n pair other s e h = inl (grind (arith, nat_tests), cc)
spared_by false packet n pair other s e h = inr h

spared_cases : (packet : ℕ) (pair : ℕ × ℕ) (pairs : List (ℕ × ℕ)) (n s : ℕ) → spared_to packet (pair ∷ pairs) n ≡ Some s
    → ((pair.0 ≡ packet_start packet n) × (pair.1 + n % packet ≡ s)) ⊎ (spared_to packet pairs n ≡ Some s)
unfolding spared_to
spared_cases packet pair pairs n s h =
    spared_by (pair.0 == packet_start packet n) packet n pair (find (λ p. p.0 == packet_start packet n) pairs) s refl h

no_entry : {P : Type 0} (packet n s : ℕ) → spared_to packet [] n ≡ Some s → P
unfolding spared_to
no_entry packet n s h = absurd (cc)

both : (a b : Bool) → (a && b) ≡ true → (a ≡ true) × (b ≡ true)
both true true h = (refl, refl)
both true false h = absurd (cc)
both false b h = absurd (cc)

apart_means : (packet first : ℕ) (pair : ℕ × ℕ) → packet_apart packet first pair ≡ true → (first + packet ≤ pair.1) ⊎ (pair.1 + packet ≤ first)
unfolding packet_apart
apart_means packet first pair h = grind (arith, nat_tests)

-- a sector in a packet apart from the first is off that one
spared_off : (packet first : ℕ) (pairs : List (ℕ × ℕ)) (n s : ℕ) → 0 < packet → list_all (packet_apart packet first) pairs ≡ true
    → spared_to packet pairs n ≡ Some s → first ≤ s → s < first + packet → ⊥
spared_off packet first [] n s some h e low high = no_entry packet n s e
spared_off packet first (pair ∷ pairs) n s some h e low high =
    let t = both (packet_apart packet first pair) (list_all (packet_apart packet first) pairs) h in
    elim (spared_cases packet pair pairs n s e) [
      | inl w ↦ off_pair packet first pair n s some (apart_means packet first pair t.0) w.1 low high
      | inr w ↦ spared_off packet first pairs n s some t.1 w low high
    ]
  where
    off_pair : (packet first : ℕ) (pair : ℕ × ℕ) (n s : ℕ) → 0 < packet → (first + packet ≤ pair.1) ⊎ (pair.1 + packet ≤ first)
        → pair.1 + n % packet ≡ s → first ≤ s → s < first + packet → ⊥
    off_pair packet first pair n s some (inl h) e low high = omega arith
    off_pair packet first pair n s some (inr h) e low high = omega arith

-- two blocks of one sector among the spared are one block
both_spared : (packet : ℕ) (pairs : List (ℕ × ℕ)) (m n s : ℕ) → 0 < packet → packets_apart packet pairs ≡ true
    → spared_to packet pairs m ≡ Some s → spared_to packet pairs n ≡ Some s → m ≡ n
unfolding packets_apart
both_spared packet [] m n s some h e f = no_entry packet m s e
both_spared packet (pair ∷ pairs) m n s some h e f =
    let t = both (list_all (packet_apart packet pair.1) pairs) (packets_apart packet pairs) h in
    choose packet pair pairs m n s some t.0 (spared_cases packet pair pairs m s e) (spared_cases packet pair pairs n s f)
    (λ x y. both_spared packet pairs m n s some t.1 x y)
  where
    choose : (packet : ℕ) (pair : ℕ × ℕ) (pairs : List (ℕ × ℕ)) (m n s : ℕ) → 0 < packet → list_all (packet_apart packet pair.1) pairs ≡ true
        → ((pair.0 ≡ packet_start packet m) × (pair.1 + m % packet ≡ s)) ⊎ (spared_to packet pairs m ≡ Some s)
        → ((pair.0 ≡ packet_start packet n) × (pair.1 + n % packet ≡ s)) ⊎ (spared_to packet pairs n ≡ Some s)
        → (spared_to packet pairs m ≡ Some s → spared_to packet pairs n ≡ Some s → m ≡ n) → m ≡ n
    choose packet pair pairs m n s some off (inl x) (inl y) on = omega (arith, x.0, x.1, y.0, y.1)
    choose packet pair pairs m n s some off (inl x) (inr y) on =
        absurd (spared_off packet pair.1 pairs n s some off y (omega (arith, x.1)) (omega (arith, x.1)))
    choose packet pair pairs m n s some off (inr x) (inl y) on =
        absurd (spared_off packet pair.1 pairs m s some off x (omega (arith, y.1)) (omega (arith, y.1)))
    choose packet pair pairs m n s some off (inr x) (inr y) on = on x y

off_means : (packet first s : ℕ) → not (in_packet packet first s) ≡ true → (s < first) ⊎ (first + packet ≤ s)
unfolding in_packet
off_means packet first s h = grind (arith, nat_tests)

-- a sector outside the packets is none of a spared block
outside_spared : (packet : ℕ) (pairs : List (ℕ × ℕ)) (n s : ℕ) → 0 < packet → outside_packets packet pairs s ≡ true
    → spared_to packet pairs n ≡ Some s → ⊥
unfolding outside_packets
outside_spared packet [] n s some h e = no_entry packet n s e
outside_spared packet (pair ∷ pairs) n s some h e =
    let t = both (not (in_packet packet pair.1 s)) (list_all (λ p. not (in_packet packet p.1 s)) pairs) h in
    choose packet pair pairs n s some (off_means packet pair.1 s t.0) (spared_cases packet pair pairs n s e)
    (λ x. outside_spared packet pairs n s some t.1 x)
  where
    choose : (packet : ℕ) (pair : ℕ × ℕ) (pairs : List (ℕ × ℕ)) (n s : ℕ) → 0 < packet → (s < pair.1) ⊎ (pair.1 + packet ≤ s)
        → ((pair.0 ≡ packet_start packet n) × (pair.1 + n % packet ≡ s)) ⊎ (spared_to packet pairs n ≡ Some s)
        → (spared_to packet pairs n ≡ Some s → ⊥) → ⊥
    choose packet pair pairs n s some (inl h) (inl x) on = omega (arith, x.1)
    choose packet pair pairs n s some (inr h) (inl x) on = omega (arith, x.1)
    choose packet pair pairs n s some h (inr x) on = on x

-- where a block of a sparable layer stands
or_cases : (o other : Option ℕ) (s : ℕ) → or_else o other ≡ Some s → (o ≡ Some s) ⊎ (other ≡ Some s)
or_cases None other s h = inr h
or_cases (Some x) other s h = inl h

place_by : (b : Bool) (count n s : ℕ) (o : Option ℕ) → nat_lt n count ≡ b → cond b o None ≡ Some s → (n < count) × (o ≡ Some s)
place_by true count n s o e h = (grind (arith, nat_tests), h)
place_by false count n s o e h = absurd (cc)

sparable_is : (packet : ℕ) (pairs : List (ℕ × ℕ)) (count : ℕ) (below : Place) (n s : ℕ) → sparable_place packet pairs count below n ≡ Some s
    → (n < count) × ((spared_to packet pairs n ≡ Some s) ⊎ (below n ≡ Some s))
unfolding sparable_place
sparable_is packet pairs count below n s h =
    let p = place_by (nat_lt n count) count n s (or_else (spared_to packet pairs n) (below n)) refl h in
    (p.0, or_cases (spared_to packet pairs n) (below n) s p.1)

pub sparable_within : (packet : ℕ) (pairs : List (ℕ × ℕ)) (count : ℕ) (below : Place) (n s : ℕ) → sparable_place packet pairs count below n ≡ Some s → n < count
sparable_within packet pairs count below n s h = (sparable_is packet pairs count below n s h).0

pub sparable_apart : (packet : ℕ) (pairs : List (ℕ × ℕ)) (count : ℕ) (below : Place) → 0 < packet → AreSpare packet pairs below
    → ((m n s : ℕ) → below m ≡ Some s → below n ≡ Some s → m ≡ n)
    → (m n s : ℕ) → sparable_place packet pairs count below m ≡ Some s → sparable_place packet pairs count below n ≡ Some s → m ≡ n
sparable_apart packet pairs count below some spare apart m n s g h =
    choose (sparable_is packet pairs count below m s g).1 (sparable_is packet pairs count below n s h).1
  where
    choose : (spared_to packet pairs m ≡ Some s) ⊎ (below m ≡ Some s) → (spared_to packet pairs n ≡ Some s) ⊎ (below n ≡ Some s) → m ≡ n
    choose (inl x) (inl y) = both_spared packet pairs m n s some spare.apart x y
    choose (inl x) (inr y) = absurd (outside_spared packet pairs m s some (spare.outside n s y) x)
    choose (inr x) (inl y) = absurd (outside_spared packet pairs n s some (spare.outside m s x) y)
    choose (inr x) (inr y) = apart m n s x y
