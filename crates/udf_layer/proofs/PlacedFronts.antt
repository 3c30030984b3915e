-- How much of a run is placed in a physical partition, and in a partition alone.
use Rattle.std.proofs.Common.{◌≡◌, ℕ, ◌+◌, ◌-◌, ◌<◌, ◌≤◌, ◌==◌, Bool, true, false, nat_lt, cond, min, Option, Some, None, is_some, is_none, not, arith, refl, sym, ap, ◌∙◌}
use Rattle.std.proofs.lemmas.Bool.Decides.{nat_tests}
use Rattle.udf_file_model.specs.Place.{Place, physical_place, placed_front}
use Rattle.udf_file_model.specs.Address.{lone_places, part_place, placed_blocks}
use Rattle.udf_file_model.proofs.Fronts.{front_is, front_means}
use Rattle.udf_field.specs.declared.address.Addr.{Addr}

is_here : (b : Bool) (x n count : ℕ) → nat_lt n count ≡ b → n < count → is_some (cond b (Some x) None) ≡ true
is_here true x n count e h = refl
is_here false x n count e h = absurd (grind (arith, nat_tests))

is_off : (b : Bool) (x n count : ℕ) → nat_lt n count ≡ b → count ≤ n → cond b (Some x) None ≡ None
is_off true x n count e h = absurd (grind (arith, nat_tests))
is_off false x n count e h = refl

physical_here : (start count n : ℕ) → n < count → is_some (physical_place start count n) ≡ true
unfolding physical_place
physical_here start count n h = is_here (nat_lt n count) (start + n) n count refl h

physical_off : (start count n : ℕ) → count ≤ n → physical_place start count n ≡ None
unfolding physical_place
physical_off start count n h = is_off (nat_lt n count) (start + n) n count refl h

-- the blocks up to the partition's end
pub physical_front : (start count block blocks : ℕ) → placed_front (physical_place start count) block blocks ≡ min blocks (count - block)
physical_front start count block blocks =
    front_is (physical_place start count) block blocks (min blocks (count - block)) (omega arith)
    (λ i h. physical_here start count (block + i) (omega arith))
    (λ h. physical_off start count (block + min blocks (count - block)) (omega arith))

-- a place that agrees with another has its front
same_front : (place other : Place) (block blocks : ℕ) → ((n : ℕ) → place n ≡ other n) → placed_front place block blocks ≡ placed_front other block blocks
same_front place other block blocks same =
    let there = front_means other block blocks (placed_front other block blocks) refl in
    front_is place block blocks (placed_front other block blocks) there.within
    (λ i h. ap (λ o. is_some o) (same (block + i)) ∙ there.placed i h)
    (λ h. same (block + placed_front other block blocks) ∙ there.ends h)

-- where nothing is placed no front is
empty_front : (place : Place) (block blocks : ℕ) → ((n : ℕ) → place n ≡ None) → placed_front place block blocks ≡ 0
empty_front place block blocks off = front_is place block blocks 0 (omega arith) (λ i h. absurd (omega arith)) (λ h. off (block + 0))

at_its_reference : (b : Bool) (part : ℕ) (o : Option ℕ) → (part == 0) ≡ b → part ≡ 0 → cond b o None ≡ o
at_its_reference true part o e h = refl
at_its_reference false part o e h = absurd (grind (arith, nat_tests))

at_another : (b : Bool) (part : ℕ) (o : Option ℕ) → (part == 0) ≡ b → (part ≡ 0 → ⊥) → cond b o None ≡ None
at_another true part o e h = absurd (h (grind (arith, nat_tests)))
at_another false part o e h = refl

pub lone_front : (place : Place) (at : Addr) (blocks : ℕ) → at.part ≡ 0 → placed_blocks (lone_places 0 place) at blocks ≡ placed_front place at.block blocks
unfolding placed_blocks lone_places
lone_front place at blocks h =
    same_front (part_place (lone_places 0 place) at.part) place at.block blocks (λ n. at_its_reference (at.part == 0) at.part (place n) refl h)

pub no_front : (place : Place) (at : Addr) (blocks : ℕ) → (at.part ≡ 0 → ⊥) → placed_blocks (lone_places 0 place) at blocks ≡ 0
unfolding placed_blocks lone_places
no_front place at blocks h =
    empty_front (part_place (lone_places 0 place) at.part) at.block blocks (λ n. at_another (at.part == 0) at.part (place n) refl h)

-- nothing stands beyond a partition's blocks
off_beyond : (o : Option ℕ) (limit n : ℕ) → ((s : ℕ) → o ≡ Some s → n < limit) → limit ≤ n → o ≡ None
off_beyond None limit n within h = refl
off_beyond (Some s) limit n within h = absurd (omega (arith, within s refl))

none_is : (o : Option ℕ) → is_none o ≡ true → o ≡ None
none_is None h = refl
none_is (Some s) h = absurd (cc)

pub is_a_gap : (o : Option ℕ) (b : Bool) → is_some o ≡ not b → b ≡ true → is_none o ≡ true
is_a_gap None b h e = refl
is_a_gap (Some s) true h e = absurd (cc)
is_a_gap (Some s) false h e = absurd (cc)

module _ (place : Place) (block blocks n : ℕ) (here : (i : ℕ) → i < n → is_some (place (block + i)) ≡ true) where
  pub front_at_end : (limit : ℕ) → ((m s : ℕ) → place m ≡ Some s → m < limit) → n < blocks → limit ≤ block + n → n ≡ placed_front place block blocks
  front_at_end limit within before end =
      sym (front_is place block blocks n (omega arith) here (λ h. off_beyond (place (block + n)) limit (block + n) (within (block + n)) end))

  pub front_at_gap : n < blocks → is_none (place (block + n)) ≡ true → n ≡ placed_front place block blocks
  front_at_gap before gap = sym (front_is place block blocks n (omega arith) here (λ h. none_is (place (block + n)) gap))

  pub front_whole : n ≡ blocks → blocks ≡ placed_front place block blocks
  front_whole whole = sym whole ∙ sym (front_is place block blocks n (omega arith) here (λ h. absurd (omega arith)))
