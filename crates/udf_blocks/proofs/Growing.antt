-- A plan that grows by one block stays lawful, and has few blocks.
use Rattle.std.proofs.Common.{◌≡◌, ℕ, ◌+◌, ◌^◌, ◌<◌, ◌≤◌, arith, refl, sym, ◌∙◌, ap, List, [], ◌∷◌, ◌++◌, length, subst, Bool, true, eqb, ltb}
use Rattle.std.specs.List.{list_all}
use Rattle.std.proofs.lemmas.Bool.{and_parts, and_from, eq-eqb, lt-ltb, ltb-true}
use Rattle.std.proofs.lemmas.List.{length-map}
use Rattle.std.proofs.lemmas.List.Folds.{list_all-append}
use Rattle.udf_volume_model.specs.Plans.{ClimbsFrom}
use Rattle.udf_blocks.specs.declared.plan.Placed.{Placed}
use Rattle.udf_blocks.specs.Recorded.{recorded}
use Rattle.udf_blocks.specs.Planned.{Planned, are_at, are_below, are_sized, IsLawful}

pub none : (size : ℕ) → IsLawful (record { size = size; blocks = [] })
unfolding are_at are_sized
none size = record { ascends = tt; below = refl; sized = refl }

-- a test of the sectors, block by block
pub at_parts : (test : ℕ → Bool) (edit : ℕ × List ℕ) (edits : List (ℕ × List ℕ)) → are_at test (edit ∷ edits) ≡ true → (test edit.0 ≡ true) × (are_at test edits ≡ true)
unfolding are_at
at_parts test edit edits e = and_parts (test edit.0) (list_all (λ x. test x.0) edits) e

pub at_more : (test : ℕ → Bool) (edits : List (ℕ × List ℕ)) (sector : ℕ) (block : List ℕ) → are_at test edits ≡ true → test sector ≡ true
    → are_at test (edits ++ (sector, block) ∷ []) ≡ true
unfolding are_at
at_more test edits sector block e t =
    list_all-append (λ x. test x.0) edits ((sector, block) ∷ []) ∙ and_from _ _ e (and_from _ _ t refl)

sized_more : (size : ℕ) (edits : List (ℕ × List ℕ)) (sector : ℕ) (block : List ℕ) → are_sized size edits ≡ true → length block ≡ size
    → are_sized size (edits ++ (sector, block) ∷ []) ≡ true
unfolding are_sized
sized_more size edits sector block e long =
    list_all-append (λ x. eqb (length x.1) size) edits ((sector, block) ∷ []) ∙ and_from _ _ e (and_from _ _ (eq-eqb _ _ long) refl)

climbs_more : (from : ℕ) (edits : List (ℕ × List ℕ)) (sector : ℕ) (block : List ℕ) → ClimbsFrom from edits → are_below sector edits ≡ true → from ≤ sector
    → ClimbsFrom from (edits ++ (sector, block) ∷ [])
climbs_more from [] sector block c e h = (h, tt)
climbs_more from (edit ∷ edits) sector block c e h =
    let parts = at_parts (λ n. ltb n sector) edit edits e in
    let below : edit.0 < sector = ltb-true _ _ parts.0 in
    (c.0, climbs_more (edit.0 + 1) edits sector block c.1 parts.1 (omega arith))

pub grows : (size : ℕ) (edits : List (ℕ × List ℕ)) (sector : ℕ) (block : List ℕ) → IsLawful (record { size = size; blocks = edits })
    → are_below sector edits ≡ true → sector < 4294967295 → length block ≡ size → IsLawful (record { size = size; blocks = edits ++ (sector, block) ∷ [] })
grows size edits sector block plan above low long = record {
  ascends = climbs_more 0 edits sector block plan.ascends above (omega arith);
  below = at_more (λ n. ltb n 4294967295) edits sector block plan.below (lt-ltb _ _ low);
  sized = sized_more size edits sector block plan.sized long;
}

count : (from top : ℕ) (edits : List (ℕ × List ℕ)) → ClimbsFrom from edits → are_below top edits ≡ true → from ≤ top → from + length edits ≤ top
count from top [] c e h = omega arith
count from top (edit ∷ edits) c e h =
    let parts = at_parts (λ n. ltb n top) edit edits e in
    let below : edit.0 < top = ltb-true _ _ parts.0 in
    omega (arith, count (edit.0 + 1) top edits c.1 parts.1 (omega arith), c.0)

few : (plan : Planned) → IsLawful plan → length plan.blocks < 2 ^ 32
few plan p = omega (arith, count 0 4294967295 plan.blocks p.ascends p.below (omega arith))

pub few_placed : (size : ℕ) (blocks : List Placed) → IsLawful (record { size = size; blocks = recorded blocks }) → length blocks < 2 ^ 32
few_placed size blocks p =
    omega (arith, few (record { size = size; blocks = recorded blocks }) p, length-map {B = ℕ × List ℕ} blocks (λ (placed : Placed). (placed.sector, placed.block.items)))

recorded_more : (old : List Placed) (placed : Placed) → recorded (old ++ placed ∷ []) ≡ recorded old ++ (placed.sector, placed.block.items) ∷ []
recorded_more [] placed = refl
recorded_more (x ∷ old) placed = ap (λ (rest : List (ℕ × List ℕ)). (x.sector, x.block.items) ∷ rest) (recorded_more old placed)

pub pushed : (value : Planned) (size : ℕ) (old new : List Placed) (placed : Placed) (bytes : List ℕ)
    → record { size = size; blocks = recorded old } ≡ value → IsLawful (record { size = size; blocks = recorded old })
    → new ≡ old ++ placed ∷ [] → placed.block.items ≡ bytes → length bytes ≡ value.size → are_below placed.sector value.blocks ≡ true → placed.sector < 4294967295
    → IsLawful (record { size = size; blocks = recorded new })
pushed value size old new placed bytes view lawful more same long above low =
    subst (λ (xs : List Placed). IsLawful (record { size = size; blocks = recorded xs })) (sym more)
    (subst (λ (edits : List (ℕ × List ℕ)). IsLawful (record { size = size; blocks = edits })) (sym (recorded_more old placed))
    (grows size (recorded old) placed.sector placed.block.items lawful (ap (λ (v : Planned). are_below placed.sector v.blocks) view ∙ above) low
    (ap length same ∙ long ∙ ap (λ (v : Planned). v.size) (sym view))))

-- nothing stands at or above any sector in a plan without blocks
pub none_below : (size top : ℕ) (plan : Planned) → plan ≡ record { size = size; blocks = [] } → are_below top plan.blocks ≡ true
unfolding are_at
none_below size top plan blank = ap (λ (p : Planned). are_below top p.blocks) blank
