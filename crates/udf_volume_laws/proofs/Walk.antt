-- The list of a sequence, read block by block.
use Rattle.std.proofs.Common.{◌≡◌, ℕ, zero, suc, ◌+◌, ◌<◌, ◌≤◌, arith, refl, sym, ◌∙◌, ap, List, [], ◌∷◌, Option, Some, None, map, length, subst}
use Rattle.std.specs.Prelude.{option_map}
use Rattle.std.specs.List.{range_with_len}
use Rattle.udf_volume_model.specs.Sequence.{Descriptor, View, End, Spoiled, Listed, listed}

-- from this sector on the blocks say this list, and then that it ends
abbrev pub Walks : (ℕ → View) → ℕ → List Descriptor → Type 0
Walks say at [] = say at ≡ End
Walks say at (descriptor ∷ descriptors) = (say at ≡ Listed descriptor) × Walks say (at + 1) descriptors

abbrev pub said : (ℕ → View) → ℕ → ℕ → List View
said say start count = map say (range_with_len start count)

onto_some : (descriptor : Descriptor) (rest : Option (List Descriptor)) (list : List Descriptor) → option_map (λ others. descriptor ∷ others) rest ≡ Some list
    → (descriptors : List Descriptor) × (rest ≡ Some descriptors) × (list ≡ descriptor ∷ descriptors)
onto_some descriptor None list e = absurd (cc)
onto_some descriptor (Some descriptors) list e = (descriptors, refl, cc)

pub walks : (say : ℕ → View) (count start : ℕ) (list : List Descriptor) → listed (said say start count) ≡ Some list → length list < count → Walks say start list
unfolding listed
walks say zero start list e h = absurd (omega arith)
walks say (suc count) start list e h = by_view (walks say count (start + 1)) (say start) refl e where
  by_view : ((rest : List Descriptor) → listed (said say (start + 1) count) ≡ Some rest → length rest < count → Walks say (start + 1) rest)
      → (view : View) → say start ≡ view → listed (view ∷ said say (start + 1) count) ≡ Some list → Walks say start list
  by_view again End is f = let same : list ≡ [] = cc in subst (Walks say start) (sym same) is
  by_view again Spoiled is f = absurd (cc)
  by_view again (Listed descriptor) is f =
      let parts = onto_some descriptor (listed (said say (start + 1) count)) list f in
      let shorter : length parts.0 < count = omega (arith, ap length parts.2) in
      subst (Walks say start) (sym parts.2) (is, again parts.0 parts.1 shorter)

pub listed_as : (say : ℕ → View) (count start : ℕ) (list : List Descriptor) → Walks say start list → length list < count
    → listed (said say start count) ≡ Some list
unfolding listed
listed_as say zero start list w h = absurd (omega arith)
listed_as say (suc count) start [] w h = ap (λ view. listed (view ∷ said say (start + 1) count)) w
listed_as say (suc count) start (descriptor ∷ descriptors) w h =
    ap (λ view. listed (view ∷ said say (start + 1) count)) w.0
    ∙ ap (option_map (λ others. descriptor ∷ others)) (listed_as say count (start + 1) descriptors w.1 (omega arith))

pub same_walk : (say tell : ℕ → View) (start : ℕ) (list : List Descriptor) → ((n : ℕ) → start ≤ n → say n ≡ tell n) → Walks say start list → Walks tell start list
same_walk say tell start [] h w = sym (h start (omega arith)) ∙ w
same_walk say tell start (descriptor ∷ descriptors) h w =
    (sym (h start (omega arith)) ∙ w.0, same_walk say tell (start + 1) descriptors (λ n l. h n (omega arith)) w.1)

pub same_said : (say tell : ℕ → View) (count start : ℕ) → ((n : ℕ) → start ≤ n → n < start + count → say n ≡ tell n) → said say start count ≡ said tell start count
same_said say tell zero start h = refl
same_said say tell (suc count) start h =
    let first : say start ≡ tell start = h start (omega arith) (omega arith) in
    let rest : said say (start + 1) count ≡ said tell (start + 1) count = same_said say tell count (start + 1) (λ n l k. h n (omega arith) (omega arith)) in
    cc
