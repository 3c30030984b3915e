-- The places, in both orders: in the image, each in both lists, and high before others.
use Rattle.std.proofs.Common.{◌≡◌, ℕ, ◌-◌, ◌<◌, ◌≤◌, arith, refl, sym, subst, List, [], ◌∷◌, Bool, true, false, eqb, ltb, inl, inr}
use Rattle.std.proofs.lemmas.Bool.{ltb-true, ltb-false, eqb-true, eqb-false, ne_eqb, eq-eqb, lt-ltb, le-ltb}
use Rattle.udf_volume_model.specs.Anchor.{places_by, places}
use Rattle.udf_volume_model.specs.Rules.{ascending_places}
use Rattle.udf_volume_laws.proofs.Members.{IsIn}

-- no place that comes before another is below 256
abbrev pub IsHigh : List ℕ → Type 0
IsHigh [] = Unit {0}
IsHigh (place ∷ places) = (n : ℕ) → IsIn n places → 256 ≤ place

-- the ways of the places, by the number of blocks
data Way (blocks : ℕ) : Type 0 where
  Empty : blocks ≡ 0 → Way blocks
  Small : 0 < blocks → blocks < 257 → Way blocks
  First : blocks ≡ 257 → Way blocks
  Middle : 257 < blocks → blocks < 513 → Way blocks
  Second : blocks ≡ 513 → Way blocks
  Large : 513 < blocks → Way blocks

way : (blocks : ℕ) → Way blocks
way blocks = by_zero (eqb blocks 0) refl where
  by_second : (b : Bool) → eqb blocks 513 ≡ b → 513 ≤ blocks → Way blocks
  by_second true e h = Second (eqb-true _ _ e)
  by_second false e h = let unlike : blocks ≡ 513 → ⊥ = eqb-false _ _ e in Large (omega arith)

  by_middle : (b : Bool) → ltb blocks 513 ≡ b → 257 < blocks → Way blocks
  by_middle true e h = Middle h (ltb-true _ _ e)
  by_middle false e h = by_second (eqb blocks 513) refl (ltb-false _ _ e)

  by_first : (b : Bool) → eqb blocks 257 ≡ b → 257 ≤ blocks → Way blocks
  by_first true e h = First (eqb-true _ _ e)
  by_first false e h = let unlike : blocks ≡ 257 → ⊥ = eqb-false _ _ e in by_middle (ltb blocks 513) refl (omega arith)

  by_small : (b : Bool) → ltb blocks 257 ≡ b → 0 < blocks → Way blocks
  by_small true e h = Small h (ltb-true _ _ e)
  by_small false e h = by_first (eqb blocks 257) refl (ltb-false _ _ e)

  by_zero : (b : Bool) → eqb blocks 0 ≡ b → Way blocks
  by_zero true e = Empty (eqb-true _ _ e)
  by_zero false e = let some : blocks ≡ 0 → ⊥ = eqb-false _ _ e in by_small (ltb blocks 257) refl (omega arith)

empty_places : (blocks : ℕ) → blocks ≡ 0 → (places blocks ≡ []) × (ascending_places blocks ≡ [])
unfolding places ascending_places
empty_places blocks e = let t : eqb blocks 0 ≡ true = eq-eqb _ _ e in (simp t, simp t)

small_places : (blocks : ℕ) → 0 < blocks → blocks < 257 → (places blocks ≡ (blocks - 1) ∷ []) × (ascending_places blocks ≡ (blocks - 1) ∷ [])
unfolding places places_by ascending_places
small_places blocks some h =
    let zero : eqb blocks 0 ≡ false = ne_eqb _ _ (λ e. omega arith) in
    let low : ltb (blocks - 1) 256 ≡ true = lt-ltb _ _ (omega arith) in
    let few : ltb blocks 257 ≡ true = lt-ltb _ _ h in
    (simp (zero, low), simp (zero, few))

first_places : (blocks : ℕ) → blocks ≡ 257 → (places blocks ≡ 256 ∷ 0 ∷ []) × (ascending_places blocks ≡ 0 ∷ 256 ∷ [])
unfolding places places_by ascending_places
first_places blocks e =
    (subst (λ (n : ℕ). places n ≡ 256 ∷ 0 ∷ []) (sym e) refl, subst (λ (n : ℕ). ascending_places n ≡ 0 ∷ 256 ∷ []) (sym e) refl)

middle_places : (blocks : ℕ) → 257 < blocks → blocks < 513
    → (places blocks ≡ 256 ∷ (blocks - 1) ∷ (blocks - 1 - 256) ∷ []) × (ascending_places blocks ≡ (blocks - 257) ∷ 256 ∷ (blocks - 1) ∷ [])
unfolding places places_by ascending_places
middle_places blocks h k =
    let zero : eqb blocks 0 ≡ false = ne_eqb _ _ (λ e. omega arith) in
    let low : ltb (blocks - 1) 256 ≡ false = le-ltb _ _ (omega arith) in
    let one : eqb (blocks - 1) 256 ≡ false = ne_eqb _ _ (λ e. omega arith) in
    let two : eqb (blocks - 1) 512 ≡ false = ne_eqb _ _ (λ e. omega arith) in
    let few : ltb blocks 257 ≡ false = le-ltb _ _ (omega arith) in
    let first : eqb blocks 257 ≡ false = ne_eqb _ _ (λ e. omega arith) in
    let some : ltb blocks 513 ≡ true = lt-ltb _ _ k in
    (simp (zero, low, one, two), simp (zero, few, first, some))

second_places : (blocks : ℕ) → blocks ≡ 513 → (places blocks ≡ 256 ∷ 512 ∷ []) × (ascending_places blocks ≡ 256 ∷ 512 ∷ [])
unfolding places places_by ascending_places
second_places blocks e =
    (subst (λ (n : ℕ). places n ≡ 256 ∷ 512 ∷ []) (sym e) refl, subst (λ (n : ℕ). ascending_places n ≡ 256 ∷ 512 ∷ []) (sym e) refl)

large_places : (blocks : ℕ) → 513 < blocks
    → (places blocks ≡ 256 ∷ (blocks - 1) ∷ (blocks - 1 - 256) ∷ []) × (ascending_places blocks ≡ 256 ∷ (blocks - 257) ∷ (blocks - 1) ∷ [])
unfolding places places_by ascending_places
large_places blocks h =
    let zero : eqb blocks 0 ≡ false = ne_eqb _ _ (λ e. omega arith) in
    let low : ltb (blocks - 1) 256 ≡ false = le-ltb _ _ (omega arith) in
    let one : eqb (blocks - 1) 256 ≡ false = ne_eqb _ _ (λ e. omega arith) in
    let two : eqb (blocks - 1) 512 ≡ false = ne_eqb _ _ (λ e. omega arith) in
    let few : ltb blocks 257 ≡ false = le-ltb _ _ (omega arith) in
    let first : eqb blocks 257 ≡ false = ne_eqb _ _ (λ e. omega arith) in
    let some : ltb blocks 513 ≡ false = le-ltb _ _ (omega arith) in
    let second : eqb blocks 513 ≡ false = ne_eqb _ _ (λ e. omega arith) in
    (simp (zero, low, one, two), simp (zero, few, first, some, second))

-- what holds of each form holds of the places
by_form : (P : List ℕ → List ℕ → Type 0) (xs ys us vs : List ℕ) → (us ≡ xs) × (vs ≡ ys) → P xs ys → P us vs
by_form P xs ys us vs e p = subst (λ (a : List ℕ). P a vs) (sym e.0) (subst (λ (b : List ℕ). P xs b) (sym e.1) p)

-- the facts of both orders
record IsOrdered (blocks : ℕ) (xs ys : List ℕ) : Type 0 where
  within : (n : ℕ) → IsIn n xs → n < blocks
  there : (n : ℕ) → IsIn n xs → IsIn n ys
  back : (n : ℕ) → IsIn n ys → IsIn n xs
  high : IsHigh xs

either : (n x : ℕ) (xs : List ℕ) (P : Type 0) → (n ≡ x → P) → (IsIn n xs → P) → IsIn n (x ∷ xs) → P
either n x xs P f g (inl i) = f i
either n x xs P f g (inr i) = g i

only : (n x : ℕ) (P : Type 0) → (n ≡ x → P) → IsIn n (x ∷ []) → P
only n x P f (inl i) = f i
only n x P f (inr i) = absurd i

same_two : (a b n : ℕ) → IsIn n (a ∷ b ∷ []) → IsIn n (b ∷ a ∷ [])
same_two a b n (inl i) = inr (inl i)
same_two a b n (inr (inl i)) = inl i
same_two a b n (inr (inr i)) = absurd i

ordered : (blocks : ℕ) → IsOrdered blocks (places blocks) (ascending_places blocks)
ordered blocks = by_way (way blocks) where
  three : (a b c d e f : ℕ) → a < blocks → b < blocks → c < blocks → 256 ≤ a → 256 ≤ b
      → ((n : ℕ) → IsIn n (a ∷ b ∷ c ∷ []) → IsIn n (d ∷ e ∷ f ∷ [])) → ((n : ℕ) → IsIn n (d ∷ e ∷ f ∷ []) → IsIn n (a ∷ b ∷ c ∷ []))
      → IsOrdered blocks (a ∷ b ∷ c ∷ []) (d ∷ e ∷ f ∷ [])
  three a b c d e f h i j k l t u = record {
    within = λ n. either n a (b ∷ c ∷ []) (n < blocks) (λ x. omega arith) (either n b (c ∷ []) (n < blocks) (λ x. omega arith) (only n c (n < blocks) (λ x. omega arith)));
    there = t;
    back = u;
    high = λ n x. k;
  }

  by_way : Way blocks → IsOrdered blocks (places blocks) (ascending_places blocks)
  by_way (Empty e) = by_form (IsOrdered blocks) [] [] _ _ (empty_places blocks e)
      (record { within = λ n i. absurd i; there = λ n i. i; back = λ n i. i; high = tt })
  by_way (Small h k) = by_form (IsOrdered blocks) _ _ _ _ (small_places blocks h k)
      (record { within = λ n. only n (blocks - 1) (n < blocks) (λ x. omega arith); there = λ n i. i; back = λ n i. i; high = λ n i. absurd i })
  by_way (First e) = by_form (IsOrdered blocks) _ _ _ _ (first_places blocks e)
      (record {
        within = λ n. either n 256 (0 ∷ []) (n < blocks) (λ x. omega arith) (only n 0 (n < blocks) (λ x. omega arith));
        there = same_two 256 0;
        back = same_two 0 256;
        high = λ n i. omega arith;
      })
  by_way (Middle h k) = by_form (IsOrdered blocks) _ _ _ _ (middle_places blocks h k)
      (three 256 (blocks - 1) (blocks - 1 - 256) (blocks - 257) 256 (blocks - 1) (omega arith) (omega arith) (omega arith) (omega arith) (omega arith)
      (λ n. either n 256 ((blocks - 1) ∷ (blocks - 1 - 256) ∷ []) _ (λ x. inr (inl x))
      (either n (blocks - 1) ((blocks - 1 - 256) ∷ []) _ (λ x. inr (inr (inl x))) (only n (blocks - 1 - 256) _ (λ x. inl (omega arith)))))
      (λ n. either n (blocks - 257) (256 ∷ (blocks - 1) ∷ []) _ (λ x. inr (inr (inl (omega arith))))
      (either n 256 ((blocks - 1) ∷ []) _ (λ x. inl x) (only n (blocks - 1) _ (λ x. inr (inl x))))))
  by_way (Second e) = by_form (IsOrdered blocks) _ _ _ _ (second_places blocks e)
      (record {
        within = λ n. either n 256 (512 ∷ []) (n < blocks) (λ x. omega arith) (only n 512 (n < blocks) (λ x. omega arith));
        there = λ n i. i;
        back = λ n i. i;
        high = λ n i. omega arith;
      })
  by_way (Large h) = by_form (IsOrdered blocks) _ _ _ _ (large_places blocks h)
      (three 256 (blocks - 1) (blocks - 1 - 256) 256 (blocks - 257) (blocks - 1) (omega arith) (omega arith) (omega arith) (omega arith) (omega arith)
      (λ n. either n 256 ((blocks - 1) ∷ (blocks - 1 - 256) ∷ []) _ (λ x. inl x)
      (either n (blocks - 1) ((blocks - 1 - 256) ∷ []) _ (λ x. inr (inr (inl x))) (only n (blocks - 1 - 256) _ (λ x. inr (inl (omega arith))))))
      (λ n. either n 256 ((blocks - 257) ∷ (blocks - 1) ∷ []) _ (λ x. inl x)
      (either n (blocks - 257) ((blocks - 1) ∷ []) _ (λ x. inr (inr (inl (omega arith)))) (only n (blocks - 1) _ (λ x. inr (inl x))))))

pub places_within : (blocks n : ℕ) → IsIn n (places blocks) → n < blocks
places_within blocks = (ordered blocks).within

pub ascending_within : (blocks n : ℕ) → IsIn n (ascending_places blocks) → n < blocks
ascending_within blocks n i = (ordered blocks).within n ((ordered blocks).back n i)

pub to_ascending : (blocks n : ℕ) → IsIn n (places blocks) → IsIn n (ascending_places blocks)
to_ascending blocks = (ordered blocks).there

pub from_ascending : (blocks n : ℕ) → IsIn n (ascending_places blocks) → IsIn n (places blocks)
from_ascending blocks = (ordered blocks).back

pub places_high : (blocks : ℕ) → IsHigh (places blocks)
places_high blocks = (ordered blocks).high
