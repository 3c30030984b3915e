-- A layer at one reference: what its laws give for addresses.
use Rattle.std.specs.Prelude.{◌≡◌, ◌⊎◌, ℕ, Bool, true, false, ◌+◌, ◌<◌, ◌==◌, cond, if◌then◌else◌, Option, Some, None}
use Rattle.std.proofs.Common.{arith, sym, ◌∙◌, ap, refl, inl, inr}
use Rattle.std.proofs.lemmas.Bool.Decides.{nat_tests}
use Rattle.udf_field.specs.declared.address.Addr.{Addr}
use Rattle.udf_file_model.specs.Place.{Place}
use Rattle.udf_file_model.specs.Address.{lone_places}
use Rattle.udf_layer.specs.StandsAt.{AreApart, StandsAt}

-- how many blocks a reference has, where one has any
unfoldable pub part_blocks : ℕ → ℕ → ℕ → ℕ
part_blocks part blocks at = if at == part then blocks else 0

pub same_address : (a b : Addr) → a.part ≡ b.part → a.block ≡ b.block → a ≡ b
same_address a b p q =
    let make : ℕ → ℕ → Addr = λ x y. record { part = x; block = y } in
    ap (λ x. make x a.block) p ∙ ap (λ y. make b.part y) q

pub all_apart : (place twin : Place) → ((m n s : ℕ) → place m ≡ Some s → place n ≡ Some s → m ≡ n)
    → ((m n s : ℕ) → place m ≡ Some s → twin n ≡ Some s → ⊥) → ((m n s : ℕ) → twin m ≡ Some s → twin n ≡ Some s → m ≡ n)
    → AreApart place twin
all_apart place twin f g h m n s (inl x) (inl y) = f m n s x y
all_apart place twin f g h m n s (inl x) (inr y) = absurd (g m n s x y)
all_apart place twin f g h m n s (inr x) (inl y) = absurd (g n m s y x)
all_apart place twin f g h m n s (inr x) (inr y) = h m n s x y

lone_by : (b : Bool) (part : ℕ) (a : Addr) (o : Option ℕ) (s : ℕ) → (a.part == part) ≡ b → cond b o None ≡ Some s → (a.part ≡ part) × (o ≡ Some s)
lone_by true part a o s e h = (grind (arith, nat_tests), h)
lone_by false part a o s e h = absurd (cc)

pub lone_is : (part : ℕ) (place : Place) (a : Addr) (s : ℕ) → lone_places part place a ≡ Some s → (a.part ≡ part) × (place a.block ≡ Some s)
unfolding lone_places
lone_is part place a s h = lone_by (a.part == part) part a (place a.block) s refl h

pub lone_stands : (part : ℕ) (place twin : Place) (a : Addr) (s : ℕ) → StandsAt (lone_places part place) (lone_places part twin) a s
    → (a.part ≡ part) × ((place a.block ≡ Some s) ⊎ (twin a.block ≡ Some s))
lone_stands part place twin a s (inl h) = let t = lone_is part place a s h in (t.0, inl t.1)
lone_stands part place twin a s (inr h) = let t = lone_is part twin a s h in (t.0, inr t.1)

pub lone_apart : (part : ℕ) (place twin : Place) → AreApart place twin → (a b : Addr) (s : ℕ)
    → StandsAt (lone_places part place) (lone_places part twin) a s → StandsAt (lone_places part place) (lone_places part twin) b s → a ≡ b
lone_apart part place twin apart a b s g h =
    let p = lone_stands part place twin a s g in
    let q = lone_stands part place twin b s h in
    same_address a b (p.0 ∙ sym q.0) (apart a.block b.block s p.1 q.1)

blocks_by : (b : Bool) (part at blocks n : ℕ) → (at == part) ≡ b → at ≡ part → n < blocks → n < cond b blocks 0
blocks_by true part at blocks n e h l = l
blocks_by false part at blocks n e h l = absurd (grind (arith, nat_tests))

pub lone_within : (part : ℕ) (place : Place) (blocks : ℕ) → ((n s : ℕ) → place n ≡ Some s → n < blocks)
    → (a : Addr) (s : ℕ) → lone_places part place a ≡ Some s → (a.part < part + 1) × (a.block < part_blocks part blocks a.part)
unfolding part_blocks
lone_within part place blocks within a s h =
    let t = lone_is part place a s h in
    (omega (arith, t.0), blocks_by (a.part == part) part a.part blocks a.block refl t.0 (within a.block s t.1))

pub lone_apart_in_part : (part : ℕ) (place : Place) → ((m n s : ℕ) → place m ≡ Some s → place n ≡ Some s → m ≡ n)
    → (a b : Addr) (s : ℕ) → a.part ≡ b.part → lone_places part place a ≡ Some s → lone_places part place b ≡ Some s → a ≡ b
lone_apart_in_part part place apart a b s e g h =
    same_address a b e (apart a.block b.block s (lone_is part place a s g).1 (lone_is part place b s h).1)
