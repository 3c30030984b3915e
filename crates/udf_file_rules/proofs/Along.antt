-- What is found along the kept entries in the order of their addresses.
use Rattle.std.proofs.Common.{◌≡◌, ℕ, zero, suc, Bool, true, false, cond, ◌&&◌, List, [], ◌∷◌, ◌++◌, map, refl, sym, ap, ◌∙◌, Option, Some, None}
use Rattle.std.specs.Prelude.{slice_get}
use Rattle.std.specs.List.{filter, flat_map}
use Rattle.udf_field.specs.declared.address.Addr.{Addr}
use Rattle.udf_volume_model.specs.Rules as model
use Rattle.udf_rules.specs.Findings.{finding_of}
use Rattle.udf_rules.specs.declared.finding.Finding.{Finding}
use Rattle.udf_tree.specs.declared.node.Node.{Node}
use Rattle.udf_tree.specs.declared.node.NodeId.{NodeId}
use Rattle.udf_tree.specs.Nodes.{node_addresses}

pub map_append : {A B : Type 0} (g : A → B) (xs ys : List A) → map g (xs ++ ys) ≡ map g xs ++ map g ys
map_append g [] ys = refl
map_append g (x ∷ xs) ys = ap (λ (l : List _). g x ∷ l) (map_append g xs ys)

-- the address of a node that is there
pub address_there : (ns : List Node) (i : ℕ) (a : Addr) → slice_get (node_addresses ns) i ≡ Some a → (n : Node) × ((slice_get ns i ≡ Some n) × (n.at ≡ a))
address_there [] i a e = absurd (cc)
address_there (n ∷ ns) zero a e = (n, (refl, cc))
address_there (n ∷ ns) (suc i) a e = address_there ns i a e

-- what is found by the numbers of nodes is what is found by their addresses
pub along : (ns : List Node) (g : NodeId → List Finding) (h : Addr → List model.Finding)
    → ((id : NodeId) (n : Node) → slice_get ns id.0 ≡ Some n → g id ≡ map finding_of (h n.at))
    → (ids : List NodeId) (xs : List Addr) → map (λ id. slice_get (node_addresses ns) id.0) ids ≡ map Some xs
    → flat_map g ids ≡ map finding_of (flat_map h xs)
along ns g h each [] [] e = refl
along ns g h each [] (x ∷ xs) e = absurd (cc)
along ns g h each (id ∷ ids) [] e = absurd (cc)
along ns g h each (id ∷ ids) (x ∷ xs) e =
    let t = address_there ns id.0 x (cc) in
    ap (λ (l : List Finding). l ++ flat_map g ids) (each id t.0 t.1.0 ∙ ap (λ a. map finding_of (h a)) t.1.1)
    ∙ ap (λ (l : List Finding). map finding_of (h x) ++ l) (along ns g h each ids xs (cc))
    ∙ sym (map_append finding_of (h x) (flat_map h xs))

-- over what passes a test: nothing is found of what fails it
pub guarded : {A B : Type 0} (p : A → Bool) (h : A → List B) (xs : List A) → flat_map h (filter p xs) ≡ flat_map (λ a. cond (p a) (h a) []) xs
guarded p h [] = refl
guarded p h (x ∷ xs) = by (guarded p h xs) (p x)
  where
    by : flat_map h (filter p xs) ≡ flat_map (λ a. cond (p a) (h a) []) xs → (b : Bool)
        → flat_map h (cond b (x ∷ filter p xs) (filter p xs)) ≡ cond b (h x) [] ++ flat_map (λ a. cond (p a) (h a) []) xs
    by rec true = ap (λ (l : List _). h x ++ l) rec
    by rec false = rec

-- a stronger test filters what a weaker one left
pub narrowed : {A : Type 0} (p q : A → Bool) → ((a : A) → p a ≡ true → q a ≡ true) → (xs : List A) → filter p (filter q xs) ≡ filter p xs
narrowed p q h [] = refl
narrowed p q h (x ∷ xs) = by (narrowed p q h xs) (q x) (p x) refl refl
  where
    pick : (c : Bool) → p x ≡ c → cond (p x) (x ∷ filter p (filter q xs)) (filter p (filter q xs)) ≡ cond c (x ∷ filter p (filter q xs)) (filter p (filter q xs))
    pick c k = ap (λ b. cond b (x ∷ filter p (filter q xs)) (filter p (filter q xs))) k

    by : filter p (filter q xs) ≡ filter p xs → (b c : Bool) → q x ≡ b → p x ≡ c
        → filter p (cond b (x ∷ filter q xs) (filter q xs)) ≡ cond c (x ∷ filter p xs) (filter p xs)
    by rec true true e k = pick true k ∙ ap (λ (l : List _). x ∷ l) rec
    by rec true false e k = pick false k ∙ rec
    by rec false true e k = absurd (let no : true ≡ false = sym (h x k) ∙ e in cc)
    by rec false false e k = rec
