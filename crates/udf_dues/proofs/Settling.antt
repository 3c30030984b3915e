-- Settling the identifiers of entries one after the other.
use Rattle.std.proofs.Common.{◌≡◌, ℕ, ◌+◌, ◌<◌, List, [], ◌∷◌, ◌++◌, length, get_or, take, drop, map, Bool, true, false, not, cond, ◌||◌, nat_eq, refl, sym, ap, ◌∙◌, subst, arith, Option}
use Rattle.std.specs.Prelude.{◌&&◌, if◌then◌else◌, Some, None}
use Rattle.std.specs.List.{list_any}
use Rattle.std.specs.Ordering.{nat_cmp, is_eq}
use Rattle.std.proofs.lemmas.Grind.{common_steps}
use Rattle.std.proofs.lemmas.List.{append_assoc, drop_more, take_more, map-append}
use Rattle.std.proofs.lemmas.List.Folds.{list_any-append}
use Rattle.udf_tree_model.specs.Counts.{is_lawful_id}
use Rattle.udf_dues.specs.declared.identifiers.Identity.{Identity}
use Rattle.udf_dues.specs.Identifiers.{settled_after, settled_from}

-- the identifiers of the first entries
abbrev pub ids_before : ℕ → List Identity → List ℕ
ids_before i xs = map (λ x. x.id) (take i xs)

pub before_more : (xs : List Identity) (i : ℕ) (d : Identity) → i < length xs → ids_before (i + 1) xs ≡ ids_before i xs ++ (get_or xs i d).id ∷ []
before_more xs i d l = ap (map (λ x. x.id)) (take_more xs i d l) ∙ map-append (λ x. x.id) (take i xs) (get_or xs i d ∷ [])

-- a set of the identifiers before, with one more
pub seen_more : (before : List ℕ) (seen new : ℕ → Bool) (id : ℕ) → ((q : ℕ) → seen q ≡ list_any (nat_eq q) before)
    → ((q : ℕ) → new q ≡ cond (is_eq (nat_cmp id q)) true (seen q)) → (q : ℕ) → new q ≡ list_any (nat_eq q) (before ++ id ∷ [])
seen_more before seen new id same updates q =
    updates q ∙ ap (λ b. cond b true (seen q)) (swap id q) ∙ join (nat_eq q id) (seen q) ∙ ap (λ b. b || (nat_eq q id || false)) (same q) ∙ sym (list_any-append (nat_eq q) before (id ∷ []))
  where
    swap : (a k : ℕ) → is_eq (nat_cmp a k) ≡ nat_eq k a
    swap a k = grind (arith, common_steps)

    join : (b c : Bool) → cond b true c ≡ (c || (b || false))
    join true true = refl
    join true false = refl
    join false true = refl
    join false false = refl

pub settling_more : (xs : List Identity) (i : ℕ) (d : Identity) (is_first : Bool) (o : Option ℕ) (out all : List (Option ℕ)) → i < length xs
    → is_first ≡ not (list_any (nat_eq (get_or xs i d).id) (ids_before i xs))
    → o ≡ (if (get_or xs i d).is_root then Some 0 else (if is_lawful_id (get_or xs i d).id && is_first then Some (get_or xs i d).id else None))
    → out ++ settled_from (ids_before i xs) (drop i xs) ≡ all
    → (out ++ o ∷ []) ++ settled_from (ids_before (i + 1) xs) (drop (i + 1) xs) ≡ all
settling_more xs i d is_first o out all l first choice h =
    let x : Identity = get_or xs i d in
    let rest : List Identity = drop (i + 1) xs in
    let own : o ≡ settled_after (ids_before i xs) x = subst (λ (b : Bool). o ≡ (if x.is_root then Some 0 else (if is_lawful_id x.id && b then Some x.id else None))) first choice in
    ap (λ (b : List ℕ). (out ++ o ∷ []) ++ settled_from b rest) (before_more xs i d l)
    ∙ append_assoc out (o ∷ []) (settled_from (ids_before i xs ++ x.id ∷ []) rest)
    ∙ ap (λ (p : Option ℕ). out ++ p ∷ settled_from (ids_before i xs ++ x.id ∷ []) rest) own
    ∙ sym (ap (λ (r : List Identity). out ++ settled_from (ids_before i xs) r) (drop_more xs i d l))
    ∙ h
