-- What a sparing table keeps beside its pairs, for no pair and for one more.
use Rattle.std.proofs.Common.{◌≡◌, ℕ, ◌+◌, ◌<◌, ◌==◌, Bool, true, false, ◌&&◌, ◌||◌, cond, nat_le, arith, refl, sym, ap, ◌∙◌, subst, Option, Some, None, List, [], ◌∷◌, ◌++◌, length}
use Rattle.std.specs.List.{list_all, list_any, find}
use Rattle.std.specs.Option.{option_map, option_or}
use Rattle.std.specs.Ordering.{nat_cmp}
use Rattle.std.specs.BTreeMap.{BTreeMap, get, is_at}
use Rattle.std.specs.BTreeMap as maps
use Rattle.std.specs.Map.{lookup}
use Rattle.std.specs.BTreeSet.{BTreeSet, contains}
use Rattle.std.specs.BTreeSet as sets
use Rattle.std.proofs.lemmas.Bool.Decides.{nat_tests}
use Rattle.std.proofs.Math.ListN.{length-append}
use Rattle.std.proofs.lemmas.List.Folds.{find-append, list_all-append, list_any-append}
use Rattle.udf_layer.specs.Packets.{packet_apart, packets_apart}
use Rattle.udf_layer.specs.Indexes.{HasIndexes, mapped_from}

pub none_kept : (packet : ℕ) (pairs : List (ℕ × ℕ)) (moved : BTreeMap ℕ ℕ) (starts : BTreeSet ℕ) → 0 < packet → pairs ≡ [] → maps.IsEmpty moved
    → sets.IsEmpty starts → HasIndexes packet pairs moved starts true
unfolding packets_apart
none_kept packet pairs moved starts some none no_map no_set =
    let P : List (ℕ × ℕ) → Type 0 = λ ps. HasIndexes packet ps moved starts true in
    subst P (sym none) (record {
      some = some;
      few = omega arith;
      moved_by = λ q. ap (lookup (is_at (nat_cmp q))) no_map;
      started = λ q. ap (list_any (is_at (nat_cmp q))) no_set;
      are_apart = refl;
    })

-- one pair more
and_true : (b : Bool) → (b && true) ≡ b
and_true true = refl
and_true false = refl

or_false : (b : Bool) → (b || false) ≡ b
or_false true = refl
or_false false = refl

list_all_push : {X : Type 0} (p : X → Bool) (xs : List X) (x : X) → list_all p (xs ++ x ∷ []) ≡ (list_all p xs && p x)
list_all_push p xs x = list_all-append p xs (x ∷ []) ∙ ap (λ b. list_all p xs && b) (and_true (p x))

list_any_push : {X : Type 0} (p : X → Bool) (xs : List X) (x : X) → list_any p (xs ++ x ∷ []) ≡ (list_any p xs || p x)
list_any_push p xs x = list_any-append p xs (x ∷ []) ∙ ap (λ b. list_any p xs || b) (or_false (p x))

same_apart : (packet first : ℕ) (pair other : ℕ × ℕ) → packet_apart packet pair.1 other ≡ packet_apart packet other.1 pair
unfolding packet_apart
same_apart packet first pair other = by (nat_le (pair.1 + packet) other.1) (nat_le (other.1 + packet) pair.1)
  where
    by : (a b : Bool) → (a || b) ≡ (b || a)
    by true true = refl
    by true false = refl
    by false true = refl
    by false false = refl

regroup : (a b c d : Bool) → ((a && b) && (c && d)) ≡ ((a && c) && (b && d))
regroup true true c d = by c d
  where
    by : (c d : Bool) → (c && d) ≡ (c && d)
    by c d = refl
regroup true false true d = refl
regroup true false false d = refl
regroup false b c d = refl

apart_push : (packet : ℕ) (pairs : List (ℕ × ℕ)) (pair : ℕ × ℕ) → packets_apart packet (pairs ++ pair ∷ []) ≡ (packets_apart packet pairs && list_all (packet_apart packet pair.1) pairs)
unfolding packets_apart
apart_push packet [] pair = refl
apart_push packet (other ∷ pairs) pair =
    ap (λ b. b && packets_apart packet (pairs ++ pair ∷ [])) (list_all_push (packet_apart packet other.1) pairs pair)
    ∙ ap (λ b. (list_all (packet_apart packet other.1) pairs && packet_apart packet other.1 pair) && b) (apart_push packet pairs pair)
    ∙ regroup (list_all (packet_apart packet other.1) pairs) (packet_apart packet other.1 pair) (packets_apart packet pairs) (list_all (packet_apart packet pair.1) pairs)
    ∙ ap (λ b. (list_all (packet_apart packet other.1) pairs && packets_apart packet pairs) && (b && list_all (packet_apart packet pair.1) pairs)) (same_apart packet pair.1 other pair)

map_push : (pairs : List (ℕ × ℕ)) (original sector q : ℕ) → mapped_from pairs original ≡ None
    → mapped_from (pairs ++ (original, sector) ∷ []) q ≡ cond (is_at (nat_cmp original) q) (Some sector) (mapped_from pairs q)
map_push pairs original sector q new =
    ap (option_map (λ (pair : ℕ × ℕ). pair.1)) (find-append (λ pair. pair.0 == q) pairs ((original, sector) ∷ [])) ∙ by (original == q) refl
  where
    key_is : is_at (nat_cmp original) q ≡ (original == q)
    key_is = grind (arith, nat_tests)

    off : (o : Option (ℕ × ℕ)) → option_map (λ (pair : ℕ × ℕ). pair.1) (option_or o None) ≡ option_map (λ (pair : ℕ × ℕ). pair.1) o
    off None = refl
    off (Some p) = refl

    on : (o : Option (ℕ × ℕ)) → option_map (λ (pair : ℕ × ℕ). pair.1) o ≡ None → option_map (λ (pair : ℕ × ℕ). pair.1) (option_or o (Some (original, sector))) ≡ Some sector
    on None h = refl
    on (Some p) h = absurd (cc)

    by : (b : Bool) → (original == q) ≡ b
        → option_map (λ (pair : ℕ × ℕ). pair.1) (option_or (find (λ pair. pair.0 == q) pairs) (cond b (Some (original, sector)) None))
        ≡ cond (is_at (nat_cmp original) q) (Some sector) (mapped_from pairs q)
    by true e = let same : original ≡ q = grind (arith, nat_tests) in
        on (find (λ pair. pair.0 == q) pairs) (let P : ℕ → Type 0 = λ n. mapped_from pairs n ≡ None in subst P same new)
        ∙ sym (ap (λ b. cond b (Some sector) (mapped_from pairs q)) (key_is ∙ e))
    by false e = off (find (λ pair. pair.0 == q) pairs) ∙ sym (ap (λ b. cond b (Some sector) (mapped_from pairs q)) (key_is ∙ e))

set_push : (pairs : List (ℕ × ℕ)) (original sector q : ℕ)
    → list_any (λ pair. pair.1 == q) (pairs ++ (original, sector) ∷ []) ≡ cond (is_at (nat_cmp sector) q) true (list_any (λ pair. pair.1 == q) pairs)
set_push pairs original sector q =
    list_any_push (λ pair. pair.1 == q) pairs (original, sector) ∙ by (list_any (λ pair. pair.1 == q) pairs) (sector == q) ∙ sym (ap (λ b. cond b true (list_any (λ pair. pair.1 == q) pairs)) key_is)
  where
    key_is : is_at (nat_cmp sector) q ≡ (sector == q)
    key_is = grind (arith, nat_tests)

    by : (a b : Bool) → (a || b) ≡ cond b true a
    by true true = refl
    by true false = refl
    by false true = refl
    by false false = refl

pub one_kept : (packet : ℕ) (pairs more : List (ℕ × ℕ)) (moved moved_more : BTreeMap ℕ ℕ) (starts starts_more : BTreeSet ℕ) (apart far : Bool) (original sector : ℕ)
    → HasIndexes packet pairs moved starts apart → more ≡ pairs ++ (original, sector) ∷ [] → length pairs + 1 < 4294967296
    → mapped_from pairs original ≡ None
    → ((q : ℕ) → get nat_cmp moved_more q ≡ cond (is_at (nat_cmp original) q) (Some sector) (get nat_cmp moved q))
    → ((q : ℕ) → contains nat_cmp starts_more q ≡ cond (is_at (nat_cmp sector) q) true (contains nat_cmp starts q))
    → far ≡ list_all (packet_apart packet sector) pairs
    → HasIndexes packet more moved_more starts_more (apart && far)
one_kept packet pairs more moved moved_more starts starts_more apart far original sector is added few new m s f =
    let P : List (ℕ × ℕ) → Type 0 = λ ps. HasIndexes packet ps moved_more starts_more (apart && far) in
    subst P (sym added) (record {
      some = is.some;
      few = omega (arith, length-append pairs ((original, sector) ∷ []));
      moved_by = λ q. m q ∙ ap (cond (is_at (nat_cmp original) q) (Some sector)) (is.moved_by q) ∙ sym (map_push pairs original sector q new);
      started = λ q. s q ∙ ap (cond (is_at (nat_cmp sector) q) true) (is.started q) ∙ sym (set_push pairs original sector q);
      are_apart = ap (λ b. b && far) is.are_apart ∙ ap (λ b. packets_apart packet pairs && b) f ∙ sym (apart_push packet pairs (original, sector));
    })
