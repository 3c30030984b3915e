-- A map of wanted blocks: what is looked up in it, what it gains, and the order of its sectors.
use Rattle.std.proofs.Common.{◌≡◌, ℕ, ◌+◌, ◌<◌, ◌≤◌, arith, refl, sym, ◌∙◌, ap, List, [], ◌∷◌, ◌++◌, Bool, true, false, cond, eqb, Option, Some, None, is_some, Vec, Global, Bor}
use Rattle.std.specs.Ordering.{nat_cmp, is_eq, match_ordering}
use Rattle.std.specs.declared.cmp.Ordering.{Ordering}
use Rattle.std.specs.declared.cmp.Ordering.TheVariants.{Less, Equal, Greater}
use Rattle.std.specs.BTreeMap.{BTreeMap, get, is_at, insert_entry, Updates}
use Rattle.std.specs.List.{list_all}
use Rattle.std.specs.List.Sorted.{IsStrictlySortedBy}
use Rattle.std.specs.Map.{lookup, keys_of}
use Rattle.std.proofs.lemmas.Bool.{and_parts, and_from, eqb-true}
use Rattle.std.proofs.lemmas.Bool.Decides.{nat_tests}
use Rattle.std.specs.Map.Iter.{deref_pair, TakesFirst}
use Rattle.std.proofs.lemmas.Map.Iter.{rest_more}
use Rattle.udf_volume_model.specs.Edits.{look}
use Rattle.udf_volume_model.specs.Plans.{ClimbsFrom}
use Rattle.udf_volume_laws.proofs.Puts.{look_both}
use Rattle.udf_wanted.specs.Kept.{kept}
use Rattle.udf_wanted.specs.Wanted.{LookAlike}

abbrev Blocks : Type 0
Blocks = BTreeMap ℕ (Vec ℕ Global)

key_is : (n m : ℕ) → is_eq (nat_cmp n m) ≡ eqb n m
key_is n m = grind (arith, nat_tests)

key_back : (n m : ℕ) → is_eq (nat_cmp n m) ≡ eqb m n
key_back n m = grind (arith, nat_tests)

abbrev found_or : Option (Vec ℕ Global) → List ℕ → List ℕ
found_or None block = block
found_or (Some there) block = there.items

-- what the map has at a sector is what stands there
look_kept : (entries : List (ℕ × Vec ℕ Global)) (n : ℕ) (block : List ℕ) → look n (kept entries) block ≡ found_or (lookup (is_at (nat_cmp n)) entries) block
unfolding look
look_kept [] n block = refl
look_kept (e ∷ entries) n block =
    ap (cond (eqb n e.0) e.1.items) (look_kept entries n block)
    ∙ by_test (eqb n e.0)
    ∙ ap (λ b. found_or (cond b (Some e.1) (lookup (is_at (nat_cmp n)) entries)) block) (sym (key_is n e.0)) where
      by_test : (b : Bool) → cond b e.1.items (found_or (lookup (is_at (nat_cmp n)) entries) block)
          ≡ found_or (cond b (Some e.1) (lookup (is_at (nat_cmp n)) entries)) block
      by_test true = refl
      by_test false = refl

-- the same with one block more behind
look_more : (map : Blocks) (sector : ℕ) (block : List ℕ) (n : ℕ) (before : List ℕ)
    → look n (kept map.entries ++ (sector, block) ∷ []) before ≡ found_or (get nat_cmp map n) (cond (eqb n sector) block before)
unfolding look
look_more map sector block n before = look_both n (kept map.entries) ((sector, block) ∷ []) before ∙ look_kept map.entries n (cond (eqb n sector) block before)

-- a block that is put where one is
pub stays : (map : Blocks) (sector : ℕ) (block : List ℕ) → is_some (get nat_cmp map sector) ≡ true → LookAlike (kept map.entries) (kept map.entries ++ (sector, block) ∷ [])
stays map sector block there n before = look_kept map.entries n before ∙ by_test (eqb n sector) refl ∙ sym (look_more map sector block n before) where
  found : (o : Option (Vec ℕ Global)) → is_some o ≡ true → (one other : List ℕ) → found_or o one ≡ found_or o other
  found None e one other = absurd (cc)
  found (Some b) e one other = refl

  by_test : (b : Bool) → eqb n sector ≡ b → found_or (get nat_cmp map n) before ≡ found_or (get nat_cmp map n) (cond b block before)
  by_test true e = found (get nat_cmp map n) (ap (λ k. is_some (get nat_cmp map k)) (eqb-true n sector e) ∙ there) before block
  by_test false e = refl

-- a block that is put where none is
pub comes : (old new : Blocks) (sector : ℕ) (block : Vec ℕ Global) (bytes : List ℕ) → is_some (get nat_cmp old sector) ≡ false → block.items ≡ bytes
    → Updates nat_cmp old new sector (Some block) → LookAlike (kept new.entries) (kept old.entries ++ (sector, bytes) ∷ [])
comes old new sector block bytes absent is updates n before =
    look_kept new.entries n before
    ∙ ap (λ o. found_or o before) (updates.0 n ∙ ap (λ b. cond b (Some block) (get nat_cmp old n)) (key_back sector n))
    ∙ by_test (eqb n sector) refl ∙ sym (look_more old sector bytes n before) where
      none : (o : Option (Vec ℕ Global)) → is_some o ≡ false → (after : List ℕ) → after ≡ found_or o after
      none None e after = refl
      none (Some b) e after = absurd (cc)

      by_test : (b : Bool) → eqb n sector ≡ b → found_or (cond b (Some block) (get nat_cmp old n)) before ≡ found_or (get nat_cmp old n) (cond b bytes before)
      by_test true e = is ∙ none (get nat_cmp old n) (ap (λ k. is_some (get nat_cmp old k)) (eqb-true n sector e) ∙ absent) bytes
      by_test false e = refl

-- a map gains no other block
inserted : (test : ℕ × List ℕ → Bool) (entries : List (ℕ × Vec ℕ Global)) (sector : ℕ) (block : Vec ℕ Global) → list_all test (kept entries) ≡ true
    → test (sector, block.items) ≡ true → list_all test (kept (insert_entry nat_cmp entries sector block)) ≡ true
inserted test [] sector block all this = and_from _ _ this refl
inserted test (e ∷ entries) sector block all this =
    let parts = and_parts (test (e.0, e.1.items)) (list_all test (kept entries)) all in
    by_order (nat_cmp sector e.0) refl parts.0 (inserted test entries sector block parts.1 this) parts.1 where
      equal : nat_cmp sector e.0 ≡ Equal → sector ≡ e.0
      equal is = grind (arith, nat_tests)

      by_order : (o : Ordering) → nat_cmp sector e.0 ≡ o → test (e.0, e.1.items) ≡ true
          → list_all test (kept (insert_entry nat_cmp entries sector block)) ≡ true → list_all test (kept entries) ≡ true
          → list_all test (kept (match_ordering o ((sector, block) ∷ e ∷ entries) ((e.0, block) ∷ entries) (e ∷ insert_entry nat_cmp entries sector block))) ≡ true
      by_order Less is head rest tail = and_from _ _ this (and_from _ _ head tail)
      by_order Equal is head rest tail = and_from _ _ (ap (λ n. test (n, block.items)) (sym (equal is)) ∙ this) tail
      by_order Greater is head rest tail = and_from _ _ head rest

pub among : (test : ℕ × List ℕ → Bool) (old new : Blocks) (sector : ℕ) (block : Vec ℕ Global) (bytes : List ℕ) → block.items ≡ bytes
    → new.entries ≡ insert_entry nat_cmp old.entries sector block
    → list_all test (kept old.entries) ≡ true → test (sector, bytes) ≡ true → list_all test (kept new.entries) ≡ true
among test old new sector block bytes is more all this =
    ap (λ entries. list_all test (kept entries)) more ∙ inserted test old.entries sector block all (ap (λ b. test (sector, b)) is ∙ this)

-- the sectors of a map ascend
less : (n m : ℕ) → nat_cmp n m ≡ Less → n < m
less n m e = grind (arith, nat_tests)

climbs : (from : ℕ) (e : ℕ × Vec ℕ Global) (entries : List (ℕ × Vec ℕ Global)) → from ≤ e.0 → IsStrictlySortedBy nat_cmp (keys_of (e ∷ entries)) → ClimbsFrom from (kept (e ∷ entries))
unfolding IsStrictlySortedBy
climbs from e [] h s = (h, tt)
climbs from e (f ∷ entries) h s = (h, climbs (e.0 + 1) f entries (omega (arith, less e.0 f.0 s.0.0)) s.1)

pub kept_climbs : (entries : List (ℕ × Vec ℕ Global)) → IsStrictlySortedBy nat_cmp (keys_of entries) → ClimbsFrom 0 (kept entries)
kept_climbs [] s = tt
kept_climbs (e ∷ entries) s = climbs 0 e entries (omega arith) s

-- the next block of a pass over the map
pub next_kept : (left rest : List (ℕ × Vec ℕ Global)) (item : Option (Bor ℕ × Bor (Vec ℕ Global))) (sector : Bor ℕ) (after : Bor (Vec ℕ Global)) → item ≡ Some (sector, after)
    → TakesFirst deref_pair left item rest → kept left ≡ (sector.now, after.now.items) ∷ kept rest
next_kept left rest item sector after is step = ap kept (rest_more deref_pair left rest item (sector, after) is step)
