-- Reading one descriptor: what passes, and what is read of one of which something fails.
use Rattle.std.proofs.Common.{◌≡◌, ℕ, Bool, true, false, cond, not, ◌&&◌, ◌||◌, ◌+◌, ◌*◌, ◌^◌, ◌<◌, ◌==◌, nat_lt, List, [], ◌∷◌, arith, sym, ◌∙◌, ap, refl}
use Rattle.std.specs.List.{list_any}
use Rattle.std.proofs.lemmas.Bool.Decides.{nat_tests}
use Rattle.std.proofs.lemmas.List.{append-nil}
use Rattle.udf_file_model.specs.Descriptors.{Descriptor}
use Rattle.udf_entry.specs.Outcome.{with_front}
use Rattle.udf_file_model.specs.Front.{Rules, Past, is_hole, is_part, blocks_for, may_come, front_of, new_in, run_passes, run_front, with_run}
use Rattle.udf_file_model.specs.Pieces.{bytes_in}

passes_is : (r : Rules) (past : Past) (d : Descriptor) (x y z : Bool) → may_come r past d ≡ x → is_hole d ≡ y → (new_in r past d == blocks_for r.size d.length) ≡ z
    → run_passes r past d ≡ (x && (y || z))
unfolding run_passes
passes_is r past d x y z e f g =
    ap (λ b. b && (is_hole d || (new_in r past d == blocks_for r.size d.length))) e
    ∙ ap (λ b. x && (b || (new_in r past d == blocks_for r.size d.length))) f ∙ ap (λ b. x && (y || b)) g

front_is : (r : Rules) (past : Past) (d : Descriptor) (x : Bool) → may_come r past d ≡ x → run_front r past d ≡ cond x (front_of r.size d (new_in r past d)) []
unfolding run_front
front_is r past d x e = ap (λ b. cond b (front_of r.size d (new_in r past d)) []) e

pub not_come : (r : Rules) (past : Past) (d : Descriptor) → may_come r past d ≡ false → run_passes r past d ≡ false
not_come r past d e = passes_is r past d false (is_hole d) (new_in r past d == blocks_for r.size d.length) e refl refl

abbrev past_with : Past → List Descriptor → Past
past_with past l = record { runs = l; extents = past.extents }

pub not_come_front : (r : Rules) (past : Past) (d : Descriptor) → may_come r past d ≡ false → past ≡ with_front past (run_front r past d)
not_come_front r past d e = sym (ap (past_with past) (append-nil past.runs)) ∙ sym (ap (with_front past) (front_is r past d false e))

pub hole_passes : (r : Rules) (past : Past) (d : Descriptor) → may_come r past d ≡ true → is_hole d ≡ true → run_passes r past d ≡ true
hole_passes r past d e f = passes_is r past d true true (new_in r past d == blocks_for r.size d.length) e f refl

pub equal_test : (m n : ℕ) → m ≡ n → (m == n) ≡ true
equal_test m n e = grind (arith, nat_tests)

pub apart_test : (m n : ℕ) → (m ≡ n → ⊥) → (m == n) ≡ false
apart_test m n e = grind (arith, nat_tests)

pub all_pass : (r : Rules) (past : Past) (d : Descriptor) → may_come r past d ≡ true → is_hole d ≡ false → new_in r past d ≡ blocks_for r.size d.length
    → run_passes r past d ≡ true
all_pass r past d e f g = passes_is r past d true false true e f (equal_test (new_in r past d) (blocks_for r.size d.length) g)

pub some_fail : (r : Rules) (past : Past) (d : Descriptor) → is_hole d ≡ false → (new_in r past d ≡ blocks_for r.size d.length → ⊥)
    → run_passes r past d ≡ false
some_fail r past d f g = and_false (may_come r past d) ∙ refl
  where
    and_false : (b : Bool) → run_passes r past d ≡ false
    and_false b = passes_is r past d (may_come r past d) false false refl f (apart_test (new_in r past d) (blocks_for r.size d.length) g) ∙ none (may_come r past d)
      where
        none : (b : Bool) → (b && (false || false)) ≡ false
        none true = refl
        none false = refl

pub no_front : (r : Rules) (past : Past) (d : Descriptor) → may_come r past d ≡ true → new_in r past d ≡ 0 → past ≡ with_front past (run_front r past d)
no_front r past d e f =
    sym (ap (past_with past) (append-nil past.runs))
    ∙ sym (ap (with_front past) (front_is r past d true e ∙ ap (front_of r.size d) f))

front_some : (size n : ℕ) (d : Descriptor) → 0 < n → front_of size d n ≡ record d { length = n * size } ∷ []
front_some size n d h = ap (λ b. cond b [] (record d { length = n * size } ∷ [])) (apart_test n 0 (λ e. omega arith))

pub some_front : (r : Rules) (past : Past) (d : Descriptor) (n : ℕ) → may_come r past d ≡ true → n ≡ new_in r past d → 0 < n
    → with_run past (record d { length = n * r.size }) ≡ with_front past (run_front r past d)
some_front r past d n e f h =
    sym (ap (with_front past) (front_is r past d true e ∙ ap (front_of r.size d) (sym f) ∙ front_some r.size n d h))

pub may_come_small : (r : Rules) (past : Past) (d : Descriptor) → may_come r past d ≡ true → bytes_in past.runs + d.length < 2 ^ 63
unfolding may_come
may_come_small r past d h =
    split (not (list_any (is_part r.size) past.runs && nat_lt (bytes_in past.runs) r.information)) (nat_lt (bytes_in past.runs + d.length) (2 ^ 63)) (not (r.directory && not (d.kind == 0))) refl h
  where
    split : (x y z : Bool) → nat_lt (bytes_in past.runs + d.length) (2 ^ 63) ≡ y → (x && (y && z)) ≡ true → bytes_in past.runs + d.length < 2 ^ 63
    split true true z e h = grind (arith, nat_tests)
    split true false z e h = absurd (cc)
    split false y z e h = absurd (cc)
