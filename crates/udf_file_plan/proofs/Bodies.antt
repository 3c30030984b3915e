-- Bodies that are cut, as the code makes them.
use Rattle.std.proofs.Common.{◌≡◌, ℕ, true, false, cond, ◌-◌, ◌*◌, ◌==◌, List, [], ◌++◌, length, take, drop, length-drop, Option, Some, None, arith, sym, ◌∙◌, ap}
use Rattle.std.proofs.lemmas.Bool.Decides.{nat_tests}
use Rattle.std.proofs.lemmas.List.{take_all, take_at}
use Rattle.udf_field.specs.declared.address.Addr.{Addr}
use Rattle.udf_file_model.specs.Cut.{Onward, onward}
use Rattle.udf_file_model.specs.CutBody.{cut_body, cut_body_by, first_of, kept_count, width_of, with_last}
use Rattle.udf_file_model.specs.Descriptors.{descriptors}
use Rattle.udf_file_plan.specs.Cuts.{EndsWithin}

-- what stands behind an offset, as a slice
pub behind : (n : ℕ) (xs : List ℕ) → take (length xs - n) (drop n xs) ≡ drop n xs
behind n xs = take_all (length xs - n) (drop n xs) (omega (arith, length-drop n xs))

-- a vector whose bytes were all written
pub written_back : (n : ℕ) (new old : List ℕ) → length new ≡ n → take n (new ++ drop (length new) old) ≡ new
written_back n new old e = take_at new (drop (length new) old) n e

pub first_is : (kind n last wide : ℕ) (body copy set left : List ℕ) → wide ≡ width_of kind → copy ≡ body → set ≡ with_last 0 wide n last copy
    → left ≡ take (n * wide) set → left ≡ first_of kind n last body
unfolding first_of
first_is kind n last wide body copy set left w same last_set cut =
    cut ∙ ap (take (n * wide)) last_set ∙ ap (λ k. take (n * k) (with_last 0 k n last copy)) w ∙ ap (λ b. take (n * width_of kind) (with_last 0 (width_of kind) n last b)) same

some_test : (b : ℕ) → (b ≡ 0 → ⊥) → (b == 0) ≡ false
some_test b h = grind (arith, nat_tests)

pub cut_none : (kind : ℕ) (holder : Addr) (b : ℕ) (body : List ℕ) → b ≡ 0 → [] ≡ cut_body kind holder b body
unfolding cut_body
cut_none kind holder b body z =
    let t : (b == 0) ≡ true = grind (arith, nat_tests) in
    sym (ap (λ t. cond t [] (cut_body_by kind b (descriptors kind holder body) body (onward b (descriptors kind holder body)))) t)

cut_some : (kind : ℕ) (holder : Addr) (b : ℕ) (body : List ℕ) (o : Option Onward) → (b ≡ 0 → ⊥) → onward b (descriptors kind holder body) ≡ o
    → cut_body kind holder b body ≡ cut_body_by kind b (descriptors kind holder body) body o
unfolding cut_body
cut_some kind holder b body o some is =
    ap (λ t. cond t [] (cut_body_by kind b (descriptors kind holder body) body (onward b (descriptors kind holder body)))) (some_test b some)
    ∙ ap (cut_body_by kind b (descriptors kind holder body) body) is

-- one that goes on elsewhere stays
pub cut_beyond : (kind : ℕ) (holder : Addr) (b : ℕ) (body : List ℕ) (o : Onward) → (b ≡ 0 → ⊥) → onward b (descriptors kind holder body) ≡ Some o
    → body ≡ cut_body kind holder b body
cut_beyond kind holder b body o some is = sym (cut_some kind holder b body (Some o) some is)

pub cut_within : (kind : ℕ) (holder : Addr) (b n last : ℕ) (body left : List ℕ) → (b ≡ 0 → ⊥) → EndsWithin b (descriptors kind holder body) n last
    → left ≡ first_of kind n last body → left ≡ cut_body kind holder b body
cut_within kind holder b n last body left some ends is =
    is ∙ ap (λ k. first_of kind k last body) (sym ends.count_is) ∙ ap (λ l. first_of kind (kept_count b (descriptors kind holder body)) l body) (sym ends.last_is)
    ∙ sym (cut_some kind holder b body None some ends.onward_is)
