-- Bytes of a block written over themselves, and what is behind a number that is written.
use Rattle.std.proofs.Common.{◌≡◌, ℕ, ◌+◌, ◌-◌, ◌≤◌, List, ◌++◌, length, take, drop, arith, sym, ◌∙◌, ap}
use Rattle.std.proofs.lemmas.List.{drop-drop, take-append-drop}
use Rattle.udf_model.specs.Bytes.{with_number, written_at}
use Rattle.udf_model.proofs.Written.{number_rest}

-- bytes written over themselves change nothing
pub same_written : (at : ℕ) (body area : List ℕ) → body ≡ take (length body) (drop at area) → written_at at body area ≡ area
unfolding written_at
same_written at body area e =
    ap (λ xs. take at area ++ (xs ++ drop (at + length body) area)) e
    ∙ ap (λ xs. take at area ++ (take (length body) (drop at area) ++ xs)) (sym (drop-drop (length body) at area))
    ∙ ap (λ xs. take at area ++ xs) (take-append-drop (length body) (drop at area))
    ∙ take-append-drop at area

-- what is behind a number that is written
pub drop_behind : (n at value k : ℕ) (area : List ℕ) → at + n ≤ k → at ≤ length area → drop k (with_number n at value area) ≡ drop k area
drop_behind n at value k area low room =
    let e : at + n + (k - (at + n)) ≡ k = omega arith in
    ap (λ m. drop m (with_number n at value area)) (sym e) ∙ sym (drop-drop (k - (at + n)) (at + n) (with_number n at value area))
    ∙ ap (drop (k - (at + n))) (number_rest n at value area room) ∙ drop-drop (k - (at + n)) (at + n) area ∙ ap (λ m. drop m area) e
