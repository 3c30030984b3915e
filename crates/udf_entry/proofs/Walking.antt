-- Walking the descriptors of a body.
use Rattle.std.proofs.Common.{◌≡◌, ℕ, suc, Bool, true, false, cond, ◌+◌, ◌-◌, ◌*◌, ◌/◌, ◌<◌, ◌≤◌, ◌==◌, List, [], ◌∷◌, arith, sym, ◌∙◌, ap, refl}
use Rattle.std.proofs.lemmas.Bool.Decides.{nat_tests}
use Rattle.std.proofs.Math.Nat.{le-div_iff_mul-le}
use Rattle.udf_field.specs.declared.address.Addr.{Addr}
use Rattle.udf_file_model.specs.Descriptors.{Descriptor, descriptors_from, descriptor_count}
use Rattle.udf_file_model.specs.Pieces.{Piece, Extent, Blocks, pieces}
use Rattle.udf_file_model.specs.Front.{Rules, Past, run_passes, run_front, with_run}
use Rattle.udf_entry.specs.Outcome.{outcome, ended, with_front}
use Rattle.udf_entry.proofs.Steps.{at_end, run_goes_on, run_fails}

test_is : (m n : ℕ) → m ≡ n → (m == n) ≡ true
test_is m n e = grind (arith, nat_tests)

test_not : (m n : ℕ) → (m ≡ n → ⊥) → (m == n) ≡ false
test_not m n e = grind (arith, nat_tests)

from_step : (at : ℕ → Descriptor) (i n : ℕ) (b : Bool) → ((at i).length == 0) ≡ b
    → descriptors_from at i (suc n) ≡ cond b [] (at i ∷ descriptors_from at (i + 1) n)
unfolding descriptors_from
from_step at i n b e = ap (λ t. cond t [] (at i ∷ descriptors_from at (i + 1) n)) e

left_is : (at : ℕ → Descriptor) (n i : ℕ) (b : Bool) → i < n → ((at i).length == 0) ≡ b
    → descriptors_from at i (n - i) ≡ cond b [] (at i ∷ descriptors_from at (i + 1) (n - (i + 1)))
left_is at n i b h e =
    let m : n - i ≡ suc (n - (i + 1)) = omega arith in
    ap (λ x. descriptors_from at i x) m ∙ from_step at i (n - (i + 1)) b e

pieces_end : (k : Addr → List Piece) → pieces k [] ≡ []
unfolding pieces
pieces_end k = refl

pieces_step : (k : Addr → List Piece) (d : Descriptor) (ds : List Descriptor) (b : Bool) → (d.kind == 3) ≡ b
    → pieces k (d ∷ ds) ≡ cond b (Extent d.at ∷ k d.at) (Blocks d ∷ pieces k ds)
unfolding pieces
pieces_step k d ds b e = ap (λ t. cond t (Extent d.at ∷ k d.at) (Blocks d ∷ pieces k ds)) e

module _ (r : Rules) (at : ℕ → Descriptor) (n : ℕ) (first : Past) where
  abbrev left : (Addr → List Piece) → ℕ → List Piece
  left k i = pieces k (descriptors_from at i (n - i))

  -- what is left of a body after i descriptors gives what the whole body gives
  pub record InBody (past : Past) (i : ℕ) : Type 0 where
    pub same : (k : Addr → List Piece) (whole : Addr → Bool)
        → outcome r whole past (pieces k (descriptors_from at i (n - i))) ≡ outcome r whole first (pieces k (descriptors_from at 0 n))

  pub body_begins : InBody first 0
  body_begins = record { same = λ k whole. let m : n - 0 ≡ n = omega arith in ap (λ x. outcome r whole first (pieces k (descriptors_from at 0 x))) m }

  pub body_ends : (past : Past) (i : ℕ) → i < n → InBody past i → (at i).length ≡ 0 → (k : Addr → List Piece) (whole : Addr → Bool)
      → ended past true ≡ outcome r whole first (pieces k (descriptors_from at 0 n))
  body_ends past i h body e k whole =
      let l = left_is at n i true h (test_is (at i).length 0 e) in
      sym (ap (λ x. outcome r whole past (pieces k x)) l ∙ ap (outcome r whole past) (pieces_end k) ∙ at_end r whole past) ∙ body.same k whole

  pub body_done : (past : Past) (i : ℕ) → n ≤ i → InBody past i → (k : Addr → List Piece) (whole : Addr → Bool)
      → ended past true ≡ outcome r whole first (pieces k (descriptors_from at 0 n))
  unfolding descriptors_from
  body_done past i h body k whole =
      let m : n - i ≡ 0 = omega arith in
      let l = ap (λ x. descriptors_from at i x) m in
      sym (ap (λ x. outcome r whole past (pieces k x)) l ∙ ap (outcome r whole past) (pieces_end k) ∙ at_end r whole past) ∙ body.same k whole

  pub body_onward : (past : Past) (i : ℕ) → i < n → InBody past i → ((at i).length ≡ 0 → ⊥) → (at i).kind ≡ 3 → (k : Addr → List Piece) (whole : Addr → Bool)
      → outcome r whole past (Extent (at i).at ∷ k (at i).at) ≡ outcome r whole first (pieces k (descriptors_from at 0 n))
  body_onward past i h body some e k whole =
      let l = left_is at n i false h (test_not (at i).length 0 some) in
      let p = pieces_step k (at i) (descriptors_from at (i + 1) (n - (i + 1))) true (test_is (at i).kind 3 e) in
      sym (ap (λ x. outcome r whole past (pieces k x)) l ∙ ap (outcome r whole past) p) ∙ body.same k whole

  here : (past : Past) (i : ℕ) → i < n → InBody past i → ((at i).length ≡ 0 → ⊥) → ((at i).kind ≡ 3 → ⊥) → (k : Addr → List Piece) (whole : Addr → Bool)
      → outcome r whole past (Blocks (at i) ∷ pieces k (descriptors_from at (i + 1) (n - (i + 1)))) ≡ outcome r whole first (pieces k (descriptors_from at 0 n))
  here past i h body some e k whole =
      let l = left_is at n i false h (test_not (at i).length 0 some) in
      let p = pieces_step k (at i) (descriptors_from at (i + 1) (n - (i + 1))) false (test_not (at i).kind 3 e) in
      sym (ap (λ x. outcome r whole past (pieces k x)) l ∙ ap (outcome r whole past) p) ∙ body.same k whole

  pub body_fails : (past : Past) (i : ℕ) → i < n → InBody past i → ((at i).length ≡ 0 → ⊥) → ((at i).kind ≡ 3 → ⊥) → run_passes r past (at i) ≡ false
      → (k : Addr → List Piece) (whole : Addr → Bool)
      → ended (with_front past (run_front r past (at i))) false ≡ outcome r whole first (pieces k (descriptors_from at 0 n))
  body_fails past i h body some e f k whole =
      sym (run_fails r whole past (at i) (pieces k (descriptors_from at (i + 1) (n - (i + 1)))) f) ∙ here past i h body some e k whole

  pub body_goes_on : (past : Past) (i : ℕ) → i < n → InBody past i → ((at i).length ≡ 0 → ⊥) → ((at i).kind ≡ 3 → ⊥) → run_passes r past (at i) ≡ true
      → InBody (with_run past (at i)) (i + 1)
  body_goes_on past i h body some e f = record {
    same = λ k whole.
        sym (run_goes_on r whole past (at i) (pieces k (descriptors_from at (i + 1) (n - (i + 1)))) f) ∙ here past i h body some e k whole;
  }

-- the descriptors that are counted lie in the body
module _ (kind bytes i : ℕ) where
  count_by : (b c : Bool) → (kind == 0) ≡ b → (kind == 1) ≡ c → i < cond b (bytes / 8) (cond c (bytes / 16) 0)
      → (kind ≡ 0 → 8 * i + 8 ≤ bytes) × ((kind ≡ 0 → ⊥) → 16 * i + 16 ≤ bytes)
  count_by true c e f h =
      let m : (i + 1) * 8 ≤ bytes = (le-div_iff_mul-le {k = 8} {x = i + 1} {y = bytes} (omega arith)).0 (omega arith) in
      (λ z. omega arith, λ n. absurd (n (grind (arith, nat_tests))))
  count_by false true e f h =
      let m : (i + 1) * 16 ≤ bytes = (le-div_iff_mul-le {k = 16} {x = i + 1} {y = bytes} (omega arith)).0 (omega arith) in
      (λ z. absurd (grind (arith, nat_tests)), λ n. omega arith)
  count_by false false e f h = absurd (omega arith)

  pub in_body : i < descriptor_count kind bytes → (kind ≡ 0 → 8 * i + 8 ≤ bytes) × ((kind ≡ 0 → ⊥) → 16 * i + 16 ≤ bytes)
  unfolding descriptor_count
  in_body h = count_by (kind == 0) (kind == 1) refl refl h
