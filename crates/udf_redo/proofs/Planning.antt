-- What a plan says of each of its blocks.
use Rattle.std.proofs.Common.{◌≡◌, ◌<◌, ◌≤◌, ◌⊎◌, inl, inr, ⊎_elim, ℕ, ◌+◌, ◌*◌, ◌/◌, ◌==◌, nat_lt, not, Bool, true, List, [], ◌∷◌, length, subst, arith}
use Rattle.std.specs.List.{All, list_all}
use Rattle.std.proofs.lemmas.Bool.{and_parts, and_cases, eqb-true, ltb-true, leb-false, ltb-false, not-true}
use Rattle.std.proofs.Math.Nat.{div-mul-le_self}
use Rattle.udf_volume_model.specs.Areas.{covers}
use Rattle.udf_blocks.specs.Planned.{Planned, are_at, are_sized, IsLawful}
use Rattle.udf_redo.specs.declared.seal.SealedRun.{SealedRun}
use Rattle.udf_redo.specs.Sealing.{sealed_area, IsLoggable}
use Rattle.udf_redo.specs.Log.{Edit}
use Rattle.udf_redo.proofs.Lawful.{IsBlock, all_cons, block_inside}

-- a test that each edit passes
all_pass : (test : Edit → Bool) (edits : List Edit) → list_all test edits ≡ true → All (λ edit. test edit ≡ true) edits
all_pass test [] pass = λ k d lt. absurd (omega arith)
all_pass test (edit ∷ edits) pass =
    let parts = and_parts (test edit) (list_all test edits) pass in
    all_cons (λ e. test e ≡ true) edit edits parts.0 (all_pass test edits parts.1)

sectors_pass : (test : ℕ → Bool) (edits : List Edit) → are_at test edits ≡ true → All (λ edit. test edit.0 ≡ true) edits
unfolding are_at
sectors_pass test edits pass = all_pass (λ edit. test edit.0) edits pass

blocks_pass : (size : ℕ) (edits : List Edit) → are_sized size edits ≡ true → All (IsBlock size) edits
unfolding are_sized
blocks_pass size edits pass = λ k d lt. eqb-true _ _ (all_pass (λ edit. length edit.1 == size) edits pass k d lt)

pub plan_blocks : (plan : Planned) (size : ℕ) → plan.size ≡ size → IsLawful plan → All (IsBlock size) plan.blocks
plan_blocks plan size is lawful = blocks_pass size plan.blocks (subst (λ (n : ℕ). are_sized n plan.blocks ≡ true) is lawful.sized)

pub plan_below : (top : ℕ) (edits : List Edit) → are_at (λ n. nat_lt n top) edits ≡ true → All (λ edit. edit.0 < top) edits
plan_below top edits below = λ k d lt. ltb-true _ _ (sectors_pass (λ n. nat_lt n top) edits below k d lt)

pub plan_apart : (blocks : ℕ) (sealed : SealedRun) (plan : Planned) → IsLoggable blocks sealed plan
    → All (λ edit. (edit.0 < sealed.first) ⊎ (sealed.first + sealed.count ≤ edit.0)) plan.blocks
unfolding covers
plan_apart blocks sealed plan is = λ k d lt.
    let clear = not-true _ (sectors_pass (λ n. not (covers (sealed_area sealed) n)) plan.blocks is.unsealed k d lt) in
    ⊎_elim (λ below. inl (leb-false _ _ below)) (λ above. inr (ltb-false _ _ above)) (and_cases _ _ clear)

-- blocks below the block count of a file lie in it
pub plan_within : (bytes size : ℕ) (edits : List Edit) → are_at (λ n. nat_lt n (bytes / size)) edits ≡ true → All (λ edit. edit.0 * size + size ≤ bytes) edits
plan_within bytes size edits below = λ k d lt. block_inside size (bytes / size) _ bytes (plan_below (bytes / size) edits below k d lt) (div-mul-le_self bytes size)
