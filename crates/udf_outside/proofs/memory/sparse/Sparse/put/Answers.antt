use Rattle.std.proofs.Common.{◌≡◌, ◌∙◌, ◌⊎◌, inl, inr, ⊎_elim, ap, sym, subst, ℕ, ◌+◌, ◌-◌, ◌/◌, ◌<◌, ◌≤◌, min, max, List, length, get_or, IsSome, arith}
use Rattle.std.proofs.lemmas.Grind.{common_steps}
use Rattle.std.proofs.lemmas.List.{with_items_is}
use Rattle.udf_outside.specs.Stops.{put}
use Rattle.udf_outside.specs.Blocks.{kept, byte_in, sparse_bytes}
use Rattle.udf_outside.proofs.SparseBytes.{length_sparse, sparse_same, sparse_put, picks_old, picks_new}
use Rattle.udf_outside.proofs.memory.sparse.Sparse.put.Goals as goal

pub store-requires-clause-there : goal.store-requires-clause-there
store-requires-clause-there c k le lt =
    let first = c.in_front-first.result in
    let there : c.args.at + first + (k - first) ≡ c.args.at + k = omega arith in
    let within : k - first < length c.args.from.now - first = omega arith in
    subst (λ (place : ℕ). IsSome (kept c.prepare.new.blocks (place / 4096))) there (c.in_default.ensures.there (k - first) within)

pub returns-in-Err-clause-failed : goal.returns-in-Err-clause-failed
returns-in-Err-clause-failed c =
    sparse_same c.self.inside.front.items c.self.inside.len c.self.inside.blocks c.sweep.new.blocks (λ i. c.sweep.ensures i ∙ c.prepare.ensures.same i) ∙ c.self.view_is

pub returns-clause-done : goal.returns-clause-done
returns-clause-done c =
    let front = c.self.inside.front.items in
    let front' = c.put_front.new.front in
    let len = c.self.inside.len in
    let blocks' = c.sweep-2.new.blocks in
    let at = c.args.at in
    let from = c.args.from.now in
    let m = c.in_front-first.result in
    let long : length c.args.self.now ≡ len = sym (ap length c.self.view_is) ∙ length_sparse front len c.self.inside.blocks c.self.invariant.0 in
    let within : at ≤ len = rw (← long) c.requires in
    let count : m ≡ min (length from) (length front - at) = c.in_front-first.ensures ∙ ap (λ (l : List ℕ). min (length from) (length l - at)) c.deref.ensures.value in
    let less : m ≤ length from = omega arith in
    let kept : length front' ≡ length c.deref_mut.result.now = omega arith in
    let size : length front' ≡ length front = kept ∙ ap length c.deref_mut.ensures.value in
    let whole : length front' ≡ c.self.inside.front.len = kept ∙ c.deref_mut.ensures.len in
    let end : c.in_ok-end.end ≡ at + length from = grind (arith, common_steps) in
    let grown : c.max-self-inside.result ≡ max len (at + length from) = c.max-self-inside.ensures ∙ ap (λ (n : ℕ). max len n) end in
    let same_end : at + m + (length from - m) ≡ at + length from = omega arith in
    ap (λ (l : List ℕ). sparse_bytes l c.max-self-inside.result blocks') (with_items_is c.self.inside.front front' whole)
    ∙ sparse_put front front' len c.max-self-inside.result c.self.inside.blocks blocks' at m from c.self.invariant.0 within count size grown
    (λ i out. c.put_front.ensures.outside i out ∙ ap (λ (l : List ℕ). get_or l i 0) c.deref_mut.ensures.value)
    (λ i le lt. c.put_front.ensures.inside i le lt)
    (λ i out. let out' : (i < at + m) ⊎ (at + m + (length from - m) ≤ i) = ⊎_elim (λ below. inl below) (λ above. inr (omega arith)) out in
    c.sweep-2.ensures i ∙ c.store.ensures i ∙ picks_old (at + m) (length from - m) i (get_or from (i - at) 0) (byte_in c.prepare.new.blocks i) out' ∙ c.prepare.ensures.same i)
    (λ i le lt. c.sweep-2.ensures i ∙ c.store.ensures i ∙ picks_new (at + m) (length from - m) i (get_or from (i - at) 0) (byte_in c.prepare.new.blocks i) le (omega arith))
    ∙ ap (λ (l : List ℕ). put l at from) c.self.view_is
