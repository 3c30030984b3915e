use Rattle.std.proofs.Common.{◌≡◌, ◌+◌, ◌≤◌, ◌++◌, [], ℕ, List, Option, Bool, None, arith, rules, refl, ap, sym, ◌∙◌, subst, take, length, replicate, drop}
use Rattle.std.specs.List.{flat_map}
use Rattle.std.specs.Prelude.{count_by, is_none}
use Rattle.udf_kept.specs.declared.fitted.Selected.{Selected}
use Rattle.udf_kept.specs.Depths.{IsReached, edges}
use Rattle.udf_kept.proofs.Layering.{IsLayered, layered_begins, layered_next, layered_ends, reached_none, goes_back, none_count, layer_more, no_layer}
use Rattle.udf_kept.proofs.depths.depths_from.Goals as goal

pub loop-alloc-init : goal.loop-alloc-init
loop-alloc-init c =
    let bs : List Bool = c.args.starts.now in
    let xs : List Selected = c.args.selected.now in
    let n : ℕ = length bs in
    let ds : List (Option ℕ) = c.reach_starts.new.depths in
    let layer : List ℕ = c.reach_starts.new.layer.items in
    let none : c.in_ok-depths.depths.items ≡ replicate n None = c.in_ok-depths.ensures.items_if_clones_equal (λ y k. search (rules, k)) in
    let lent : c.deref_mut.result.now ≡ replicate n None = c.deref_mut.ensures.value ∙ none in
    let empty : IsReached (replicate n None) [] 0 c.deref_mut.result.now c.new-layer.result.items =
    subst (IsReached (replicate n None) [] 0 c.deref_mut.result.now) (sym c.new-layer.ensures.items)
    (subst (λ (l : List (Option ℕ)). IsReached (replicate n None) [] 0 l []) (sym lent) (reached_none (replicate n None) 0)) in
    let r = c.in_ok-reach_starts.ensures (replicate n None) empty in
    let back : take c.in_ok-depths.depths.len (ds ++ drop (length ds) c.in_ok-depths.depths.items) ≡ ds =
    goes_back c.in_ok-depths.depths.len ds c.in_ok-depths.depths.items (search rules) (r.len ∙ ap length (sym none)) in
    let count = none_count n in
    let tally = r.count in
    record {
      layered = subst (λ (l : List (Option ℕ)). IsLayered bs xs c.args.least 0 l layer) (sym back) (layered_begins bs xs c.args.least n ds layer refl r);
      small = subst (λ (l : List (Option ℕ)). 0 + count_by is_none l + length layer ≤ n) (sym back) (omega (arith, count, tally));
    }

pub loop-alloc-preserved : goal.loop-alloc-preserved
loop-alloc-preserved c =
    let bs : List Bool = c.args.starts.now in
    let xs : List Selected = c.args.selected.now in
    let k : ℕ = c.loop-alloc.depth in
    let ds : List (Option ℕ) = c.loop-alloc.depths.items in
    let es : List (Option ℕ) = c.next_layer.new.depths in
    let next : List ℕ = c.in_ok-layer.layer.items in
    let r : IsReached ds (flat_map (edges c.args.least xs) c.loop-alloc.layer.items) (k + 1) es next =
    subst (λ (ls : List ℕ). IsReached ds (flat_map (edges c.args.least xs) ls) (k + 1) es next) c.deref.ensures.value
    (subst (λ (l : List (Option ℕ)). IsReached l (flat_map (edges c.args.least xs) c.deref.result.now) (k + 1) es next) c.deref_mut-in-loop-alloc.ensures.value c.in_ok-layer.ensures) in
    let back : take c.loop-alloc.depths.len (es ++ drop (length es) ds) ≡ es = goes_back c.loop-alloc.depths.len es ds (search rules) r.len in
    let some : 1 ≤ length c.loop-alloc.layer.items = layer_more c.loop-alloc.layer.len c.loop-alloc.layer.items (search rules) (sym c.is_empty.ensures ∙ c.loop-alloc-test.true) in
    let tally = r.count in
    let small = c.loop-alloc.invariant.small in
    record {
      layered = subst (λ (l : List (Option ℕ)). IsLayered bs xs c.args.least (k + 1) l next) (sym back) (layered_next bs xs c.args.least k ds es c.loop-alloc.layer.items next c.loop-alloc.invariant.layered r);
      small = subst (λ (l : List (Option ℕ)). k + 1 + count_by is_none l + length next ≤ length bs) (sym back) (omega (arith, some, tally, small));
    }

pub returns : goal.returns
returns c =
    layered_ends c.args.starts.now c.args.selected.now c.args.least c.loop-alloc.depth c.loop-alloc.depths.items c.loop-alloc.layer.items
    (no_layer c.loop-alloc.layer.len c.loop-alloc.layer.items (search rules) (sym c.is_empty.ensures ∙ c.loop-alloc-test.false)) c.loop-alloc.invariant.layered
