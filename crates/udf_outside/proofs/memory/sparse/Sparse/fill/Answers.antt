use Rattle.std.proofs.Common.{◌≡◌, ◌∙◌, ap, ℕ, ◌+◌, ◌≤◌, max, List, length, replicate, arith}
use Rattle.std.proofs.lemmas.List.{length-replicate}
use Rattle.udf_outside.specs.Stops.{put}
use Rattle.udf_outside.proofs.Ending.{length_put}
use Rattle.udf_outside.proofs.SparseBytes.{fill_more}
use Rattle.udf_outside.proofs.memory.sparse.Sparse.fill.Goals as goal

pub loop-place-preserved : goal.loop-place-preserved
loop-place-preserved c =
    let old = c.args.self.now in
    let at = c.args.at in
    let place = c.loop-place.place in
    let count = c.min-count.result in
    let byte = c.args.byte in
    let chunk : c.deref.result.now ≡ replicate count byte = c.deref.ensures.value ∙ c.in_ok-chunk.ensures.items_if_clones_equal (λ y same. same) in
    let within : place + count ≤ c.min-end.result = omega arith in
    let inside : place ≤ length old = omega arith in
    let inside' : place ≤ length c.loop-place.self = omega arith in
    let long : length c.put.new.self ≡ max (length c.loop-place.self) (place + length c.deref.result.now) = ap length c.in_ok-put.ensures.done ∙ length_put c.loop-place.self c.deref.result.now place inside' in
    let short : length c.deref.result.now ≡ count = ap length chunk ∙ length-replicate count byte in
    record {
      begun = omega arith;
      within = within;
      filled = c.in_ok-put.ensures.done ∙ ap (λ (l : List ℕ). put c.loop-place.self place l) chunk ∙ ap (λ (l : List ℕ). put l place (replicate count byte)) c.loop-place.invariant.filled
          ∙ fill_more old at place count byte c.loop-place.invariant.begun inside;
      size = omega arith;
    }
