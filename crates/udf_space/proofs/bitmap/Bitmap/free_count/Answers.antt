use Rattle.std.proofs.Common.{arith, ap, ◌∙◌, ◌≡◌, length, take, get_or, count_ones}
use Rattle.std.specs.List.{sum_by, count_by}
use Rattle.std.proofs.lemmas.List.{take_all}
use Rattle.udf_space.proofs.Counting.{ones_in_all, ones_below_blocks}
use Rattle.udf_space.proofs.bitmap.Bitmap.free_count.Goals as goal

pub overflow_add-total : goal.overflow_add-total
overflow_add-total c =
    let items = c.self.inside.bytes.items in
    let k = c.loop-byte.byte-index in
    let same : c.deref-byte-items.result.now ≡ items = c.deref-byte-items.ensures.value in
    let sum : c.loop-byte.total ≡ sum_by count_ones (take k items) = c.loop-byte.invariant ∙ ap (λ xs. sum_by count_ones (take k xs)) same in
    let byte : count_ones (get_or c.deref-byte-items.result.now k 0) ≡ count_ones (get_or items k 0) = ap (λ xs. count_ones (get_or xs k 0)) same in
    let most = ones_below_blocks c.self.inside.blocks items k c.self.invariant (omega (arith, ap length same)) in
    omega (arith, sum, byte, most)

pub returns : goal.returns
returns c =
    let items = c.self.inside.bytes.items in
    let k = c.loop-byte.byte-index in
    let same : c.deref-byte-items.result.now ≡ items = c.deref-byte-items.ensures.value in
    c.loop-byte.invariant ∙ ap (λ xs. sum_by count_ones (take k xs)) same ∙ ap (sum_by count_ones) (take_all k items (omega (arith, ap length same)))
    ∙ ones_in_all c.self.inside.blocks items c.self.invariant ∙ ap (count_by (λ free. free)) c.self.view_is
