use Rattle.std.proofs.Common.{◌≡◌, ◌+◌, ℕ, length, arith, rules, ap}
use Rattle.udf_field.specs.declared.address.Span.{Span}
use Rattle.udf_outside.specs.Stops.{Held, bytes_of}
use Rattle.udf_outside.specs.declared.bench.Role.TheVariants.{Image}
use Rattle.udf_volume.specs.Spans.{opposite}
use Rattle.udf_wanted.specs.Writable.{is_writable}
use Rattle.udf_plan.proofs.Rooms.{last_inside}
use Rattle.udf_plan.proofs.Free.{copy_free}
use Rattle.udf_plan.proofs.Stating.{copied_put}
use Rattle.udf_wanted.proofs.Walking.{writable}
use Rattle.udf_plan.proofs.sequence.put_copied.Goals as goal

pub put_copies-requires-clause-inside : goal.put_copies-requires-clause-inside
put_copies-requires-clause-inside g c =
    let v = c.args.volume.now in last_inside v c.requires.over.bounded v.kept _ (ap (λ (s : Span). s.start) c.kept_extent-from.ensures)

pub put_copies-requires-clause-free : goal.put_copies-requires-clause-free
put_copies-requires-clause-free g c =
    λ i lt. copy_free c.args.volume.now c.requires.over.bounded c.requires.laid c.other_extent-to.result.start i (ap (λ (s : Span). s.start) c.other_extent-to.ensures) (omega arith)

pub overflow_add-target : goal.overflow_add-target
overflow_add-target g c =
    let v = c.args.volume.now in
    omega (arith, c.requires.over.bounded.few, last_inside v c.requires.over.bounded (opposite v.kept) c.other_extent-to.result.start (ap (λ (s : Span). s.start) c.other_extent-to.ensures))

pub make_end-requires-clause-inside : goal.make_end-requires-clause-inside
make_end-requires-clause-inside g c =
    let v = c.args.volume.now in last_inside v c.requires.over.bounded v.kept _ (ap (λ (s : Span). s.start) c.kept_extent-from.ensures)

pub returns-clause-writable : goal.returns-clause-writable
returns-clause-writable g c =
    let v = c.args.volume.now in
    let long : length c.make_end.new.block ≡ v.size = search rules in
    let target : ℕ = c.other_extent-to.result.start + v.count in
    c.in_ok-put.ensures.among (is_writable v) c.in_ok-put_copies.ensures.writable
    (writable v (target, c.make_end.new.block)
    (copy_free v c.requires.over.bounded c.requires.laid c.other_extent-to.result.start v.count (ap (λ (s : Span). s.start) c.other_extent-to.ensures) (omega arith)) long)

pub returns-clause-put : goal.returns-clause-put
returns-clause-put g c = λ tells.
    let v = c.args.volume.now in
    copied_put v c.args.wanted.now c.put_copies.new.wanted c.put.new.self
    (bytes_of Image (g.B.Bench.held c.args.bench.now)) (bytes_of Image (g.B.Bench.held c.put_copies.new.bench))
    c.kept_extent-from.result.start c.other_extent-to.result.start c.make_end.new.block
    (ap (λ (s : Span). s.start) c.kept_extent-from.ensures) (ap (λ (s : Span). s.start) c.other_extent-to.ensures)
    (ap (λ (h : Held). bytes_of Image h) c.in_ok-put_copies.ensures.reads.held)
    (c.in_ok-put_copies.ensures.put tells) (c.in_ok-make_end.ensures.made tells) c.in_ok-put.ensures.put
