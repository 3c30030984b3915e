use Rattle.std.proofs.Common.{◌≡◌, ◌+◌, ℕ, List, arith, ap, ◌∙◌}
use Rattle.udf_outside.specs.Sectors.{disk_of}
use Rattle.udf_space_mends.specs.IntegrityMend.{origin_of}
use Rattle.udf_space_plan.proofs.FreeRuns.{extent_free}
use Rattle.udf_space_plan.proofs.Integrities.{first_put}
use Rattle.udf_wanted.specs.Writable.{is_free}
use Rattle.udf_space_plan.proofs.integrity.put_first.Goals as goal

pub put_fresh-requires-clause-free : goal.put_fresh-requires-clause-free
put_fresh-requires-clause-free g c =
    let v = c.args.volume.now in
    let zero : v.integrity.start ≡ v.integrity.start + 0 = omega arith in
    ap (is_free v) zero ∙ extent_free v c.requires.over.bounded c.requires.laid c.requires.over.large 0 c.requires.some

pub put_end-requires-clause-free : goal.put_end-requires-clause-free
put_end-requires-clause-free g c = λ two.
    extent_free c.args.volume.now c.requires.over.bounded c.requires.laid c.requires.over.large 1 two

pub returns-clause-put : goal.returns-clause-put
returns-clause-put g c = λ tells.
    let v = c.args.volume.now in
    let disk : ℕ → List ℕ = disk_of v.size (g.B.Bench.held c.args.bench.now) in
    first_put v c.args.counts.now (origin_of (disk v.pvd) (disk v.lvd)) c.put_fresh.new.block
    c.args.wanted.now c.put_fresh.new.wanted c.put_end.new.wanted (c.in_ok-put_fresh.ensures.made tells) c.in_ok-put_fresh.ensures.put c.in_ok-put_end.ensures.put
