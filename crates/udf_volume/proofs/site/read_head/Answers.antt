use Rattle.std.proofs.Common.{ℕ, List}
use Rattle.udf_outside.specs.Sectors.{disk_of}
use Rattle.udf_volume.proofs.Sited.{head_found, head_missing}
use Rattle.udf_volume.proofs.site.read_head.Goals as goal

pub returns-then-branch-clause-head : goal.returns-then-branch-clause-head
returns-then-branch-clause-head g c tells =
    let disk : ℕ → List ℕ = disk_of c.args.volume.now.size (g.B.Bench.held c.args.bench.now) in
    head_found c.args.volume.now disk (g.P.Parts.place c.args.parts.now) (g.P.Parts.inner c.args.parts.now) c.requires.some
    c.in_ok-read_descriptor.field-0 (c.in_ok-read_descriptor.ensures.stands tells) c.read_descriptor.new.block c.head_in.result
    (c.in_ok-read_descriptor.ensures.block tells) c.if-branch.true c.head_in.ensures

pub returns-else-branch-clause-head : goal.returns-else-branch-clause-head
returns-else-branch-clause-head g c tells =
    let disk : ℕ → List ℕ = disk_of c.args.volume.now.size (g.B.Bench.held c.args.bench.now) in
    head_missing c.args.volume.now disk (g.P.Parts.place c.args.parts.now) (g.P.Parts.inner c.args.parts.now) c.requires.some
    c.in_ok-read_descriptor.field-0 (c.in_ok-read_descriptor.ensures.stands tells) c.if-branch.false
