use Rattle.std.proofs.Common.{◌≡◌, ◌∙◌, sym, length, rules}
use Rattle.udf_space_plan.specs.Extent.{placed_blocks}
use Rattle.udf_space_plan.proofs.Spreading.{inside, puts_nowhere, puts_there}
use Rattle.udf_wanted.specs.Writable.{is_writable}
use Rattle.udf_wanted.proofs.Walking.{writable}
use Rattle.udf_space_plan.proofs.extent.put_front.Goals as goal

pub returns-in_default-clause-put : goal.returns-in_default-clause-put
returns-in_default-clause-put g c = λ tells.
    puts_nowhere (placed_blocks c.args.volume.now (g.B.Bench.held c.args.bench.now) (g.P.Parts.place c.args.parts.now)) c.args.wanted.now c.args.at _
    (sym c.locate.ensures ∙ c.in_default.is)

pub fill_block-requires-clause-within : goal.fill_block-requires-clause-within
fill_block-requires-clause-within g c =
    inside c.args.volume.now (g.B.Bench.files c.args.bench.now) c.requires.over c.in-Some.sector (c.requires.free c.args.at c.in-Some.sector (sym c.in-Some.ensures))

pub returns-clause-put : goal.returns-clause-put
returns-clause-put g c = λ tells.
    puts_there (placed_blocks c.args.volume.now (g.B.Bench.held c.args.bench.now) (g.P.Parts.place c.args.parts.now)) c.args.wanted.now c.put.new.self c.args.at c.in-Some.sector
    c.args.bytes.now c.fill_block.new.block (sym c.in-Some.ensures) (c.in_ok-fill_block.ensures.made tells) c.in_ok-put.ensures.put

pub returns-clause-writable : goal.returns-clause-writable
returns-clause-writable g c =
    let v = c.args.volume.now in
    let long : length c.fill_block.new.block ≡ v.size = search rules in
    c.in_ok-put.ensures.among (is_writable v) c.requires.writable
    (writable v (c.in-Some.sector, c.fill_block.new.block) (c.requires.free c.args.at c.in-Some.sector (sym c.in-Some.ensures)) long)
