use Rattle.std.proofs.Common.{sym, ◌∙◌}
use Rattle.udf_outside.specs.declared.bench.Role.TheVariants.{Image}
use Rattle.udf_volume.proofs.Sized.{too_short, by_block}
use Rattle.udf_volume.proofs.size.has_anchor_at.Goals as goal

pub returns-then-length-size-clause-found : goal.returns-then-length-size-clause-found
returns-then-length-size-clause-found g c tells =
    let sized = c.requires.sized ∙ g.met.B.Bench.sizes c.args.bench.now Image tells c.requires.attached in
    sym (too_short _ c.args.size c.args.length sized c.if-length-size.true)

pub returns-clause-found : goal.returns-clause-found
returns-clause-found g c tells =
    let sized = c.requires.sized ∙ g.met.B.Bench.sizes c.args.bench.now Image tells c.requires.attached in
    c.is_first_anchor.ensures ∙ sym (by_block _ c.args.size c.args.length sized _ c.if-length-size.false (c.in_ok-read_block.ensures.block tells))
