use Rattle.std.proofs.Common.{◌≡◌, rules}
use Rattle.udf_blocks.proofs.Growing.{pushed}
use Rattle.udf_blocks.proofs.plan.Plan.push.Goals as goal

pub invariant_of-self-2 : goal.invariant_of-self-2
invariant_of-self-2 c =
    let same : c.in_ok-block.block.items ≡ c.args.block.now = search rules in
    pushed c.args.self.now c.self.inside.size c.self.inside.blocks.items c.push.new.self.items _ c.args.block.now
    c.self.view_is c.self.invariant c.in_ok-push.ensures.items same c.requires.sized c.requires.above c.requires.below
