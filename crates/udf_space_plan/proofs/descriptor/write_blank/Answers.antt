use Rattle.std.proofs.Common.{rules, length}
use Rattle.udf_space_plan.proofs.Writing.{blank_written}
use Rattle.udf_space_plan.proofs.descriptor.write_blank.Goals as goal

pub returns : goal.returns
returns c =
    blank_written (length c.args.block.now) c.args.origin.now.stamp c.copy_from_slice-2.new.self c.fill.new.self c.copy_from_slice.new.self c.requires.stamp (search rules) (search rules) (search rules)
