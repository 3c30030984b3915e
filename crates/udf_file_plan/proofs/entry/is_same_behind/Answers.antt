use Rattle.std.proofs.Common.{◌∙◌, ◌-◌, ap, take, drop, length}
use Rattle.std.specs.Str.{bytes_eq}
use Rattle.udf_file_plan.proofs.Bodies.{behind}
use Rattle.udf_file_plan.proofs.entry.is_same_behind.Goals as goal

pub returns : goal.returns
returns c =
    c.is_same.ensures ∙ ap (λ xs. bytes_eq xs (take (length c.args.block.now - 16) (drop 16 c.args.block.now))) (behind 16 c.args.after.now)
    ∙ ap (bytes_eq (drop 16 c.args.after.now)) (behind 16 c.args.block.now)
