-- Nothing is taken before the place that is looked at.
use Rattle.std.proofs.Common.{arith, sym, ◌∙◌, ap}
use Rattle.udf_file_model.specs.Fid.{fid_at}
use Rattle.udf_dir.proofs.Steps.{four_more, none_at_all, first_there}
use Rattle.udf_dir.proofs.scanner.first_fid.Goals as goal

pub returns-in-Some : goal.returns-in-Some
returns-in-Some c =
    first_there c.args.size c.args.bytes.now c.in-Some.fid c.loop-at.at c.loop-at.invariant (omega arith)
    (ap (fid_at c.args.size) (sym c.split_at.ensures.back) ∙ sym c.in-Some.ensures)

pub loop-at-preserved : goal.loop-at-preserved
loop-at-preserved c =
    four_more c.args.size c.args.bytes.now c.loop-at.at c.loop-at.invariant
    (ap (fid_at c.args.size) (sym c.split_at.ensures.back) ∙ sym c.in_default.ensures)

pub returns : goal.returns
returns c = none_at_all c.args.size c.args.bytes.now c.loop-at.at c.loop-at.invariant (omega arith)
