use Rattle.std.proofs.Common.{sym, ◌∙◌}
use Rattle.udf_free.proofs.Judging.{bits_read}
use Rattle.udf_free.proofs.verdict.judge_area.Goals as goal

pub differing-requires : goal.differing-requires
differing-requires c =
    c.requires.free ∙ sym (bits_read c.args.blocks c.args.area.now c.in-Some.found (sym c.in_ok-found.ensures ∙ c.in-Some.is))
