use Rattle.std.proofs.Common.{◌∙◌, [], ◌∷◌, ap, sym}
use Rattle.udf_file_rules.specs.Right.{found_with}
use Rattle.udf_file_rules.proofs.Judging.{none_there, right_there, wrong_there}
use Rattle.udf_file_rules.proofs.integrity.judge.Goals as goal

pub returns-in_default : goal.returns-in_default
returns-in_default c = λ f v bitmap extent is p.
    ap (λ n. found_with c.args.first 2 n ∷ []) (c.least_next.ensures is.tally.room)
    ∙ none_there f v bitmap c.args.right.now is extent c.args.first c.args.prevailing c.args.block.now p c.in_default.is

pub returns-then-is_stated : goal.returns-then-is_stated
returns-then-is_stated c = λ f v bitmap extent is p.
    right_there f v bitmap c.args.right.now is extent c.args.first c.in-Some.sector c.args.prevailing c.args.block.now c.integrity_in-stated.result p c.in-Some.is
    c.integrity_in-stated.ensures (sym c.is_stated.ensures ∙ c.if-is_stated.true)

pub returns : goal.returns
returns c = λ f v bitmap extent is p.
    ap (λ n. found_with c.in-Some.sector c.integrity_in-stated.result.kind n ∷ []) (c.next_id.ensures is.tally.room)
    ∙ wrong_there f v bitmap c.args.right.now is extent c.args.first c.in-Some.sector c.args.prevailing c.args.block.now c.integrity_in-stated.result p c.in-Some.is
    c.integrity_in-stated.ensures (sym c.is_stated.ensures ∙ c.if-is_stated.false)
