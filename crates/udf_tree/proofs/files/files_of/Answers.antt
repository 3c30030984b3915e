use Rattle.std.proofs.Common.{◌<◌, ◌≤◌, length, arith, ◌∙◌}
use Rattle.udf_tree.proofs.Filing.{files_all, files_more}
use Rattle.udf_tree.proofs.files.files_of.Goals as goal

pub loop-i-preserved : goal.loop-i-preserved
loop-i-preserved c f v root file_set links ids k =
    let inside : c.loop-i.i < length c.args.entries.now.held.items = let n = c.len-i-end.ensures in let l = c.loop-i-test.true in omega (arith, n, l) in
    c.in_ok-files.ensures ∙ files_more f v root file_set c.args.entries.now links ids k c.loop-i.i c.loop-i.files c.files_at.result inside (c.loop-i.invariant f v root file_set links ids k) c.files_at.ensures

pub returns : goal.returns
returns c f v root file_set links ids k =
    let over : length c.args.entries.now.held.items ≤ c.loop-i.i = let n = c.len-i-end.ensures in let l = c.loop-i-test.false in omega (arith, n, l) in
    files_all f v root file_set c.args.entries.now links ids k c.loop-i.i c.loop-i.files over (c.loop-i.invariant f v root file_set links ids k)
