use Rattle.std.proofs.Common.{sym}
use Rattle.udf_contents.proofs.Renaming.{first_here}
use Rattle.udf_contents.proofs.anew.first_parent.Goals as goal

pub returns-then-is_parent : goal.returns-then-is_parent
returns-then-is_parent c = first_here c.loop-fid.fid-iterator c.next.new.self (c.in-Some.field-0-0, c.in-Some.fid) _ c.in-Some.ensures.steps (sym c.if-is_parent.ensures) c.loop-fid.invariant
