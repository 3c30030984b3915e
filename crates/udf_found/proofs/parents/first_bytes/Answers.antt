use Rattle.std.proofs.Common.{rules, sym}
use Rattle.udf_found.proofs.Alone.{first_here}
use Rattle.udf_found.proofs.parents.first_bytes.Goals as goal

pub returns-then-is_parent : goal.returns-then-is_parent
returns-then-is_parent c = first_here c.loop-fid.fid-iterator c.next.new.self (c.in-Some.field-0-0, c.in-Some.fid) _ _ c.in-Some.ensures.steps (sym c.if-is_parent.ensures) (search rules) c.loop-fid.invariant
