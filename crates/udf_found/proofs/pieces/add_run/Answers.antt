use Rattle.std.proofs.Common.{drop, sym, ◌∙◌}
use Rattle.udf_found.proofs.Piecing.{run_held, run_moved}
use Rattle.udf_found.proofs.pieces.add_run.Goals as goal

pub returns-then-eq : goal.returns-then-eq
returns-then-eq c rest =
    run_held c.args.holder (drop c.args.next c.args.list.now.extents) c.args.run c.args.pieces.now.items c.push.new.self.items rest (sym c.eq.ensures ∙ c.if-eq.true) c.in_ok-push.ensures.items

pub returns : goal.returns
returns c rest =
    run_moved c.args.holder (drop c.args.next c.args.list.now.extents) c.args.run c.args.pieces.now.items c.push-2.new.self.items rest c.add_until.new.pieces.items
    (drop c.in_ok-after.after c.args.list.now.extents) (sym c.eq.ensures ∙ c.if-eq.false) c.in_ok-after.ensures.pieces c.in_ok-after.ensures.next c.in_ok-push-2.ensures.items
