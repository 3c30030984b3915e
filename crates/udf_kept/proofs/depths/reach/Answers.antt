use Rattle.std.proofs.Common.{rules, ◌≡◌, ◌<◌, ◌++◌, ◌∷◌, [], ℕ, List, Option, Some, None, get_or, set, sym, subst, arith, length}
use Rattle.udf_kept.specs.Depths.{IsReached}
use Rattle.udf_kept.proofs.Layering.{reached_new, reached_known, is_none_gives, is_some_gives}
use Rattle.udf_kept.proofs.depths.reach.Goals as goal
use Rattle.udf_kept.proofs.depths.reach.Goals.{else-entry-depths-via-then-entry-depths+else-is_none, else-entry-depths-via-else-entry-depths}

pub returns-in_ok-push : goal.returns-in_ok-push
returns-in_ok-push c old done h =
    let ds : List (Option ℕ) = c.args.depths.now in
    let e : get_or ds c.args.entry None ≡ None = is_none_gives (get_or ds c.args.entry None) (search rules) in
    let l : c.args.entry < length ds = omega arith in
    subst (IsReached old (done ++ c.args.entry ∷ []) c.args.depth (set ds c.args.entry (Some c.args.depth))) (sym c.in_ok-push.ensures.items)
    (reached_new old done c.args.depth ds c.args.layer.now.items c.args.entry l e h)

pub returns-else-entry-depths : goal.returns-else-entry-depths
returns-else-entry-depths c old done h =
    reached_known old done c.args.depth c.args.depths.now c.args.layer.now.items c.args.entry
    (elim c.else-entry-depths.branch [
      | else-entry-depths-via-then-entry-depths+else-is_none w ↦ λ l. is_some_gives (get_or c.args.depths.now c.args.entry None) (search rules)
      | else-entry-depths-via-else-entry-depths w ↦ λ l. absurd (omega arith)
    ]) h
