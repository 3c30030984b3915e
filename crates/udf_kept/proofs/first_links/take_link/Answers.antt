use Rattle.std.proofs.Common.{◌≡◌, None, rules, arith, get_or, true, false}
use Rattle.udf_kept.specs.FirstLinks.{yields}
use Rattle.udf_kept.proofs.Parenting.{link_left, link_taken}
use Rattle.udf_kept.proofs.first_links.take_link.Goals as goal
use Rattle.udf_kept.proofs.first_links.take_link.Goals.{else-to-first-via-then-to-first+else-precedes, else-to-first-via-else-to-first}

pub returns-then-precedes : goal.returns-then-precedes
returns-then-precedes c done h =
    let e : yields (get_or c.args.first.now c.args.to None) c.args.link ≡ true = search rules in
    link_taken done c.args.first.now c.args.to c.args.link (omega arith) e h

pub returns-else-to-first : goal.returns-else-to-first
returns-else-to-first c done h =
    link_left done c.args.first.now c.args.to c.args.link
    (elim c.else-to-first.branch [
      | else-to-first-via-then-to-first+else-precedes w ↦ λ l. let e : yields (get_or c.args.first.now c.args.to None) c.args.link ≡ false = search rules in e
      | else-to-first-via-else-to-first w ↦ λ l. absurd (omega arith)
    ]) h
