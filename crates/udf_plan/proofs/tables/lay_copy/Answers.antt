use Rattle.std.proofs.Common.{◌++◌, List, ℕ, drop, length, arith, ap, ◌∙◌}
use Rattle.udf_model.specs.Tag.{relocated, retagged}
use Rattle.udf_plan.proofs.TableCopies.{relocated_copy, retagged_copy}
use Rattle.udf_plan.proofs.tables.lay_copy.Goals as goal

pub returns-then-covered_bytes-table : goal.returns-then-covered_bytes-table
returns-then-covered_bytes-table c =
    ap (λ (front : List ℕ). front ++ drop (length c.args.table.now) c.args.area.now)
    (c.relocate.ensures.value ∙ ap (relocated c.args.sector) c.copy_from_slice.ensures.after
    ∙ relocated_copy c.args.sector c.args.table.now c.requires.ends (omega (arith, c.covered_bytes.ensures, c.if-covered_bytes-table.true)))

pub returns-else-covered_bytes-table : goal.returns-else-covered_bytes-table
returns-else-covered_bytes-table c =
    ap (λ (front : List ℕ). front ++ drop (length c.args.table.now) c.args.area.now)
    (c.retag.ensures.value ∙ ap (retagged c.args.sector c.args.behind) c.copy_from_slice.ensures.after
    ∙ retagged_copy c.args.sector c.args.table.now c.requires.ends (omega (arith, c.covered_bytes.ensures, c.if-covered_bytes-table.false)) c.args.behind c.requires.behind)
