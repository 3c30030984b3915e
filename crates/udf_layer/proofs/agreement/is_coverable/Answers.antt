-- A CRC covers what a table says by its length alone.
use Rattle.std.proofs.Common.{arith, length, ap, ◌∙◌, ◌-◌}
use Rattle.std.specs.Prelude.{is_some}
use Rattle.udf_layer.proofs.Deviating.{coverable, some_where}
use Rattle.udf_layer.proofs.agreement.is_coverable.Goals as goal

pub returns : goal.returns
returns c =
    c.is_some.ensures ∙ ap is_some c.coverable_bytes.ensures ∙ some_where (length c.args.table.now) (length c.args.table.now - 16)
    ∙ coverable c.args.table.now (λ i. omega (arith, c.type_inv.table i)) c.requires
