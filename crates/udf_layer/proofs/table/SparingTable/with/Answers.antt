-- One pair more, whose original is new.
use Rattle.std.proofs.Common.{length, ap, ◌∙◌, arith}
use Rattle.udf_layer.specs.Indexes.{mapped_from}
use Rattle.udf_layer.proofs.Kept.{one_kept}
use Rattle.udf_layer.proofs.table.SparingTable.with.Goals as goal
use Rattle.udf_volume_model.specs.SparingTable.{Table}

pub invariant_of-result : goal.invariant_of-result
invariant_of-result c =
    one_kept c.self.inside.packet c.self.inside.pairs.items c.push.new.self.items c.self.inside.moved c.insert.new.self c.self.inside.starts c.insert-2.new.self
    c.self.inside.apart c.is_apart_from-is_apart.result c.args.original c.args.sector c.self.invariant c.in_ok-push.ensures.items
    (omega (arith, ap (λ (t : Table). length t.pairs) c.self.view_is, c.requires.few))
    (ap (λ (t : Table). mapped_from t.pairs c.args.original) c.self.view_is ∙ c.requires.new)
    c.in_ok-insert.ensures.updates.0 c.in_ok-insert-2.ensures.updates.0 (c.is_apart_from-is_apart.ensures c.self.inside.pairs.items c.self.invariant.started)
