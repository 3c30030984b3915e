-- Each block so far stands at a sector.
use Rattle.std.proofs.Common.{◌≡◌, ◌<◌, ◌≤◌, ◌-◌, ℕ, ◌+◌, is_some, true}
use Rattle.udf_file_model.specs.Place.{sparable_place}
use Rattle.udf_layer.proofs.sparable.SparableLayer.placed.Given as goal

abbrev pub invariant-loop-front : goal.invariant-loop-front
invariant-loop-front g l = record {
  most : l.front ≤ l.many;
  here : (k : ℕ) → k < l.front
      → is_some (sparable_place l.self.table.packet l.self.table.pairs (g.L.Layer.blocks l.self.below) (g.L.Layer.place l.self.below) (l.block + k)) ≡ true;
}

abbrev pub decreases-loop-front : goal.decreases-loop-front
decreases-loop-front g l = l.many - l.front
