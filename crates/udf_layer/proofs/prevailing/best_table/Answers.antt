-- One table more.
use Rattle.std.proofs.Common.{◌≡◌, ◌∙◌, ℕ, ◌<◌, ◌≤◌, List, min, subst, sym, arith}
use Rattle.std.specs.Prelude.{slice_index}
use Rattle.std.proofs.lemmas.List.FromFn.{get_or-map-range_with_len}
use Rattle.udf_outside.specs.Stops.{Held}
use Rattle.udf_outside.specs.Sectors.{disk_of}
use Rattle.udf_layer.specs.Fronts.{table_bytes}
use Rattle.udf_layer.specs.Tables.{map_seen}
use Rattle.udf_layer.specs.Read.{IsBest, IsRead}
use Rattle.udf_layer.proofs.prevailing.best_table.Goals as goal
use Rattle.udf_volume_model.specs.SparingTable.{listed_area, listed_number, table_area, table_number}

inside : (i count : ℕ) → i < count → count ≤ 4 → i < min count 4
inside i count h few = omega arith

pub loop-i-preserved : goal.loop-i-preserved
loop-i-preserved g c = record {
  files = c.in_ok-found.ensures.reads.files ∙ c.loop-i.invariant.files;
  held = c.in_ok-found.ensures.reads.held ∙ c.loop-i.invariant.held;
  calm = c.in_ok-found.ensures.reads.calm ∙ c.loop-i.invariant.calm;
  of = c.higher-best.ensures.of c.args.map.now.bytes c.loop-i.invariant.of c.in_ok-found.ensures.of;
  best = λ tells.
      let P : ℕ → Held → Type 0 = λ at held. IsRead (table_number c.args.map.now.bytes at (table_area c.args.size (disk_of c.args.size held) c.args.map.now.bytes at))
      (table_bytes (table_area c.args.size (disk_of c.args.size held) c.args.map.now.bytes at)) c.in_ok-found.found in
      let listed : slice_index c.args.map.now.at c.loop-i.i ≡ slice_index (map_seen c.args.map.now).tables c.loop-i.i =
      sym (get_or-map-range_with_len (slice_index c.args.map.now.at) 0 (min c.args.map.now.count 4) c.loop-i.i c.loop-i.i 0 (inside c.loop-i.i c.args.map.now.count (omega arith) c.requires.map.few) (omega arith)) in
      c.higher-best.ensures.best _ _ c.loop-i.i (c.loop-i.invariant.best tells)
      (subst (λ at. P at (g.B.Bench.held c.args.bench.now)) listed (subst (P (slice_index c.args.map.now.at c.loop-i.i)) c.loop-i.invariant.held (c.in_ok-found.ensures.table tells)));
}

pub returns-clause-best : goal.returns-clause-best
returns-clause-best g c = λ tells.
    let whole : c.loop-i.i ≡ c.args.map.now.count = omega arith in
    let disk : ℕ → List ℕ = disk_of c.args.size (g.B.Bench.held c.args.bench.now) in
    let P : ℕ → Type 0 = λ n. IsBest (listed_number c.args.size disk (map_seen c.args.map.now)) (λ i. table_bytes (listed_area c.args.size disk (map_seen c.args.map.now) i)) n c.loop-i.best in
    subst P whole (c.loop-i.invariant.best tells)
