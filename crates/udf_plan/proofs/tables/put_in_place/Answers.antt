use Rattle.std.proofs.Common.{◌<◌, ℕ, List, length, take, rules, refl, ap, ◌∙◌}
use Rattle.std.specs.List.{flat_map}
use Rattle.udf_outside.specs.Stops.{Held, bytes_of}
use Rattle.udf_outside.specs.declared.bench.Role.TheVariants.{Image}
use Rattle.udf_outside.specs.Sectors.{disk_of}
use Rattle.udf_volume_model.specs.SparingRule.{table_blocks}
use Rattle.udf_wanted.proofs.Looking.{nothing, both_are}
use Rattle.udf_plan.proofs.TablesStated.{one_copied, over_same}
use Rattle.udf_plan.proofs.tables.put_in_place.Goals as goal

pub loop-other-init : goal.loop-other-init
loop-other-init g c = record {
  files = refl;
  held = refl;
  calm = refl;
  writable = c.requires.writable;
  put = λ tells. nothing c.args.wanted.now;
}

pub put_table-requires-clause-free : goal.put_table-requires-clause-free
put_table-requires-clause-free g c =
    c.requires.free c.loop-other.other-index _
    (let lt : c.loop-other.other-index < length c.args.others.now = search rules in lt)

pub loop-other-preserved : goal.loop-other-preserved
loop-other-preserved g c =
    let lt : c.loop-other.other-index < length c.args.others.now = search rules in
    let v = c.args.volume.now in
    record {
      files = c.in_ok-put_table.ensures.reads.files ∙ c.loop-other.invariant.files;
      held = c.in_ok-put_table.ensures.reads.held ∙ c.loop-other.invariant.held;
      calm = c.in_ok-put_table.ensures.reads.calm ∙ c.loop-other.invariant.calm;
      writable = c.in_ok-put_table.ensures.writable;
      put = λ tells.
          let disk : ℕ → List ℕ = disk_of v.size (g.B.Bench.held c.args.bench.now) in
          both_are c.args.wanted.now c.loop-other.wanted c.put_table.new.wanted
          (flat_map (λ other. table_blocks v.size disk c.args.table.now other.at) (take c.loop-other.other-index c.args.others.now)) _ _
          (c.loop-other.invariant.put tells)
          (over_same v.size c.args.table.now c.loop-other.wanted c.put_table.new.wanted _
          (bytes_of Image (g.B.Bench.held c.args.bench.now)) (bytes_of Image (g.B.Bench.held c.loop-other.bench))
          (ap (λ (h : Held). bytes_of Image h) c.loop-other.invariant.held) (c.in_ok-put_table.ensures.put tells))
          (one_copied v.size disk c.args.table.now c.args.others.now c.loop-other.other-index _ lt);
    }
