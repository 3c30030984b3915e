-- One table more.
use Rattle.std.proofs.Common.{◌≡◌, ◌∙◌, ℕ, List, refl, sym, subst, arith}
use Rattle.std.specs.Prelude.{slice_index}
use Rattle.udf_outside.specs.Sectors.{disk_of}
use Rattle.udf_outside.specs.Stops.{Held}
use Rattle.udf_layer.specs.Fronts.{table_bytes}
use Rattle.udf_layer.specs.Read.{IsRead}
use Rattle.udf_layer.proofs.Told.{all_told, first_deviations, listed_more, none_told, told_more}
use Rattle.udf_layer.proofs.agreement.deviations.Goals as goal
use Rattle.udf_volume_model.specs.SparingTable.{table_area, table_number}

pub loop-i-preserved : goal.loop-i-preserved
loop-i-preserved g c =
    let m = c.args.map.now in
    let disk : ℕ → List ℕ = disk_of c.args.size (g.B.Bench.held c.args.bench.now) in
    record {
      files = c.in_ok-found.ensures.reads.files ∙ c.loop-i.invariant.files;
      held = c.in_ok-found.ensures.reads.held ∙ c.loop-i.invariant.held;
      calm = c.in_ok-found.ensures.reads.calm ∙ c.loop-i.invariant.calm;
      listed = listed_more m c.loop-i.i c.deviation_of-deviation.result c.deviation_of-deviation.result c.loop-i.deviating.items c.in_ok-deviating.deviating.items
          refl (omega arith) c.deviation_of-deviation.ensures.at c.loop-i.invariant.listed (c.in_ok-deviating.ensures.none, c.in_ok-deviating.ensures.one);
      told = λ tells.
          let at : ℕ = slice_index m.at c.loop-i.i in
          let P : Held → Type 0 = λ held. IsRead (table_number m.bytes at (table_area c.args.size (disk_of c.args.size held) m.bytes at))
          (table_bytes (table_area c.args.size (disk_of c.args.size held) m.bytes at)) c.in_ok-found.found in
          told_more c.args.size disk m c.args.prevailing.now c.loop-i.i c.deviation_of-deviation.result c.loop-i.deviating.items c.in_ok-deviating.deviating.items
          (c.deviation_of-deviation.ensures.told m.bytes (table_area c.args.size disk m.bytes at) (subst P c.loop-i.invariant.held (c.in_ok-found.ensures.table tells)))
          (c.loop-i.invariant.told tells) (c.in_ok-deviating.ensures.none, c.in_ok-deviating.ensures.one);
    }

pub returns-then-not-is_coverable-clause-deviating : goal.returns-then-not-is_coverable-clause-deviating
returns-then-not-is_coverable-clause-deviating g c = λ tells.
    c.new-deviating.ensures.items
    ∙ sym (none_told c.args.size (disk_of c.args.size (g.B.Bench.held c.args.bench.now)) c.args.map.now c.args.prevailing.now (sym c.if-not-is_coverable.ensures))

pub returns-clause-deviating : goal.returns-clause-deviating
returns-clause-deviating g c = λ tells.
    let disk : ℕ → List ℕ = disk_of c.args.size (g.B.Bench.held c.args.bench.now) in
    let whole : c.loop-i.i ≡ c.args.map.now.count = omega arith in
    let P : ℕ → Type 0 = λ n. c.loop-i.deviating.items ≡ first_deviations c.args.size disk c.args.map.now c.args.prevailing.now n in
    subst P whole (c.loop-i.invariant.told tells)
    ∙ sym (all_told c.args.size disk c.args.map.now c.args.prevailing.now (sym c.if-not-is_coverable.ensures) c.requires.map.few)
