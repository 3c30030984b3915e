-- The best of all tables prevails.
use Rattle.std.proofs.Common.{◌≡◌, ◌∙◌, ℕ, List, Option, Some, map, ap, sym, subst}
use Rattle.std.specs.Option.{option_map}
use Rattle.udf_outside.specs.Sectors.{disk_of}
use Rattle.udf_outside.specs.Stops.{Held}
use Rattle.udf_layer.specs.Fronts.{table_bytes}
use Rattle.udf_layer.specs.Tables.{map_seen}
use Rattle.udf_layer.specs.Verdict.{deviation_at, deviations_by}
use Rattle.udf_layer.specs.declared.whole_table.WholeTable.{WholeTable}
use Rattle.udf_layer.proofs.Deviating.{same_deviating}
use Rattle.udf_layer.proofs.Prevails.{PrevailsBy, best_area}
use Rattle.udf_layer.proofs.agreement.table_verdict.Goals as goal
use Rattle.udf_volume_model.specs.SparingTable.{prevailing_area}

pub returns-in_default-clause-prevailing : goal.returns-in_default-clause-prevailing
returns-in_default-clause-prevailing g c = λ tells.
    let disk : ℕ → List ℕ = disk_of c.args.size (g.B.Bench.held c.args.bench.now) in
    let P : Option WholeTable → Type 0 = PrevailsBy (prevailing_area c.args.size disk (map_seen c.args.map.now)) in
    ap (option_map (λ v. v.items)) c.none.ensures.prevailing ∙ sym (ap (option_map table_bytes) (subst P c.in_default.is (best_area c.args.size disk c.args.map.now _ c.requires.map.few (c.in_ok-table.ensures.best tells))))

pub returns-in_default-clause-deviating : goal.returns-in_default-clause-deviating
returns-in_default-clause-deviating g c = λ tells.
    let disk : ℕ → List ℕ = disk_of c.args.size (g.B.Bench.held c.args.bench.now) in
    let P : Option WholeTable → Type 0 = PrevailsBy (prevailing_area c.args.size disk (map_seen c.args.map.now)) in
    c.none.ensures.deviating ∙ sym (ap (deviations_by c.args.size disk (map_seen c.args.map.now))
    (subst P c.in_default.is (best_area c.args.size disk c.args.map.now _ c.requires.map.few (c.in_ok-table.ensures.best tells))))

pub returns-clause-prevailing : goal.returns-clause-prevailing
returns-clause-prevailing g c = λ tells.
    let disk : ℕ → List ℕ = disk_of c.args.size (g.B.Bench.held c.args.bench.now) in
    let P : Option WholeTable → Type 0 = PrevailsBy (prevailing_area c.args.size disk (map_seen c.args.map.now)) in
    let w : (a : List ℕ) × (prevailing_area c.args.size disk (map_seen c.args.map.now) ≡ Some a) × (c.in-Some.table.bytes.items ≡ table_bytes a) =
    subst P c.in-Some.is (best_area c.args.size disk c.args.map.now _ c.requires.map.few (c.in_ok-table.ensures.best tells)) in
    ap (λ (b : List ℕ). Some b) w.2 ∙ sym (ap (option_map table_bytes) w.1)

pub returns-clause-deviating : goal.returns-clause-deviating
returns-clause-deviating g c = λ tells.
    let disk : ℕ → List ℕ = disk_of c.args.size (g.B.Bench.held c.args.bench.now) in
    let P : Option WholeTable → Type 0 = PrevailsBy (prevailing_area c.args.size disk (map_seen c.args.map.now)) in
    let w : (a : List ℕ) × (prevailing_area c.args.size disk (map_seen c.args.map.now) ≡ Some a) × (c.in-Some.table.bytes.items ≡ table_bytes a) =
    subst P c.in-Some.is (best_area c.args.size disk c.args.map.now _ c.requires.map.few (c.in_ok-table.ensures.best tells)) in
    let Q : Held → Type 0 = λ held. c.in_ok-deviating.deviating.items
    ≡ deviations_by c.args.size (disk_of c.args.size held) (map_seen c.args.map.now) (Some c.deref.result.now) in
    subst Q c.in_ok-table.ensures.reads.held (c.in_ok-deviating.ensures.deviating tells)
    ∙ ap (λ (b : List ℕ). deviations_by c.args.size disk (map_seen c.args.map.now) (Some b)) (c.deref.ensures.value ∙ w.2)
    ∙ ap (map (deviation_at c.args.size disk (map_seen c.args.map.now))) (same_deviating c.args.size disk (map_seen c.args.map.now) w.0)
    ∙ sym (ap (deviations_by c.args.size disk (map_seen c.args.map.now)) w.1)
