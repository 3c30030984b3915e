use Rattle.std.proofs.Common.{ℕ, List, length, nat_le, Some, ap, sym, subst, ◌∙◌}
use Rattle.std.specs.Prelude.{option_map}
use Rattle.std.specs.List.{All, flat_map}
use Rattle.udf_outside.specs.Stops.{bytes_of}
use Rattle.udf_outside.specs.Sectors.{disk_of}
use Rattle.udf_outside.specs.declared.bench.Role.TheVariants.{Image}
use Rattle.udf_volume_model.specs.Anchor.{blocks_for}
use Rattle.udf_volume_model.specs.SparingRule.{table_blocks}
use Rattle.udf_layer.specs.declared.agreement.Deviation.{Deviation}
use Rattle.udf_wanted.specs.Writable.{AreFreeFrom}
use Rattle.udf_plan.proofs.FreeTables.{tables_free}
use Rattle.udf_plan.proofs.TablesStated.{if_some, none_covered, not_coverable, put_as, put_over}
use Rattle.udf_plan.proofs.tables.put_tables.Goals as goal

pub returns-in_default-coverable_bytes-clause-put : goal.returns-in_default-coverable_bytes-clause-put
returns-in_default-coverable_bytes-clause-put g c = λ tells.
    let table : List ℕ = c.in-Some.table.items in
    let image : List ℕ = bytes_of Image (g.B.Bench.held c.args.bench.now) in
    none_covered c.args.volume.now image c.in_ok-verdict.verdict (c.in_ok-verdict.ensures.verdict tells) c.args.wanted.now table
    (sym (ap (option_map (λ v. v.items)) c.in-Some.is))
    (sym (if_some _ c.in_ok-verdict.verdict.prevailing c.in-Some.table c.in-Some.is c.in_ok-verdict.ensures.tables.ends))
    (ap (λ (b : List ℕ). nat_le (length b) 65551) (sym c.deref.ensures.value)
    ∙ not_coverable c.coverable_bytes.result (length c.deref.result.now) _ c.coverable_bytes.ensures c.in_default-coverable_bytes.is)

pub put_in_place-requires-clause-free : goal.put_in_place-requires-clause-free
put_in_place-requires-clause-free g c =
    let v = c.args.volume.now in
    subst (λ (others : List Deviation). All (λ other. AreFreeFrom v other.at (blocks_for v.size (length c.deref-2.result.now))) others) (sym c.deref-3.ensures.value)
    (subst (λ (b : List ℕ). All (λ other. AreFreeFrom v other.at (blocks_for v.size (length b))) c.in_ok-verdict.verdict.deviating.items) (sym c.deref-2.ensures.value)
    (tables_free v c.requires.over.bounded c.requires.laid (blocks_for v.size (length c.in-Some.table.items)) c.in_ok-verdict.verdict.deviating.items
    (if_some _ c.in_ok-verdict.verdict.prevailing c.in-Some.table c.in-Some.is c.in_ok-verdict.ensures.tables.room) c.in_ok-verdict.ensures.tables.listed))

pub returns-clause-put : goal.returns-clause-put
returns-clause-put g c = λ tells.
    let v = c.args.volume.now in
    let image : List ℕ = bytes_of Image (g.B.Bench.held c.args.bench.now) in
    put_over c.put_in_place.result c.args.wanted.now c.put_in_place.new.wanted
    (λ bytes. flat_map (λ other. table_blocks v.size (disk_of v.size bytes) c.deref-2.result.now other.at) c.deref-3.result.now)
    (g.B.Bench.held c.table_verdict.new.bench) (g.B.Bench.held c.args.bench.now) _ c.in_ok-verdict.ensures.reads.held
    (put_as v image c.in_ok-verdict.verdict (c.in_ok-verdict.ensures.verdict tells) c.args.wanted.now c.deref-2.result.now
    (ap Some c.deref-2.ensures.value ∙ sym (ap (option_map (λ v. v.items)) c.in-Some.is)) c.deref-3.result.now c.deref-3.ensures.value)
    (c.put_in_place.ensures.put tells)
