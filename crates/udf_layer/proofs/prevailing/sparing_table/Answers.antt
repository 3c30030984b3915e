-- The best of all tables prevails, and its used entries are taken.
use Rattle.std.proofs.Common.{◌≡◌, ◌∙◌, ℕ, List, Option, Some, ap, sym, subst}
use Rattle.std.specs.Option.{option_map}
use Rattle.udf_outside.specs.Sectors.{disk_of}
use Rattle.udf_layer.specs.Fronts.{table_bytes}
use Rattle.udf_layer.specs.Tables.{map_seen}
use Rattle.udf_layer.specs.declared.whole_table.WholeTable.{WholeTable}
use Rattle.udf_layer.proofs.TableBytes.{bytes_entries}
use Rattle.udf_layer.proofs.Prevails.{PrevailsBy, best_area}
use Rattle.udf_layer.proofs.prevailing.sparing_table.Goals as goal
use Rattle.udf_volume_model.specs.SparingTable.{Table, entries, prevailing_area, table_stated, used_of, used_pairs}

pub returns-in_default-clause-missing : goal.returns-in_default-clause-missing
unfolding table_stated
returns-in_default-clause-missing g c = λ tells e.
    let disk : ℕ → List ℕ = disk_of c.args.size (g.B.Bench.held c.args.bench.now) in
    let m = c.args.map.now in
    let P : Option WholeTable → Type 0 = PrevailsBy (prevailing_area c.args.size disk (map_seen m)) in
    ap (option_map (used_of m.packet c.args.blocks))
    (subst P c.in_default.is (best_area c.args.size disk m _ c.requires.map.few (c.in_ok-table.ensures.best tells)))

pub returns-clause-table : goal.returns-clause-table
unfolding table_stated
returns-clause-table g c = λ tells.
    let disk : ℕ → List ℕ = disk_of c.args.size (g.B.Bench.held c.args.bench.now) in
    let m = c.args.map.now in
    let P : Option WholeTable → Type 0 = PrevailsBy (prevailing_area c.args.size disk (map_seen m)) in
    let w : (a : List ℕ) × (prevailing_area c.args.size disk (map_seen m) ≡ Some a) × (c.in-Some.table.bytes.items ≡ table_bytes a) =
    subst P c.in-Some.is (best_area c.args.size disk m _ c.requires.map.few (c.in_ok-table.ensures.best tells)) in
    let make : ℕ → List (ℕ × ℕ) → Table = λ x y. record { packet = x; pairs = y } in
    let pairs : c.in_ok-used.used.pairs ≡ used_pairs m.packet c.args.blocks (entries w.0) =
    c.in_ok-used.ensures.pairs
    ∙ ap (λ (b : List ℕ). used_pairs m.packet c.args.blocks (entries b)) (c.deref.ensures.value ∙ w.2)
    ∙ ap (used_pairs m.packet c.args.blocks) (bytes_entries w.0) in
    ap (λ (t : Table). Some t) (ap (λ x. make x c.in_ok-used.used.pairs) c.in_ok-used.ensures.packet ∙ ap (λ y. make m.packet y) pairs)
    ∙ sym (ap (option_map (used_of m.packet c.args.blocks)) w.1)
