use Rattle.std.proofs.Common.{◌≡◌, ◌*◌, ◌++◌, ℕ, List, arith, rules, length, refl, ap, subst, ◌∙◌}
use Rattle.std.proofs.lemmas.List.{take_at}
use Rattle.udf_outside.specs.Stops.{bytes_of}
use Rattle.udf_outside.specs.declared.bench.Role.TheVariants.{Image}
use Rattle.udf_volume_laws.proofs.Cut.{blocks_hold}
use Rattle.udf_wanted.specs.Wanted.{LookAlike}
use Rattle.udf_plan.proofs.TableCopies.{few_bytes, inside, laid_blocks}
use Rattle.udf_plan.proofs.tables.put_table.Goals as goal

pub overflow_mul-count : goal.overflow_mul-count
overflow_mul-count g c =
    omega (arith, few_bytes c.args.volume.now.size (length c.args.table.now), ap (λ n. n * c.args.volume.now.size) c.block_count-count.ensures)

pub read_at-requires-clause-within : goal.read_at-requires-clause-within
read_at-requires-clause-within g c =
    let v = c.args.volume.now in
    let long : length c.deref_mut.result.now ≡ c.block_count-count.result * v.size = search rules in
    omega (
      arith,
      long,
      ap (λ n. n * v.size) c.block_count-count.ensures,
      inside v c.args.sector (length c.args.table.now) (g.B.Bench.files c.args.bench.now).image.size c.requires.over.large (omega (arith, c.requires.ends)) c.requires.over.within c.requires.free,
    )

pub lay_copy-requires-clause-room : goal.lay_copy-requires-clause-room
lay_copy-requires-clause-room g c =
    let v = c.args.volume.now in
    let long : length c.deref_mut-2.result.now ≡ c.block_count-count.result * v.size = search rules in
    omega (arith, long, ap (λ n. n * v.size) c.block_count-count.ensures, blocks_hold v.size (length c.args.table.now) (omega (arith, c.requires.over.large)))

pub returns-clause-put : goal.returns-clause-put
returns-clause-put g c = λ tells.
    let v = c.args.volume.now in
    let image : List ℕ = bytes_of Image (g.B.Bench.held c.args.bench.now) in
    let long : length c.deref_mut.result.now ≡ c.block_count-count.result * v.size = search rules in
    let now : c.deref_mut-2.result.now ≡ c.read_at.new.into = c.deref_mut-2.ensures.value ∙ take_at _ _ _ (let l : length c.read_at.new.into ≡ c.in_ok-area.area.len = search rules in l) in
    let area : c.deref.result.now ≡ c.lay_copy.new.area = c.deref.ensures.value ∙ take_at _ _ _ (let l : length c.lay_copy.new.area ≡ c.in_ok-area.area.len = search rules in l) in
    subst (λ edits. LookAlike c.put_area.new.wanted (c.args.wanted.now ++ edits))
    (laid_blocks v.size c.args.sector c.block_count-count.result (length c.deref_mut.result.now) (c.args.sector * v.size) image c.args.table.now
    c.deref_mut-2.result.now c.deref.result.now c.block_count-count.ensures c.requires.ends long refl (now ∙ c.in_ok-read_at.ensures.bytes tells) (area ∙ c.lay_copy.ensures))
    c.in_ok-put_area.ensures.put
