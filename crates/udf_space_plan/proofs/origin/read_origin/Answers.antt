use Rattle.std.proofs.Common.{◌≡◌, ℕ, List, take, drop, ap, ◌∙◌}
use Rattle.udf_model.specs.Bytes.{number_at}
use Rattle.udf_outside.specs.Sectors.{disk_of}
use Rattle.udf_space_mends.specs.IntegrityMend as mend
use Rattle.udf_space_mends.specs.IntegrityMend.{origin_of}
use Rattle.udf_space_plan.proofs.origin.read_origin.Goals as goal

pub returns-clause-origin : goal.returns-clause-origin
unfolding origin_of
returns-clause-origin g c = λ tells.
    let v = c.args.volume.now in
    let disk : ℕ → List ℕ = disk_of v.size (g.B.Bench.held c.args.bench.now) in
    let primary : c.read_block.new.into ≡ disk v.pvd = c.in_ok-read_block.ensures.block tells in
    let logical : c.read_block-2.new.into ≡ disk v.lvd =
    c.in_ok-read_block-2.ensures.block tells ∙ ap (λ h. disk_of v.size h v.lvd) c.in_ok-read_block.ensures.reads.held in
    ap (λ (s : List ℕ). let o : mend.Origin = record { stamp = s; revision = c.u16_at-revision.result } in o)
    (c.stamp_in-stamp.ensures ∙ ap (λ (b : List ℕ). take 12 (drop 376 b)) primary)
    ∙ ap (λ n. let o : mend.Origin = record { stamp = take 12 (drop 376 (disk v.pvd)); revision = n } in o)
    (c.u16_at-revision.ensures ∙ ap (λ (b : List ℕ). number_at 2 b 240) (c.over.ensures ∙ logical))
