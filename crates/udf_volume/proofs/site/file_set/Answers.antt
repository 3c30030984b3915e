use Rattle.std.proofs.Common.{ℕ, ◌<◌, ◌∙◌, List, arith, refl, subst, sym}
use Rattle.udf_outside.specs.Stops.{Held}
use Rattle.udf_outside.specs.Sectors.{disk_of}
use Rattle.udf_volume.specs.declared.stretch.Stretch.{Stretch}
use Rattle.udf_volume.specs.FileSet.{AreFixed, site_of}
use Rattle.udf_volume.proofs.Sited.{found, furthered, headed, headless, no_extent, some_blocks, unclear, unheaded}
use Rattle.udf_volume.proofs.site.file_set.Goals as goal

pub returns-then-volume-eq0-clause-answers : goal.returns-then-volume-eq0-clause-answers
returns-then-volume-eq0-clause-answers g c tells =
    no_extent c.args.volume.now (disk_of c.args.volume.now.size (g.B.Bench.held c.args.bench.now)) (g.P.Parts.place c.args.parts.now) (g.P.Parts.inner c.args.parts.now)
    c.if-volume-eq0.true

pub is_clear-requires-clause-some : goal.is_clear-requires-clause-some
is_clear-requires-clause-some g c =
    let P : Stretch → Type 0 = λ x. 0 < x.blocks in
    subst P (sym c.extent_of-extent.ensures) (some_blocks c.args.volume.now.size c.args.volume.now.file_set.length c.requires.over.large (omega arith))

pub returns-then-not-is_clear-clause-answers : goal.returns-then-not-is_clear-clause-answers
returns-then-not-is_clear-clause-answers g c tells =
    let disk : ℕ → List ℕ = disk_of c.args.volume.now.size (g.B.Bench.held c.args.bench.now) in
    unclear c.args.volume.now disk (g.P.Parts.place c.args.parts.now) (g.P.Parts.inner c.args.parts.now)
    c.is_clear.result (c.is_clear.ensures.clear disk) c.if-not-is_clear.true

pub returns-in_default-clause-answers : goal.returns-in_default-clause-answers
returns-in_default-clause-answers g c tells =
    let disk : ℕ → List ℕ = disk_of c.args.volume.now.size (g.B.Bench.held c.args.bench.now) in
    unheaded c.args.volume.now disk (g.P.Parts.place c.args.parts.now) (g.P.Parts.inner c.args.parts.now)
    (headless c.args.volume.now disk (g.P.Parts.place c.args.parts.now) (g.P.Parts.inner c.args.parts.now) c.in_ok-head.field-0
    (c.in_ok-head.ensures.head tells) c.in_default.is)

pub returns-then-head-clause-answers : goal.returns-then-head-clause-answers
returns-then-head-clause-answers g c tells =
    let disk : ℕ → List ℕ = disk_of c.args.volume.now.size (g.B.Bench.held c.args.bench.now) in
    let (there, states) = headed c.args.volume.now disk (g.P.Parts.place c.args.parts.now) (g.P.Parts.inner c.args.parts.now) c.in_ok-head.field-0 c.in-Some.head
    (c.in_ok-head.ensures.head tells) c.in-Some.is in
    furthered c.args.volume.now disk (g.P.Parts.place c.args.parts.now) (g.P.Parts.inner c.args.parts.now) c.in-Some.head
    c.is_clear.result (c.is_clear.ensures.clear disk) c.if-not-is_clear.false there states c.if-head.true

pub returns-clause-answers : goal.returns-clause-answers
returns-clause-answers g c tells =
    let disk : ℕ → List ℕ = disk_of c.args.volume.now.size (g.B.Bench.held c.args.bench.now) in
    let (there, states) = headed c.args.volume.now disk (g.P.Parts.place c.args.parts.now) (g.P.Parts.inner c.args.parts.now) c.in_ok-head.field-0 c.in-Some.head
    (c.in_ok-head.ensures.head tells) c.in-Some.is in
    let P : Held → Type 0 = λ held.
    AreFixed (site_of c.args.volume.now (disk_of c.args.volume.now.size held) (g.P.Parts.place c.args.parts.now) (g.P.Parts.inner c.args.parts.now)) c.in_ok-fixed.fixed in
    found c.args.volume.now disk (g.P.Parts.place c.args.parts.now) (g.P.Parts.inner c.args.parts.now) c.in-Some.head
    c.is_clear.result (c.is_clear.ensures.clear disk) c.if-not-is_clear.false there states c.if-head.false c.in_ok-fixed.fixed
    (subst P c.in_ok-head.ensures.reads.held (c.in_ok-fixed.ensures.fixed tells))

pub returns-clause-taken : goal.returns-clause-taken
returns-clause-taken g c = record {
  at = refl;
  clear = λ disk. sym (c.is_clear.ensures.clear disk) ∙ c.if-not-is_clear.false;
  taken = c.in_ok-fixed.ensures.taken;
}
