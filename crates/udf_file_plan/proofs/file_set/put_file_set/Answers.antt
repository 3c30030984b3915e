use Rattle.std.proofs.Common.{◌∙◌, sym, ap, subst, arith, List, ℕ, ◌++◌, ◌∷◌, []}
use Rattle.udf_outside.specs.Stops.{bytes_of}
use Rattle.udf_outside.specs.declared.bench.Role.TheVariants.{Image}
use Rattle.udf_model.specs.Bytes.{number_at}
use Rattle.udf_file_mends.specs.FileSet.{cleared_set}
use Rattle.udf_files.specs.Files.{places_in}
use Rattle.udf_wanted.specs.Wanted.{LookAlike, differing}
use Rattle.udf_file_plan.proofs.Clearing.{nothing_lost, lost_nowhere, lost_there}
use Rattle.udf_file_plan.proofs.Held.{told_of}
use Rattle.udf_file_plan.proofs.Placed.{inside}
use Rattle.udf_file_plan.proofs.file_set.put_file_set.Goals as goal

pub returns-then-not-loses_pointer-clause-put : goal.returns-then-not-loses_pointer-clause-put
returns-then-not-loses_pointer-clause-put g c tells are =
    let t = told_of c.args.files.now.volume (bytes_of Image (g.B.Bench.held c.args.bench.now)) c.args.files.now are in
    nothing_lost _ _ c.args.wanted.now (sym t.loses ∙ sym c.loses_pointer.ensures ∙ c.if-not-loses_pointer.true)

pub returns-in_default-clause-put : goal.returns-in_default-clause-put
returns-in_default-clause-put g c tells are =
    let t = told_of c.args.files.now.volume (bytes_of Image (g.B.Bench.held c.args.bench.now)) c.args.files.now are in
    lost_nowhere _ _ c.args.wanted.now (sym t.loses ∙ sym c.loses_pointer.ensures ∙ c.if-not-loses_pointer.false) (t.place ∙ sym c.locate.ensures ∙ c.in_default.is)

pub read_block-requires-clause-within : goal.read_block-requires-clause-within
read_block-requires-clause-within g c =
    inside c.args.files.now.volume (places_in c.args.files.now) (g.B.Bench.files c.args.bench.now) c.requires.over c.args.files.now.volume.file_set.at c.in-Some.sector (sym c.in-Some.ensures)

pub returns-then-block-covered-clause-put : goal.returns-then-block-covered-clause-put
returns-then-block-covered-clause-put g c tells are =
    let t = told_of c.args.files.now.volume (bytes_of Image (g.B.Bench.held c.args.bench.now)) c.args.files.now are in
    let room = t.room c.in-Some.sector c.read_block.new.into (sym c.in-Some.ensures) (c.in_ok-read_block.ensures.block tells) in
    absurd (omega (arith, room, c.if-block-covered.true, c.u16_at-covered.ensures ∙ ap (λ (b : List ℕ). number_at 2 b 10) c.over.ensures))

pub returns-clause-put : goal.returns-clause-put
returns-clause-put g c tells are =
    let t = told_of c.args.files.now.volume (bytes_of Image (g.B.Bench.held c.args.bench.now)) c.args.files.now are in
    lost_there _ _ c.args.wanted.now c.put_different.new.wanted c.in-Some.sector c.read_block.new.into
    (sym t.loses ∙ sym c.loses_pointer.ensures ∙ c.if-not-loses_pointer.false) (t.place ∙ sym c.in-Some.ensures) (c.in_ok-read_block.ensures.block tells)
    (subst (λ (made : List ℕ). LookAlike c.put_different.new.wanted (c.args.wanted.now ++ differing (λ _. c.read_block.new.into) ((c.in-Some.sector, made) ∷ [])))
    (c.deref.ensures.value ∙ c.in_ok-after.ensures.block ∙ ap (λ (n : ℕ). cleared_set n c.read_block.new.into) t.block) c.in_ok-put_different.ensures.put)
