use Rattle.std.proofs.Common.{◌∙◌, sym, List, ℕ}
use Rattle.udf_model.specs.Bytes.{written_at}
use Rattle.udf_wanted.specs.Wanted.{LookAlike, differing}
use Rattle.std.proofs.Common.{◌++◌, ◌∷◌, [], subst}
use Rattle.udf_file_plan.specs.Base.{listed}
use Rattle.udf_file_plan.proofs.Placed.{inside}
use Rattle.udf_file_plan.proofs.Puts.{puts_nowhere, puts_there}
use Rattle.udf_file_plan.proofs.content.put_front.Goals as goal

pub returns-in_default-clause-put : goal.returns-in_default-clause-put
returns-in_default-clause-put g c tells =
    puts_nowhere (listed c.args.volume.now (g.B.Bench.held c.args.bench.now) (g.P.Parts.place c.args.parts.now)) c.args.wanted.now c.args.at _
    (sym c.locate.ensures ∙ c.in_default.is)

pub read_block-requires-clause-within : goal.read_block-requires-clause-within
read_block-requires-clause-within g c =
    inside c.args.volume.now (g.P.Parts.place c.args.parts.now) (g.B.Bench.files c.args.bench.now) c.requires.over c.args.at c.in-Some.sector (sym c.in-Some.ensures)

pub returns-clause-put : goal.returns-clause-put
returns-clause-put g c tells =
    puts_there (listed c.args.volume.now (g.B.Bench.held c.args.bench.now) (g.P.Parts.place c.args.parts.now)) c.args.wanted.now c.put_different.new.wanted c.args.at c.in-Some.sector
    c.read_block.new.into (written_at 0 c.args.bytes.now) (sym c.in-Some.ensures) (c.in_ok-read_block.ensures.block tells)
    (subst (λ (made : List ℕ). LookAlike c.put_different.new.wanted (c.args.wanted.now ++ differing (λ _. c.read_block.new.into) ((c.in-Some.sector, made) ∷ [])))
    (c.deref.ensures.value ∙ c.in_ok-after.ensures.block) c.in_ok-put_different.ensures.put)
