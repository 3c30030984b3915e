use Rattle.std.proofs.Common.{◌∙◌, ℕ, List, not, ap, sym}
use Rattle.std.specs.Prelude.{◌==◌, Ok}
use Rattle.udf_outside.specs.Sectors.{disk_of}
use Rattle.udf_rules_model.specs.Integrity.{next_extent_in}
use Rattle.udf_integrity.proofs.Extent.{chain_is, no_chain}
use Rattle.udf_integrity.proofs.sequence.integrity_of.Goals as goal

pub returns-in_default-clause-answers : goal.returns-in_default-clause-answers
returns-in_default-clause-answers g c = λ tells.
    let v = c.args.volume.now in
    let disk = disk_of v.size (g.B.Bench.held c.args.bench.now) in
    let found = sym c.in_default.is ∙ c.in_ok-sector.ensures.prevails tells in
    (no_chain v.size disk v.integrity found, found)

pub returns-then-names_further-clause-answers : goal.returns-then-names_further-clause-answers
returns-then-names_further-clause-answers g c = λ tells.
    let v = c.args.volume.now in
    let disk = disk_of v.size (g.B.Bench.held c.args.bench.now) in
    let block = c.in_ok-sector.ensures.block tells c.in-Some.sector (ap Ok c.in-Some.is) in
    chain_is v.size disk v.integrity c.in-Some.sector _ (sym c.in-Some.is ∙ c.in_ok-sector.ensures.prevails tells)
    (c.if-names_further.ensures ∙ ap (λ (l : List ℕ). not (next_extent_in l == 0)) block)

pub returns-clause-answers : goal.returns-clause-answers
returns-clause-answers g c = λ tells.
    let v = c.args.volume.now in
    let disk = disk_of v.size (g.B.Bench.held c.args.bench.now) in
    let found = sym c.in-Some.is ∙ c.in_ok-sector.ensures.prevails tells in
    let block = c.in_ok-sector.ensures.block tells c.in-Some.sector (ap Ok c.in-Some.is) in
    (chain_is v.size disk v.integrity c.in-Some.sector _ found (c.if-names_further.ensures ∙ ap (λ (l : List ℕ). not (next_extent_in l == 0)) block), found)
