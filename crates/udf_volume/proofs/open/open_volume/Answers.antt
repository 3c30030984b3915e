use Rattle.std.proofs.Common.{arith, sym, ap, subst, Result, ◌∙◌, ◌/◌}
use Rattle.udf_model.specs.Image.{block_of}
use Rattle.udf_outside.specs.Stops.{Held, bytes_of}
use Rattle.udf_outside.specs.declared.bench.Role.TheVariants.{Image}
use Rattle.udf_volume.specs.declared.volume.Volume.{Volume}
use Rattle.udf_layer.specs.declared.missing.Missing.{Missing}
use Rattle.udf_volume.specs.Led.{led_seen}
use Rattle.udf_volume.specs.Opened.{accepted, Answers}
use Rattle.udf_volume.proofs.Opening.{answer_of, too_large, opened_as}
use Rattle.udf_volume.proofs.open.open_volume.Goals as goal

pub returns-then-whole-gt-MOST_BLOCKS-clause-answers : goal.returns-then-whole-gt-MOST_BLOCKS-clause-answers
returns-then-whole-gt-MOST_BLOCKS-clause-answers g c = λ tells.
    too_large c.args.size c.args.length _
    (c.requires.sized ∙ g.met.B.Bench.sizes c.args.bench.now Image tells c.requires.attached) c.if-whole-gt-MOST_BLOCKS.true

pub returns-in-Nothing-clause-answers : goal.returns-in-Nothing-clause-answers
returns-in-Nothing-clause-answers g c = λ tells.
    opened_as c.args.size c.args.length _
    (c.requires.sized ∙ g.met.B.Bench.sizes c.args.bench.now Image tells c.requires.attached) _ _
    (omega (arith, c.if-whole-gt-MOST_BLOCKS.false)) (c.deref.ensures.value ∙ c.in_ok-places.ensures.places) (c.in_ok-search.ensures.found tells)
    ∙ ap (answer_of c.args.size (c.args.length / c.args.size) (block_of c.args.size (bytes_of Image (g.B.Bench.held c.args.bench.now)))) c.in-Nothing.is

pub returns-in-Unled-clause-answers : goal.returns-in-Unled-clause-answers
returns-in-Unled-clause-answers g c = λ tells.
    opened_as c.args.size c.args.length _
    (c.requires.sized ∙ g.met.B.Bench.sizes c.args.bench.now Image tells c.requires.attached) _ _
    (omega (arith, c.if-whole-gt-MOST_BLOCKS.false)) (c.deref.ensures.value ∙ c.in_ok-places.ensures.places) (c.in_ok-search.ensures.found tells)
    ∙ ap (answer_of c.args.size (c.args.length / c.args.size) (block_of c.args.size (bytes_of Image (g.B.Bench.held c.args.bench.now)))) c.in-Unled.is

pub returns-clause-answers : goal.returns-clause-answers
returns-clause-answers g c = λ tells.
    let accepted_at : Held → Result Volume Missing = λ held.
    accepted c.args.size (c.args.length / c.args.size) (block_of c.args.size (bytes_of Image held)) (led_seen c.in-Kept.led) in
    let P : Result Volume Missing → Type 0 = λ expected. Answers expected c.accept.result in
    subst P
    (sym (opened_as c.args.size c.args.length _
    (c.requires.sized ∙ g.met.B.Bench.sizes c.args.bench.now Image tells c.requires.attached) _ _
    (omega (arith, c.if-whole-gt-MOST_BLOCKS.false)) (c.deref.ensures.value ∙ c.in_ok-places.ensures.places) (c.in_ok-search.ensures.found tells)
    ∙ ap (answer_of c.args.size (c.args.length / c.args.size) (block_of c.args.size (bytes_of Image (g.B.Bench.held c.args.bench.now)))) c.in-Kept.is
    ∙ ap accepted_at (sym c.in_ok-search.ensures.reads.held)))
    (c.accept.ensures.answers tells)
