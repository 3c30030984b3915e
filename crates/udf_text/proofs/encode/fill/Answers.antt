-- The encoded name has one of three forms.
use Rattle.std.proofs.Common.{arith, ap, length, ◌∙◌, sym}
use Rattle.std.specs.Str.{chars}
use Rattle.udf_text.proofs.Lengths.{none_form, wide_form, narrow_form, narrow_of}
use Rattle.udf_text.proofs.encode.fill.Goals as goal

pub returns-then-size-eq0 : goal.returns-then-size-eq0
returns-then-size-eq0 c = none_form (chars c.args.text.now) c.args.size c.args.into.now c.requires.0 c.if-size-eq0.true c.requires.1

pub fill_wide-requires : goal.fill_wide-requires
fill_wide-requires c = omega (arith, ap length (wide_form (chars c.args.text.now) c.args.size c.requires.0 c.if-size-eq0.false c.if-size.true))

pub fill_narrow-requires : goal.fill_narrow-requires
fill_narrow-requires c = (narrow_of _ c.args.size c.requires.0 c.if-size.false, omega (arith, ap length (narrow_form (chars c.args.text.now) c.args.size c.requires.0 c.if-size-eq0.false c.if-size.false)))

pub returns-then-size : goal.returns-then-size
returns-then-size c = c.fill_wide.ensures ∙ sym (wide_form (chars c.args.text.now) c.args.size c.requires.0 c.if-size-eq0.false c.if-size.true)

pub returns-else-size : goal.returns-else-size
returns-else-size c = c.fill_narrow.ensures ∙ sym (narrow_form (chars c.args.text.now) c.args.size c.requires.0 c.if-size-eq0.false c.if-size.false)
