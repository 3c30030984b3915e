use Rattle.std.proofs.Common.{◌∙◌, ap}
use Rattle.udf_volume.specs.Led.{led_seen}
use Rattle.udf_volume.specs.Opened.{unlike_profile}
use Rattle.udf_volume.proofs.Opening.{unlike}
use Rattle.udf_volume.proofs.open.accept.Goals as goal

pub returns-in-Some-clause-answers : goal.returns-in-Some-clause-answers
returns-in-Some-clause-answers g c = λ tells.
    unlike c.args.size c.args.blocks _ (led_seen c.args.led.now) c.in-Some.item
    (c.in-Some.ensures ∙ ap (unlike_profile c.args.size) c.deref.ensures.value)
