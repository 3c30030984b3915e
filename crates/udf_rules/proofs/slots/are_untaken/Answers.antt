use Rattle.std.proofs.Common.{sym, ◌∙◌}
use Rattle.udf_rules.specs.Slots.{is_untaken_by}
use Rattle.udf_rules.proofs.Recognising.{one_fails}
use Rattle.udf_rules.proofs.slots.are_untaken.Goals as goal

pub returns-then-not-is_untaken : goal.returns-then-not-is_untaken
returns-then-not-is_untaken c =
    one_fails (is_untaken_by c.args.layout.now c.args.places.now) c.args.first c.args.count c.loop-i.i c.loop-i-test.true
    (sym c.is_untaken.ensures ∙ c.if-not-is_untaken.true)
