-- One unit is written, or two.
use Rattle.std.proofs.Common.{◌+◌, arith, ap, ◌++◌, ◌∙◌, take, get_or, append_assoc}
use Rattle.udf_text.specs.Compressed.{unit_bytes}
use Rattle.udf_text.proofs.Turns.{wide_one, wide_two}
use Rattle.udf_text.proofs.encode.put_character.Goals as goal

pub returns-then-units-eq1-clause-written : goal.returns-then-units-eq1-clause-written
returns-then-units-eq1-clause-written c =
    c.put_unit.ensures.written ∙ ap (λ l. take c.args.at c.args.into.now ++ l) (wide_one c.args.c _ c.encode_utf16-units.ensures.value c.if-units-eq1.true)

pub returns-clause-written : goal.returns-clause-written
returns-clause-written c =
    ap (λ n. take n c.put_unit-2.new.into) {x = c.args.at + 4} {y = c.args.at + 2 + 2} (omega arith)
    ∙ c.put_unit-2.ensures.written
    ∙ ap (λ l. l ++ unit_bytes (get_or c.encode_utf16-units.result.now 1 0)) c.put_unit.ensures.written
    ∙ append_assoc (take c.args.at c.args.into.now) (unit_bytes (get_or c.encode_utf16-units.result.now 0 0)) (unit_bytes (get_or c.encode_utf16-units.result.now 1 0))
    ∙ ap (λ l. take c.args.at c.args.into.now ++ l) (wide_two c.args.c _ c.encode_utf16-units.ensures.value (omega arith))
