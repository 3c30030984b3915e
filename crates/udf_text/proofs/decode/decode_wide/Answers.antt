-- Half a unit, a lone surrogate, or the characters.
use Rattle.std.proofs.Common.{◌≡◌, ◌%◌, length, inr, Ok, is_err, arith, ap, sym, ◌∙◌}
use Rattle.std.specs.Char.Utf16.{has_unpaired_surrogate, utf16_lossy_chars}
use Rattle.std.specs.String.{string_bytes}
use Rattle.std.proofs.lemmas.Str.{chars_from_encodes, IsUtf8-string_bytes}
use Rattle.udf_text.specs.Compressed.{units}
use Rattle.udf_text.proofs.Texts.{of_ok}
use Rattle.udf_text.proofs.Spelling.{wide_odd, wide_lone, wide_read}
use Rattle.udf_text.proofs.decode.decode_wide.Goals as goal

pub returns-then-bytes-eq1 : goal.returns-then-bytes-eq1
returns-then-bytes-eq1 c = inr (sym (wide_odd c.args.bytes.now c.if-bytes-eq1.true))

pub returns-in-Ok : goal.returns-in-Ok
returns-in-Ok c =
    let read : c.as_slice.result.now ≡ units c.args.bytes.now = c.as_slice.ensures.value ∙ c.in_ok-units.ensures in
    let even : length c.args.bytes.now % 2 ≡ 0 = omega arith in
    let none = sym (ap has_unpaired_surrogate read) ∙ sym c.in_ok-text.ensures.unpaired ∙ ap is_err c.in-Ok.is in
    let spelt = of_ok c.in_ok-text.field-0 c.in-Ok.text _ c.in-Ok.is c.in_ok-text.ensures.chars in
    inr (ap Ok (sym (chars_from_encodes _ (string_bytes c.in-Ok.text) (IsUtf8-string_bytes c.in-Ok.text) (sym spelt)) ∙ ap utf16_lossy_chars read) ∙ sym (wide_read c.args.bytes.now even none))

pub returns : goal.returns
returns c =
    let read : c.as_slice.result.now ≡ units c.args.bytes.now = c.as_slice.ensures.value ∙ c.in_ok-units.ensures in
    let even : length c.args.bytes.now % 2 ≡ 0 = omega arith in
    let lone = sym (ap has_unpaired_surrogate read) ∙ sym c.in_ok-text.ensures.unpaired ∙ ap is_err c.in-Err.is in
    inr (sym (wide_lone c.args.bytes.now even lone))
