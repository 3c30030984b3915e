-- Too long, or the encoded name.
use Rattle.std.proofs.Common.{◌≡◌, length, inr, refl, arith, ap, sym, ◌∙◌}
use Rattle.std.specs.Str.{chars, all_scalars}
use Rattle.std.proofs.lemmas.List.{take_at}
use Rattle.std.proofs.lemmas.Str.{scalars-chars}
use Rattle.udf_text.specs.Compressed.{encoding, decoding}
use Rattle.udf_text.proofs.Spelling.{encoding_read}
use Rattle.udf_text.proofs.encode.encode_name.Goals as goal

pub returns-then-used-gt-LONGEST-clause-faults : goal.returns-then-used-gt-LONGEST-clause-faults
returns-then-used-gt-LONGEST-clause-faults c =
    let used : c.bytes-used.result ≡ length (encoding c.args.name.now) = c.bytes-used.ensures _ c.measure-size.ensures.size ∙ ap (λ l. length (encoding l)) (ap chars c.as_str.ensures.value ∙ c.name.view_is) in
    inr (refl, omega (arith, used))

pub returns-clause-fits : goal.returns-clause-fits
returns-clause-fits c =
    let used : c.bytes-used.result ≡ length (encoding c.args.name.now) = c.bytes-used.ensures _ c.measure-size.ensures.size ∙ ap (λ l. length (encoding l)) (ap chars c.as_str.ensures.value ∙ c.name.view_is) in
    omega (arith, used)

pub returns-clause-bytes : goal.returns-clause-bytes
returns-clause-bytes c =
    let used : c.bytes-used.result ≡ length (encoding c.args.name.now) = c.bytes-used.ensures _ c.measure-size.ensures.size ∙ ap (λ l. length (encoding l)) (ap chars c.as_str.ensures.value ∙ c.name.view_is) in
    let bytes : c.fill.new.into ≡ encoding c.args.name.now = c.fill.ensures ∙ ap encoding (ap chars c.as_str-2.ensures.value ∙ c.name.view_is) in
    take_at c.fill.new.into _ c.in_ok-bytes.bytes.len (omega (arith, used, ap length bytes, c.in_ok-bytes.ensures.len)) ∙ bytes

pub returns-clause-decodes : goal.returns-clause-decodes
returns-clause-decodes c =
    ap decoding (returns-clause-bytes c)
    ∙ encoding_read c.args.name.now (ap all_scalars (sym (ap chars c.as_str.ensures.value ∙ c.name.view_is)) ∙ scalars-chars c.as_str.result.now c.as_str.utf8)
