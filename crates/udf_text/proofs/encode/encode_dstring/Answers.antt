-- The field is the encoded name, zeros and the length.
use Rattle.std.proofs.Common.{◌≡◌, ◌++◌, ◌-◌, length, set, drop, arith, ap, sym, ◌∙◌}
use Rattle.std.specs.Str.{chars, all_scalars}
use Rattle.std.proofs.lemmas.Str.{scalars-chars}
use Rattle.udf_text.specs.Compressed.{encoding, dstring_decoding}
use Rattle.udf_text.proofs.Fields.{field_written, dstring_read}
use Rattle.udf_text.proofs.encode.encode_dstring.Goals as goal

pub returns-clause-written : goal.returns-clause-written
returns-clause-written c =
    let seen = ap chars c.as_str.ensures.value ∙ c.name.view_is in
    let again = ap chars c.as_str-2.ensures.value ∙ c.name.view_is in
    let used : c.bytes-used.result ≡ length (encoding c.args.name.now) = c.bytes-used.ensures _ c.measure-size.ensures.size ∙ ap (λ l. length (encoding l)) seen in
    ap (λ n. set (c.fill-2.new.into ++ drop n c.fill.new.self) (length c.args.into.now - 1) n) used
    ∙ field_written (length c.args.into.now) c.args.name.now c.fill.new.self c.fill-2.new.into (c.fill.ensures.after (λ y e. e)) (c.fill-2.ensures ∙ ap encoding again) (omega (arith, used))

pub returns-clause-decodes : goal.returns-clause-decodes
returns-clause-decodes c =
    let seen = ap chars c.as_str.ensures.value ∙ c.name.view_is in
    let used : c.bytes-used.result ≡ length (encoding c.args.name.now) = c.bytes-used.ensures _ c.measure-size.ensures.size ∙ ap (λ l. length (encoding l)) seen in
    ap dstring_decoding (returns-clause-written c)
    ∙ dstring_read (length c.args.into.now) c.args.name.now (ap all_scalars (sym seen) ∙ scalars-chars c.as_str.result.now c.as_str.utf8) (omega (arith, used))
