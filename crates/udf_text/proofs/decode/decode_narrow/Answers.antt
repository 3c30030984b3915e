-- The characters pushed are the bytes passed.
use Rattle.std.proofs.Common.{Ok, inr, sym, ap, ◌∙◌}
use Rattle.std.specs.Str.{encode_utf8_all}
use Rattle.std.specs.String.{string_bytes}
use Rattle.std.proofs.lemmas.List.{take_more, take_all}
use Rattle.std.proofs.lemmas.Str.{chars_from_encodes, IsUtf8-string_bytes}
use Rattle.udf_text.proofs.Texts.{encodes_push}
use Rattle.udf_text.proofs.decode.decode_narrow.Goals as goal

pub loop-byte-preserved : goal.loop-byte-preserved
loop-byte-preserved c =
    encodes_push _ _ _ _ c.loop-byte.invariant c.in_ok-push.ensures.bytes
    ∙ ap encode_utf8_all (sym (take_more c.args.bytes.now c.loop-byte.byte-index _ c.loop-byte-test.true))

pub returns : goal.returns
returns c =
    inr (ap Ok (sym (chars_from_encodes c.args.bytes.now (string_bytes c.loop-byte.text) (IsUtf8-string_bytes c.loop-byte.text)
    (ap encode_utf8_all (sym (take_all c.loop-byte.byte-index c.args.bytes.now c.loop-byte-test.false)) ∙ sym c.loop-byte.invariant))))
