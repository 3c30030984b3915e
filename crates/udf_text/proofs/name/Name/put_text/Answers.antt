-- The text of the name has the characters that it is seen as.
use Rattle.std.proofs.Common.{ap, sym, ◌∙◌}
use Rattle.std.proofs.lemmas.Str.{encodes-chars, IsUtf8-string_bytes}
use Rattle.std.specs.Str.{encode_utf8_all}
use Rattle.udf_text.proofs.Texts.{ok_is}
use Rattle.udf_text.proofs.name.Name.put_text.Goals as goal

pub returns : goal.returns
returns c = record {
  text = ok_is c.from_str.result _ _ c.from_str.ensures.ok
      (c.as_str.ensures.value ∙ sym (encodes-chars _ (IsUtf8-string_bytes c.self.inside.text)) ∙ ap encode_utf8_all c.self.view_is);
}
