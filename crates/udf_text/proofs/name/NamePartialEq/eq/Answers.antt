-- Two texts are equal where their characters are.
use Rattle.std.proofs.Common.{ap₂, ◌∙◌, nat_eq}
use Rattle.std.specs.Cmp.Lexicographic.{pointwise}
use Rattle.std.proofs.lemmas.Str.{IsUtf8-string_bytes}
use Rattle.udf_text.proofs.Texts.{same_test}
use Rattle.udf_text.proofs.name.NamePartialEq.eq.Goals as goal

pub returns : goal.returns
returns c =
    c.eq.ensures
    ∙ same_test _ _ (IsUtf8-string_bytes c.self.inside.text) (IsUtf8-string_bytes c.other.inside.text)
    ∙ ap₂ (pointwise nat_eq) c.self.view_is c.other.view_is
