-- The compression ID chooses the width.
use Rattle.std.proofs.Common.{◌≡◌, ℕ, List, ◌∷◌, [], length, inl, inr, ⊎_elim, Ok, arith, ap, sym, ◌∙◌}
use Rattle.std.specs.Str.{chars}
use Rattle.std.proofs.lemmas.Str.{chars-nil}
use Rattle.udf_text.specs.Compressed.{decoding}
use Rattle.udf_text.proofs.Spelling.{decoding_none, decoding_narrow, decoding_wide, decoding_other}
use Rattle.udf_text.proofs.decode.decode_name.Goals as goal

no_bytes : (bytes : List ℕ) → length bytes ≡ 0 → decoding bytes ≡ Ok []
no_bytes [] e = decoding_none
no_bytes (x ∷ xs) e = absurd (omega arith)

pub returns-in_default : goal.returns-in_default
returns-in_default c = record { answer = inr (ap Ok (ap chars c.new.ensures.bytes ∙ chars-nil) ∙ sym (no_bytes c.args.bytes.now c.in_default.ensures.cases)) }

pub returns-in-8 : goal.returns-in-8
returns-in-8 c =
    let bytes = c.in-Some.ensures.cases.0 ∙ ap (λ n. n ∷ c.in-Some.rest.now) c.in-8.is in
    record { answer = ⊎_elim inl (λ e. inr (e ∙ sym (ap decoding bytes ∙ decoding_narrow c.in-Some.rest.now))) c.decode_narrow.ensures }

pub returns-in-16 : goal.returns-in-16
returns-in-16 c =
    let bytes = c.in-Some.ensures.cases.0 ∙ ap (λ n. n ∷ c.in-Some.rest.now) c.in-16.is in
    record { answer = ⊎_elim inl (λ e. inr (e ∙ sym (ap decoding bytes ∙ decoding_wide c.in-Some.rest.now))) c.decode_wide.ensures }

pub returns-in_default-id : goal.returns-in_default-id
returns-in_default-id c =
    record { answer = inr (sym (ap decoding c.in-Some.ensures.cases.0 ∙ decoding_other c.in-Some.id.now c.in-Some.rest.now (λ e. omega arith) (λ e. omega arith))) }
