-- One more character adds its units and its width.
use Rattle.std.proofs.Common.{◌||◌, ◌+◌, ap, not, nat_le, ◌∙◌, sym}
use Rattle.udf_text.proofs.Lengths.{size_more, length_units, above}
use Rattle.udf_text.proofs.size.Size.with.Goals as goal

pub returns-then-self : goal.returns-then-self
returns-then-self c = λ cs e.
    size_more cs c.args.c c.args.self _ e
    (ap (λ n. c.args.self.units + n) (length_units c.args.c c.len_utf16.result c.len_utf16.ensures.bmp c.len_utf16.ensures.surrogate_pair))
    (c.if-self.true ∙ ap (λ b. b || not (nat_le c.args.c 255)) (sym c.if-self.true))

pub returns-else-self : goal.returns-else-self
returns-else-self c = λ cs e.
    size_more cs c.args.c c.args.self _ e
    (ap (λ n. c.args.self.units + n) (length_units c.args.c c.len_utf16.result c.len_utf16.ensures.bmp c.len_utf16.ensures.surrogate_pair))
    (above c.args.c ∙ ap (λ b. b || not (nat_le c.args.c 255)) (sym c.if-self.false))
