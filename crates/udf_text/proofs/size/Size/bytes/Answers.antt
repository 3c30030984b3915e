-- Each way has its length.
use Rattle.udf_text.proofs.Lengths.{bytes_none, bytes_wide, bytes_narrow}
use Rattle.udf_text.proofs.size.Size.bytes.Goals as goal

pub returns-then-self-eq0 : goal.returns-then-self-eq0
returns-then-self-eq0 c = λ cs e. bytes_none cs c.args.self e c.if-self-eq0.true

pub returns-then-self : goal.returns-then-self
returns-then-self c = λ cs e. bytes_wide cs c.args.self e c.if-self-eq0.false c.if-self.true

pub returns : goal.returns
returns c = λ cs e. bytes_narrow cs c.args.self e c.if-self-eq0.false c.if-self.false
