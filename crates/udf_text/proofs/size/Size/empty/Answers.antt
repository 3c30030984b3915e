-- No characters.
use Rattle.udf_text.proofs.Lengths.{size_none}
use Rattle.udf_text.proofs.size.Size.empty.Goals as goal

pub returns : goal.returns
returns c = size_none
