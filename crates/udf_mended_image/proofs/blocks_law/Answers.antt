use Rattle.udf_mended_image.proofs.Accepting.{made_of}
use Rattle.udf_mended_image.proofs.blocks_law.Goals as goal

pub returns : goal.returns
returns c = made_of
