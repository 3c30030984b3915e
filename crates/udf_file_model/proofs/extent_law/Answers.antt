use Rattle.udf_file_model.proofs.Extents.{extent_opened, new_extent}
use Rattle.udf_file_model.proofs.extent_law.Goals as goal

pub returns : goal.returns
returns c at block old body h bytes shorter = new_extent at body block old h.bytes h.most h.low (extent_opened at block old h.whole) bytes shorter
