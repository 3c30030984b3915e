-- A FID has at least 40 bytes.
use Rattle.std.proofs.Common.{arith, ap}
use Rattle.udf_file_model.proofs.Fids.{least}
use Rattle.udf_file_model.specs.Fid.{fid_length}
use Rattle.udf_dir.proofs.packed.fid_from.Goals as goal

pub length_of-requires : goal.length_of-requires
length_of-requires c = omega (arith, least c.split_at.result.1.now, ap fid_length c.split_at.ensures.back, c.split_at.ensures.back_len)
