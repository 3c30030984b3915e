-- The placed front is the one number that is so described.
use Rattle.udf_file_model.proofs.Fronts.{front_means, front_only}
use Rattle.udf_file_model.proofs.place_law.Goals as goal

pub returns : goal.returns
returns c = λ place block blocks n. (front_only place block blocks n, front_means place block blocks n)
