-- Equal keys are equal names.
use Rattle.udf_file_model.proofs.Names.{equal_names, same_order}
use Rattle.udf_file_model.proofs.order_law.Goals as goal

pub returns : goal.returns
returns c = λ a b. (equal_names a b, same_order a b)
