use Rattle.udf_volume_laws.proofs.Prevail.{index_is, descriptor_is, only_index, only, unique, none}
use Rattle.udf_volume_laws.proofs.prevailing_law.Goals as goal

pub returns-clause-index : goal.returns-clause-index
returns-clause-index c = index_is

pub returns-clause-descriptor : goal.returns-clause-descriptor
returns-clause-descriptor c = descriptor_is

pub returns-clause-only_index : goal.returns-clause-only_index
returns-clause-only_index c = only_index

pub returns-clause-only : goal.returns-clause-only
returns-clause-only c = only

pub returns-clause-unique : goal.returns-clause-unique
returns-clause-unique c = unique

pub returns-clause-none : goal.returns-clause-none
returns-clause-none c = none
