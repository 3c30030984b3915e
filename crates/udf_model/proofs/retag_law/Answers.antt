use Rattle.udf_model.proofs.Retagged.{retagged_whole, retagged_covers, retagged_location, retagged_id, retagged_front, retagged_middle, retagged_body, retagged_length, retagged_is_bytes}
use Rattle.udf_model.proofs.retag_law.Goals as goal

pub returns-clause-whole : goal.returns-clause-whole
returns-clause-whole c = retagged_whole

pub returns-clause-covers : goal.returns-clause-covers
returns-clause-covers c = retagged_covers

pub returns-clause-moved : goal.returns-clause-moved
returns-clause-moved c = retagged_location

pub returns-clause-found : goal.returns-clause-found
returns-clause-found c = retagged_id

pub returns-clause-front : goal.returns-clause-front
returns-clause-front c = retagged_front

pub returns-clause-middle : goal.returns-clause-middle
returns-clause-middle c = retagged_middle

pub returns-clause-body : goal.returns-clause-body
returns-clause-body c = retagged_body

pub returns-clause-same_length : goal.returns-clause-same_length
returns-clause-same_length c = retagged_length

pub returns-clause-bytes : goal.returns-clause-bytes
returns-clause-bytes c = retagged_is_bytes
