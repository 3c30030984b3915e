use Rattle.udf_model.proofs.Relocated.{relocated_whole, relocated_location, relocated_id, relocated_front, relocated_middle, relocated_body, relocated_length, relocated_is_bytes}
use Rattle.udf_model.proofs.relocate_law.Goals as goal

pub returns-clause-whole : goal.returns-clause-whole
returns-clause-whole c = relocated_whole

pub returns-clause-moved : goal.returns-clause-moved
returns-clause-moved c = relocated_location

pub returns-clause-found : goal.returns-clause-found
returns-clause-found c = relocated_id

pub returns-clause-front : goal.returns-clause-front
returns-clause-front c = relocated_front

pub returns-clause-middle : goal.returns-clause-middle
returns-clause-middle c = relocated_middle

pub returns-clause-body : goal.returns-clause-body
returns-clause-body c = relocated_body

pub returns-clause-same_length : goal.returns-clause-same_length
returns-clause-same_length c = relocated_length

pub returns-clause-bytes : goal.returns-clause-bytes
returns-clause-bytes c = relocated_is_bytes
