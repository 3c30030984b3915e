-- Nothing but tag and address is new.
use Rattle.udf_file_model.proofs.Anew.{named_is_fid, new_address, new_byte, same_parent, same_live}
use Rattle.udf_file_model.proofs.anew_law.Goals as goal

pub returns-clause-whole : goal.returns-clause-whole
returns-clause-whole c = λ size fid at r. named_is_fid size fid r.bytes r.is at r.block r.part

pub returns-clause-names : goal.returns-clause-names
returns-clause-names c = λ size fid at r. new_address size fid r.bytes r.is at r.block r.part

pub returns-clause-rest : goal.returns-clause-rest
returns-clause-rest c = λ size fid at r. new_byte size fid r.bytes r.is at r.block r.part

pub returns-clause-parent : goal.returns-clause-parent
returns-clause-parent c = λ size fid at r. same_parent size fid r.bytes r.is at r.block r.part

pub returns-clause-live : goal.returns-clause-live
returns-clause-live c = λ size fid at r. same_live size fid r.bytes r.is at r.block r.part
