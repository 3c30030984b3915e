use Rattle.udf_outside.specs.Undo.{undone}
use Rattle.udf_outside.proofs.memory.file.MemFile.sync.Goals as goal

pub returns-clause-undo : goal.returns-clause-undo
unfolding undone
returns-clause-undo c = rw (c.replace-base.ensures.value, c.replace-ranges.ensures.value) c.self.view_is
