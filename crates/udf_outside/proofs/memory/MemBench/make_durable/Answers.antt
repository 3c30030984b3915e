use Rattle.std.proofs.Common.{◌∙◌, ap, List, [], ◌∷◌, ◌++◌, Vec}
use Rattle.std.specs.declared.alloc.Global.{Global}
use Rattle.udf_outside.specs.declared.memory.change.Change.{Change}
use Rattle.udf_outside.specs.Memory.{held_in}
use Rattle.udf_outside.proofs.History.{held_synced}
use Rattle.udf_outside.proofs.memory.MemBench.make_durable.Goals as goal

pub returns-clause-done : goal.returns-clause-done
unfolding held_in
returns-clause-done c = held_synced c.args.role c.args.self.now.changes.items c.append.new.changes.items c.sync_file-undo.result c.args.self.now.image.file c.args.self.now.side.file
    c.sync_file-undo.new.self.image.file c.sync_file-undo.new.self.side.file (c.append.ensures ∙ ap (λ (l : List Change). l ++ record { role = c.args.role; undo = c.sync_file-undo.result } ∷ []) (ap (λ (v : Vec Change Global). v.items) c.sync_file-undo.ensures.rest.changes ∙ c.in_ok-reserve.ensures.items)) c.sync_file-undo.ensures.image c.sync_file-undo.ensures.side c.sync_file-undo.ensures.done c.sync_file-undo.ensures.other
