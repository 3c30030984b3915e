use Rattle.std.proofs.Common.{◌∙◌, ap, sym, ℕ, List, [], ◌∷◌, ◌++◌, Vec, take}
use Rattle.std.specs.declared.alloc.Global.{Global}
use Rattle.udf_outside.specs.declared.memory.change.Change.{Change}
use Rattle.udf_outside.specs.Stops.{put}
use Rattle.udf_outside.specs.Memory.{held_in}
use Rattle.udf_outside.proofs.History.{held_wrote, bytes_are}
use Rattle.udf_outside.proofs.memory.MemBench.put_down.Goals as goal

pub returns-clause-done : goal.returns-clause-done
unfolding held_in
returns-clause-done c =
    let was = c.args.self.now in
    let now = c.write_file.new.self in
    let grown = c.append.ensures ∙ ap (λ (l : List Change). l ++ record { role = c.args.role; undo = c.in_ok-undo.undo } ∷ []) (ap (λ (v : Vec Change Global). v.items) c.in_ok-undo.ensures.rest.changes ∙ c.in_ok-reserve.ensures.items) in
    let wrote = c.in_ok-undo.ensures.bytes ∙ ap (λ (l : List ℕ). put l c.args.at (take c.args.done c.args.from.now)) (sym (bytes_are c.args.role was.changes.items was.image.file was.side.file)) in
    held_wrote c.args.role was.changes.items c.append.new.changes.items c.in_ok-undo.undo was.image.file was.side.file now.image.file now.side.file c.args.at _ _ grown
    c.in_ok-undo.ensures.image c.in_ok-undo.ensures.side wrote c.in_ok-undo.ensures.base c.in_ok-undo.ensures.pending c.in_ok-undo.ensures.other
