use Rattle.std.proofs.Common.{◌≡◌, ◌∙◌, ap, sym, List, ℕ, ◌-◌, ◌++◌, ◌≤◌, length, take, arith}
use Rattle.std.proofs.lemmas.List.{length-take-le}
use Rattle.std.proofs.lemmas.Grind.{common_steps}
use Rattle.std.specs.Option.{option_to_list}
use Rattle.udf_outside.specs.declared.memory.range.Range.{Range}
use Rattle.udf_outside.specs.Stops.{slice_of, put}
use Rattle.udf_outside.specs.Tracked.{Tracked}
use Rattle.udf_outside.specs.Undo.{undone, part_bytes}
use Rattle.udf_outside.proofs.Undoing.{put_back}
use Rattle.udf_outside.proofs.memory.file.MemFile.write.Goals as goal

pub returns-clause-undo : goal.returns-clause-undo
unfolding undone
returns-clause-undo c =
    let old = c.self.inside.bytes in
    let at = c.args.at in
    let done = c.args.done in
    let front = take done c.args.from.now in
    let written : c.put.new.self ≡ put old at front = grind (arith, common_steps, c.in_ok-put.ensures.done) in
    let part : part_bytes c.in_ok-overwritten.overwritten ≡ slice_of old at done = c.in_ok-overwritten.ensures in
    let seen : old ≡ c.args.self.now.bytes = ap (λ (file : Tracked). file.bytes) c.self.view_is in
    let within : at ≤ length old = rw seen c.requires.within in
    let bytes : take c.len-len.result (put c.put.new.self at (part_bytes c.in_ok-overwritten.overwritten)) ≡ old =
    rw (written, part, c.len-len.ensures) (put_back old front at done within (length-take-le done c.args.from.now c.requires.part)) in
    let ranges : take (length c.add.new.ranges.items - 1) c.add.new.ranges.items ++ option_to_list c.in_ok-joined.joined ≡ c.self.inside.ranges.items =
    sym c.in_ok-joined.ensures.before ∙ c.in_ok-reserve.ensures.items in
    ap (λ (l : List ℕ). let file : Tracked = record { bytes = l; base = c.self.inside.base; ranges = take (length c.add.new.ranges.items - 1) c.add.new.ranges.items ++ option_to_list c.in_ok-joined.joined } in file) bytes
    ∙ ap (λ (l : List Range). let file : Tracked = record { bytes = old; base = c.self.inside.base; ranges = l } in file) ranges
    ∙ c.self.view_is
