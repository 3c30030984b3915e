use Rattle.std.proofs.Common.{◌≡◌, ◌+◌, ◌<◌, ◌∷◌, ◌++◌, [], ℕ, length, rules, subst, ap, ◌∙◌, List}
use Rattle.udf_rules_model.specs.Recognition.{slot_blocks}
use Rattle.udf_space_mends.specs.SlotMend.{slot_block}
use Rattle.udf_space_plan.specs.Sequence.{slot_front}
use Rattle.udf_space_plan.proofs.SlotBlocks.{none_put, one_put}
use Rattle.udf_wanted.specs.Wanted.{LookAlike}
use Rattle.udf_wanted.specs.Writable.{is_writable}
use Rattle.udf_wanted.proofs.Looking.{both_are}
use Rattle.udf_wanted.proofs.Walking.{writable}
use Rattle.udf_space_plan.proofs.slots.put_slot.Goals as goal

pub loop-index-init : goal.loop-index-init
loop-index-init c = record {
  room = c.requires.room;
  writable = c.requires.writable;
  put = none_put c.args.volume.now.size c.args.first c.args.name.now c.args.wanted.now;
}

pub loop-index-preserved : goal.loop-index-preserved
loop-index-preserved c =
    let lt : c.loop-index.index < slot_blocks c.args.volume.now.size = search rules in
    let v = c.args.volume.now in
    let at : ℕ = c.args.first + c.loop-index.index in
    let made : c.write_slot_block.new.block ≡ slot_block v.size c.args.name.now c.loop-index.index =
    c.write_slot_block.ensures ∙ ap (λ n. slot_block n c.args.name.now c.loop-index.index) c.loop-index.invariant.room in
    let long : length c.write_slot_block.new.block ≡ v.size = search rules in
    record {
      room = long;
      writable = c.in_ok-put.ensures.among (is_writable v) c.loop-index.invariant.writable
          (writable v (at, c.write_slot_block.new.block) (c.requires.free c.loop-index.index lt) long);
      put = both_are c.args.wanted.now c.loop-index.wanted c.put.new.self (slot_front v.size c.args.first c.args.name.now c.loop-index.index)
          ((at, slot_block v.size c.args.name.now c.loop-index.index) ∷ []) _ c.loop-index.invariant.put
          (subst (λ (b : List ℕ). LookAlike c.put.new.self (c.loop-index.wanted ++ (at, b) ∷ [])) made c.in_ok-put.ensures.put)
          (one_put v.size c.args.first c.args.name.now c.loop-index.index);
    }
