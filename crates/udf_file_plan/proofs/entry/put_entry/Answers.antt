use Rattle.std.proofs.Common.{rules, refl, ◌≡◌, ◌∙◌, ap, sym, arith, length, subst, ◌+◌, ◌-◌, ◌++◌, ◌∷◌, [], List, ℕ}
use Rattle.std.specs.Prelude.{OnOk}
use Rattle.udf_wanted.specs.Wanted.{LookAlike, differing}
use Rattle.udf_entry.proofs.Told.{size_bounds}
use Rattle.udf_entry.specs.ValuesView.{wanted_of}
use Rattle.udf_file_plan.proofs.Differing.{look_none}
use Rattle.udf_model.specs.Tag.{retagged}
use Rattle.udf_file_plan.proofs.Bodies.{written_back}
use Rattle.udf_file_plan.proofs.Entries.{entry_stays, entry_changes}
use Rattle.udf_file_plan.proofs.entry.put_entry.Goals as goal

pub is_same_behind-requires-clause-after : goal.is_same_behind-requires-clause-after
is_same_behind-requires-clause-after c =
    omega (arith, ap length c.deref.ensures.value, c.in_ok-after.ensures.whole, c.requires.whole, (size_bounds c.args.volume.now.size c.requires.size).0)

pub is_same_behind-requires-clause-block : goal.is_same_behind-requires-clause-block
is_same_behind-requires-clause-block c = omega (arith, c.requires.whole, (size_bounds c.args.volume.now.size c.requires.size).0)

pub returns-then-is_same_behind-clause-put : goal.returns-then-is_same_behind-clause-put
returns-then-is_same_behind-clause-put c =
    look_none c.args.wanted.now _
    (entry_stays c.args.sector c.args.location c.args.header (wanted_of c.args.values.now c.args.body.now) c.args.block.now c.deref.result.now
    (c.deref.ensures.value ∙ c.in_ok-after.ensures.block) (sym c.is_same_behind.ensures ∙ c.if-is_same_behind.true))

pub retag_entry-requires-clause-small : goal.retag_entry-requires-clause-small
retag_entry-requires-clause-small c =
    omega (arith, ap length c.deref_mut.ensures.value, c.in_ok-after.ensures.whole, c.requires.whole, (size_bounds c.args.volume.now.size c.requires.size).1)

pub returns-clause-put : goal.returns-clause-put
returns-clause-put c =
    let long : length c.retag_entry.new.block ≡ c.in_ok-after.after.len = search rules in
    subst (λ (made : List ℕ). OnOk c.put_different.result (LookAlike c.put_different.new.wanted (c.args.wanted.now ++ differing (λ _. c.args.block.now) ((c.args.sector, made) ∷ []))))
    (c.deref-2.ensures.value ∙ written_back c.in_ok-after.after.len c.retag_entry.new.block c.in_ok-after.after.items long
    ∙ entry_changes c.args.location c.args.header c.base_in-base.result (length c.args.body.now) (wanted_of c.args.values.now c.args.body.now) c.args.block.now c.deref.result.now
    c.retag_entry.new.block
    (c.deref.ensures.value ∙ c.in_ok-after.ensures.block) (sym c.is_same_behind.ensures ∙ c.if-is_same_behind.false) c.base_in-base.ensures.base refl
    (c.retag_entry.ensures ∙ ap (retagged c.args.location (c.base_in-base.result + length c.args.body.now - 16)) (c.deref_mut.ensures.value ∙ sym c.deref.ensures.value)))
    c.put_different.ensures.put
