use Rattle.std.proofs.Common.{◌∙◌, sym, ap, subst, List, ℕ, ◌++◌, ◌∷◌, [], length}
use Rattle.std.specs.Prelude.{OnOk}
use Rattle.udf_entry.specs.ValuesView.{wanted_of}
use Rattle.udf_entry.proofs.InBlock.{entry_is}
use Rattle.udf_file_model.specs.Entry.{entry_in}
use Rattle.udf_file_mends.specs.Mends.{mended_entry}
use Rattle.udf_wanted.specs.Wanted.{LookAlike, differing}
use Rattle.udf_file_plan.proofs.Leaving.{none_some, body_there, body_room}
use Rattle.udf_file_plan.proofs.mend.put_same.Goals as goal

pub returns-in_default-clause-put : goal.returns-in_default-clause-put
returns-in_default-clause-put c =
    absurd (none_some (entry_in c.args.kept.own.header c.args.kept.block.now) c.read_entry.result _ c.read_entry.ensures
    (entry_is c.args.kept.own.at.block c.args.kept.own.header c.args.kept.block.now (sym c.requires.header)) c.in_default.is)

pub put_entry-requires-clause-bytes : goal.put_entry-requires-clause-bytes
put_entry-requires-clause-bytes c =
    c.requires.bytes ∙ sym (ap length (body_there c.args.kept.own.at.block c.args.kept.own.header c.args.kept.block.now c.body.result.now c.in-Some.read c.requires.header (sym c.in-Some.ensures) c.body.ensures.body))

pub put_entry-requires-clause-room : goal.put_entry-requires-clause-room
put_entry-requires-clause-room c =
    body_room c.args.kept.own.header c.args.kept.block.now c.body.result.now c.requires.opened
    (body_there c.args.kept.own.at.block c.args.kept.own.header c.args.kept.block.now c.body.result.now c.in-Some.read c.requires.header (sym c.in-Some.ensures) c.body.ensures.body)

pub returns-clause-put : goal.returns-clause-put
returns-clause-put c =
    subst (λ (body : List ℕ). OnOk c.put_entry.result (LookAlike c.put_entry.new.wanted (c.args.wanted.now
    ++ differing (λ _. c.args.kept.block.now) ((c.args.kept.own.sector, mended_entry c.args.kept.own.at.block c.args.kept.own.header (wanted_of c.args.kept.values.now body) c.args.kept.block.now) ∷ []))))
    (body_there c.args.kept.own.at.block c.args.kept.own.header c.args.kept.block.now c.body.result.now c.in-Some.read c.requires.header (sym c.in-Some.ensures) c.body.ensures.body)
    c.put_entry.ensures.put
