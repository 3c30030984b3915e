use Rattle.std.proofs.Common.{◌≡◌, List, false, rules, sym, subst}
use Rattle.std.specs.Prelude.{is_some}
use Rattle.udf_tree_model.specs.Frame.{setting_of, tree_of}
use Rattle.udf_held.specs.declared.held.Held.{Held}
use Rattle.udf_kept.specs.Keeping.{IsKeptBy}
use Rattle.udf_tree.proofs.Measuring.{content_there, no_content, no_directory}
use Rattle.udf_tree.proofs.kept_contents.content_of.Goals as goal

pub returns-in_default : goal.returns-in_default
returns-in_default c f v root set some starts i o x k =
    let none : is_some c.args.entry.now.shape ≡ false = search rules in
    no_content f v c.args.entry.now i o none

pub returns-then-not-entry : goal.returns-then-not-entry
returns-then-not-entry c f v root set some starts i o x k = no_directory f v c.args.entry.now i o c.if-not-entry.true

pub returns : goal.returns
returns c f v root set some starts i o x k =
    let s = setting_of f v in
    let t = tree_of f v in
    content_there f v c.args.entry.now i o c.in-Some.shape c.in-Some.is c.if-not-entry.false starts k.kept_is some
    c.is_stream_directory-is_stream.result c.parent_of-above.result
    (c.is_stream_directory-is_stream.ensures s t c.args.entries.now.held.items x k.kept_is i.directory)
    (c.parent_of-above.ensures f v root set (subst (λ (hs : List Held). IsKeptBy s t hs c.args.entry.now c.args.keeping) (sym c.deref.ensures.value) k))
    _ _ c.min.ensures c.parents_stay.ensures
