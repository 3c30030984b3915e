use Rattle.std.proofs.Common.{◌≡◌, List, None, Some, true, false, ap, sym, ◌∙◌}
use Rattle.std.specs.Prelude.{option_map}
use Rattle.udf_field.specs.declared.address.Addr.{Addr}
use Rattle.udf_tree_model.specs.Children.{first_in, kept_in, last_children}
use Rattle.udf_tree_model.specs.Frame.{setting_of, tree_of}
use Rattle.udf_held.specs.declared.held.Held.{Held}
use Rattle.udf_kept.specs.Fitted.{at_of}
use Rattle.udf_tree.specs.Kindred.{is_root_by}
use Rattle.udf_tree.specs.Nodes.{numbered}
use Rattle.udf_tree.specs.Survey.{named_by}
use Rattle.udf_tree.proofs.Descending.{at_root, found_first, found_last, off_root}
use Rattle.udf_tree.proofs.children.child_in.Goals as goal

pub returns-in-Some : goal.returns-in-Some
returns-in-Some c f v file_set wanted ids k last d at own those same among =
    let numbers = numbered c.args.entries.now.kept.items c.args.entries.now.held.items in
    found_first numbers (kept_in (setting_of f v) (tree_of f v) d those) (last_children f v d) c.in-Some.child
    (ap (named_by numbers) (sym c.in-Some.is) ∙ c.number_kept.ensures f v c.args.root file_set wanted ids k d at own those same among)

pub returns-then-is_root : goal.returns-then-is_root
returns-then-is_root c f v file_set wanted ids k last d at own those same among =
    let e = c.args.entries.now in
    let numbers = numbered e.kept.items e.held.items in
    let is : is_root_by c.args.root (at_of e.held.items c.args.holder) ≡ true =
    ap (λ (hs : List Held). is_root_by c.args.root (at_of hs c.args.holder)) (sym c.deref.ensures.value) ∙ sym c.is_root.ensures ∙ c.if-is_root.true in
    found_last numbers (kept_in (setting_of f v) (tree_of f v) d those) (last_children f v d) c.args.last
    (ap (named_by numbers) (sym c.in_default.is) ∙ c.number_kept.ensures f v c.args.root file_set wanted ids k d at own those same among)
    (last ∙ ap (λ (xs : List Addr). option_map Some (first_in xs)) (at_root f v c.args.root file_set e wanted ids k c.args.holder d at is))

pub returns-else-is_root : goal.returns-else-is_root
returns-else-is_root c f v file_set wanted ids k last d at own those same among =
    let e = c.args.entries.now in
    let numbers = numbered e.kept.items e.held.items in
    let is : is_root_by c.args.root (at_of e.held.items c.args.holder) ≡ false =
    ap (λ (hs : List Held). is_root_by c.args.root (at_of hs c.args.holder)) (sym c.deref.ensures.value) ∙ sym c.is_root.ensures ∙ c.if-is_root.false in
    found_last numbers (kept_in (setting_of f v) (tree_of f v) d those) (last_children f v d) None
    (ap (named_by numbers) (sym c.in_default.is) ∙ c.number_kept.ensures f v c.args.root file_set wanted ids k d at own those same among)
    (sym (ap (λ (xs : List Addr). option_map Some (first_in xs)) (off_root f v c.args.root file_set e wanted ids k c.args.holder d at is)))
