use Rattle.std.proofs.Common.{◌≡◌, ◌<◌, false, nat_eq, sym, ap, ◌∙◌, rules, length}
use Rattle.std.specs.BTreeMap.{get}
use Rattle.udf_tree_model.specs.Frame.{setting_of, tree_of}
use Rattle.udf_held.specs.declared.held.Held.{Held}
use Rattle.udf_found.specs.Order.{addr_cmp}
use Rattle.udf_contents.specs.Stays.{target_holds}
use Rattle.udf_kept.proofs.Indexing.{member_of_get, within}
use Rattle.udf_contents.proofs.Staying.{choice_at, link_by, target_missing, target_there}
use Rattle.udf_contents.proofs.stays.link_stays.Goals as goal

pub returns-in_default : goal.returns-in_default
returns-in_default c f v k =
    let other : nat_eq c.args.link.now.place 0 ≡ false = search rules in
    link_by f v c.args.held.now c.args.selected.now k (get addr_cmp c.args.positions.now) c.requires c.args.holder c.args.link.now other (sym c.is_some.ensures ∙ c.if-is_some.false) _
    (target_missing f v c.args.held.now c.args.selected.now k (get addr_cmp c.args.positions.now) c.requires c.args.holder c.args.link.now.target c.args.link.now.place (sym c.in_default.ensures.value))

pub bounds-held-i : goal.bounds-held-i
bounds-held-i c = within c.args.held.now c.in-Some.field-0.now c.args.link.now.target (c.requires.there c.args.link.now.target c.in-Some.field-0.now (sym c.in-Some.ensures.value))

pub offset_bounds-held-i : goal.offset_bounds-held-i
offset_bounds-held-i c =
    let low : c.in-Some.field-0.now < length c.args.held.now = within c.args.held.now c.in-Some.field-0.now c.args.link.now.target (c.requires.there c.args.link.now.target c.in-Some.field-0.now (sym c.in-Some.ensures.value)) in
    search rules

pub returns : goal.returns
returns c f v k =
    let other : nat_eq c.args.link.now.place 0 ≡ false = search rules in
    let hs = c.args.held.now in
    let xs = c.args.selected.now in
    let position = get addr_cmp c.args.positions.now in
    let i = c.in-Some.field-0.now in
    let h : Held = c.index-held-i.result in
    let x = target_there f v hs xs k position c.requires c.args.holder c.args.link.now.target i h (sym c.in-Some.ensures.value) c.index-held-i.is in
    let m = member_of_get hs i h x.0 in
    link_by f v hs xs k position c.requires c.args.holder c.args.link.now other (sym c.is_some.ensures ∙ c.if-is_some.false) _
    (c.target_stays.ensures f v (k.held.held.each h m) (k.held.each_of h m) (choice_at f v hs xs k position c.requires c.args.holder i h _ x.0 c.chosen_at.ensures)
    ∙ ap (target_holds (setting_of f v) (tree_of f v) c.args.holder c.args.link.now.place) x.1)
