use Rattle.std.proofs.Common.{◌<◌, sym, ap, ◌∙◌, rules, length}
use Rattle.std.specs.BTreeMap.{get}
use Rattle.udf_tree_model.specs.Frame.{setting_of, tree_of}
use Rattle.udf_held.specs.declared.held.Held.{Held}
use Rattle.udf_tree.specs.Judged.{is_lawful_target, is_sound_target}
use Rattle.udf_found.specs.Order.{addr_cmp}
use Rattle.udf_kept.proofs.Indexing.{member_of_get, within}
use Rattle.udf_tree.proofs.Judging.{found_there, lawful_lost, same_verdict, sound_lost, sound_target}
use Rattle.udf_contents.proofs.Staying.{choice_at, target_there}
use Rattle.udf_tree.proofs.judge.verdict_of.Goals as goal

pub returns-in_default : goal.returns-in_default
returns-in_default c f v k =
    let s = setting_of f v in
    let t = tree_of f v in
    let position = get addr_cmp c.args.positions.now in
    let l = c.args.link.now in
    same_verdict s t c.args.holder l _ _ (sound_lost f v c.args.held.now k.held.held position c.requires l.target (sym c.in_default.ensures.value))
    (lawful_lost f v c.args.held.now k.held.held position c.requires l.target (sym c.in_default.ensures.value) c.args.holder l.place)

pub bounds-held-i : goal.bounds-held-i
bounds-held-i c = within c.args.held.now c.in-Some.field-0.now c.args.link.now.target (c.requires.there c.args.link.now.target c.in-Some.field-0.now (sym c.in-Some.ensures.value))

pub offset_bounds-held-i : goal.offset_bounds-held-i
offset_bounds-held-i c =
    let low : c.in-Some.field-0.now < length c.args.held.now = within c.args.held.now c.in-Some.field-0.now c.args.link.now.target (c.requires.there c.args.link.now.target c.in-Some.field-0.now (sym c.in-Some.ensures.value)) in
    search rules

pub returns : goal.returns
returns c f v k =
    let s = setting_of f v in
    let t = tree_of f v in
    let hs = c.args.held.now in
    let xs = c.args.selected.now in
    let l = c.args.link.now in
    let position = get addr_cmp c.args.positions.now in
    let i = c.in-Some.field-0.now in
    let h : Held = c.index-held-i.result in
    let x = target_there f v hs xs k position c.requires c.args.holder l.target i h (sym c.in-Some.ensures.value) c.index-held-i.is in
    let m = member_of_get hs i h x.0 in
    let held = k.held.held.each h m in
    let of = k.held.each_of h m in
    same_verdict s t c.args.holder l _ _
    (c.is_sound_entry.ensures ∙ sound_target f v h held of ∙ ap (is_sound_target s t) x.1)
    (c.is_lawful.ensures f v held of (found_there s t hs k.held.held h m) (choice_at f v hs xs k position c.requires c.args.holder i h _ x.0 c.chosen_at.ensures) ∙ ap (is_lawful_target s t c.args.holder l.place) x.1)
