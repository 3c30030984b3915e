-- The tests of the maps and of the partition's header, in their order.
use Rattle.std.proofs.Common.{◌≡◌, ℕ, ◌<◌, ◌∙◌, ap, sym, subst, List, [], length, Option, Some, None}
use Rattle.std.specs.Prelude.{IfSome}
use Rattle.udf_volume_model.specs.Sequence.{Descriptor}
use Rattle.udf_volume_model.specs.Prevailing.{prevailing, prevailing_index}
use Rattle.udf_volume_model.specs.Profile.{names_no_tables}
use Rattle.udf_volume_model.specs.Stated.{partition_number}
use Rattle.udf_volume.specs.declared.leading.Leading.{Leading}
use Rattle.udf_volume.specs.Leads.{IsLeading}
use Rattle.udf_volume.proofs.Leads.{leads_to}
use Rattle.udf_volume.proofs.Prevail.{not_found}
use Rattle.udf_volume.proofs.Profiled.{logical_some, other_shape, not_described, unbuilt, with_tables, without_tables}
use Rattle.udf_volume.proofs.profile.unlike_maps.Goals as goal

module _ (list : List Descriptor) (leading : Leading) (is : IsLeading list leading) (d : Descriptor) (here : Some d ≡ prevailing 6 [] list) where
  named : leading.partition ≡ prevailing_index 5 (partition_number d.body) list
  named = is.partition ∙ ap (λ l. prevailing_index 5 (partition_number l) list) (logical_some list d here)

  absent : leading.partition ≡ None → None ≡ prevailing 5 (partition_number d.body) list
  absent e = not_found 5 (partition_number d.body) list (sym e ∙ named)

  present : (at : ℕ) (p : Descriptor) → leading.partition ≡ Some at → (at < length list → Some p ≡ prevailing 5 (partition_number d.body) list) → Some p ≡ prevailing 5 (partition_number d.body) list
  present at p e f = let P : Option ℕ → Type 0 = λ o. IfSome o (λ i. i < length list) in f (subst P e is.partition_inside)

pub returns-then-not-has_lawful_shape : goal.returns-then-not-has_lawful_shape
returns-then-not-has_lawful_shape c =
    let list = c.args.list.now in
    let d = c.index-list-leading.result in
    let here : Some d ≡ prevailing 6 [] list = leads_to 6 [] list c.args.leading.now.logical d c.requires.logical c.requires.logical_inside c.index-list-leading.is in
    other_shape list d here c.if-not-has_lawful_shape.ensures

pub returns-in_default : goal.returns-in_default
returns-in_default c =
    let list = c.args.list.now in
    let d = c.index-list-leading.result in
    let here : Some d ≡ prevailing 6 [] list = leads_to 6 [] list c.args.leading.now.logical d c.requires.logical c.requires.logical_inside c.index-list-leading.is in
    not_described list d here c.if-not-has_lawful_shape.ensures (absent list c.args.leading.now c.requires d here c.in_default.is)

pub returns-then-not-is_built : goal.returns-then-not-is_built
returns-then-not-is_built c =
    let list = c.args.list.now in
    let d = c.index-list-leading.result in
    let here : Some d ≡ prevailing 6 [] list = leads_to 6 [] list c.args.leading.now.logical d c.requires.logical c.requires.logical_inside c.index-list-leading.is in
    let p = c.index-list-at.result in
    let there = present list c.args.leading.now c.requires d here c.in-Some.at p c.in-Some.is (λ inside.
    leads_to 5 (partition_number d.body) list c.in-Some.at p (sym c.in-Some.is ∙ named list c.args.leading.now c.requires d here) inside c.index-list-at.is) in
    unbuilt list d here p c.if-not-has_lawful_shape.ensures there c.if-not-is_built.ensures

pub returns-then-names_no_tables : goal.returns-then-names_no_tables
returns-then-names_no_tables c =
    let list = c.args.list.now in
    let d = c.index-list-leading.result in
    let here : Some d ≡ prevailing 6 [] list = leads_to 6 [] list c.args.leading.now.logical d c.requires.logical c.requires.logical_inside c.index-list-leading.is in
    let p = c.index-list-at.result in
    let there = present list c.args.leading.now c.requires d here c.in-Some.at p c.in-Some.is (λ inside.
    leads_to 5 (partition_number d.body) list c.in-Some.at p (sym c.in-Some.is ∙ named list c.args.leading.now c.requires d here) inside c.index-list-at.is) in
    without_tables list d here p c.if-not-has_lawful_shape.ensures there c.if-not-is_built.ensures
    (c.if-names_no_tables.ensures ∙ ap names_no_tables c.fields.ensures.fields)

pub returns-else-names_no_tables : goal.returns-else-names_no_tables
returns-else-names_no_tables c =
    let list = c.args.list.now in
    let d = c.index-list-leading.result in
    let here : Some d ≡ prevailing 6 [] list = leads_to 6 [] list c.args.leading.now.logical d c.requires.logical c.requires.logical_inside c.index-list-leading.is in
    let p = c.index-list-at.result in
    let there = present list c.args.leading.now c.requires d here c.in-Some.at p c.in-Some.is (λ inside.
    leads_to 5 (partition_number d.body) list c.in-Some.at p (sym c.in-Some.is ∙ named list c.args.leading.now c.requires d here) inside c.index-list-at.is) in
    with_tables list d here p c.if-not-has_lawful_shape.ensures there c.if-not-is_built.ensures
    (c.if-names_no_tables.ensures ∙ ap names_no_tables c.fields.ensures.fields)
