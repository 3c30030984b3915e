use Rattle.std.proofs.Common.{arith, ℕ, ◌<◌, ◌^◌, ◌∙◌, ap, sym, subst, [], length, get_or, Option}
use Rattle.std.specs.Prelude.{IfSome}
use Rattle.std.proofs.lemmas.Option.{slice_get-get_or}
use Rattle.udf_volume_model.specs.Prevailing.{prevailing_index}
use Rattle.udf_volume_model.specs.Stated.{partition_number}
use Rattle.udf_volume.specs.declared.volume.Volume.{Volume}
use Rattle.udf_volume.specs.Led.{led_seen}
use Rattle.udf_volume.specs.Opened.{IsBounded}
use Rattle.udf_volume.proofs.Extents.{descriptors_in, bounded}
use Rattle.udf_volume.proofs.Leads.{leads_to}
use Rattle.udf_volume.proofs.Profiled.{logical_some}
use Rattle.udf_volume.proofs.Prevail.{found, not_found}
use Rattle.udf_volume.proofs.Sparings.{spared_by}
use Rattle.udf_volume.proofs.Opening.{no_shape, not_built, not_described, described}
use Rattle.udf_volume.proofs.open.stated.Goals as goal

pub volume_of-requires-clause-fits : goal.volume_of-requires-clause-fits
volume_of-requires-clause-fits c = omega (arith, descriptors_in c.args.size c.args.blocks c.args.led.now c.requires)

pub volume_of-requires-clause-partition : goal.volume_of-requires-clause-partition
volume_of-requires-clause-partition c =
    let list = c.args.led.now.descriptors.items in
    let d = c.index-logical.result.now in
    let leading = c.requires.leading in
    sym c.in-Some.is ∙ leading.partition
    ∙ ap (λ l. prevailing_index 5 (partition_number l) list)
    (logical_some list d (leads_to 6 [] list c.args.led.now.leading.logical d leading.logical leading.logical_inside c.index-logical.ensures))

pub volume_of-requires-clause-inside : goal.volume_of-requires-clause-inside
volume_of-requires-clause-inside c =
    let P : Option ℕ → Type 0 = λ o. IfSome o (λ i. i < length c.args.led.now.descriptors.items) in
    subst P c.in-Some.is c.requires.leading.partition_inside

pub returns-then-not-has_lawful_shape-clause-value : goal.returns-then-not-has_lawful_shape-clause-value
returns-then-not-has_lawful_shape-clause-value c =
    let list = c.args.led.now.descriptors.items in
    let d = c.index-logical.result.now in
    let leading = c.requires.leading in
    no_shape c.args.size c.args.blocks (led_seen c.args.led.now) d
    (leads_to 6 [] list c.args.led.now.leading.logical d leading.logical leading.logical_inside c.index-logical.ensures)
    c.if-not-has_lawful_shape.ensures

pub returns-then-not-is_built-clause-value : goal.returns-then-not-is_built-clause-value
returns-then-not-is_built-clause-value c =
    let list = c.args.led.now.descriptors.items in
    let d = c.index-logical.result.now in
    let leading = c.requires.leading in
    not_built c.args.size c.args.blocks (led_seen c.args.led.now) d
    (leads_to 6 [] list c.args.led.now.leading.logical d leading.logical leading.logical_inside c.index-logical.ensures)
    c.if-not-is_built.ensures

pub returns-in_default-clause-value : goal.returns-in_default-clause-value
returns-in_default-clause-value c =
    let list = c.args.led.now.descriptors.items in
    let d = c.index-logical.result.now in
    let leading = c.requires.leading in
    let here = leads_to 6 [] list c.args.led.now.leading.logical d leading.logical leading.logical_inside c.index-logical.ensures in
    not_described c.args.size c.args.blocks (led_seen c.args.led.now) d here c.if-not-has_lawful_shape.ensures
    (not_found 5 (partition_number d.body) list
    (sym c.in_default.is ∙ leading.partition ∙ ap (λ l. prevailing_index 5 (partition_number l) list) (logical_some list d here)))

pub returns-clause-value : goal.returns-clause-value
returns-clause-value c =
    let list = c.args.led.now.descriptors.items in
    let d = c.index-logical.result.now in
    let p = get_or list c.in-Some.at d in
    let leading = c.requires.leading in
    let here = leads_to 6 [] list c.args.led.now.leading.logical d leading.logical leading.logical_inside c.index-logical.ensures in
    let P : Option ℕ → Type 0 = λ o. IfSome o (λ i. i < length list) in
    let there = slice_get-get_or list c.in-Some.at d (subst P c.in-Some.is leading.partition_inside) in
    described c.args.size c.args.blocks (led_seen c.args.led.now) d p c.volume_of.result here c.if-not-has_lawful_shape.ensures c.if-not-is_built.ensures
    (found 5 (partition_number d.body) list c.in-Some.at p
    (sym c.in-Some.is ∙ leading.partition ∙ ap (λ l. prevailing_index 5 (partition_number l) list) (logical_some list d here)) there)
    (c.volume_of.ensures p there)

pub returns-clause-bounds : goal.returns-clause-bounds
returns-clause-bounds c =
    let list = c.args.led.now.descriptors.items in
    let d = c.index-logical.result.now in
    let Q : Option ℕ → Type 0 = λ o. IfSome o (λ i. i < length list) in
    let P : Volume → Type 0 = λ v. IsBounded c.args.size c.args.blocks v in
    let small : c.args.blocks < 2 ^ 32 = omega arith in
    subst P
    (sym (c.volume_of.ensures (get_or list c.in-Some.at d) (slice_get-get_or list c.in-Some.at d (subst Q c.in-Some.is c.requires.leading.partition_inside))))
    (bounded c.args.size c.args.blocks c.args.led.now _ _ small c.requires
    (spared_by c.index-logical.result.now.body c.if-not-has_lawful_shape.ensures c.if-not-is_built.ensures))
