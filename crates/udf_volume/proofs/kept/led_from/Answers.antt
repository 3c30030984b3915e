use Rattle.std.proofs.Common.{◌≡◌, ◌∙◌, ap, subst, true, Option, Vec}
use Rattle.std.specs.Prelude.{IfSome}
use Rattle.std.specs.declared.alloc.Global.{Global}
use Rattle.udf_volume_model.specs.Sequence.{Descriptor}
use Rattle.udf_volume_model.specs.Kept.{has_id, is_complete, limit_of}
use Rattle.udf_volume.specs.Seen.{anchor_seen}
use Rattle.udf_volume.proofs.Leads.{has_both}
use Rattle.udf_volume.proofs.kept.led_from.Goals as goal

pub leading_of-leading-requires-clause-primary : goal.leading_of-leading-requires-clause-primary
leading_of-leading-requires-clause-primary g c =
    let limit = limit_of c.args.at.size (anchor_seen c.args.at.anchor) in
    let P : Option (Vec Descriptor Global) → Type 0 = λ o. IfSome o (λ v. is_complete limit v.items ≡ true) in
    ap (has_id 1) c.deref.ensures.value ∙ (has_both limit c.in-Some.descriptors.items (subst P c.in-Some.is c.in_ok-descriptors.ensures.complete)).0

pub leading_of-leading-requires-clause-logical : goal.leading_of-leading-requires-clause-logical
leading_of-leading-requires-clause-logical g c =
    let limit = limit_of c.args.at.size (anchor_seen c.args.at.anchor) in
    let P : Option (Vec Descriptor Global) → Type 0 = λ o. IfSome o (λ v. is_complete limit v.items ≡ true) in
    ap (has_id 6) c.deref.ensures.value ∙ (has_both limit c.in-Some.descriptors.items (subst P c.in-Some.is c.in_ok-descriptors.ensures.complete)).1
