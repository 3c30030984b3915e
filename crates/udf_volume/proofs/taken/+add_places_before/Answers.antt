use Rattle.std.proofs.Common.{◌++◌, ◌∙◌, sym, ap, map}
use Rattle.std.proofs.lemmas.Result.{on_ok_weaker}
use Rattle.udf_volume_model.specs.Layout.{earlier}
use Rattle.udf_volume.specs.Areas.{area_seen, block_area}
use Rattle.udf_volume.proofs.Packets.{rest_before}
use Rattle.udf_volume.proofs.taken.+add_places_before.Goals as goal

pub returns : goal.returns
returns t c =
    on_ok_weaker c.add_places_before.result
    (λ e. rest_before c.args.kept c.args.areas.now.items _ _ c.in-Some.first.now c.in-Some.rest.now c.if-first-kept.false c.in_ok-push.ensures.items e
    ∙ ap (λ l. map area_seen c.args.areas.now.items ++ map block_area (earlier c.args.kept l)) (sym c.in-Some.ensures.cases.0))
    c.add_places_before.ensures
