use Rattle.std.proofs.Common.{◌∙◌}
use Rattle.udf_volume.proofs.Packets.{all_areas}
use Rattle.udf_volume.proofs.taken.areas_and_anchors.Goals as goal

pub returns : goal.returns
returns c =
    all_areas c.args.volume.now.blocks c.args.volume.now.anchor c.deref.result.now c.in_ok-areas.areas.items _ _ _
    (c.deref.ensures.value ∙ c.in_ok-places.ensures.places) c.in_ok-areas.ensures c.in_ok-push.ensures.items c.in_ok-add_places_before.ensures
