use Rattle.std.proofs.Common.{◌∙◌, ap, subst, List, length, ◌<◌}
use Rattle.std.specs.Prelude.{IfSome}
use Rattle.std.specs.Ordering.{nat_cmp}
use Rattle.std.specs.Cmp.Lexicographic.{slice_cmp}
use Rattle.std.specs.BTreeMap.{get}
use Rattle.udf_volume_model.specs.Sequence.{Descriptor}
use Rattle.udf_volume.proofs.Ranking.{is_inside}
use Rattle.udf_volume.proofs.ranked.Ranked.index_like.Goals as goal

pub returns-clause-inside : goal.returns-clause-inside
returns-clause-inside c =
    let P : List Descriptor → Type 0 = λ list. IfSome c.copied.result (λ i. i < length list) in
    subst P c.self.view_is
    (is_inside c.self.inside.list.now c.self.inside.best _ _ _ c.self.invariant
    (c.copied.ensures ∙ c.get.ensures.value ∙ ap (get (slice_cmp nat_cmp) c.self.inside.best) c.of.ensures))
