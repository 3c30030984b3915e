use Rattle.std.proofs.Common.{refl, ◌∙◌, ap}
use Rattle.std.specs.Ordering.{nat_cmp}
use Rattle.std.specs.Cmp.Lexicographic.{slice_cmp}
use Rattle.std.specs.BTreeMap.{get}
use Rattle.std.proofs.lemmas.Option.{slice_get_read}
use Rattle.udf_volume.proofs.Ranking.{inside, taken}
use Rattle.udf_volume.proofs.ranked.take_next.Goals as goal

pub higher-index-requires-clause-best_inside : goal.higher-index-requires-clause-best_inside
higher-index-requires-clause-best_inside c =
    inside c.args.list.now c.args.at c.args.best.now _ _ _ c.requires.before c.requires.inside
    (c.copied-before.ensures ∙ c.get.ensures.value ∙ ap (get (slice_cmp nat_cmp) c.args.best.now) c.of-matter.ensures)

pub returns : goal.returns
returns c =
    taken c.args.list.now c.args.at c.args.best.now c.insert.new.self c.of-matter.result c.index-list-at.result _ _ c.requires.before
    (slice_get_read _ _ _ _ refl c.requires.inside c.index-list-at.is)
    c.of-matter.ensures (c.copied-before.ensures ∙ c.get.ensures.value) c.higher-index.ensures.best c.in_ok-insert.ensures.updates
