use Rattle.std.proofs.Common.{◌≡◌, subst, refl, rules, ℕ, List, All, map}
use Rattle.std.specs.BTreeMap.{keys}
use Rattle.std.specs.Map.Iter.{deref}
use Rattle.std.proofs.lemmas.Map.Iter.{iter_end}
use Rattle.std.proofs.lemmas.List.Elements.{All-map}
use Rattle.udf_outside.specs.Blocks.{AgreeIn}
use Rattle.udf_outside.proofs.memory.sparse.Sparse.agrees_where.Goals as goal

pub returns : goal.returns
returns c =
    let whole : map deref c.loop-number.yielded ≡ keys c.args.blocks.now = search (rules, iter_end) in (
      (λ yes. subst (λ (numbers : List ℕ). All (AgreeIn c.args.self.now c.args.other.now) numbers) whole
          (All-map (AgreeIn c.args.self.now c.args.other.now) deref c.loop-number.yielded c.loop-number.invariant)),
      (λ all. refl),
    )
