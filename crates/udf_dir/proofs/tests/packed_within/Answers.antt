-- All offsets are offsets.
use Rattle.std.proofs.Common.{◌∙◌, subst, ℕ, List}
use Rattle.std.specs.Prelude.{All, Contains}
use Rattle.std.proofs.lemmas.List.Elements.{All-contains_itself}
use Rattle.udf_dir.proofs.tests.packed_within.Goals as goal

pub pack-requires-clause-scanned : goal.pack-requires-clause-scanned
pack-requires-clause-scanned c =
    subst (λ (xs : List ℕ). All (Contains xs) c.as_slice.result.now) (c.as_slice.ensures.value ∙ c.in_ok-at.ensures)
    (All-contains_itself c.as_slice.result.now)
