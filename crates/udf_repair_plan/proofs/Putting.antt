-- The blocks of a plan that are put one after another, each where it may be written.
use Rattle.std.proofs.Common.{◌≡◌, ℕ, ◌+◌, sym, ◌∙◌, ap, refl, List, [], ◌∷◌, ◌++◌, length, take, true, not, Some, ltb}
use Rattle.std.specs.Prelude.{slice_get, ◌==◌}
use Rattle.std.specs.List.{list_all}
use Rattle.std.proofs.lemmas.Bool.{and_from, and_parts}
use Rattle.std.proofs.lemmas.List.{take_more}
use Rattle.std.proofs.lemmas.List.Sums.{AllPass-from_list_all}
use Rattle.std.proofs.lemmas.Option.{get_or_from_slice_get, slice_get_within}
use Rattle.udf_volume_model.specs.Areas.{covers}
use Rattle.udf_volume.specs.declared.volume.Volume.{Volume}
use Rattle.udf_blocks.specs.Planned.{Planned, are_at, are_below, are_sized}
use Rattle.udf_blocks.specs.PlanFor.{IsPlanFor, sealed_stated}
use Rattle.udf_wanted.specs.Wanted.{LookAlike}
use Rattle.udf_wanted.specs.Writable.{AreWritable, is_free, is_writable}
use Rattle.udf_wanted.proofs.Looking.{both_are}

-- one block more
pub one_put : (base now next edits : List (ℕ × List ℕ)) (i : ℕ) (edit : ℕ × List ℕ) → slice_get edits i ≡ Some edit
    → LookAlike now (base ++ take i edits) → LookAlike next (now ++ edit ∷ []) → LookAlike next (base ++ take (i + 1) edits)
one_put base now next edits i edit at before put =
    both_are base now next (take i edits) (edit ∷ []) (take (i + 1) edits) before put
    (ap (λ e. take i edits ++ e ∷ []) (sym (get_or_from_slice_get edits i edit edit at))
    ∙ sym (take_more edits i edit (slice_get_within edits i edit at)))

all_writable : (volume : Volume) (edits : List (ℕ × List ℕ)) → are_below volume.blocks edits ≡ true → are_at (λ n. not (covers (sealed_stated volume) n)) edits ≡ true
    → are_sized volume.size edits ≡ true → list_all (is_writable volume) edits ≡ true
unfolding are_at are_sized is_writable is_free
all_writable volume [] inside unsealed sized = refl
all_writable volume (edit ∷ edits) inside unsealed sized =
    let a = and_parts (ltb edit.0 volume.blocks) _ inside in
    let b = and_parts (not (covers (sealed_stated volume) edit.0)) _ unsealed in
    let c = and_parts (length edit.1 == volume.size) _ sized in
    and_from _ _ (and_from _ _ (and_from _ _ a.0 b.0) c.0) (all_writable volume edits a.1 b.1 c.1)

-- a plan for a volume has blocks that may be written
pub planned_writable : (volume : Volume) (plan : Planned) → IsPlanFor volume plan → AreWritable volume plan.blocks
planned_writable volume plan is =
    all_writable volume plan.blocks is.inside is.unsealed (ap (λ size. are_sized size plan.blocks) (sym is.size) ∙ is.lawful.sized)

pub writable_at : (volume : Volume) (plan : Planned) (i : ℕ) (edit : ℕ × List ℕ) → IsPlanFor volume plan → slice_get plan.blocks i ≡ Some edit → is_writable volume edit ≡ true
writable_at volume plan i edit is at =
    ap (is_writable volume) (sym (get_or_from_slice_get plan.blocks i edit edit at))
    ∙ AllPass-from_list_all (is_writable volume) plan.blocks (planned_writable volume plan is) i edit (slice_get_within plan.blocks i edit at)
