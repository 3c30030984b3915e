use Rattle.std.proofs.Common.{◌≡◌, ◌∙◌, List, Option, Bool, ℕ, Vec, Global, map, ap}
use Rattle.std.specs.Prelude.{is_some}
use Rattle.std.proofs.lemmas.Result.{IfOk-weaker}
use Rattle.udf_tree_model.specs.Parent.{ordinary}
use Rattle.udf_kept.proofs.Ordinaries.{are_ordinary}
use Rattle.udf_kept.proofs.ordinary.ordinary.Goals as goal

pub returns : goal.returns
returns c f v root k h x =
    IfOk-weaker c.are_reached.result (λ (bs : Vec Bool Global). bs.items ≡ map is_some c.deref-2.result.now) (λ (bs : Vec Bool Global). bs.items ≡ map (λ h. ordinary f v h.at) c.args.held.now)
    (λ bs are. are_ordinary f v k c.args.held.now h c.args.selected.now x c.args.root c.deref.result.now c.in_ok-depths.depths.items bs.items root (c.deref.ensures.value ∙ c.in_ok-roots.ensures) c.in_ok-depths.ensures
    (are ∙ ap (λ (l : List (Option ℕ)). map is_some l) c.deref-2.ensures.value))
    c.are_reached.ensures
