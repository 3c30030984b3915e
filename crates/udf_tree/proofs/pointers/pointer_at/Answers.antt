use Rattle.std.proofs.Common.{List, sym, ap, ◌∙◌}
use Rattle.std.specs.Prelude.{slice_get}
use Rattle.std.specs.BTreeMap.{get}
use Rattle.udf_kept.specs.declared.fitted.Selected.{Selected}
use Rattle.udf_held.specs.declared.held.Held.{Held}
use Rattle.udf_kept.specs.Fitted.{at_of}
use Rattle.udf_found.specs.Order.{addr_cmp}
use Rattle.udf_contents.specs.Stays.{fitted_by}
use Rattle.udf_tree.proofs.Streaming.{pointer_none, pointer_some}
use Rattle.udf_tree.proofs.pointers.pointer_at.Goals as goal

pub returns-in_default : goal.returns-in_default
returns-in_default c f v root file_set links ids k a at own =
    pointer_none f v root file_set c.args.entries.now links ids k c.args.i a at own c.fitted_at.result.now (c.fitted_at.ensures ∙ ap (λ (xs : List Selected). fitted_by (slice_get xs c.args.i)) c.deref.ensures.value)
    (sym c.pointer_in.ensures ∙ c.in_default.is)

pub returns : goal.returns
returns c f v root file_set links ids k a at own =
    pointer_some f v root file_set c.args.entries.now links ids k c.args.i a at own c.fitted_at.result.now (c.fitted_at.ensures ∙ ap (λ (xs : List Selected). fitted_by (slice_get xs c.args.i)) c.deref.ensures.value)
    c.in-Some.to (sym c.pointer_in.ensures ∙ c.in-Some.is) (get addr_cmp c.args.numbers.now) c.requires c.number_at.result
    (λ b there. c.number_at.ensures b (ap (λ (hs : List Held). at_of hs c.in-Some.to) c.deref-2.ensures.value ∙ there))
