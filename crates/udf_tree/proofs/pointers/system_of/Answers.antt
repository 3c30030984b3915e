use Rattle.std.proofs.Common.{List, ap, sym, ◌∙◌, subst, ◌≡◌, None}
use Rattle.std.specs.Prelude.{slice_get}
use Rattle.udf_tree_model.specs.Among.{Member}
use Rattle.udf_held.specs.declared.held.Held.{Held}
use Rattle.udf_tree.proofs.Streaming.{system_none, system_some}
use Rattle.udf_tree.proofs.pointers.system_of.Goals as goal

pub returns-in_default : goal.returns-in_default
returns-in_default c f v root file_set links ids k =
    system_none f v root file_set c.args.entries.now links ids k (subst (λ (hs : List Held). (h : Held) → Member h hs → h.shape ≡ None → ⊥) c.deref.ensures.value c.in_default.ensures)

pub returns : goal.returns
returns c f v root file_set links ids k =
    let h = c.in-Some.ensures in
    let x = system_some f v root file_set c.args.entries.now links ids k c.in-Some.i h.0 (ap (λ (hs : List Held). slice_get hs c.in-Some.i) (sym c.deref.ensures.value) ∙ h.1) h.2 in
    c.pointer_at.ensures f v root file_set links ids k f.file_set x.0 x.1 ∙ x.2
