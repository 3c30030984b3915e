use Rattle.std.proofs.Common.{◌≡◌, ◌++◌, ℕ, List, Some, None, Option, refl, sym, subst}
use Rattle.std.specs.Prelude.{OnOk, slice_get}
use Rattle.std.proofs.lemmas.List.{append-nil}
use Rattle.std.proofs.lemmas.Option.{slice_get_read, slice_get_past}
use Rattle.std.specs.List.{flat_map}
use Rattle.udf_kept.specs.declared.fitted.Fitted.{Fitted}
use Rattle.udf_kept.specs.declared.fitted.Selected.{Selected}
use Rattle.udf_kept.specs.Depths.{IsReached, edges, edges_by, target_from}
use Rattle.udf_kept.proofs.depths.reach_from.Goals as goal

pub returns-in-Some : goal.returns-in-Some
unfolding edges
returns-in-Some c old done h =
    let xs : List Selected = c.args.selected.now in
    let e : slice_get xs c.args.entry ≡ Some c.in-Some.links.now = slice_get_read xs _ c.args.entry c.in-Some.links.now refl c.in-Some.ensures.lookup.3.0 c.in-Some.ensures.lookup.1 in
    subst (λ (o : Option Selected). OnOk c.reach_links.result (IsReached old (done ++ edges_by c.args.least o) c.args.depth c.reach_links.new.depths c.reach_links.new.layer.items)) (sym e)
    (subst (λ (fs : List Fitted). OnOk c.reach_links.result (IsReached old (done ++ flat_map (target_from c.args.least) fs) c.args.depth c.reach_links.new.depths c.reach_links.new.layer.items)) c.deref.ensures.value
    (c.reach_links.ensures old done h))

pub returns-in-None : goal.returns-in-None
unfolding edges
returns-in-None c old done h =
    let e : slice_get c.args.selected.now c.args.entry ≡ None = slice_get_past c.args.selected.now c.args.entry c.in-None.ensures.lookup.3 in
    subst (λ (o : Option Selected). IsReached old (done ++ edges_by c.args.least o) c.args.depth c.args.depths.now c.args.layer.now.items) (sym e)
    (subst (λ (ts : List ℕ). IsReached old ts c.args.depth c.args.depths.now c.args.layer.now.items) (sym (append-nil done)) h)
