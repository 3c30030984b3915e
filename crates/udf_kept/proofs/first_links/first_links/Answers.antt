use Rattle.std.proofs.Common.{◌≡◌, ◌+◌, ◌++◌, ℕ, List, None, Option, ap, sym, ◌∙◌, subst, take, drop, length, replicate, rules}
use Rattle.std.proofs.lemmas.List.{length-replicate}
use Rattle.udf_kept.specs.declared.fitted.Selected.{Selected}
use Rattle.udf_held.specs.declared.held.Held.{Held}
use Rattle.udf_kept.specs.declared.first_links.KeepingLink.{KeepingLink}
use Rattle.udf_kept.specs.FirstLinks.{IsFirst, Told, links_below}
use Rattle.udf_kept.proofs.Layering.{goes_back}
use Rattle.udf_kept.proofs.Parenting.{below_next, first_begins}
use Rattle.udf_kept.proofs.first_links.first_links.Goals as goal

pub loop-holder-init : goal.loop-holder-init
loop-holder-init c =
    let none : c.in_ok-first.first.items ≡ replicate (length c.args.depths.now) None = c.in_ok-first.ensures.items_if_clones_equal (λ y k. search (rules, k)) in
    record {
      len = ap length none ∙ length-replicate (length c.args.depths.now) None;
      first = first_begins c.args.held.now c.args.selected.now c.args.depths.now (length c.args.depths.now) c.in_ok-first.first.items none;
    }

pub loop-holder-preserved : goal.loop-holder-preserved
loop-holder-preserved c =
    let hs : List Held = c.args.held.now in
    let xs : List Selected = c.args.selected.now in
    let ds : List (Option ℕ) = c.args.depths.now in
    let i : ℕ = c.loop-holder.holder in
    let old : List (Option KeepingLink) = c.loop-holder.first.items in
    let new : List (Option KeepingLink) = c.take_from.new.first in
    let lent = c.deref_mut.ensures.value in
    let same : length new ≡ length old = search rules in
    let back : take c.loop-holder.first.len (new ++ drop (length new) old) ≡ new = goes_back c.loop-holder.first.len new old (search rules) same in
    let links = c.take_from.ensures (links_below hs xs ds i) (subst (IsFirst (links_below hs xs ds i)) (sym lent) c.loop-holder.invariant.first) in
    record {
      len = ap length back ∙ same ∙ c.loop-holder.invariant.len;
      first = subst (IsFirst (links_below hs xs ds (i + 1))) (sym back) (subst (λ (ls : List Told). IsFirst ls new) (below_next hs xs ds i) links);
    }
