use Rattle.std.proofs.Common.{◌≡◌, ◌∙◌, List, Option, ℕ, Vec, Global, length, subst}
use Rattle.std.proofs.lemmas.Result.{IfOk-weaker}
use Rattle.udf_kept.specs.FirstLinks.{ArePut, IsFirst, links_below}
use Rattle.udf_kept.specs.Keeping.{AreKept}
use Rattle.udf_kept.specs.declared.keeping.Keeping.{Keeping}
use Rattle.udf_kept.specs.declared.first_links.KeepingLink.{KeepingLink}
use Rattle.udf_kept.proofs.Keepers.{are_kept}
use Rattle.udf_kept.proofs.keep.keep.Goals as goal

pub returns : goal.returns
returns c s t w k h x =
    let ds : List (Option ℕ) = c.in_ok-depths.depths.items in
    let fs : List (Option KeepingLink) = c.in_ok-first.first.items in
    let long : length fs ≡ length ds = subst (λ (l : List (Option ℕ)). length fs ≡ length l) c.deref-2.ensures.value c.in_ok-first.ensures.len in
    let least : IsFirst (links_below c.args.held.now c.args.selected.now ds (length ds)) fs =
    subst (λ (l : List (Option ℕ)). IsFirst (links_below c.args.held.now c.args.selected.now l (length l)) fs) c.deref-2.ensures.value c.in_ok-first.ensures.first in
    IfOk-weaker c.keepings_of.result (λ (ks : Vec (Option Keeping) Global). ArePut c.deref-3.result.now c.deref-4.result.now ks.items) (λ (ks : Vec (Option Keeping) Global). AreKept s t c.args.held.now ks.items)
    (λ ks put. are_kept s t w k c.args.held.now h c.args.selected.now x c.deref.result.now ds fs ks.items (c.deref.ensures.value ∙ c.in_ok-starts.ensures) c.in_ok-depths.ensures long least
    (subst (λ (l : List (Option KeepingLink)). ArePut ds l ks.items) c.deref-4.ensures.value
    (subst (λ (l : List (Option ℕ)). ArePut l c.deref-4.result.now ks.items) c.deref-3.ensures.value put)))
    c.keepings_of.ensures
