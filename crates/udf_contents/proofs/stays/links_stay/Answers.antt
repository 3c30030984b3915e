use Rattle.std.proofs.Common.{◌≡◌, ◌<◌, ◌≤◌, List, length, get_or, subst}
use Rattle.udf_tree_model.specs.Frame.{setting_of, tree_of}
use Rattle.udf_found.specs.declared.link.Link.{Link}
use Rattle.udf_contents.specs.Stays.{link_holds}
use Rattle.udf_contents.proofs.Staying.{all_end, all_here, all_later}
use Rattle.udf_contents.proofs.stays.links_stay.Goals as goal

pub returns-then-not-link_stays : goal.returns-then-not-link_stays
returns-then-not-link_stays c f v k =
    let ls : List Link = c.args.holder.now.links.items in
    let i = c.loop-link.link-index in
    let l : Link = c.link-item.result in
    let low : i < length ls = subst (λ (xs : List Link). i < length xs) c.deref-link-items.ensures.value c.loop-link-test.true in
    let is : l ≡ get_or ls i l = subst (λ (xs : List Link). l ≡ get_or xs i l) c.deref-link-items.ensures.value c.link-item.is in
    all_here (link_holds (setting_of f v) (tree_of f v) c.args.holder.now.at) ls i l low is c.link_stays.result (c.link_stays.ensures f v k) c.if-not-link_stays.true (c.loop-link.invariant f v k)

pub loop-link-preserved : goal.loop-link-preserved
loop-link-preserved c f v k =
    let ls : List Link = c.args.holder.now.links.items in
    let i = c.loop-link.link-index in
    let l : Link = c.link-item.result in
    let low : i < length ls = subst (λ (xs : List Link). i < length xs) c.deref-link-items.ensures.value c.loop-link-test.true in
    let is : l ≡ get_or ls i l = subst (λ (xs : List Link). l ≡ get_or xs i l) c.deref-link-items.ensures.value c.link-item.is in
    all_later (link_holds (setting_of f v) (tree_of f v) c.args.holder.now.at) ls i l low is c.link_stays.result (c.link_stays.ensures f v k) c.if-not-link_stays.false (c.loop-link.invariant f v k)

pub returns : goal.returns
returns c f v k =
    let ls : List Link = c.args.holder.now.links.items in
    let over : length ls ≤ c.loop-link.link-index = subst (λ (xs : List Link). length xs ≤ c.loop-link.link-index) c.deref-link-items.ensures.value c.loop-link-test.false in
    all_end (link_holds (setting_of f v) (tree_of f v) c.args.holder.now.at) ls c.loop-link.link-index over (c.loop-link.invariant f v k)
