use Rattle.std.proofs.Common.{◌≡◌, ◌<◌, ◌≤◌, ◌++◌, List, length, take, get_or, subst}
use Rattle.std.specs.BTreeMap.{get}
use Rattle.std.proofs.lemmas.List.{take_all}
use Rattle.udf_found.specs.declared.link.Link.{Link}
use Rattle.udf_kept.specs.Offers.{AreFirst, offers_in}
use Rattle.udf_found.specs.Order.{addr_cmp}
use Rattle.udf_kept.proofs.Offering.{links_begin, links_more, other_offers, sound_offers}
use Rattle.udf_kept.proofs.choices.add_links.Goals as goal

pub returns-then-not-holder : goal.returns-then-not-holder
returns-then-not-holder c = λ os was. other_offers os (get addr_cmp c.args.choices.now) c.args.holder.now c.if-not-holder.true was

pub loop-link-init : goal.loop-link-init
loop-link-init c = λ os was. links_begin os (get addr_cmp c.args.choices.now) c.args.holder.now was

pub loop-link-preserved : goal.loop-link-preserved
loop-link-preserved c = λ os was.
    let ls : List Link = c.args.holder.now.links.items in
    let i = c.loop-link.link-index in
    let low : i < length ls = subst (λ (xs : List Link). i < length xs) c.deref-link-items.ensures.value c.loop-link-test.true in
    links_more os (get addr_cmp c.add_link.new.choices) c.args.holder.now ls i c.link-item.result low
    (subst (λ (xs : List Link). c.link-item.result ≡ get_or xs i c.link-item.result) c.deref-link-items.ensures.value c.link-item.is)
    (c.in_ok-add_link.ensures (os ++ offers_in c.args.holder.now (take i ls)) (c.loop-link.invariant os was))

pub returns : goal.returns
returns c = λ os was.
    let ls : List Link = c.args.holder.now.links.items in
    let i = c.loop-link.link-index in
    let over : length ls ≤ i = subst (λ (xs : List Link). length xs ≤ i) c.deref-link-items.ensures.value c.loop-link-test.false in
    sound_offers os (get addr_cmp c.loop-link.choices) c.args.holder.now c.if-not-holder.false
    (subst (λ (xs : List Link). AreFirst (os ++ offers_in c.args.holder.now xs) (get addr_cmp c.loop-link.choices)) (take_all i ls over) (c.loop-link.invariant os was))
