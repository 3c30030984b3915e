use Rattle.std.proofs.Common.{◌++◌, List, take}
use Rattle.std.specs.BTreeMap.{get}
use Rattle.udf_kept.specs.Offers.{AreFirst, Offer, offers_in}
use Rattle.udf_found.specs.Order.{addr_cmp}
use Rattle.udf_kept.proofs.choices.add_links.Given as goal

abbrev pub invariant-loop-link : goal.invariant-loop-link
invariant-loop-link l = (os : List Offer) → AreFirst os (get addr_cmp l.initial.choices)
    → AreFirst (os ++ offers_in l.holder (take l.link-index l.holder.links.items)) (get addr_cmp l.choices)
