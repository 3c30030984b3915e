use Rattle.std.proofs.Common.{◌≡◌, length}
use Rattle.udf_kept.specs.FirstLinks.{IsFirst, links_below}
use Rattle.udf_kept.proofs.first_links.first_links.Given as goal

abbrev pub invariant-loop-holder : goal.invariant-loop-holder
invariant-loop-holder l = record {
  len : length l.first.items ≡ length l.depths;
  first : IsFirst (links_below l.held l.selected l.depths l.holder) l.first.items;
}
