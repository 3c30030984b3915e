use Rattle.udf_held.proofs.Holdings.{links_by}
use Rattle.udf_held.proofs.holding.told_by.Goals as goal

pub returns : goal.returns
returns c e s = record {
  links = links_by c.args.size e c.args.stream c.args.content.now c.in_ok-links_of.field-0.items s c.in_ok-links_of.ensures;
  bytes = c.parent_fids.ensures.bytes;
  only = c.parent_fids.ensures.only;
}
