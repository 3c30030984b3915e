use Rattle.std.proofs.Common.{◌∙◌, ap}
use Rattle.udf_found.specs.Parents.{one_of}
use Rattle.udf_found.proofs.Alone.{alone_is, named_end, named_more}
use Rattle.udf_file_model.specs.Scan.{fids, fids_of}
use Rattle.udf_found.proofs.parents.alone.Goals as goal

pub loop-fid-preserved : goal.loop-fid-preserved
loop-fid-preserved c = named_more c.loop-fid.fid-iterator c.next.new.self (c.in-Some.field-0-0, c.in-Some.fid) c.loop-fid.named c.more-named.result _ c.in-Some.ensures.steps c.more-named.ensures c.loop-fid.invariant

pub returns : goal.returns
returns c = c.one_of.ensures ∙ ap one_of (named_end c.loop-fid.fid-iterator c.loop-fid.named _ c.in-None.ensures.steps.0 c.loop-fid.invariant) ∙ alone_is (fids_of (fids c.args.size c.args.content.now))
