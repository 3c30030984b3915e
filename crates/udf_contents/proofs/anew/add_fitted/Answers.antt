use Rattle.udf_contents.proofs.Renaming.{bytes_end, bytes_more}
use Rattle.udf_contents.proofs.anew.add_fitted.Goals as goal

pub loop-link-preserved : goal.loop-link-preserved
loop-link-preserved c =
    bytes_more c.args.size c.args.content.now c.args.fitted.now c.loop-link.link-index (record { place = 0; to = 0 }) c.loop-link.bytes.items c.add_fid.new.bytes.items _ c.loop-link-test.true c.in_ok-add_fid.ensures c.loop-link.invariant

pub returns : goal.returns
returns c = bytes_end c.args.size c.args.content.now c.args.fitted.now c.loop-link.link-index c.loop-link.bytes.items _ c.loop-link-test.false c.loop-link.invariant
