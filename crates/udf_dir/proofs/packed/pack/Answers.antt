-- One FID more is packed, or it does not fit and none after it is taken.
use Rattle.std.proofs.Common.{arith, ◌∙◌, ap, length, length-append}
use Rattle.udf_dir.proofs.Packs.{taken_room, stops, goes_on}
use Rattle.udf_dir.proofs.packed.pack.Goals as goal

pub fid_from-fid-requires : goal.fid_from-fid-requires
fid_from-fid-requires c = taken_room c.args.size c.args.content.now c.args.at.now c.loop-offset.offset-index c.requires.scanned (omega arith)

pub returns-then-fid-limit : goal.returns-then-fid-limit
returns-then-fid-limit c = record {
  longest =
      stops c.args.parent.now c.args.content.now c.args.at.now c.loop-offset.bytes.items c.fid_from-fid.result.now c.args.limit c.loop-offset.offset-index c.loop-offset.taken
      (omega arith) c.loop-offset.invariant.counted c.loop-offset.invariant.bytes c.loop-offset.invariant.fits c.fid_from-fid.ensures (omega (arith, c.loop-offset.bytes.ok));
}

pub loop-offset-preserved : goal.loop-offset-preserved
loop-offset-preserved c = record {
  counted = omega arith;
  bytes =
      c.in_ok-extend_from_slice.ensures.items
      ∙ goes_on c.args.parent.now c.args.content.now c.args.at.now c.loop-offset.bytes.items c.fid_from-fid.result.now c.loop-offset.offset-index
      (omega arith) c.loop-offset.invariant.bytes c.fid_from-fid.ensures;
  fits =
      omega
      (arith, ap length c.in_ok-extend_from_slice.ensures.items, length-append c.loop-offset.bytes.items c.fid_from-fid.result.now, c.loop-offset.bytes.ok);
}
