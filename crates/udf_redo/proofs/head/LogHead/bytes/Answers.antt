use Rattle.std.proofs.Common.{◌≡◌, List, ℕ, drop, ◌++◌, replicate, refl}
use Rattle.byteorder.specs.Endian.{little_bytes}
use borrow.Rule.Slice.PartMut.{put_mid, mid_of}
use Rattle.udf_redo.specs.declared.head.LogHead.{LogHead}
use Rattle.udf_redo.specs.Log.{head_bytes}
use Rattle.udf_redo.proofs.head.LogHead.bytes.Goals as goal

laid : (head : LogHead) (b1 b2 b3 b4 b5 last : List ℕ)
    → b1 ≡ little_bytes 4 head.size ++ drop 4 (replicate 52 0)
    → b2 ≡ little_bytes 4 head.blocks ++ drop 4 (mid_of 4 48 b1)
    → b3 ≡ little_bytes 4 head.first ++ drop 4 (mid_of 8 44 (put_mid 4 48 b1 b2))
    → b4 ≡ little_bytes 4 head.sealed ++ drop 4 (mid_of 12 40 (put_mid 8 44 (put_mid 4 48 b1 b2) b3))
    → b5 ≡ little_bytes 4 head.records ++ drop 4 (mid_of 48 4 (put_mid 12 40 (put_mid 8 44 (put_mid 4 48 b1 b2) b3) b4))
    → last ≡ head.seal
    → put_mid 16 32 (put_mid 48 4 (put_mid 12 40 (put_mid 8 44 (put_mid 4 48 b1 b2) b3) b4) b5) last ≡ head_bytes head
unfolding head_bytes
laid head b1 b2 b3 b4 b5 last e1 e2 e3 e4 e5 e6 = rw (e6, e5, e4, e3, e2, e1) refl

pub returns : goal.returns
returns c =
    laid c.args.self.now _ _ _ _ _ _ c.write_u32.ensures c.write_u32-2.ensures c.write_u32-3.ensures c.write_u32-4.ensures c.write_u32-5.ensures c.copy_from_slice.ensures.after
