use Rattle.std.proofs.Common.{◌≡◌, drop, ◌∙◌, lit≤}
use Rattle.byteorder.specs.Numbers.{little_from-take}
use Rattle.udf_outside.specs.Stops.{slice_of}
use Rattle.udf_model.specs.Bytes.{number_at}
use Rattle.udf_redo.proofs.head.LogHead.read.Goals as goal

pub returns : goal.returns
unfolding number_at
returns c =
    let file = c.args.file.now in
    let size : c.read_u32.result ≡ number_at 4 file 9 = c.read_u32.ensures ∙ little_from-take 0 4 52 (drop 9 file) (lit≤ tt) in
    let blocks : c.read_u32-2.result ≡ number_at 4 file 13 = c.read_u32-2.ensures ∙ little_from-take 0 4 48 (drop 13 file) (lit≤ tt) in
    let first : c.read_u32-3.result ≡ number_at 4 file 17 = c.read_u32-3.ensures ∙ little_from-take 0 4 44 (drop 17 file) (lit≤ tt) in
    let sealed : c.read_u32-4.result ≡ number_at 4 file 21 = c.read_u32-4.ensures ∙ little_from-take 0 4 40 (drop 21 file) (lit≤ tt) in
    let records : c.read_u32-5.result ≡ number_at 4 file 57 = c.read_u32-5.ensures ∙ little_from-take 0 4 4 (drop 57 file) (lit≤ tt) in
    let seal : c.copy_from_slice.new.self ≡ slice_of file 25 32 = c.copy_from_slice.ensures.after in
    cc
